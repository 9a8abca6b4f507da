-- How waits are counted.
use Rattle.std.specs.Prelude.{◌≡◌, ℕ, ◌+◌, ◌-◌, ◌^◌, min, List, ◌∷◌, false}
use Rattle.std.proofs.Common.{◌∙◌, ap, arith}
use Rattle.std.proofs.lemmas.Bool.{cond-false}
use Rattle.world.specs.declared.entry.Entry.{Entry}
use Rattle.world.specs.Counts.{Counts, WaitCause}
use Rattle.world.specs.Waits.{is_wait, wait_count}

-- an entry of any other call is not counted
pub not_counted : (entry : Entry) (past : List Entry) → is_wait entry ≡ false
    → wait_count (entry ∷ past) ≡ wait_count past
not_counted entry past e = cond-false (is_wait entry) _ _ e

count_on : (n most : ℕ) → min (min n most + 1) most ≡ min (n + 1) most
count_on n most = omega arith

-- a wait is counted once, up to the last value of a `u64`
pub wait_counted : (old new : Counts) (failed : Type 0) (count : ℕ) → WaitCause old new failed
    → old.waits ≡ min count (2 ^ 64 - 1) → new.waits ≡ min (count + 1) (2 ^ 64 - 1)
wait_counted old new failed count cause e =
    ap (λ k. Counts.waits k) cause.others ∙ ap (λ n. min (n + 1) (2 ^ 64 - 1)) e ∙ count_on count (2 ^ 64 - 1)
