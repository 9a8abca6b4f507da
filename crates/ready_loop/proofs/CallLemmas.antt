-- How one connection goes on standing for the journal, where it is lost, read or written.
use Rattle.std.proofs.Common.{◌≡◌, ◌+◌, ◌≤◌, ◌++◌, ◌&&◌, not, ℕ, Bool, true, false, List, [], length, take, drop, Some, arith, refl, sym, ◌∙◌, ap, subst, append_assoc, length-append, length-take}
use Rattle.std.proofs.lemmas.List.{take-append-drop}
use Rattle.std.proofs.lemmas.Option.{none-some}
use Rattle.world.specs.declared.got.Got.{Got}
use Rattle.world.specs.declared.got.Got.TheVariants as got
use Rattle.world.specs.declared.put.Put.{Put}
use Rattle.world.specs.declared.put.Put.TheVariants as put
use Rattle.world.specs.Places.{Status, ended_after, refused_after, got_after}
use Rattle.world.specs.Told.{PutSome}
use Rattle.ready_loop.specs.declared.end.End.{End}
use Rattle.ready_loop.specs.declared.end.End.TheVariants.{No, Named}
use Rattle.ready_loop.specs.declared.link.Link.{Link}
use Rattle.ready_loop.specs.declared.stage.Stage.{Stage}
use Rattle.ready_loop.specs.declared.stage.Stage.TheVariants.{Fresh, Begun, Closed}
use Rattle.ready_loop.specs.Link.{refused_clock, read_link, write_link, found_end, is_found, is_named, is_begun}
use Rattle.ready_loop.specs.Queues.{Held, put_count}
use Rattle.ready_loop.specs.Standing.{StandsAt, Sends, EndIs, put_by}
use Rattle.ready_loop.proofs.StepLemmas.{stands_on, stands_down, awake_still, open_still, failed_still, asleep, stuck, broken}
use Rattle.ready_loop.proofs.BegunLemmas.{clock_begun, known_begun}

-- ---- small facts

pub both_never : (b e : Bool) → false ≡ b && (e && not true)
both_never true true = refl
both_never true false = refl
both_never false e = refl

never_ended : (b n : Bool) → false ≡ b && (false && not n)
never_ended true n = refl
never_ended false n = refl

pub stage_of_begun : (stage : Stage) → is_begun stage ≡ true → stage ≡ Begun
stage_of_begun Fresh e = cc
stage_of_begun Begun e = refl
stage_of_begun Closed e = cc

-- the ends of a connection that was named by a read
ends_named : {end : End} {b n e : Bool} → EndIs end b n e → EndIs Named b true e
ends_named {b = b} {e = e} m = record { found = both_never b e; told = refl }

-- and of one that a write found ended
found_is : (b n : Bool) → b ≡ true → n ≡ false → true ≡ b && (true && not n)
found_is b n x y = subst (λ u. true ≡ u && (true && not n)) (sym x) (subst (λ v. true ≡ true && (true && not v)) (sym y) refl)

ends_found : {end : End} {b n e : Bool} → end ≡ No → b ≡ true → EndIs end b n e → EndIs (found_end end) b n true
ends_found {end} {b} {n} {e} whole known m =
    let n_is : n ≡ false = sym m.told ∙ ap is_named whole in
    subst (λ x. EndIs x b n true) (sym (ap found_end whole)) (record { found = found_is b n known n_is; told = sym n_is })

pub ends_again : {end : End} {b n e : Bool} → end ≡ No → EndIs end b n e → EndIs end b n false
ends_again {end} {b} {n} whole m = record { found = ap is_found whole ∙ never_ended b n; told = m.told }

-- one that is up was begun by this loop
pub known_up : {link : Link} {held : Held} {b : Bool} {q : List ℕ} {n : Bool} {s : Status} {e : Bool}
    → StandsAt link held b q n s e → s.up ≡ true → b ≡ true
known_up {link} m up = sym m.known ∙ known_begun link.stage (m.stage ∙ m.up_begun up)

-- ---- a connection that is lost

-- the other side has ended it
stands_ended : {link : Link} {held then : Held} {b : Bool} {q : List ℕ} {n m : Bool} {s : Status} {e f : Bool} (end : End)
    → s.up ≡ true → Sends then q (put_by b s.put) → EndIs end b m f → StandsAt link held b q n s e
    → StandsAt (record link { awake = false; writable = false; end = end }) then b q m (ended_after s) f
stands_ended end up sends ends m =
    stands_down m up m.refused m.refused_unused (λ at is. absurd (none-some _ (sym (m.up_calm up) ∙ is))) sends ends

-- it was turned away
stands_refused : {link : Link} {held then : Held} {b : Bool} {q : List ℕ} {n : Bool} {s : Status} {e : Bool} (last clock : ℕ)
    → last ≡ clock → s.up ≡ true → s.put ≡ [] → Sends then q (put_by b s.put) → StandsAt link held b q n s e
    → StandsAt (record link { awake = false; writable = false; refused = refused_clock link.stage last }) then b q n (refused_after clock s) e
stands_refused {link} last clock t up unused sends m =
    stands_down m up (clock_begun link.stage last (m.stage ∙ m.up_begun up) ∙ ap Some t) (λ at is. unused) (λ at is. m.up_whole up) sends m.ends

-- ---- a read

abbrev pub status_read : Got → List ℕ → ℕ → Status → Status
status_read (got.Piece n) buffer clock s = got_after (take n buffer) s
status_read got.Dry buffer clock s = record s { awake = false }
status_read got.Ended buffer clock s = ended_after s
status_read got.Refused buffer clock s = refused_after clock s
status_read got.Failed buffer clock s = record s { awake = false; failed = true }

-- whether a connection is named after a read
abbrev pub named_read : Got → Bool → Bool
named_read (got.Piece n) was = was
named_read got.Dry was = was
named_read got.Ended was = true
named_read got.Refused was = was
named_read got.Failed was = was

pub stands_read : (link : Link) (held : Held) (b : Bool) (q : List ℕ) (n : Bool) (s : Status) (e : Bool) (answer : Got) (buffer : List ℕ) (last clock : ℕ)
    → last ≡ clock → link.awake ≡ true → (answer ≡ got.Refused → s.put ≡ []) → StandsAt link held b q n s e
    → StandsAt (read_link answer last link) held b q (named_read answer n) (status_read answer buffer clock s) e
stands_read link held b q n s e (got.Piece k) buffer last clock t awake unused m =
    stands_on m s.put (s.got ++ take k buffer) (record { same = m.awake; counted = λ a. ap (λ k. k + 1) (m.reads a); is_up = m.reported })
    (open_still m) (failed_still m) m.refused_unused m.sends
stands_read link held b q n s e got.Dry buffer last clock t awake unused m =
    stands_on m s.put s.got asleep (open_still m) (failed_still m) m.refused_unused m.sends
stands_read link held b q n s e got.Ended buffer last clock t awake unused m =
    stands_ended Named (m.reported (sym m.awake ∙ awake)) m.sends (ends_named m.ends) m
stands_read link held b q n s e got.Refused buffer last clock t awake unused m =
    stands_refused last clock t (m.reported (sym m.awake ∙ awake)) (unused refl) m.sends m
stands_read link held b q n s e got.Failed buffer last clock t awake unused m =
    stands_on m s.put s.got asleep (open_still m) (broken (m.up_begun (m.reported (sym m.awake ∙ awake)))) m.refused_unused m.sends

-- ---- a write

abbrev pub status_write : Put → List ℕ → ℕ → Status → Status
status_write (put.Took n) piece clock s = record s { put = s.put ++ take n piece }
status_write put.Stuck piece clock s = record s { writable = false }
status_write put.Ended piece clock s = ended_after s
status_write put.Refused piece clock s = refused_after clock s
status_write put.Failed piece clock s = record s { writable = false; failed = true }

-- whether a write has found it ended after this one
abbrev pub ended_write : Put → Bool → Bool
ended_write (put.Took n) was = was
ended_write put.Stuck was = was
ended_write put.Ended was = true
ended_write put.Refused was = was
ended_write put.Failed was = was

-- what is held after a write
abbrev pub held_write : Put → Held → Held
held_write answer held = record { rest = drop (put_count answer) held.rest; taken = held.taken + put_count answer }

drop_none : (held : Held) → record { rest = drop 0 held.rest; taken = held.taken + 0 } ≡ held
drop_none held = let e : held.taken + 0 ≡ held.taken = omega arith in ap (λ (t : ℕ). let x : Held = record { rest = held.rest; taken = t } in x) e

sends_none : {held : Held} {q p : List ℕ} → Sends held q p → Sends (record { rest = drop 0 held.rest; taken = held.taken + 0 }) q p
sends_none {held} {q} {p} m = subst (λ (x : Held). Sends x q p) (sym (drop_none held)) m

-- where some of the rest was taken
sends_took : {held : Held} {q p : List ℕ} (k : ℕ) → k ≤ length held.rest → Sends held q p
    → Sends (record { rest = drop k held.rest; taken = held.taken + k }) q (p ++ take k held.rest)
sends_took {held} {q} {p} k some m = record {
  whole = m.whole ∙ ap (λ xs. p ++ xs) (sym (take-append-drop k held.rest)) ∙ sym (append_assoc p (take k held.rest) (drop k held.rest));
  taken =
      let size : length (take k held.rest) ≡ k = omega (arith, length-take k held.rest) in
      ap (λ t. t + k) m.taken ∙ ap (λ t. length p + t) (sym size) ∙ sym (length-append p (take k held.rest));
}

-- the same where this loop has begun it
pub put_known : {b : Bool} {xs : List ℕ} → b ≡ true → put_by b xs ≡ xs
put_known {b} {xs} k = ap (λ x. put_by x xs) k

pub stands_write : (link : Link) (held : Held) (b : Bool) (q : List ℕ) (n : Bool) (s : Status) (e : Bool) (answer : Put) (last clock : ℕ)
    → last ≡ clock → link.writable ≡ true → PutSome answer (length held.rest) → (answer ≡ put.Refused → s.put ≡ [])
    → StandsAt link held b q n s e
    → StandsAt (write_link answer last link) (held_write answer held) b q n (status_write answer held.rest clock s) (ended_write answer e)
stands_write link held b q n s e (put.Took k) last clock t writable some unused m =
    let up : s.up ≡ true = m.open_up (sym m.writable ∙ writable) in
    let known : b ≡ true = sym m.known ∙ known_begun link.stage (m.stage ∙ m.up_begun up) in
    stands_on m (s.put ++ take k held.rest) s.got (awake_still m) (open_still m) (failed_still m) (λ at is. absurd (none-some _ (sym (m.up_calm up) ∙ is)))
    (subst (λ xs. Sends (held_write (put.Took k) held) q xs) (ap (λ xs. xs ++ take k held.rest) (put_known known) ∙ sym (put_known known)) (sends_took k some.1 m.sends))
stands_write link held b q n s e put.Stuck last clock t writable some unused m =
    stands_on m s.put s.got (awake_still m) stuck (failed_still m) m.refused_unused (sends_none m.sends)
stands_write link held b q n s e put.Ended last clock t writable some unused m =
    let up : s.up ≡ true = m.open_up (sym m.writable ∙ writable) in
    stands_ended (found_end link.end) up (sends_none m.sends) (ends_found (m.up_whole up) (known_up m up) m.ends) m
stands_write link held b q n s e put.Refused last clock t writable some unused m =
    stands_refused last clock t (m.open_up (sym m.writable ∙ writable)) (unused refl) (sends_none m.sends) m
stands_write link held b q n s e put.Failed last clock t writable some unused m =
    stands_on m s.put s.got (awake_still m) stuck (broken (m.up_begun (m.open_up (sym m.writable ∙ writable)))) m.refused_unused (sends_none m.sends)
