-- The folder of a path, by its last slash.
use Rattle.std.proofs.Common.{◌≡◌, ◌≢◌, ℕ, suc, ◌+◌, ◌-◌, ◌<◌, ◌≤◌, false, List, [], ◌∷◌, length, take, not, refl, sym, ap, ◌∙◌, get_or, arith}
use Rattle.std.proofs.lemmas.Bool.{eq-eqb, eqb-true, false_from_ne_true, cond-true, cond-false}
use Rattle.std.proofs.lemmas.List.{length-take-le}
use Rattle.std.proofs.lemmas.List.Folds.{list_any_at}
use Rattle.std.proofs.lemmas.List.Sums.{suffix_len_is}
use Rattle.std.proofs.lemmas.Slice.Eq.{bytes_eq-Decides}
use Rattle.std.specs.List.{list_any, before_last, suffix_len}
use Rattle.std.specs.Str.{bytes_eq}
use Rattle.world.specs.Disk.{is_slash, folder_of}

-- no slash from n on
abbrev NoneFrom : ℕ → List ℕ → Type 0
NoneFrom n s = (i : ℕ) → n ≤ i → i < length s → get_or s i 0 ≢ 47

other : (c : ℕ) → c ≢ 47 → is_slash c ≡ false
other c ne = false_from_ne_true (is_slash c) (λ e. ne (eqb-true c 47 e))

no_slash : (s : List ℕ) → NoneFrom 0 s → list_any is_slash s ≡ false
no_slash [] none = refl
no_slash (c ∷ cs) none = rw (other c (none 0 (omega arith) (omega arith))) (no_slash cs (λ i l w. none (suc i) (omega arith) (omega arith)))

before_slash : (s : List ℕ) (k : ℕ) → k < length s → get_or s k 0 ≡ 47 → NoneFrom (k + 1) s → before_last is_slash s ≡ take k s
before_slash s k within is none =
    let n : suffix_len (λ c. not (is_slash c)) s ≡ length s - (k + 1) =
    suffix_len_is (λ c. not (is_slash c)) s (k + 1) 0 (omega arith) (λ i l w. ap not (other (get_or s i 0) (none i l w))) (λ some. ap not (eq-eqb (get_or s (k + 1 - 1) 0) 47 (ap (λ j. get_or s j 0) (omega arith) ∙ is))) in
    ap (λ m. take m s) (omega (arith, n))

-- a path without a slash lies in the folder that we are in
pub no_folder : (s : List ℕ) → NoneFrom 0 s → folder_of s ≡ 46 ∷ []
no_folder s none = cond-false (list_any is_slash s) _ _ (no_slash s none)

-- a path whose only slash stands first lies in the root
pub root_folder : (s : List ℕ) (k : ℕ) → k ≡ 0 → k < length s → get_or s k 0 ≡ 47 → NoneFrom (k + 1) s → folder_of s ≡ 47 ∷ []
root_folder s k first within is none =
    cond-true (list_any is_slash s) _ _ (list_any_at is_slash s k 0 within (eq-eqb (get_or s k 0) 47 is))
    ∙ cond-true (bytes_eq (before_last is_slash s) []) _ _ ((bytes_eq-Decides (before_last is_slash s) []).1 (before_slash s k within is none ∙ ap (λ n. take n s) first))

-- any other lies in what stands before its last slash
pub named_folder : (s : List ℕ) (k : ℕ) → 0 < k → k < length s → get_or s k 0 ≡ 47 → NoneFrom (k + 1) s → folder_of s ≡ take k s
named_folder s k some within is none =
    cond-true (list_any is_slash s) _ _ (list_any_at is_slash s k 0 within (eq-eqb (get_or s k 0) 47 is))
    ∙ cond-false (bytes_eq (before_last is_slash s) []) _ _ (false_from_ne_true _ (λ e. empty ((bytes_eq-Decides (before_last is_slash s) []).0 e)))
    ∙ before_slash s k within is none
  where
    empty : before_last is_slash s ≢ []
    empty e = let l : length (take k s) ≡ 0 = ap length (sym (before_slash s k within is none) ∙ e) in omega (arith, l, length-take-le k s (omega arith))
