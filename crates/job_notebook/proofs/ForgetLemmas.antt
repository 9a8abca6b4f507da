-- Texts that are no longer kept.
use Rattle.std.proofs.Common.{◌≡◌, ◌≢◌, ◌⊎◌, inl, inr, ℕ, ◌<◌, ◌≤◌, ◌+◌, ◌==◌, ◌∷◌, List, true, None, refl, sym, ◌∙◌, ap, arith}
use Rattle.std.proofs.lemmas.Bool.{cases_eq, cases_lt, eqb-true, or_cases}
use Rattle.out_fold.specs.Plans.{is_in}
use Rattle.progress_save.specs.declared.progress.Progress.{Progress}
use Rattle.progress_save.specs.State.{kept_text}
use Rattle.job_notebook.specs.Kept.{ForgetsSome}

pub forgets_none : (p : Progress) → ForgetsSome p p
forgets_none p i = inr refl

pub forgets_then : (o p q : Progress) → ForgetsSome o p → ForgetsSome p q → ForgetsSome o q
forgets_then o p q first more i =
    elim (more i) [
      | inl none ↦ inl none
      | inr same ↦ elim (first i) [ inl none ↦ inl (same ∙ none) | inr was ↦ inr (same ∙ was) ]
    ]

-- what isn't kept is not kept later
pub none_later : (p q : Progress) → ForgetsSome p q → (i : ℕ) → kept_text p i ≡ None → kept_text q i ≡ None
none_later p q more i none = elim (more i) [ inl gone ↦ gone | inr same ↦ same ∙ none ]

-- ---- one cell more

module _ (p q : Progress) (cell : ℕ) (gone : kept_text q cell ≡ None) (others : (j : ℕ) → j ≢ cell → kept_text q j ≡ kept_text p j) where
  pub marked_is : (i : ℕ) → i ≡ cell → kept_text q i ≡ None
  marked_is i is = ap (λ j. kept_text q j) is ∙ gone

  pub marked_forgets : ForgetsSome p q
  marked_forgets i = elim (cases_eq i cell) [ inl is ↦ inl (marked_is i is) | inr other ↦ inr (others i other) ]

  -- one more of the cells up to an index
  pub gone_below : (from : ℕ) → ((i : ℕ) → from ≤ i → i < cell → kept_text p i ≡ None) → (i : ℕ) → from ≤ i → i < cell + 1 → kept_text q i ≡ None
  gone_below from so i le lt =
      elim (cases_lt i cell) [
        | inl below ↦ none_later p q marked_forgets i (so i le below)
        | inr above ↦ marked_is i (omega (arith, lt, above))
      ]

  -- one more of the cells that are still to be forgotten
  pub gone_next : (cells after : List ℕ) → ((i : ℕ) → is_in cells i ≡ true → (kept_text p i ≡ None) ⊎ (is_in (cell ∷ after) i ≡ true))
      → (i : ℕ) → is_in cells i ≡ true → (kept_text q i ≡ None) ⊎ (is_in after i ≡ true)
  gone_next cells after so i h =
      elim (so i h) [
        | inl none ↦ inl (none_later p q marked_forgets i none)
        | inr there ↦ elim (or_cases (cell == i) (is_in after i) there) [
          | inl now ↦ inl (marked_is i (sym (eqb-true cell i now)))
          | inr later ↦ inr later
        ]
      ]
