-- Which jobs of a run want a last look.
use Rattle.std.proofs.Common.{◌≡◌, inl, inr, ℕ, ◌+◌, ◌<◌, ◌≤◌, Bool, true, false, List, length, set, Some, arith, sym, ◌∙◌, ap, subst}
use Rattle.std.specs.Prelude.{slice_get}
use Rattle.std.specs.List.{list_any}
use Rattle.std.proofs.Math.Bool.{true≢false}
use Rattle.std.proofs.lemmas.Bool.{cases_eq}
use Rattle.std.proofs.lemmas.List.Folds.{list_any_at}
use Rattle.std.proofs.lemmas.Option.{get_or_from_slice_get, slice_get_within}
use Rattle.jtext.proofs.Lists.{slice_get-set_same, slice_get-set_other}
use Rattle.job_run.specs.declared.job.Job.{Job}
use Rattle.job_run.specs.Due.{WantsLook}
use Rattle.batch_run.specs.declared.slot.Slot.{Slot}
use Rattle.batch_run.specs.declared.slot.Slot.TheVariants.{Running}
use Rattle.batch_run.specs.Due.{AreLooksBelow, SlotWantsLook}
use Rattle.batch_run.specs.Stands.{NoneWantsLook}

-- before the first answer
pub looks_start : (slots : List Slot) (looks : List Bool) → AreLooksBelow 0 slots looks
looks_start slots looks = record { each = λ i low. absurd (omega (arith, low)) }

-- one more
pub looks_more : {n : ℕ} {slots : List Slot} {looks : List Bool} (wants : Bool) → n < length looks → SlotWantsLook (slice_get slots n) wants
    → AreLooksBelow n slots looks → AreLooksBelow (n + 1) slots (set looks n wants)
looks_more {n} {slots} {looks} wants within is answers = record {
  each = λ i low. elim (cases_eq i n) [
    | inl same ↦
        let at = subst (λ k. slice_get (set looks n wants) k ≡ Some wants) (sym same) (slice_get-set_same looks n wants within) in
        (wants, at, subst (λ k. SlotWantsLook (slice_get slots k) wants) (sym same) is)
    | inr ne ↦
        let a = answers.each i (omega (arith, low, ne)) in
        (a.0, slice_get-set_other looks n i wants ne ∙ a.1, a.2)
  ];
}

-- a look that is wanted is found
found_look : (test : Bool → Bool) (looks : List Bool) (i : ℕ) → test true ≡ true → slice_get looks i ≡ Some true → list_any test looks ≡ true
found_look test looks i is at =
    list_any_at test looks i true (slice_get_within looks i true at) (ap test (get_or_from_slice_get looks i true true at) ∙ is)

-- where no look is found, no job wants one
pub none_found : (test : Bool → Bool) (slots : List Slot) (looks : List Bool) → test true ≡ true → length slots ≤ 16 → list_any test looks ≡ false
    → AreLooksBelow 16 slots looks → NoneWantsLook slots
none_found test slots looks is few none answers = record {
  each = λ i j got. let low = slice_get_within slots i (Running j) got in at_slot i j got (answers.each i (omega (arith, low, few)));
}
  where
    answered : (i : ℕ) (j : Job) (wants : Bool) → slice_get looks i ≡ Some wants → WantsLook j wants → WantsLook j false
    answered i j true at wanted = absurd (true≢false (sym (found_look test looks i is at) ∙ none))
    answered i j false at wanted = wanted

    at_slot : (i : ℕ) (j : Job) → slice_get slots i ≡ Some (Running j)
        → (wants : Bool) × (slice_get looks i ≡ Some wants) × SlotWantsLook (slice_get slots i) wants → WantsLook j false
    at_slot i j got a = answered i j a.0 a.1 (subst (λ o. SlotWantsLook o a.0) got a.2)
