-- The earliest moment at which the jobs of a run are due.
use Rattle.std.proofs.Common.{◌≡◌, ◌⊎◌, inl, inr, ℕ, ◌+◌, ◌≤◌, List, length, Option, None, Some, arith, sym, ◌∙◌, ap, subst}
use Rattle.std.specs.Prelude.{min, slice_get}
use Rattle.std.proofs.lemmas.Bool.{cases_eq, cases_lt}
use Rattle.std.proofs.lemmas.Option.{slice_get_within, same_Some}
use Rattle.std.proofs.Math.Nat.{min-eq_left, min-eq_right, min-le_left, min-le_right}
use Rattle.job_run.specs.Due.{earlier_of}
use Rattle.batch_run.specs.declared.slot.Slot.{Slot}
use Rattle.batch_run.specs.Due.{IsBy, IsEarliestBelow, IsEarliestDue, IsSlotDue}

-- the less of two numbers is one of them
least_one : (a b : ℕ) → (min a b ≡ a) ⊎ (min a b ≡ b)
least_one a b = elim (cases_lt b a) [
  | inl low ↦ inr (min-eq_right (omega (arith, low)))
  | inr low ↦ inl (min-eq_left low)
]

-- so is the earlier of two moments
earlier_one : (a b : Option ℕ) (t : ℕ) → earlier_of a b ≡ Some t → (a ≡ Some t) ⊎ (b ≡ Some t)
earlier_one (Some a) (Some b) t e = elim (least_one a b) [
  | inl left ↦ inl (ap Some (sym left) ∙ e)
  | inr right ↦ inr (ap Some (sym right) ∙ e)
]
earlier_one (Some a) None t e = inl e
earlier_one None b t e = inr e

-- and no later than the first
by_first : (a b m : Option ℕ) → IsBy a m → IsBy (earlier_of a b) m
by_first a b None by = tt
by_first None b (Some t) by = absurd by
by_first (Some a) None (Some t) by = by
by_first (Some a) (Some b) (Some t) by = let low = min-le_left a b in omega (arith, low, by)

-- nor than the second
by_second : (a b : Option ℕ) → IsBy (earlier_of a b) b
by_second a None = tt
by_second None (Some b) = omega arith
by_second (Some a) (Some b) = min-le_right a b

-- before the first slot
pub earliest_start : (xs : List Slot) → IsEarliestBelow 0 xs None
earliest_start xs = record {
  one = λ t e. absurd (cc);
  least = λ i slot low has. absurd (omega (arith, low));
}

-- one more
pub earliest_more : {n : ℕ} {xs : List Slot} {x : Slot} {due : Option ℕ} (more : Option ℕ) → slice_get xs n ≡ Some x
    → IsSlotDue x more → IsEarliestBelow n xs due → IsEarliestBelow (n + 1) xs (earlier_of due more)
earliest_more {n} {xs} {x} {due} more at is e = record {
  one = λ t same. elim (earlier_one due more t same) [
    | inl first ↦ let o = e.one t first in record { number = o.number; slot = o.slot; below = (let low = o.below in omega (arith, low)); has = o.has; is = o.is }
    | inr second ↦ record { number = n; slot = x; below = omega arith; has = at; is = subst (IsSlotDue x) second is }
  ];
  least = λ i slot low has. elim (cases_eq i n) [
    | inl same ↦
        let here : x ≡ slot = same_Some _ _ (sym at ∙ subst (λ j. slice_get xs j ≡ Some slot) same has) in
        record { moment = more; is = subst (λ s. IsSlotDue s more) here is; by = by_second due more }
    | inr ne ↦ let d = e.least i slot (omega (arith, low, ne)) has in record { moment = d.moment; is = d.is; by = by_first due more d.moment d.by }
  ];
}

-- all of them
pub earliest_all : {n : ℕ} {xs : List Slot} {due : Option ℕ} → length xs ≤ n → IsEarliestBelow n xs due → IsEarliestDue xs due
earliest_all {n} {xs} {due} past e = record {
  one = λ t same. let o = e.one t same in record { number = o.number; slot = o.slot; below = slice_get_within xs o.number o.slot o.has; has = o.has; is = o.is };
  least = λ i slot low has. e.least i slot (omega (arith, low, past)) has;
}
