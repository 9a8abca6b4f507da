-- Kernels that are brought to a moment one after the other.
use Rattle.std.proofs.Common.{◌≡◌, ◌≢◌, ◌∙◌, ℕ, ◌+◌, ◌<◌, ◌≤◌, List, length, Bool, false, Option, Some, None, refl, sym, ap, subst, arith, inl, inr}
use Rattle.std.specs.Prelude.{slice_get, slice_set, unwrap_or}
use Rattle.std.proofs.lemmas.Bool.{cases_eq, cases_lt}
use Rattle.std.proofs.lemmas.List.{length-set}
use Rattle.std.proofs.lemmas.Option.{slice_get_past, slice_get_within, same_Some}
use Rattle.world.specs.Calls.{Call}
use Rattle.world_mem.specs.Far.{Changes, Serves, TickedIf, Ticks, is_started}
use Rattle.jtext.proofs.Lists.{slice_get-set_same, slice_get-set_other, set_given}

-- the kernels of the first n jobs were brought to a moment, where they are started, and no other has changed
pub record TicksTo {K : Type 0} (stands : K → List Call → Type 0) (started : List Bool) (now n : ℕ) (old new : List K) : Type 0 where
  pub size : length new ≡ length old
  pub each : (job : ℕ) (before after : K) → job < n → slice_get old job ≡ Some before
      → slice_get new job ≡ Some after → TickedIf stands (is_started started job) now before after
  pub rest : (job : ℕ) → n ≤ job → slice_get new job ≡ slice_get old job

pub ticks_start : {K : Type 0} (stands : K → List Call → Type 0) (started : List Bool) (now : ℕ) (old : List K)
    → TicksTo stands started now 0 old old
ticks_start stands started now old = record {
  size = refl;
  each = λ job before after below is was. absurd (omega arith);
  rest = λ job above. refl;
}

-- one more kernel, which is there
ticks_one : {K : Type 0} (stands : K → List Call → Type 0) (started : List Bool) (now n : ℕ) (old mid new : List K) (was is : K)
    → TicksTo stands started now n old mid → slice_get mid n ≡ Some was → new ≡ slice_set mid n is
    → TickedIf stands (is_started started n) now was is → TicksTo stands started now (n + 1) old new
ticks_one {K} stands started now n old mid new was is so here set ticked =
    let within : n < length mid = slice_get_within mid n was here in
    let own : slice_get new n ≡ Some is = ap (λ ks. slice_get ks n) set ∙ slice_get-set_same mid n is within in
    let others = λ (job : ℕ) (ne : n ≢ job).
    ap (λ ks. slice_get ks job) set ∙ slice_get-set_other mid n job is (λ e. ne (sym e)) in
    record {
      size = ap length set ∙ length-set mid n is ∙ so.size;
      each = λ job before after below e f.
          elim (cases_eq n job) [
            | inl same ↦
                let at_n : slice_get old n ≡ Some before = subst (λ j. slice_get old j ≡ Some before) (sym same) e in
                let b : was ≡ before = same_Some _ _ (sym here ∙ so.rest n (omega arith) ∙ at_n) in
                let g : slice_get new n ≡ Some after = subst (λ j. slice_get new j ≡ Some after) (sym same) f in
                let a : is ≡ after = same_Some _ _ (sym own ∙ g) in
                let one : TickedIf stands (is_started started n) now before is = subst (λ k. TickedIf stands (is_started started n) now k is) b ticked in
                let two : TickedIf stands (is_started started n) now before after = subst (λ k. TickedIf stands (is_started started n) now before k) a one in
                subst (λ j. TickedIf stands (is_started started j) now before after) same two
            | inr apart ↦ so.each job before after (omega arith) e (sym (others job apart) ∙ f)
          ];
      rest = λ job above. others job (omega arith) ∙ so.rest job (omega arith);
    }

-- one more job without a kernel
ticks_none : {K : Type 0} (stands : K → List Call → Type 0) (started : List Bool) (now n : ℕ) (old mid new : List K)
    → TicksTo stands started now n old mid → slice_get mid n ≡ None → new ≡ mid
    → TicksTo stands started now (n + 1) old new
ticks_none stands started now n old mid new so none same =
    record {
      size = ap length same ∙ so.size;
      each = λ job before after below e f.
          let g : slice_get mid job ≡ Some after = ap (λ ks. slice_get ks job) (sym same) ∙ f in
          elim (cases_eq n job) [
            | inl here ↦
                let h : slice_get mid n ≡ Some after = subst (λ j. slice_get mid j ≡ Some after) (sym here) g in
                cc
            | inr apart ↦ so.each job before after (omega arith) e g
          ];
      rest = λ job above. ap (λ ks. slice_get ks job) same ∙ so.rest job (omega arith);
    }

changes_more : {K : Type 0} (stands : K → List Call → Type 0) (started : List Bool) (now n : ℕ) (old mid new : List K) (here : Option K)
    → TicksTo stands started now n old mid → slice_get mid n ≡ here
    → Changes here mid new n (TickedIf stands (is_started started n) now) → TicksTo stands started now (n + 1) old new
changes_more stands started now n old mid new None so e same = ticks_none stands started now n old mid new so e same
changes_more stands started now n old mid new (Some was) so e change =
    ticks_one stands started now n old mid new was change.0 so e change.1 change.2

-- one more job
pub ticks_more : {K : Type 0} {stands : K → List Call → Type 0} {started : List Bool} {now n : ℕ} {old mid new : List K}
    → TicksTo stands started now n old mid → Serves mid new n (TickedIf stands (is_started started n) now)
    → TicksTo stands started now (n + 1) old new
ticks_more {K} {stands} {started} {now} {n} {old} {mid} {new} so served =
    changes_more stands started now n old mid new (slice_get mid n) so refl served

changes_same : {K : Type 0} (here : Option K) (kernels : List K) (job : ℕ) (R : K → K → Type 0)
    → slice_get kernels job ≡ here → ((k : K) → R k k) → Changes here kernels kernels job R
changes_same None kernels job R e itself = refl
changes_same (Some k) kernels job R e itself = (k, sym (set_given kernels job k e), itself k)

-- a job that is not started
pub serves_same : {K : Type 0} (kernels : List K) (job : ℕ) (R : K → K → Type 0) → ((k : K) → R k k)
    → Serves kernels kernels job R
serves_same kernels job R itself = changes_same (slice_get kernels job) kernels job R refl itself

-- all 16
pub ticks_all : {K : Type 0} {stands : K → List Call → Type 0} {started : List Bool} {now n : ℕ} {old new : List K}
    → TicksTo stands started now n old new → length started ≤ n → Ticks stands started now old new
ticks_all {K} {stands} {started} {now} {n} {old} {new} so size = record {
  size = so.size;
  each = λ job before after e f.
      elim (cases_lt job n) [
        | inl below ↦ so.each job before after below e f
        | inr above ↦
            let none : is_started started job ≡ false = ap (λ o. unwrap_or o false) (slice_get_past started job (omega arith)) in
            subst (λ b. TickedIf stands b now before after) (sym none) (same_Some _ _ (sym f ∙ so.rest job above ∙ e))
      ];
}
