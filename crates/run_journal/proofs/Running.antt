-- When a job starts and runs, where the loop keeps its rules.
use Rattle.std.proofs.Common.{◌≡◌, ◌⊎◌, inl, inr, ℕ, ◌<◌, List, [], ◌∷◌, Bool, true, false, ◌&&◌, ◌||◌, not, Option, Some, None, refl, sym, ◌∙◌, ap, arith}
use Rattle.std.specs.Prelude.{is_some, nat_lt, if◌then◌else◌, ◌==◌}
use Rattle.std.specs.List.{list_any, list_all}
use Rattle.std.proofs.lemmas.Bool.{and_parts, or_parts, and_from, or_left, or_right, cond-true, cond-false, cases_Bool, eqb-true, ltb-true, not-true, not_from_false, or_cases}
use Rattle.world.specs.declared.entry.Entry.{Entry}
use Rattle.world.specs.declared.entry.Entry.TheVariants as made
use Rattle.world.specs.Places.{time}
use Rattle.world.specs.Waits.{is_wait, has_wait, before_wait, is_after_wait}
use Rattle.world.specs.Jobs.{closes}
use Rattle.run_journal.specs.Job.{Job}
use Rattle.run_journal.specs.Parts.{saves_of, begins, is_shut, is_running}
use Rattle.run_journal.specs.Requests.{or_later}
use Rattle.run_journal.specs.Why.{starts, child_clock}
use Rattle.run_journal.specs.Due.{all_along}
use Rattle.run_journal.specs.Awake.{Awake, implies, in_order, waits_last, waits_short, reads_all, reads_few, keeps_up, reads_clock, looks_once, begins_again, begins_refused, begins_early, has_room}
use Rattle.run_journal.specs.Agreement.{IsAmong, rises, draws, drawn_clock, starts_in_turn, KeepsRules}
use Rattle.run_journal.specs.OfJob.{is_number}
use Rattle.run_journal.proofs.Growth.{acked_grows}
use Rattle.run_journal.proofs.Truths.{not_both}
use Rattle.run_journal.proofs.Telling.{some_is}

-- ---- tests

pub or_off : (b c : Bool) → (not b || c) ≡ true → b ≡ true → c ≡ true
or_off true c e f = e
or_off false c e f = cc

pub later_some : {X : Type 0} (o p : Option X) → is_some o ≡ true → is_some (or_later o p) ≡ true
later_some (Some x) p e = refl
later_some None p e = cc

pub first_kept : {X : Type 0} (o p : Option X) → is_some o ≡ true → or_later o p ≡ o
first_kept (Some x) p e = refl
first_kept None p e = cc

pub all_of : (test : Job → Bool) (jobs : List Job) (j : Job) → IsAmong j jobs → list_all test jobs ≡ true → test j ≡ true
all_of test [] j m e = absurd m
all_of test (k ∷ jobs) j (inl f) e = ap test f ∙ (and_parts (test k) (list_all test jobs) e).0
all_of test (k ∷ jobs) j (inr m) e = all_of test jobs j m (and_parts (test k) (list_all test jobs) e).1

pub any_of : (test : Job → Bool) (jobs : List Job) (j : Job) → IsAmong j jobs → test j ≡ true → list_any test jobs ≡ true
any_of test [] j m e = absurd m
any_of test (k ∷ jobs) j (inl f) e = or_left (test k) (list_any test jobs) (ap test (sym f) ∙ e)
any_of test (k ∷ jobs) j (inr m) e = or_right (test k) (list_any test jobs) (any_of test jobs j m e)

-- ---- the rules before an entry

pub awake_before : (jobs : List Job) (entry : Entry) (past : List Entry) → Awake jobs (entry ∷ past) → Awake jobs past
awake_before jobs entry past a = record {
  only_awake = (and_parts (in_order jobs (entry ∷ past)) (all_along (in_order jobs) past) a.only_awake).1;
  waits_last_of_all = (and_parts (waits_last jobs (entry ∷ past)) (all_along (waits_last jobs) past) a.waits_last_of_all).1;
  short_for_a_cause = (and_parts (waits_short jobs (entry ∷ past)) (all_along (waits_short jobs) past) a.short_for_a_cause).1;
  reads_each = (and_parts (reads_all jobs (entry ∷ past)) (all_along (reads_all jobs) past) a.reads_each).1;
  reads_no_more = (and_parts (reads_few jobs (entry ∷ past)) (all_along (reads_few jobs) past) a.reads_no_more).1;
  up_to_date = (and_parts (keeps_up jobs (entry ∷ past)) (all_along (keeps_up jobs) past) a.up_to_date).1;
  clock = (and_parts (reads_clock jobs (entry ∷ past)) (all_along (reads_clock jobs) past) a.clock).1;
  looks = (and_parts (looks_once jobs (entry ∷ past)) (all_along (looks_once jobs) past) a.looks).1;
  again = (and_parts (begins_again jobs (entry ∷ past)) (all_along (begins_again jobs) past) a.again).1;
  only_refused = (and_parts (begins_refused jobs (entry ∷ past)) (all_along (begins_refused jobs) past) a.only_refused).1;
  early = (and_parts (begins_early jobs (entry ∷ past)) (all_along (begins_early jobs) past) a.early).1;
  room = (and_parts (has_room (entry ∷ past)) (all_along has_room past) a.room).1;
}

pub rules_before : (jobs : List Job) (j : Job) (entry : Entry) (past : List Entry) → KeepsRules jobs j (entry ∷ past) → KeepsRules jobs j past
rules_before jobs j entry past k = record {
  among = k.among;
  awake = awake_before jobs entry past k.awake;
  rising = (and_parts (rises (entry ∷ past)) (all_along rises past) k.rising).1;
  start = (and_parts (starts_in_turn j (entry ∷ past)) (all_along (starts_in_turn j) past) k.start).1;
}

-- ---- a job that runs

pub running_parts : (j : Job) (past : List Entry) → is_running j past ≡ true → (list_any (begins j) past ≡ true) × (is_shut j past ≡ false)
running_parts j past e = let p = and_parts (list_any (begins j) past) (not (is_shut j past)) e in (p.0, not-true (is_shut j past) p.1)

pub running_from : (j : Job) (past : List Entry) → list_any (begins j) past ≡ true → is_shut j past ≡ false → is_running j past ≡ true
running_from j past e f = and_from (list_any (begins j) past) (not (is_shut j past)) e (not_from_false (is_shut j past) f)

pub wait_begins_none : (j : Job) (entry : Entry) → is_wait entry ≡ true → begins j entry ≡ false
wait_begins_none j (made.Waited ms reports how) e = refl
wait_begins_none j _ e = cc

pub wait_closes_none : (j : Job) (entry : Entry) → is_wait entry ≡ true → closes j.number entry ≡ false
wait_closes_none j (made.Waited ms reports how) e = refl
wait_closes_none j _ e = cc

-- what two tests imply holds where both do
pub by_both : (x y z : Bool) → implies (x && y) z ≡ true → x ≡ true → y ≡ true → z ≡ true
by_both true true z e f g = e
by_both true false z e f g = cc
by_both false y z e f g = cc

pub early_at : (jobs : List Job) (j : Job) (entry : Entry) (past : List Entry) → IsAmong j jobs → begins_early jobs (entry ∷ past) ≡ true → begins j entry ≡ true → has_wait past ≡ true → list_any (begins j) past ≡ true
early_at jobs j (made.Connected conn port how) past m e b w =
    by_both (conn.job == j.number) (has_wait past) (list_any (begins j) past) (all_of (λ i. implies (conn.job == i.number && has_wait past) (list_any (begins i) past)) jobs j m e) b w
early_at jobs j _ past m e b w = cc

-- one that began did so before the last wait, if there was one
pub begun_before : (jobs : List Job) (j : Job) (past : List Entry) → IsAmong j jobs → all_along (begins_early jobs) past ≡ true → list_any (begins j) past ≡ true → has_wait past ≡ true → list_any (begins j) (before_wait past) ≡ true
begun_before jobs j [] m e b w = cc
begun_before jobs j (entry ∷ past) m e b w = by (λ x y. begun_before jobs j past m p.1 x y) (cases_Bool (is_wait entry)) (or_cases (begins j entry) (list_any (begins j) past) b)
  where
    p : (begins_early jobs (entry ∷ past) ≡ true) × (all_along (begins_early jobs) past ≡ true)
    p = and_parts (begins_early jobs (entry ∷ past)) (all_along (begins_early jobs) past) e

    waited : is_wait entry ≡ false → has_wait past ≡ true
    waited f = ap (λ v. v || has_wait past) (sym f) ∙ w

    by : (list_any (begins j) past ≡ true → has_wait past ≡ true → list_any (begins j) (before_wait past) ≡ true) → (is_wait entry ≡ true) ⊎ (is_wait entry ≡ false) → (begins j entry ≡ true) ⊎ (list_any (begins j) past ≡ true)
        → list_any (begins j) (before_wait (entry ∷ past)) ≡ true
    by ih (inl f) (inl g) = absurd (not_both (begins j entry) g (wait_begins_none j entry f))
    by ih (inl f) (inr g) = ap (list_any (begins j)) (cond-true (is_wait entry) past (before_wait past) f) ∙ g
    by ih (inr f) (inl g) = ap (list_any (begins j)) (cond-false (is_wait entry) past (before_wait past) f) ∙ ih (early_at jobs j entry past m p.0 g (waited f)) (waited f)
    by ih (inr f) (inr g) = ap (list_any (begins j)) (cond-false (is_wait entry) past (before_wait past) f) ∙ ih g (waited f)

pub unshut_before : (j : Job) (past : List Entry) → is_shut j past ≡ false → is_shut j (before_wait past) ≡ false
unshut_before j [] e = e
unshut_before j (entry ∷ past) e = by (unshut_before j past p.1) (cases_Bool (is_wait entry))
  where
    p : (closes j.number entry ≡ false) × (is_shut j past ≡ false)
    p = or_parts (closes j.number entry) (is_shut j past) e

    by : is_shut j (before_wait past) ≡ false → (is_wait entry ≡ true) ⊎ (is_wait entry ≡ false) → is_shut j (before_wait (entry ∷ past)) ≡ false
    by ih (inl f) = ap (is_shut j) (cond-true (is_wait entry) past (before_wait past) f) ∙ p.1
    by ih (inr f) = ap (is_shut j) (cond-false (is_wait entry) past (before_wait past) f) ∙ ih

-- where there was a wait, the job ran at the last one
abbrev pub RanAtWait : Job → List Entry → Type 0
RanAtWait j past = has_wait past ≡ true → is_running j (before_wait past) ≡ true

module _ (jobs : List Job) (j : Job) (entry : Entry) (past : List Entry) (k : KeepsRules jobs j (entry ∷ past)) (h : RanAtWait j (entry ∷ past)) where
  -- then it ran at each
  pub ran_before : RanAtWait j past
  ran_before w = by (cases_Bool (is_wait entry))
    where
      by : (is_wait entry ≡ true) ⊎ (is_wait entry ≡ false) → is_running j (before_wait past) ≡ true
      by (inl f) =
          let r = running_parts j past (ap (is_running j) (sym (cond-true (is_wait entry) past (before_wait past) f)) ∙ h (or_left (is_wait entry) (has_wait past) f)) in
          running_from j (before_wait past) (begun_before jobs j past k.among (rules_before jobs j entry past k).awake.early r.0 w) (unshut_before j past r.1)
      by (inr f) = ap (is_running j) (sym (cond-false (is_wait entry) past (before_wait past) f)) ∙ h (or_right (is_wait entry) (has_wait past) w)

  pub runs_at_wait : is_wait entry ≡ true → is_running j past ≡ true
  runs_at_wait f = ap (is_running j) (sym (cond-true (is_wait entry) past (before_wait past) f)) ∙ h (or_left (is_wait entry) (has_wait past) f)

pub after_running : (j : Job) (past : List Entry) → is_after_wait past ≡ true → is_running j (before_wait past) ≡ true → is_running j past ≡ true
after_running j [] e r = cc
after_running j (made.Waited ms reports how ∷ past) e r = r
after_running j (_ ∷ past) e r = cc

pub any_before : (j : Job) (past : List Entry) → list_any (begins j) (before_wait past) ≡ true → list_any (begins j) past ≡ true
any_before j [] e = e
any_before j (entry ∷ past) e = or_right (begins j entry) (list_any (begins j) past) (by (λ x. any_before j past x) (cases_Bool (is_wait entry)))
  where
    by : (list_any (begins j) (before_wait past) ≡ true → list_any (begins j) past ≡ true) → (is_wait entry ≡ true) ⊎ (is_wait entry ≡ false) → list_any (begins j) past ≡ true
    by ih (inl f) = ap (list_any (begins j)) (sym (cond-true (is_wait entry) past (before_wait past) f)) ∙ e
    by ih (inr f) = ih (ap (list_any (begins j)) (sym (cond-false (is_wait entry) past (before_wait past) f)) ∙ e)

-- ---- its start

pub start_parts : (j : Job) (entry : Entry) (past : List Entry) → starts_in_turn j (entry ∷ past) ≡ true
    → ((not (draws j entry) || (not (is_some (drawn_clock j past)) && nat_lt 0 (saves_of j past))) ≡ true) × ((not (starts j entry) || is_number (time past) (drawn_clock j past)) ≡ true)
    × ((not (begins j entry) || is_some (child_clock j past)) ≡ true)
start_parts j entry past e =
    let p = and_parts (not (draws j entry) || (not (is_some (drawn_clock j past)) && nat_lt 0 (saves_of j past))) _ e in
    let q = and_parts (not (starts j entry) || is_number (time past) (drawn_clock j past)) (not (begins j entry) || is_some (child_clock j past)) p.1 in
    (p.0, q.0, q.1)

module _ (j : Job) where
  pub is_number_is : (ms : ℕ) (o : Option ℕ) → is_number ms o ≡ true → o ≡ Some ms
  is_number_is ms None e = cc
  is_number_is ms (Some clock) e = ap (λ n. Some n) (eqb-true clock ms e)

  -- the child was started by the clock by which its ports were drawn
  pub child_drawn : (past : List Entry) → all_along (starts_in_turn j) past ≡ true → (clock : ℕ) → child_clock j past ≡ Some clock → drawn_clock j past ≡ Some clock
  child_drawn [] e clock f = cc
  child_drawn (entry ∷ past) e clock f = by (λ x. child_drawn past p.1 clock x) (child_clock j past) refl
    where
      p : (starts_in_turn j (entry ∷ past) ≡ true) × (all_along (starts_in_turn j) past ≡ true)
      p = and_parts (starts_in_turn j (entry ∷ past)) (all_along (starts_in_turn j) past) e

      more : (ms : ℕ) → drawn_clock j past ≡ Some ms → drawn_clock j (entry ∷ past) ≡ Some ms
      more ms g = ap (λ o. or_later o (if draws j entry then Some (time past) else None)) g

      started : (b : Bool) → starts j entry ≡ b → (if b then Some (time past) else None) ≡ Some clock → drawn_clock j (entry ∷ past) ≡ Some clock
      started true g i = more (time past) (is_number_is (time past) (drawn_clock j past) (or_off (starts j entry) _ (start_parts j entry past p.0).1 g)) ∙ i
      started false g i = cc

      by : (child_clock j past ≡ Some clock → drawn_clock j past ≡ Some clock) → (o : Option ℕ) → child_clock j past ≡ o → drawn_clock j (entry ∷ past) ≡ Some clock
      by ih (Some ms) g = more clock (ih (g ∙ sym (ap (λ v. or_later v (if starts j entry then Some (time past) else None)) g) ∙ f))
      by ih None g = started (starts j entry) refl (sym (ap (λ v. or_later v (if starts j entry then Some (time past) else None)) g) ∙ f)

  -- it was started where a connection was begun
  pub begun_child : (past : List Entry) → all_along (starts_in_turn j) past ≡ true → list_any (begins j) past ≡ true → is_some (child_clock j past) ≡ true
  begun_child [] e b = cc
  begun_child (entry ∷ past) e b =
      let p = and_parts (starts_in_turn j (entry ∷ past)) (all_along (starts_in_turn j) past) e in
      later_some (child_clock j past) (if starts j entry then Some (time past) else None)
      (elim (or_cases (begins j entry) (list_any (begins j) past) b) [
        | inl f ↦ or_off (begins j entry) (is_some (child_clock j past)) (start_parts j entry past p.0).2 f
        | inr f ↦ begun_child past p.1 f
      ])

  -- and its ports were drawn
  pub begun_drawn : (past : List Entry) → all_along (starts_in_turn j) past ≡ true → list_any (begins j) past ≡ true → is_some (drawn_clock j past) ≡ true
  begun_drawn past e b =
      let c = some_is (child_clock j past) (begun_child past e b) in
      ap (λ (o : Option ℕ). is_some o) (child_drawn past e c.0 c.1)

  later_none : (o : Option ℕ) (b : Bool) (ms : ℕ) → is_some (or_later o (if b then Some ms else None)) ≡ true → (is_some o ≡ true) ⊎ (b ≡ true)
  later_none (Some x) b ms e = inl refl
  later_none None true ms e = inr refl
  later_none None false ms e = cc

  -- after its first save was acknowledged
  pub drawn_acked : (past : List Entry) → all_along (starts_in_turn j) past ≡ true → is_some (drawn_clock j past) ≡ true → 0 < saves_of j past
  drawn_acked [] e b = cc
  drawn_acked (entry ∷ past) e b =
      let p = and_parts (starts_in_turn j (entry ∷ past)) (all_along (starts_in_turn j) past) e in
      let g = (acked_grows j entry past).0 in
      let was : 0 < saves_of j past = elim (later_none (drawn_clock j past) (draws j entry) (time past) b) [
        | inl f ↦ drawn_acked past p.1 f
        | inr f ↦ ltb-true 0 (saves_of j past) (and_parts (not (is_some (drawn_clock j past))) (nat_lt 0 (saves_of j past)) (or_off (draws j entry) _ (start_parts j entry past p.0).0 f)).1
      ] in
      omega (arith, g, was)
