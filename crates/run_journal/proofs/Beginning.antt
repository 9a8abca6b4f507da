-- The core asks for the kernel's start where the first save is acknowledged.
use Rattle.std.proofs.Common.{◌≡◌, ◌⊎◌, inl, inr, ℕ, zero, suc, ◌+◌, ◌<◌, List, [], ◌∷◌, ◌++◌, length, Bool, true, false, ◌&&◌, ◌||◌, cond, Option, Some, None, refl, sym, ◌∙◌, ap, arith}
use Rattle.std.specs.Prelude.{is_some, nat_lt, if◌then◌else◌, ◌==◌}
use Rattle.std.proofs.lemmas.Bool.{and_parts, cond-true, cond-false, cond_both, cases_Bool, eqb-true, false_from_ne_true}
use Rattle.world.specs.declared.entry.Entry.{Entry}
use Rattle.world.specs.declared.entry.Entry.TheVariants as made
use Rattle.world.specs.Places.{time}
use Rattle.cell_core.specs.declared.act.Act.TheVariants as act
use Rattle.cell_core.specs.declared.event.Event.{Event}
use Rattle.cell_core.specs.declared.event.Event.TheVariants as event
use Rattle.cell_core.specs.declared.why.Why.{Why}
use Rattle.cell_core.specs.declared.why.Why.TheVariants as cause
use Rattle.cell_core.specs.Task.{Task, cell_of}
use Rattle.cell_core.specs.Acts.{is_empty_list, has_stopped, heard, answers, act_by, act_of, awaits_saved}
use Rattle.cell_core.specs.Events as events
use Rattle.cell_core.specs.Requests as core
use Rattle.cell_core.specs.Saves as core_saves
use Rattle.run_journal.specs.Job.{Job}
use Rattle.run_journal.specs.Parts.{saves_of, is_acknowledging}
use Rattle.run_journal.specs.Course.{events_at, Course, tell, late_then, course}
use Rattle.run_journal.specs.Requests.{or_later}
use Rattle.run_journal.specs.Why.{starts, child_clock}
use Rattle.run_journal.specs.Due.{all_along}
use Rattle.run_journal.specs.Starts.{Launch, StartsRightly, StartsAt}
use Rattle.run_journal.specs.Agreement.{Flows, HearsLooks, drawn_clock, starts_in_turn, KeepsRules}
use Rattle.run_journal.specs.OfJob.{is_number}
use Rattle.run_journal.proofs.Flowing.{course_agrees}
use Rattle.run_journal.proofs.Dating.{Seen, start_is}
use Rattle.run_journal.proofs.Dropping.{told_whole, looks_kept}
use Rattle.run_journal.proofs.Running.{or_off, RanAtWait, start_parts, is_number_is, child_drawn, drawn_acked}
use Rattle.run_journal.proofs.Turning.{dates}
use Rattle.run_journal.proofs.Truths.{not_both}
use Rattle.std.proofs.Math.Bool.{and-false}

-- ---- nothing is told before the first save

-- the first save is awaited
module _ (j : Job) where
  unstopped_first : has_stopped j.task [] ≡ false
  unstopped_first = and-false (is_some (core_saves.why j.task []))

  told_first : (late es : List Event) → (tell j [] late es).told ≡ []
  told_first late [] = refl
  told_first late (e ∷ es) =
      cond_both (has_stopped j.task (heard j.task [])) (record { told = []; held = []; late = []; unheard = e ∷ es })
      (cond (awaits_saved j.task []) (record { told = []; held = e ∷ es; late = late; unheard = [] }) (tell j (e ∷ []) late es)) (λ (c : Course). c.told ≡ []) (λ h. refl) (λ h. refl)

  none_acked : (b : Bool) (n : ℕ) → cond b (n + 1) n ≡ 0 → (b ≡ false) × (n ≡ 0)
  none_acked true n e = absurd (omega (arith, e))
  none_acked false n e = (refl, e)

  pub untold_first : (past : List Entry) → saves_of j past ≡ 0 → (course j past).told ≡ []
  untold_first [] e = refl
  untold_first (entry ∷ past) e =
      let c : Course = course j past in
      let p = none_acked (is_acknowledging j (entry ∷ past)) (saves_of j past) e in
      ap (λ v. (tell j v (late_then j entry past c.late) (c.held ++ events_at j entry past c.late)).told)
      (cond-false (is_acknowledging j (entry ∷ past)) (event.Saved ∷ c.told) c.told p.0 ∙ untold_first past p.1)
      ∙ told_first (late_then j entry past c.late) (c.held ++ events_at j entry past c.late)

-- ---- the core at its first acknowledgement

abbrev first : List Event
first = event.Saved ∷ []

module _ (task : Task) where
  none_after : (k : ℕ) → core.after task k first ≡ None
  none_after zero = refl
  none_after (suc k) =
      cond-false (core.is_next task k (core.after task k) first) (Some []) None
      (ap (λ b. b && core.is_passed_in (core.after task k []) && nat_lt_plan k) (false_from_ne_true (0 == k + 1) (λ e. let z = eqb-true 0 (k + 1) e in omega (arith, z))))
    where
      nat_lt_plan : ℕ → Bool
      nat_lt_plan k = nat_lt (k + 1) (length task.plan)

  none_below : (n : ℕ) → core.last_below task n first ≡ None
  none_below zero = refl
  none_below (suc n) = ap (λ o. core.or_before n o (core.last_below task n first)) (none_after n) ∙ none_below n

  none_passes : (n : ℕ) → core_saves.passes task n first ≡ []
  none_passes zero = refl
  none_passes (suc n) =
      ap (λ ps. ps ++ (if core.is_passed_in (core.after task n first) then record { settled = cell_of task n + 1; stopping_cell = None } ∷ [] else [])) (none_passes n)
      ∙ ap (λ o. if core.is_passed_in o then record { settled = cell_of task n + 1; stopping_cell = None } ∷ [] else []) (none_after n)

  module _ (plan : 0 < length task.plan) where
    some_plan : (length task.plan == 0) ≡ false
    some_plan = false_from_ne_true (length task.plan == 0) (λ e. let z = eqb-true (length task.plan) 0 e in omega (arith, z, plan))

    not_whole : core_saves.is_whole task (core.standing task first) ≡ false
    not_whole = ap (core_saves.is_whole task) (none_below (length task.plan)) ∙ some_plan

    none_why : core_saves.why task first ≡ None
    none_why =
        ap (λ b. if b && (nat_lt 0 (length task.plan) || length (core_saves.plan_saves task first) == events.ack_count first) then Some cause.Done else core_saves.why_not_done task (core.standing task first) first) not_whole
        ∙ ap (λ o. core_saves.why_not_done task o first) (none_below (length task.plan))

    none_due : core_saves.pending_saves task first ≡ []
    none_due =
        ap (λ o. (core_saves.passes task (length task.plan) first ++ core_saves.stopping task o (core_saves.why task first)) ++ core_saves.closing_after task (core.standing task first) (core_saves.passes task (length task.plan) first)) (none_below (length task.plan))
        ∙ ap (λ ps. (ps ++ []) ++ core_saves.closing_after task (core.standing task first) ps) (none_passes (length task.plan))
        ∙ ap (λ b. if b && nat_lt (core_saves.last_settled 0 []) task.cells then record { settled = task.cells; stopping_cell = None } ∷ [] else []) not_whole

    pub starts_first : act_of task event.Saved [] ≡ act.Start
    starts_first =
        cond-false (has_stopped task (heard task [])) act.Nothing _ (and-false (is_some (core_saves.why task [])))
        ∙ ap (λ ps. act_by task first ps (core_saves.why task first)) none_due
        ∙ ap (act_by task first []) none_why
        ∙ ap (λ o. answers task o first) (none_below (length task.plan))

  -- ---- and only there

  -- what was heard is all, where nothing stopped it
  all_heard : (told : List Event) → has_stopped task (heard task told) ≡ false → heard task told ≡ told
  all_heard [] e = refl
  all_heard (x ∷ told) e = by (λ f. all_heard told f) (cases_Bool (has_stopped task (heard task told)))
    where
      by : (has_stopped task (heard task told) ≡ false → heard task told ≡ told) → (has_stopped task (heard task told) ≡ true) ⊎ (has_stopped task (heard task told) ≡ false) → heard task (x ∷ told) ≡ x ∷ told
      by ih (inl f) = absurd (not_both (has_stopped task (heard task told)) f (ap (has_stopped task) (sym (cond-true (has_stopped task (heard task told)) (heard task told) (x ∷ heard task told) f)) ∙ e))
      by ih (inr f) = cond-false (has_stopped task (heard task told)) (heard task told) (x ∷ heard task told) f ∙ ap (λ es. x ∷ es) (ih f)

  no_start : act.Nothing ≡ act.Start → ⊥
  no_start e = cc

  answered : (o : Option core.Standing) (told : List Event) → answers task o (event.Saved ∷ told) ≡ act.Start → events.ack_count told ≡ 0
  answered (Some last) told e = by (is_empty_list last.later) e
    where
      by : (b : Bool) → (if b then act.Send (cell_of task last.request) else act.Nothing) ≡ act.Start → events.ack_count told ≡ 0
      by true f = cc
      by false f = cc
  answered None told e = by (events.ack_count told == 0) refl e
    where
      by : (b : Bool) → (events.ack_count told == 0) ≡ b → (if b then act.Start else act.Nothing) ≡ act.Start → events.ack_count told ≡ 0
      by true f g = eqb-true (events.ack_count told) 0 f
      by false f g = cc

  acted : (told : List Event) (ps : List core_saves.Prefix) (o : Option Why) → act_by task (event.Saved ∷ told) ps o ≡ act.Start → events.ack_count told ≡ 0
  acted told (p ∷ ps) o e = cc
  acted told [] (Some cause) e = cc
  acted told [] None e = answered (core.standing task (event.Saved ∷ told)) told e

  pub start_acked : (told : List Event) → act_of task event.Saved told ≡ act.Start → events.ack_count told ≡ 0
  start_acked told e = by (cases_Bool (has_stopped task (heard task told)))
    where
      by : (has_stopped task (heard task told) ≡ true) ⊎ (has_stopped task (heard task told) ≡ false) → events.ack_count told ≡ 0
      by (inl f) = absurd (no_start (sym (cond-true (has_stopped task (heard task told)) act.Nothing _ f) ∙ e))
      by (inr f) =
          ap events.ack_count (sym (all_heard told f))
          ∙ acted (heard task told) (core_saves.pending_saves task (event.Saved ∷ heard task told)) (core_saves.why task (event.Saved ∷ heard task told)) (sym (cond-false (has_stopped task (heard task told)) act.Nothing _ f) ∙ e)

-- ---- by the journal

pub started_first : (j : Job) (past : List Entry) → 0 < length j.task.plan → saves_of j past ≡ 0 → act_of j.task event.Saved (course j past).told ≡ act.Start
started_first j past plan e = ap (act_of j.task event.Saved) (untold_first j past e) ∙ starts_first j.task plan

pub first_started : (j : Job) (past : List Entry) → Flows j past → act_of j.task event.Saved (course j past).told ≡ act.Start → saves_of j past ≡ 0
first_started j past f e = sym (course_agrees j past f).acked ∙ start_acked j.task (course j past).told e

-- ---- the clock of the start

pub start_clock : (jobs : List Job) (j : Job) (past : List Entry) → KeepsRules jobs j past → HearsLooks j past → RanAtWait j past → (course j past).held ≡ [] → (clock : ℕ) → child_clock j past ≡ Some clock → events.start_time (course j past).told ≡ Some clock
start_clock jobs j past k l h none clock e =
    start_is 0 (course j past).told ∙ ap (λ (s : Seen). s.start) (sym (told_whole j 0 past none (looks_kept j past l))) ∙ (dates 0 jobs j past k h).start ∙ child_drawn j past k.start clock e

-- ---- what the child was started by

-- a start by the clock by which the ports were drawn, where each is a right one
right_now : (launch : Launch) (j : Job) (entry : Entry) (past : List Entry) → StartsRightly launch j (entry ∷ past) → starts_in_turn j (entry ∷ past) ≡ true → all_along (starts_in_turn j) past ≡ true
    → starts j entry ≡ true → (clock : ℕ) → time past ≡ clock → StartsAt launch j clock (entry ∷ past)
right_now launch j (made.Started job argv env dir did) past s t u e clock c =
    let n = eqb-true job j.number e in
    let d : is_some (drawn_clock j past) ≡ true = ap (λ (o : Option ℕ). is_some o) (is_number_is j (time past) (drawn_clock j past) (or_off (job == j.number) (is_number (time past) (drawn_clock j past)) (start_parts j (made.Started job argv env dir did) past t).1 e)) in
    inl (n, c, drawn_acked j past u d, s.0 n)
right_now launch j _ past s t u e clock c = cc

right_before : (launch : Launch) (j : Job) (entry : Entry) (past : List Entry) → StartsRightly launch j (entry ∷ past) → StartsRightly launch j past
right_before launch j (made.Started job argv env dir did) past s = s.1
right_before launch j _ past s = s

right_then : (launch : Launch) (j : Job) (clock : ℕ) (entry : Entry) (past : List Entry) → StartsAt launch j clock past → StartsAt launch j clock (entry ∷ past)
right_then launch j clock (made.Started job argv env dir did) past s = inr s
right_then launch j clock _ past s = s

right_along : (launch : Launch) (j : Job) (past : List Entry) → StartsRightly launch j past → all_along (starts_in_turn j) past ≡ true → (clock : ℕ) → child_clock j past ≡ Some clock → StartsAt launch j clock past
right_along launch j [] s t clock e = cc
right_along launch j (entry ∷ past) s t clock e = by (λ x. right_along launch j past (right_before launch j entry past s) p.1 clock x) (child_clock j past) refl
  where
    p : (starts_in_turn j (entry ∷ past) ≡ true) × (all_along (starts_in_turn j) past ≡ true)
    p = and_parts (starts_in_turn j (entry ∷ past)) (all_along (starts_in_turn j) past) t

    new : (b : Bool) → starts j entry ≡ b → (if b then Some (time past) else None) ≡ Some clock → StartsAt launch j clock (entry ∷ past)
    new true f g = right_now launch j entry past s p.0 p.1 f clock (inside g)
      where
        inside : Some (time past) ≡ Some clock → time past ≡ clock
        inside i = cc
    new false f g = cc

    by : (child_clock j past ≡ Some clock → StartsAt launch j clock past) → (o : Option ℕ) → child_clock j past ≡ o → StartsAt launch j clock (entry ∷ past)
    by ih (Some ms) f = right_then launch j clock entry past (ih (f ∙ sym (ap (λ v. or_later v (if starts j entry then Some (time past) else None)) f) ∙ e))
    by ih None f = new (starts j entry) refl (sym (ap (λ v. or_later v (if starts j entry then Some (time past) else None)) f) ∙ e)

pub right_start : (launch : Launch) (jobs : List Job) (j : Job) (past : List Entry) → StartsRightly launch j past → KeepsRules jobs j past → (clock : ℕ) → child_clock j past ≡ Some clock → StartsAt launch j clock past
right_start launch jobs j past s k clock e = right_along launch j past s k.start clock e
