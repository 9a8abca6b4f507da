-- By the loop's rules no clock entry waits for a save, where the job runs its notebook.
use Rattle.std.proofs.Common.{◌≡◌, ◌⊎◌, inl, inr, ℕ, zero, suc, ◌+◌, ◌<◌, ◌≤◌, List, [], ◌∷◌, ◌++◌, length, Bool, true, false, ◌&&◌, not, cond, Option, Some, None, refl, sym, ◌∙◌, ap, arith}
use Rattle.std.specs.Prelude.{is_some, if◌then◌else◌, nat_lt, ◌==◌}
use Rattle.std.proofs.lemmas.List.{length-map, drop_all}
use Rattle.std.proofs.lemmas.Bool.{and_parts, and_from, cases_Bool, cond-true, cond-false, cond_both, eqb-true, ltb-true, false_from_ne_true, not-true, not_from_false}
use Rattle.std.proofs.Math.Bool.{and-not_self}
use Rattle.world.specs.declared.did.Did.TheVariants as did
use Rattle.world.specs.declared.entry.Entry.{Entry}
use Rattle.world.specs.declared.entry.Entry.TheVariants as made
use Rattle.world.specs.Waits.{is_wait, has_wait, is_after_wait, moment_of}
use Rattle.cell_core.specs.declared.event.Event.{Event}
use Rattle.cell_core.specs.declared.event.Event.TheVariants as event
use Rattle.cell_core.specs.declared.why.Why.{Why}
use Rattle.cell_core.specs.Task.{Task, cell_of}
use Rattle.cell_core.specs.Acts.{awaits_saved, has_stopped, heard, is_empty}
use Rattle.cell_core.specs.Events as events
use Rattle.cell_core.specs.Requests as core
use Rattle.cell_core.specs.Saves as core_saves
use Rattle.run_journal.specs.Job.{Job, Runs}
use Rattle.run_journal.specs.Parts.{turn_clock, saves_of, is_acknowledging, is_running, before_shut}
use Rattle.run_journal.specs.Looks.{is_look}
use Rattle.run_journal.specs.Requests.{is_broken, requests}
use Rattle.run_journal.specs.Why.{why}
use Rattle.run_journal.specs.Saves.{Save, saves, saves_by, saves_for, run_saves}
use Rattle.run_journal.specs.Due.{all_along}
use Rattle.run_journal.specs.Decoding.{IsDecoding}
use Rattle.run_journal.specs.Awake.{implies, is_called_for, is_look_due, keeps_up, reads_clock}
use Rattle.run_journal.specs.Course.{begins_at, when_so, ends_look, is_late, events_at, Course, tell, late_then, told_saved, course}
use Rattle.run_journal.specs.Agreement.{IsAmong, BeginsUnread, Flows, KeepsTime, keeps_time, at_once, draws, drawn_clock, starts_in_turn, holds_no_clock, KeepsRules}
use Rattle.run_journal.proofs.Growth.{before_all}
use Rattle.run_journal.proofs.Hearing.{none_unready}
use Rattle.run_journal.proofs.Flowing.{rest_at, events_are, core_nothing, told_parts, course_agrees, turn_at, lost_at, look_at}
use Rattle.run_journal.proofs.Asking.{saves_agree}
use Rattle.run_journal.proofs.Telling.{add_none, unread_before, unheld}
use Rattle.run_journal.proofs.Finding.{wait_shows_none}
use Rattle.run_journal.proofs.Dating.{clocks_at}
use Rattle.run_journal.proofs.Dropping.{stops}
use Rattle.run_journal.proofs.Running.{all_of, any_of, or_off, rules_before, running_parts, RanAtWait, ran_before, runs_at_wait, start_parts}
use Rattle.run_journal.proofs.Turning.{turn_none, wait_moment, drawn_then, clocks_none}
use Rattle.run_journal.proofs.Turns.{turn_is}
use Rattle.run_journal.proofs.Showing.{Shown, at, look, shown, shown_why}
use Rattle.run_journal.proofs.Keeping.{unstopped_heard, stopped_cause}
use Rattle.run_journal.proofs.Settling.{Given, given_before, unstopped_at, none_some}
use Rattle.run_journal.proofs.Clocking.{wait_brings, wait_unacked, broken_as, not_ready, not_at_once, events_clock, tell_none_held, held_awaits, GivesClock, gives_clock, gives_first, behind, behind_none}
use Rattle.run_journal.proofs.KeptTime.{time_next}
use Rattle.run_journal.proofs.Truths.{not_both, if_some}

-- ---- where the core awaits no save

-- as many saves are acknowledged as are due
unawaited : (j : Job) (told : List Event) → stops j told ≡ false → length (core_saves.saves j.task told) ≤ events.ack_count told → awaits_saved j.task told ≡ false
unawaited j told s h =
    ap (λ es. not (is_empty (core_saves.pending_saves j.task es))) (unstopped_heard j told s)
    ∙ ap (λ (ps : List core_saves.Prefix). not (is_empty ps)) (drop_all (events.ack_count told) (core_saves.saves j.task told) h)

none_is : (o : Option Why) → (is_some o ≡ true → ⊥) → o ≡ None
none_is None f = refl
none_is (Some w) f = absurd (f refl)

-- before a request stands one save is due
module _ (task : Task) (told : List Event) (none : (k : ℕ) → k < length task.plan → core.after task k told ≡ None) where
  none_below : (n : ℕ) → n ≤ length task.plan → core.last_below task n told ≡ None
  none_below zero p = refl
  none_below (suc n) p = ap (λ o. core.or_before n o (core.last_below task n told)) (none n (omega (arith, p))) ∙ none_below n (omega (arith, p))

  none_passes : (n : ℕ) → n ≤ length task.plan → core_saves.passes task n told ≡ []
  none_passes zero p = refl
  none_passes (suc n) p =
      ap (λ ps. ps ++ (if core.is_passed_in (core.after task n told) then record { settled = cell_of task n + 1; stopping_cell = None } ∷ [] else [])) (none_passes n (omega (arith, p)))
      ∙ ap (λ o. if core.is_passed_in o then record { settled = cell_of task n + 1; stopping_cell = None } ∷ [] else []) (none n (omega (arith, p)))

  one_save : 0 < length task.plan → core_saves.saves task told ≡ core_saves.after_preparation ∷ []
  one_save plan =
      let some : (length task.plan == 0) ≡ false = false_from_ne_true (length task.plan == 0) (λ e. let z = eqb-true (length task.plan) 0 e in absurd (omega (arith, z, plan))) in
      ap (λ o. ((core_saves.after_preparation ∷ core_saves.passes task (length task.plan) told) ++ core_saves.stopping task o (core_saves.why task told)) ++ core_saves.closing_after task o (core_saves.passes task (length task.plan) told)) (none_below (length task.plan) (omega arith))
      ∙ ap (λ ps. ((core_saves.after_preparation ∷ ps) ++ []) ++ core_saves.closing_after task None ps) (none_passes (length task.plan) (omega arith))
      ∙ ap (λ b. core_saves.after_preparation ∷ (if b && nat_lt (core_saves.last_settled 0 []) task.cells then record { settled = task.cells; stopping_cell = None } ∷ [] else [])) some

module _ (jobs : List Job) (j : Job) (dec : IsDecoding j.codec) (plan : 0 < length j.task.plan) (limits : (ms : ℕ) → j.task.times.limit_ms ≡ Some ms → 0 < ms) where
  abbrev Stopped : (past : List Entry) → Given jobs j past → Type 0
  Stopped past g = Shown jobs j past g.rules g.ran g.flows g.time plan dec g.unread limits

  -- where nothing has stopped the job, nothing has stopped its core
  unstopped_core : (past : List Entry) (g : Given jobs j past) → (Stopped past g → ⊥) → (stops j (course j past).told ≡ false) × (core_saves.why j.task (course j past).told ≡ None)
  unstopped_core past g f = (
    false_from_ne_true (stops j (course j past).told) (λ s. f (shown jobs j past g.rules g.ran g.flows g.time plan dec g.unread limits (stopped_cause j plan past g.flows s))),
    none_is (core_saves.why j.task (course j past).told) (λ e. f (shown jobs j past g.rules g.ran g.flows g.time plan dec g.unread limits e)),
  )

  -- ---- at a wait

  wait_acked : (entry : Entry) (past : List Entry) → IsAmong j jobs → is_wait entry ≡ true → keeps_up jobs (entry ∷ past) ≡ true → is_running j past ≡ true → saves_of j past ≡ length (saves j past)
  wait_acked (made.Waited ms reports how) past m w e r =
      let p = (and_parts _ _ e).1 in
      let q : implies (is_running j past) (saves_of j past == length (saves j past) && not (is_some (why j (before_shut j past)))) ≡ true
      = all_of (λ i. implies (is_running i past) (saves_of i past == length (saves i past) && not (is_some (why i (before_shut i past))))) jobs j m p in
      eqb-true (saves_of j past) (length (saves j past)) (and_parts (saves_of j past == length (saves j past)) (not (is_some (why j (before_shut j past)))) (sym (cond-true (is_running j past) _ true r) ∙ q)).0
  wait_acked _ past m w e r = cc

  -- the core awaits no save
  calm_wait : (entry : Entry) (past : List Entry) → Given jobs j (entry ∷ past) → Given jobs j past → j.given ≡ Runs → is_wait entry ≡ true → (stops j (course j past).told ≡ false) × (awaits_saved j.task (course j past).told ≡ false)
  calm_wait entry past g b runs w = (c.0, unawaited j told c.0 (let a = counted in omega (arith, a)))
    where
      told : List Event
      told = (course j past).told

      none : why j past ≡ None
      none = unstopped_at jobs j dec plan limits entry past g w

      c : (stops j told ≡ false) × (core_saves.why j.task told ≡ None)
      c = unstopped_core past b (λ s. none_some jobs j dec plan limits (why j past) none (shown_why jobs j past b.rules b.ran b.flows b.time plan dec b.unread limits s))

      running : is_running j past ≡ true
      running = runs_at_wait jobs j entry past g.rules g.ran w

      due : saves j past ≡ run_saves j (requests j past) (why j past)
      due = ap (saves_by j) (before_all j past (running_parts j past running).1) ∙ ap (λ v. saves_for j v (requests j past) (why j past)) runs

      settled : length (core_saves.saves j.task told) ≡ length (run_saves j (requests j past) (why j past))
      settled =
          sym (length-map (core_saves.saves j.task told) (λ (p : core_saves.Prefix). p.settled))
          ∙ ap (λ (ns : List ℕ). length ns) (saves_agree j told past (course_agrees j past b.flows) (c.1 ∙ sym none))
          ∙ length-map (run_saves j (requests j past) (why j past)) (λ (v : Save). v.settled)

      counted : length (core_saves.saves j.task told) ≡ events.ack_count told
      counted =
          settled ∙ ap (λ (v : List Save). length v) (sym due)
          ∙ sym (wait_acked entry past g.rules.among w (and_parts (keeps_up jobs (entry ∷ past)) (all_along (keeps_up jobs) past) g.rules.awake.up_to_date).0 running)
          ∙ sym (course_agrees j past b.flows).acked

  -- before the first wait
  calm_first : (past : List Entry) → Given jobs j past → has_wait past ≡ false → 0 < saves_of j past → (stops j (course j past).told ≡ false) × (awaits_saved j.task (course j past).told ≡ false)
  calm_first past g w n = (c.0, unawaited j told c.0 (let a = counted.0 in let b = counted.1 in omega (arith, a, b, n)))
    where
      told : List Event
      told = (course j past).told

      unshown : Stopped past g → ⊥
      unshown (look v x y z) = not_both (has_wait past) v w
      unshown (at y) = not_both (is_some (at_once (why j past))) y (not_at_once jobs j g.rules.among dec plan past g.rules.awake.only_awake w)

      c : (stops j told ≡ false) × (core_saves.why j.task told ≡ None)
      c = unstopped_core past g unshown

      no_requests : length (requests j past) ≡ 0
      no_requests = ap (λ rs. length rs) (none_unready j past (not_ready jobs j g.rules.among past g.rules.awake.only_awake w))

      counted : (length (core_saves.saves j.task told) ≡ 1) × (events.ack_count told ≡ saves_of j past)
      counted = (
        ap (λ (ps : List core_saves.Prefix). length ps) (one_save j.task told (λ k p. (course_agrees j past g.flows).none k p (omega (arith, no_requests))) plan),
        (course_agrees j past g.flows).acked,
      )

  -- ---- at a clock entry after a wait

  -- that wait gave nothing
  ends_none : (entry : Entry) (last : Entry) (past : List Entry) → IsAmong j jobs → is_wait last ≡ true → is_some (moment_of entry) ≡ true → reads_clock jobs (entry ∷ last ∷ past) ≡ true → ends_look j last past ≡ false
  unfolding is_look
  ends_none (made.Moment ms) (made.Waited limit reports did.Done) past m w e r =
      off (is_called_for j past) (is_look j (made.Waited limit reports did.Done ∷ past)) (false_from_ne_true (is_called_for j past) (λ f. not_both (is_look_due jobs past) (any_of (λ i. is_called_for i past) jobs j m f) (not-true (is_look_due jobs past) r)))
    where
      off : (x y : Bool) → x ≡ false → ((x && y) && true) ≡ false
      off true y f = cc
      off false y f = refl
  ends_none (made.Moment ms) (made.Waited limit reports did.Failed) past m w e r = off (is_called_for j past)
    where
      off : (x : Bool) → ((x && false) && true) ≡ false
      off true = refl
      off false = refl
  ends_none (made.Moment ms) _ past m w e r = cc
  ends_none _ last past m w e r = cc

  wait_draws : (entry : Entry) → is_wait entry ≡ true → draws j entry ≡ false
  wait_draws (made.Waited ms reports how) w = refl
  wait_draws _ w = cc

  wait_none : (entry : Entry) (past : List Entry) → Given jobs j (entry ∷ past) → is_wait entry ≡ true → ends_look j entry past ≡ false → events_at j entry past (course j past).late ≡ []
  wait_none entry past g w e =
      events_are j entry past (course j past).late
      ∙ ap (λ v. v ++ rest_at j entry past (course j past).late) (core_nothing j entry past (wait_brings j entry past w))
      ∙ ap (λ b. when_so (b && not (is_broken j past)) event.Broken ++ begins_at j entry past ++ turn_at j entry past ++ lost_at j entry past ++ look_at j entry past (course j past).late) (broken_as j entry past (wait_brings j entry past w))
      ∙ ap (λ b. when_so b event.Broken ++ begins_at j entry past ++ turn_at j entry past ++ lost_at j entry past ++ look_at j entry past (course j past).late) (and-not_self (is_broken j past))
      ∙ ap (λ v. (v ++ lost_at j entry past) ++ look_at j entry past (course j past).late) (clocks_none 0 jobs j entry past g.rules g.ran (wait_draws entry w) (turn_none entry past (wait_moment entry w)))
      ∙ ap (λ b. when_so (b && not (is_late j entry past)) event.Lost ++ look_at j entry past (course j past).late) (wait_shows_none j entry past w)
      ∙ cond-false (ends_look j entry past) _ [] e

  -- so nothing was told at it
  wait_told : (entry : Entry) (past : List Entry) → Given jobs j (entry ∷ past) → is_wait entry ≡ true → ends_look j entry past ≡ false → (course j past).held ≡ [] → (course j (entry ∷ past)).told ≡ (course j past).told
  wait_told entry past g w e h =
      let c : Course = course j past in
      let late0 : List Event = late_then j entry past c.late in
      ap (λ t. (tell j t late0 (c.held ++ events_at j entry past c.late)).told) (cond-false (is_acknowledging j (entry ∷ past)) (event.Saved ∷ c.told) c.told (wait_unacked j entry past w))
      ∙ ap (λ es. (tell j c.told late0 (c.held ++ es)).told) (wait_none entry past g w e)
      ∙ ap (λ hs. (tell j c.told late0 (hs ++ [])).told) h

  none_held : (past : List Entry) → awaits_saved j.task (course j past).told ≡ false → (course j past).held ≡ []
  none_held past e = by (course j past).held refl
    where
      by : (es : List Event) → (course j past).held ≡ es → (course j past).held ≡ []
      by [] f = f
      by (x ∷ xs) f = absurd (not_both (awaits_saved j.task (course j past).told) (held_awaits j past x xs f) e)

  calm_after : (entry : Entry) (past : List Entry) → Given jobs j (entry ∷ past) → Given jobs j past → j.given ≡ Runs → is_after_wait past ≡ true → is_some (moment_of entry) ≡ true → (stops j (course j past).told ≡ false) × (awaits_saved j.task (course j past).told ≡ false)
  calm_after entry [] g b runs w m = cc
  calm_after entry (last ∷ past) g b runs w m =
      let c = calm_wait last past b (given_before jobs j last past b) runs w in
      let e = ends_none entry last past g.rules.among w m (and_parts (reads_clock jobs (entry ∷ last ∷ past)) (all_along (reads_clock jobs) (last ∷ past)) g.rules.awake.clock).0 in
      let same = wait_told last past b w e (none_held past c.1) in
      (ap (stops j) same ∙ c.0, ap (awaits_saved j.task) same ∙ c.1)

  -- ---- at each clock entry

  calm_clock : (entry : Entry) (past : List Entry) → Given jobs j (entry ∷ past) → Given jobs j past → j.given ≡ Runs → events.came events.is_moment (clocks_at j entry past) ≡ true → (stops j (course j past).told ≡ false) × (awaits_saved j.task (course j past).told ≡ false)
  calm_clock entry past g b runs e = elim (cases_Bool (has_wait past)) [
    | inl w ↦ waited w (moment_of entry) refl
    | inr w ↦ calm_first past b w (first w (cases_Bool (draws j entry)))
  ]
    where
      none : (draws j entry ≡ false) → turn_clock (entry ∷ past) ≡ None → ⊥
      none d t = not_both (events.came events.is_moment (clocks_at j entry past)) e (ap (events.came events.is_moment) (clocks_none 0 jobs j entry past g.rules g.ran d t))

      start : draws j entry ≡ true → (not (is_some (drawn_clock j past)) && nat_lt 0 (saves_of j past)) ≡ true
      start d = or_off (draws j entry) _ (start_parts j entry past (and_parts (starts_in_turn j (entry ∷ past)) (all_along (starts_in_turn j) past) g.rules.start).0).0 d

      undrawn : has_wait past ≡ true → draws j entry ≡ false
      undrawn w = false_from_ne_true (draws j entry) (λ d.
          not_both (is_some (drawn_clock j past)) (drawn_then 0 jobs j entry past g.rules g.ran w) (not-true (is_some (drawn_clock j past)) (and_parts (not (is_some (drawn_clock j past))) (nat_lt 0 (saves_of j past)) (start d)).0))

      waited : has_wait past ≡ true → (o : Option ℕ) → moment_of entry ≡ o → (stops j (course j past).told ≡ false) × (awaits_saved j.task (course j past).told ≡ false)
      waited w None f = absurd (none (undrawn w) (turn_none entry past f))
      waited w (Some ms) f =
          calm_after entry past g b runs
          (if_some (is_after_wait past) (moment_of entry) ms (sym (turn_is jobs entry past (and_parts (reads_clock jobs (entry ∷ past)) (all_along (reads_clock jobs) past) g.rules.awake.clock).0) ∙ cond-true (has_wait past) (moment_of entry) None w ∙ f))
          (ap (λ (o : Option ℕ). is_some o) f)

      first : has_wait past ≡ false → (draws j entry ≡ true) ⊎ (draws j entry ≡ false) → 0 < saves_of j past
      first w (inl d) = ltb-true 0 (saves_of j past) (and_parts (not (is_some (drawn_clock j past))) (nat_lt 0 (saves_of j past)) (start d)).1
      first w (inr d) = absurd (none d (cond-false (has_wait past) (moment_of entry) None w))

  unheld_next : (entry : Entry) (past : List Entry) → Given jobs j (entry ∷ past) → Given jobs j past → j.given ≡ Runs → events.came events.is_moment (course j past).held ≡ false → events.came events.is_moment (course j (entry ∷ past)).held ≡ false
  unheld_next entry past g b runs n = elim (cases_Bool (events.came events.is_moment (clocks_at j entry past))) [
    | inr e ↦ tell_none_held j events.is_moment told0 late0 (c.held ++ es) (add_none events.is_moment c.held es false n (events_clock j entry past e))
    | inl e ↦ first (calm_clock entry past g b runs e) (gives_clock j entry past e)
  ]
    where
      c : Course
      c = course j past

      es : List Event
      es = events_at j entry past c.late

      told0 : List Event
      told0 = told_saved j entry past c.told

      late0 : List Event
      late0 = late_then j entry past c.late

      goes_on : (told late rest : List Event) (ms : ℕ) → stops j told ≡ false → awaits_saved j.task told ≡ false → events.came events.is_moment rest ≡ false → events.came events.is_moment (tell j told late (event.Moment ms ∷ rest)).held ≡ false
      goes_on told late rest ms s a m =
          cond_both (has_stopped j.task (heard j.task told)) (record { told = told; held = []; late = []; unheard = event.Moment ms ∷ rest })
          (cond (awaits_saved j.task told) (record { told = told; held = event.Moment ms ∷ rest; late = late; unheard = [] }) (tell j (event.Moment ms ∷ told) late rest)) (λ (c : Course). events.came events.is_moment c.held ≡ false) (λ h. refl)
          (λ h. cond_both (awaits_saved j.task told) (record { told = told; held = event.Moment ms ∷ rest; late = late; unheard = [] }) (tell j (event.Moment ms ∷ told) late rest) (λ (c : Course). events.came events.is_moment c.held ≡ false)
          (λ v. absurd (not_both (awaits_saved j.task told) v a)) (λ v. tell_none_held j events.is_moment (event.Moment ms ∷ told) late rest m))

      first : (stops j c.told ≡ false) × (awaits_saved j.task c.told ≡ false) → GivesClock j entry past → events.came events.is_moment (course j (entry ∷ past)).held ≡ false
      first q v =
          ap (λ t. events.came events.is_moment (tell j t late0 (c.held ++ es)).held) (cond-false (is_acknowledging j (entry ∷ past)) (event.Saved ∷ c.told) c.told v.unacked)
          ∙ ap (λ xs. events.came events.is_moment (tell j c.told late0 (c.held ++ xs)).held) (gives_first j entry past v)
          ∙ ap (λ hs. events.came events.is_moment (tell j c.told late0 (hs ++ event.Moment v.ms ∷ behind j entry past v)).held) (none_held past q.1)
          ∙ goes_on c.told late0 (behind j entry past v) v.ms q.0 q.1 (behind_none j entry past v)

  -- ---- along a journal

  -- no clock entry waits, and the core's clock is the journal's
  pub all_timely : (past : List Entry) → j.given ≡ Runs → KeepsRules jobs j past → RanAtWait j past → BeginsUnread j past → Flows j past → (KeepsTime j past) × (all_along (holds_no_clock j) past ≡ true)
  all_timely [] runs k h u f = (refl, refl)
  all_timely (entry ∷ past) runs k h u f =
      let v = unread_before j entry past u in
      let i = all_timely past runs (rules_before jobs j entry past k) (ran_before jobs j entry past k h) v.1 (told_parts j entry past f).2 in
      let b : Given jobs j past = record { rules = rules_before jobs j entry past k; ran = ran_before jobs j entry past k h; flows = (told_parts j entry past f).2; time = i.0; unread = v.1 } in
      let t : KeepsTime j (entry ∷ past) = and_from (keeps_time j (entry ∷ past)) (all_along (keeps_time j) past) (time_next jobs j dec plan limits entry past b i.1) i.0 in
      let g : Given jobs j (entry ∷ past) = record { rules = k; ran = h; flows = f; time = t; unread = u } in (
        t,
        and_from (holds_no_clock j (entry ∷ past)) (all_along (holds_no_clock j) past)
            (not_from_false (events.came events.is_moment (course j (entry ∷ past)).held) (unheld_next entry past g b runs (unheld j past i.1))) i.1,
      )
