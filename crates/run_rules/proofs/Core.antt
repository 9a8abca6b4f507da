-- While a job goes on its core was told all that the journal gives, and hasn't stopped.
use Rattle.std.proofs.Common.{◌≡◌, ℕ, zero, suc, List, [], ◌∷◌, length, drop, true, false, ◌||◌, not, Option, Some, None, refl, sym, ◌∙◌, ap, arith}
use Rattle.std.specs.Prelude.{is_some, nat_lt}
use Rattle.std.proofs.lemmas.Bool.{or_parts, false_from_ne_true, le-ltb, lt-ltb, ltb-true, ltb_from_iff}
use Rattle.std.proofs.lemmas.List.{length-map}
use Rattle.world.specs.declared.entry.Entry.{Entry}
use Rattle.cell_core.specs.declared.event.Event.{Event}
use Rattle.cell_core.specs.declared.why.Why.{Why}
use Rattle.cell_core.specs.Acts.{awaits_saved, heard, is_empty}
use Rattle.cell_core.specs.Events as events
use Rattle.cell_core.specs.Saves as core_saves
use Rattle.run_journal.specs.Job.{Job}
use Rattle.run_journal.specs.Parts.{saves_of}
use Rattle.run_journal.specs.Looks.{ever, is_lost, is_past, shows_lost}
use Rattle.run_journal.specs.Requests.{is_broken, last_request, requests}
use Rattle.run_journal.specs.Why.{is_done, is_error, why}
use Rattle.run_journal.specs.Saves.{Save, run_saves, saves, saves_by, saves_for}
use Rattle.run_journal.specs.Course.{course}
use Rattle.run_journal.specs.Agreement.{at_once, is_dated, BeginsUnread, EndsLooks, KeepsTime}
use Rattle.run_journal.proofs.Asking.{saves_agree}
use Rattle.run_journal.proofs.Dating.{Seen, held_is, seen, start_is, whole}
use Rattle.run_journal.proofs.Dropping.{all_heard, dropped, none_dropped, stops, told_whole}
use Rattle.run_journal.proofs.Finishing.{looks_end}
use Rattle.run_journal.proofs.Flowing.{course_agrees}
use Rattle.run_journal.proofs.Growth.{before_all}
use Rattle.run_journal.proofs.Interrupting.{none_holds}
use Rattle.run_journal.proofs.Keeping.{stopped_cause, unstopped_heard}
use Rattle.run_journal.proofs.Lapse.{first_ever}
use Rattle.run_journal.proofs.Lasting.{once_rows}
use Rattle.run_journal.proofs.Rereading.{begins_unread_by}
use Rattle.run_journal.proofs.Running.{running_parts}
use Rattle.run_journal.proofs.Settling.{why_settled}
use Rattle.run_journal.proofs.Telling.{lost_told}
use Rattle.run_journal.proofs.Turning.{dates}
use Rattle.run_journal.proofs.Unheld.{all_timely}
use Rattle.run_journal.specs.Agreement.{drawn_clock}
use Rattle.run_journal.specs.Requests.{first_clock}
use Rattle.run_rules.specs.Going.{GoesOn, IsOfRun}

no_cause : (o : Option Why) → o ≡ None → is_some o ≡ true → ⊥
no_cause None e f = cc
no_cause (Some w) e f = cc

-- ---- of each job of a run

module _ (jobs : List Job) (j : Job) (past : List Entry) (r : IsOfRun jobs j past) where
  pub unread : BeginsUnread j past
  unread = begins_unread_by jobs j past r.rules.among r.rules.awake r.reports

  pub time_kept : KeepsTime j past
  time_kept = (all_timely jobs j r.decodes r.planned r.limited past r.runs r.rules r.ran unread r.flows).0

  pub looks_over : EndsLooks j past
  looks_over = looks_end jobs j past r.rules r.ran r.waits

  -- its core's cause is the journal's
  pub cause_same : (course j past).held ≡ [] → core_saves.why j.task (course j past).told ≡ why j past
  cause_same none = why_settled jobs j past r.decodes r.planned r.limited r.rules r.ran unread r.flows time_kept looks_over none

-- ---- of one that goes on

module _ (jobs : List Job) (j : Job) (past : List Entry) (r : IsOfRun jobs j past) (g : GoesOn j past) where
  abbrev pub told : List Event
  told = (course j past).told

  pub no_core_cause : core_saves.why j.task told ≡ None
  no_core_cause = cause_same jobs j past r g.unheld ∙ g.unstopped

  pub core_goes_on : stops j told ≡ false
  core_goes_on = false_from_ne_true (stops j told) (λ s. no_cause (core_saves.why j.task told) no_core_cause (stopped_cause j r.planned past r.flows s))

  pub all_told : heard j.task told ≡ told
  all_told = unstopped_heard j told core_goes_on

  pub undated : events.came is_dated (dropped j past) ≡ false
  undated = ap (events.came is_dated) (none_dropped j past core_goes_on)

  pub unlost : is_lost j past ≡ false
  unlost = (none_holds j past g.unstopped).0

  pub unbroken : is_broken j past ≡ false
  unbroken =
      (or_parts (is_error j (last_request 0 (requests j past))) (is_broken j past)
      (or_parts (is_done j (saves_of j past) (requests j past)) (is_error j (last_request 0 (requests j past)) || is_broken j past)
      (sym (once_rows j past) ∙ ap (λ (o : Option Why). is_some (at_once o)) g.unstopped)).1).1

  -- ---- what it was told of the clock and of losses

  module _ (d : ℕ) where
    seen_whole : seen d told ≡ whole d j past
    seen_whole = sym (told_whole j d past g.unheld undated)

    -- the first turn's clock entry at or past a moment
    pub first_same : (seen d told).first ≡ first_clock d past
    first_same = ap (λ (s : Seen). s.first) seen_whole ∙ (dates d jobs j past r.rules r.ran).first

    pub passed_same : events.ever (events.is_turn_at d) told ≡ ever (is_past d) past
    passed_same = held_is d told ∙ ap (λ (o : Option ℕ). is_some o) first_same ∙ first_ever d past

  pub start_same : events.start_time told ≡ drawn_clock j past
  start_same = start_is 0 told ∙ ap (λ (s : Seen). s.start) (seen_whole 0) ∙ (dates 0 jobs j past r.rules r.ran).start

  pub lost_same : (course j past).late ≡ [] → events.ever events.is_lost told ≡ ever (shows_lost j) past
  lost_same late = lost_told j past (all_heard j past core_goes_on) g.unheld late

  -- ---- saves

  all_due : saves j past ≡ run_saves j (requests j past) (why j past)
  all_due = ap (saves_by j) (before_all j past (running_parts j past g.running).1) ∙ ap (λ v. saves_for j v (requests j past) (why j past)) r.runs

  count_same : length (core_saves.saves j.task told) ≡ length (saves j past)
  count_same =
      sym (length-map (core_saves.saves j.task told) (λ (p : core_saves.Prefix). p.settled))
      ∙ ap (λ (ns : List ℕ). length ns) (saves_agree j told past (course_agrees j past r.flows) (no_core_cause ∙ sym g.unstopped))
      ∙ length-map (run_saves j (requests j past) (why j past)) (λ (v : Save). v.settled)
      ∙ ap (λ (v : List Save). length v) (sym all_due)

  both_less : (n m : ℕ) → nat_lt n m ≡ nat_lt (suc n) (suc m)
  both_less n m = ltb_from_iff ((λ e. let h = ltb-true n m e in omega (arith, h)), λ h. lt-ltb n m (omega (arith, h)))

  left_over : (n : ℕ) (ps : List core_saves.Prefix) → not (is_empty (drop n ps)) ≡ nat_lt n (length ps)
  left_over zero [] = refl
  left_over zero (p ∷ ps) = sym (lt-ltb 0 (suc (length ps)) (omega arith))
  left_over (suc n) [] = sym (le-ltb (suc n) 0 (omega arith))
  left_over (suc n) (p ∷ ps) = left_over n ps ∙ both_less n (length ps)

  pub awaits_due : awaits_saved j.task told ≡ nat_lt (saves_of j past) (length (saves j past))
  awaits_due =
      ap (λ es. not (is_empty (core_saves.pending_saves j.task es))) all_told
      ∙ left_over (events.ack_count told) (core_saves.saves j.task told)
      ∙ ap (λ n. nat_lt n (length (core_saves.saves j.task told))) (course_agrees j past r.flows).acked
      ∙ ap (nat_lt (saves_of j past)) count_same
