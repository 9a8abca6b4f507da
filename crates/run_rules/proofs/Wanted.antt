-- The core of a job that goes on wants a look exactly where the journal calls for one.
use Rattle.std.proofs.Common.{◌≡◌, ℕ, List, [], false, ◌&&◌, ◌||◌, not, Option, Some, None, refl, sym, ◌∙◌, ap}
use Rattle.std.specs.Prelude.{is_none, option_to_list}
use Rattle.std.proofs.Math.Bool.{or-false}
use Rattle.world.specs.declared.entry.Entry.{Entry}
use Rattle.cell_core.specs.declared.event.Event.{Event}
use Rattle.cell_core.specs.declared.why.Why.{Why}
use Rattle.cell_core.specs.Acts.{awaits_saved, calls_for_look, due_at, heard, wants_look_of}
use Rattle.cell_core.specs.Deadlines.{passed_by}
use Rattle.cell_core.specs.Requests as core
use Rattle.cell_core.specs.Saves as core_saves
use Rattle.run_journal.specs.Job.{Job}
use Rattle.run_journal.specs.Looks.{ever, is_past, shows_lost}
use Rattle.run_journal.specs.Awake.{deadlines, has_passed, is_called_for}
use Rattle.run_journal.specs.Course.{course}
use Rattle.run_rules.specs.Going.{GoesOn, IsOfRun}
use Rattle.run_rules.proofs.Core.{all_told, lost_same, no_core_cause, passed_same}
use Rattle.run_rules.proofs.Standing.{stands_same}

module _ (jobs : List Job) (j : Job) (past : List Entry) (r : IsOfRun jobs j past) (g : GoesOn j past) where
  abbrev told : List Event
  told = (course j past).told

  -- a turn's clock entry at or past a deadline, where there is one, was read
  passed_one : (o : Option ℕ) → passed_by o told ≡ has_passed (option_to_list o) past
  passed_one None = refl
  passed_one (Some d) = passed_same jobs j past r g d ∙ sym (or-false (ever (is_past d) past))

  calls_same : (course j past).late ≡ [] → calls_for_look j.task told ≡ (ever (shows_lost j) past || has_passed (deadlines j past) past)
  calls_same late =
      ap (λ b. b || passed_by (due_at j.task (core.standing j.task told) told) told) (lost_same jobs j past r g late)
      ∙ ap (λ b. ever (shows_lost j) past || b) (passed_one (due_at j.task (core.standing j.task told) told) ∙ ap (λ ats. has_passed ats past) (stands_same jobs j past r g))

  pub wanted_same : (course j past).late ≡ [] → awaits_saved j.task told ≡ false → wants_look_of j.task told ≡ is_called_for j past
  wanted_same late saved =
      ap (λ b. not b && is_none (core_saves.why j.task (heard j.task told)) && calls_for_look j.task (heard j.task told)) saved
      ∙ ap (λ es. is_none (core_saves.why j.task es) && calls_for_look j.task es) (all_told jobs j past r g)
      ∙ ap (λ (w : Option Why). is_none w && calls_for_look j.task told) (no_core_cause jobs j past r g)
      ∙ calls_same late
      ∙ ap (λ b. b && (ever (shows_lost j) past || has_passed (deadlines j past) past)) (sym g.running)
