-- What a core answers that was told what the journal gives.
use Rattle.std.proofs.Common.{◌≡◌, ℕ, List, [], Bool, true, false, ◌&&◌, not, Option, Some, None, refl, sym, ◌∙◌, ap, subst}
use Rattle.std.specs.Prelude.{is_some, option_to_list}
use Rattle.world.specs.declared.entry.Entry.{Entry}
use Rattle.cell_core.specs.declared.event.Event.{Event}
use Rattle.cell_core.specs.declared.machine.Core.{Core}
use Rattle.cell_core.specs.declared.why.Why.{Why}
use Rattle.cell_core.specs.Acts.{awaits_saved, due_of, heard, is_empty, wants_look_of}
use Rattle.cell_core.specs.Holds.{due_in, looks_in}
use Rattle.cell_core.specs.Saves as core_saves
use Rattle.cell_core.specs.StandsFor.{StandsFor, awaits_saved_of, task_of}
use Rattle.cell_core.proofs.Looks.{looks_is}
use Rattle.cell_core.proofs.Runs.{due_is}
use Rattle.run_journal.specs.Job.{Job}
use Rattle.run_journal.specs.Parts.{is_running}
use Rattle.run_journal.specs.Why.{why}
use Rattle.run_journal.specs.Awake.{deadlines, is_called_for}
use Rattle.run_journal.specs.Course.{course}
use Rattle.run_journal.proofs.Keeping.{unstopped_heard}
use Rattle.job_journal.specs.Told.{IsToldBut}
use Rattle.job_journal.proofs.Calculus.{told_whole}
use Rattle.run_rules.specs.Going.{GoesOn, IsOfRun}
use Rattle.run_rules.proofs.Core.{cause_same}
use Rattle.run_rules.proofs.Standing.{due_same}
use Rattle.run_rules.proofs.Wanted.{wanted_same}

-- ---- a core that stands for the course

module _ (jobs : List Job) (j : Job) (core : Core) (past : List Entry) (r : IsOfRun jobs j past) (g : GoesOn j past) where
  abbrev told : List Event
  told = (course j past).told

  unawaited : StandsFor core told → task_of core ≡ j.task → awaits_saved_of core ≡ false → awaits_saved j.task told ≡ false
  unawaited h same saved = ap (λ t. awaits_saved t told) (sym same) ∙ sym h.awaited ∙ saved

  -- what any answer is that a core's contract gives
  pub answer_looks : (late : (course j past).late ≡ []) (h : StandsFor core told) (same : task_of core ≡ j.task) → awaits_saved_of core ≡ false → wants_look_of (task_of core) told ≡ is_called_for j past
  answer_looks late h same saved = ap (λ t. wants_look_of t told) same ∙ wanted_same jobs j past r g late (unawaited h same saved)

  pub answer_due : task_of core ≡ j.task → option_to_list (due_of (task_of core) told) ≡ deadlines j past
  answer_due same = ap (λ t. option_to_list (due_of t told)) same ∙ due_same jobs j past r g

  pub holds_looks : (late : (course j past).late ≡ []) (h : StandsFor core told) (same : task_of core ≡ j.task) → awaits_saved_of core ≡ false → looks_in core.clock core.lost core.state ≡ is_called_for j past
  holds_looks late h same saved = sym (looks_is (task_of core) core.clock core.lost core.state told h.so (sym h.awaited)) ∙ answer_looks late h same saved

  pub holds_due : StandsFor core told → task_of core ≡ j.task → option_to_list (due_in core.state) ≡ deadlines j past
  holds_due h same = ap (λ (o : Option ℕ). option_to_list o) (sym (due_is (task_of core) core.clock core.lost core.state told h.so)) ∙ answer_due same

-- ---- one that has nothing more to be told

none_left : (o : Option Why) (b : Bool) → (is_some o && b) ≡ false → not b ≡ false → o ≡ None
none_left (Some w) true e f = cc
none_left (Some w) false e f = cc
none_left None b e f = refl

module _ (jobs : List Job) (j : Job) (core : Core) (past : List Entry) (r : IsOfRun jobs j past) (t : IsToldBut j core [] past) (saved : awaits_saved_of core ≡ false) (same : task_of core ≡ j.task) where
  told_is : (course j past).told ≡ t.told
  told_is = (told_whole j core past t).0

  unheld : (course j past).held ≡ []
  unheld = (told_whole j core past t).1

  heard_is : heard j.task t.told ≡ t.told
  heard_is = unstopped_heard j t.told t.hears.goes_on

  core_unstopped : core_saves.why j.task (heard j.task t.told) ≡ None
  core_unstopped =
      none_left (core_saves.why j.task (heard j.task t.told)) (is_empty (core_saves.pending_saves j.task (heard j.task t.told))) t.hears.goes_on
      (ap (λ v. awaits_saved v t.told) (sym same) ∙ sym t.hears.stands.awaited ∙ saved)

  -- nothing has stopped the job
  pub unstopped : why j past ≡ None
  unstopped = sym (cause_same jobs j past r unheld) ∙ ap (core_saves.why j.task) (told_is ∙ sym heard_is) ∙ core_unstopped

  stands : StandsFor core (course j past).told
  stands = subst (StandsFor core) (sym told_is) t.hears.stands

  going : is_running j past ≡ true → GoesOn j past
  going runs = record { running = runs; unstopped = unstopped; unheld = unheld }

  pub told_looks : is_running j past ≡ true → (course j past).late ≡ [] → (answer : Bool) → ((events : List Event) → StandsFor core events → answer ≡ wants_look_of (task_of core) events) → answer ≡ is_called_for j past
  told_looks runs late answer f = f (course j past).told stands ∙ answer_looks jobs j core past r (going runs) late stands same saved

  pub told_due : is_running j past ≡ true → (answer : Option ℕ) → ((events : List Event) → StandsFor core events → answer ≡ due_of (task_of core) events) → option_to_list answer ≡ deadlines j past
  told_due runs answer f = ap (λ (o : Option ℕ). option_to_list o) (f (course j past).told stands) ∙ answer_due jobs j core past r (going runs) same
