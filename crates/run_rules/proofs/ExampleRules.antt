-- Journals at which the laws say something, and two at which a premise fails and so does the law.
use Rattle.std.proofs.Common.{◌≡◌, inl, ℕ, ◌<◌, List, [], ◌∷◌, ◌++◌, true, false, Option, Some, None, refl, reverse, arith}
use Rattle.std.proofs.lemmas.Option.{none-some, same_Some}
use Rattle.world.specs.declared.chan.Chan.{Chan}
use Rattle.world.specs.declared.chan.Chan.TheVariants.{Shell, Control, Iopub, Heart}
use Rattle.world.specs.declared.entry.Entry.{Entry}
use Rattle.world.specs.declared.entry.Entry.TheVariants as made
use Rattle.world.specs.declared.side.Side.TheVariants as side
use Rattle.cell_core.specs.declared.times.Times.{Times}
use Rattle.cell_core.specs.declared.event.Event.TheVariants as event
use Rattle.cell_core.specs.Acts.{awaits_saved, due_of, wants_look_of}
use Rattle.run_journal.specs.Job.{Job}
use Rattle.run_journal.specs.Arrivals.{arrive, is_shaken, can_ask, ask_on}
use Rattle.run_journal.specs.Looks.{is_look, can_ping, ping_on, is_silent, is_lost, ran_out}
use Rattle.run_journal.specs.Requests.{is_broken, is_interrupted}
use Rattle.run_journal.specs.Why.{bad_stream}
use Rattle.run_journal.specs.Awake.{deadlines, is_called_for}
use Rattle.run_journal.specs.Decoding.{IsDecoding}
use Rattle.run_journal.specs.Course.{course}
use Rattle.run_journal.specs.Agreement.{TellsRightly}
use Rattle.run_journal.proofs.Toy.{dry, got, job, one, put, toy_codec, wait}
use Rattle.run_journal.proofs.ExampleAwake.{asks}
use Rattle.run_rules.specs.Going.{GoesOn, IsOfRun}

-- a limit of a second is above 0
above : (ms : ℕ) → ◌≡◌ {A = Option ℕ} (Some 1000) (Some ms) → 0 < ms
above ms e = let s = same_Some 1000 ms e in omega (arith, s)

-- one cell, with these limits
abbrev limited : Times → Job
limited times = record one { task = record one.task { times = times } }

-- a turn in which nothing comes
abbrev turn : ℕ → ℕ → List Entry
turn limit ms = wait limit [] ∷ made.Moment ms ∷ made.Looked 0 None ∷ []

-- a turn that reports all connections
abbrev full_turn : ℕ → List Entry
full_turn ms = wait 500 (true ∷ true ∷ true ∷ []) ∷ made.Moment ms ∷ made.Looked 0 None ∷ []

-- the kernel's end of a connection
abbrev ended : Chan → Entry
ended c = made.Ended (record { job = 0; chan = c }) side.Read

-- ---- no reply within a second, with an interrupt

abbrev interrupting : Job
interrupting = limited (record { start_ms = 60000; limit_ms = Some 1000; interrupt = true })

-- the interrupt's own deadline has passed
abbrev unanswered : List Entry
unanswered = reverse (asks ++ turn 500 1040 ++ (wait 0 [] ∷ put one Control (203 ∷ 3 ∷ 1040 ∷ []) ∷ []) ++ turn 500 11040)

unanswered_reports : TellsRightly interrupting unanswered
unfolding arrive is_shaken can_ask ask_on is_look can_ping ping_on is_silent is_lost ran_out is_broken is_interrupted bad_stream
unanswered_reports Shell = refl
unanswered_reports Control = refl
unanswered_reports Iopub = refl
unanswered_reports Heart = refl

unanswered_is_of_run : IsDecoding toy_codec → IsOfRun (interrupting ∷ []) interrupting unanswered
unfolding arrive is_shaken can_ask ask_on is_look can_ping ping_on is_silent is_lost ran_out is_broken is_interrupted bad_stream
unanswered_is_of_run d = record {
  decodes = d;
  planned = omega arith;
  limited = λ ms e. above ms e;
  runs = refl;
  rules = record { among = inl refl; awake = record { only_awake = refl; waits_last_of_all = refl; short_for_a_cause = refl; reads_each = refl; reads_no_more = refl; up_to_date = refl; clock = refl; looks = refl; again = refl; only_refused = refl; early = refl; room = refl }; rising = refl; start = refl };
  ran = λ w. refl;
  reports = unanswered_reports;
  waits = refl;
  flows = refl;
}

unanswered_goes_on : GoesOn interrupting unanswered
unfolding arrive is_shaken can_ask ask_on is_look can_ping ping_on is_silent is_lost ran_out is_broken is_interrupted bad_stream
unanswered_goes_on = record { running = refl; unstopped = refl; unheld = refl }

unanswered_waits_for_nothing : ((course interrupting unanswered).late ≡ []) × (awaits_saved interrupting.task (course interrupting unanswered).told ≡ false)
unfolding arrive is_shaken can_ask ask_on is_look can_ping ping_on is_silent is_lost ran_out is_broken is_interrupted bad_stream
unanswered_waits_for_nothing = (refl, refl)

-- so the core wants a look at the deadline that its interrupt has set
unanswered_looks : (wants_look_of interrupting.task (course interrupting unanswered).told ≡ true) × (is_called_for interrupting unanswered ≡ true)
unfolding arrive is_shaken can_ask ask_on is_look can_ping ping_on is_silent is_lost ran_out is_broken is_interrupted bad_stream
unanswered_looks = (refl, refl)

unanswered_is_due : (due_of interrupting.task (course interrupting unanswered).told ≡ Some 11040) × (deadlines interrupting unanswered ≡ 11040 ∷ [])
unfolding arrive is_shaken can_ask ask_on is_look can_ping ping_on is_silent is_lost ran_out is_broken is_interrupted bad_stream
unanswered_is_due = (refl, refl)

-- ---- while a save is awaited the core wants no look

-- control ends; the look that follows brings the idle of the first of two cells, and its save is still to come
abbrev unsaved : List Entry
unsaved =
    reverse (asks ++ full_turn 50 ++ (got one Shell (3 ∷ 2 ∷ []) ∷ dry one Shell ∷ dry one Iopub ∷ ended Control ∷ [])
    ++ (wait 0 (false ∷ false ∷ true ∷ []) ∷ got one Iopub (1 ∷ 2 ∷ []) ∷ []))

unsaved_reports : TellsRightly job unsaved
unfolding arrive is_shaken can_ask ask_on is_look can_ping ping_on is_silent is_lost ran_out is_broken is_interrupted bad_stream
unsaved_reports Shell = refl
unsaved_reports Control = refl
unsaved_reports Iopub = refl
unsaved_reports Heart = refl

unsaved_is_of_run : IsDecoding toy_codec → IsOfRun (job ∷ []) job unsaved
unfolding arrive is_shaken can_ask ask_on is_look can_ping ping_on is_silent is_lost ran_out is_broken is_interrupted bad_stream
unsaved_is_of_run d = record {
  decodes = d;
  planned = omega arith;
  limited = λ ms e. absurd (none-some ms e);
  runs = refl;
  rules = record { among = inl refl; awake = record { only_awake = refl; waits_last_of_all = refl; short_for_a_cause = refl; reads_each = refl; reads_no_more = refl; up_to_date = refl; clock = refl; looks = refl; again = refl; only_refused = refl; early = refl; room = refl }; rising = refl; start = refl };
  ran = λ w. refl;
  reports = unsaved_reports;
  waits = refl;
  flows = refl;
}

unsaved_goes_on : GoesOn job unsaved
unfolding arrive is_shaken can_ask ask_on is_look can_ping ping_on is_silent is_lost ran_out is_broken is_interrupted bad_stream
unsaved_goes_on = record { running = refl; unstopped = refl; unheld = refl }

unsaved_differs : ((course job unsaved).late ≡ []) × (awaits_saved job.task (course job unsaved).told ≡ true) × (wants_look_of job.task (course job unsaved).told ≡ false) × (is_called_for job unsaved ≡ true)
unfolding arrive is_shaken can_ask ask_on is_look can_ping ping_on is_silent is_lost ran_out is_broken is_interrupted bad_stream
unsaved_differs = (refl, refl, refl, refl)

-- ---- while a loss waits for the end of a look the core doesn't know of it

abbrev timed : Job
timed = limited (record { start_ms = 60000; limit_ms = Some 1000; interrupt = false })

-- in a look for the reply that reply comes, and control ends
abbrev looking : List Entry
looking = reverse (asks ++ turn 500 1040 ++ (wait 0 (true ∷ true ∷ true ∷ []) ∷ got one Shell (3 ∷ 2 ∷ []) ∷ ended Control ∷ []))

looking_reports : TellsRightly timed looking
unfolding arrive is_shaken can_ask ask_on is_look can_ping ping_on is_silent is_lost ran_out is_broken is_interrupted bad_stream
looking_reports Shell = refl
looking_reports Control = refl
looking_reports Iopub = refl
looking_reports Heart = refl

looking_is_of_run : IsDecoding toy_codec → IsOfRun (timed ∷ []) timed looking
unfolding arrive is_shaken can_ask ask_on is_look can_ping ping_on is_silent is_lost ran_out is_broken is_interrupted bad_stream
looking_is_of_run d = record {
  decodes = d;
  planned = omega arith;
  limited = λ ms e. above ms e;
  runs = refl;
  rules = record { among = inl refl; awake = record { only_awake = refl; waits_last_of_all = refl; short_for_a_cause = refl; reads_each = refl; reads_no_more = refl; up_to_date = refl; clock = refl; looks = refl; again = refl; only_refused = refl; early = refl; room = refl }; rising = refl; start = refl };
  ran = λ w. refl;
  reports = looking_reports;
  waits = refl;
  flows = refl;
}

looking_goes_on : GoesOn timed looking
unfolding arrive is_shaken can_ask ask_on is_look can_ping ping_on is_silent is_lost ran_out is_broken is_interrupted bad_stream
looking_goes_on = record { running = refl; unstopped = refl; unheld = refl }

looking_differs : ((course timed looking).late ≡ event.Lost ∷ []) × (awaits_saved timed.task (course timed looking).told ≡ false) × (wants_look_of timed.task (course timed looking).told ≡ false) × (is_called_for timed looking ≡ true)
unfolding arrive is_shaken can_ask ask_on is_look can_ping ping_on is_silent is_lost ran_out is_broken is_interrupted bad_stream
looking_differs = (refl, refl, refl, refl)
