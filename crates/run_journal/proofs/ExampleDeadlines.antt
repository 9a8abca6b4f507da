-- Runs that keep the loop's rules and end by a deadline.
use Rattle.std.proofs.Common.{◌≡◌, inl, ℕ, List, [], ◌∷◌, ◌++◌, Bool, true, false, Some, None, refl, reverse}
use Rattle.world.specs.declared.chan.Chan.TheVariants.{Shell, Control, Iopub}
use Rattle.world.specs.declared.entry.Entry.{Entry}
use Rattle.world.specs.declared.entry.Entry.TheVariants as made
use Rattle.world.specs.declared.side.Side.TheVariants as side
use Rattle.world.specs.Waits.{before_wait}
use Rattle.cell_core.specs.declared.times.Times.{Times}
use Rattle.cell_core.specs.declared.why.Why.TheVariants as cause
use Rattle.cell_core.specs.declared.act.Act.TheVariants as act
use Rattle.cell_core.specs.declared.event.Event.TheVariants as event
use Rattle.cell_core.specs.Acts.{act_of}
use Rattle.cell_core.specs.Deadlines.{is_queued}
use Rattle.cell_core.specs.Events.{start_time}
use Rattle.cell_core.specs.Saves as core_saves
use Rattle.run_journal.specs.Job.{Job, Runs}
use Rattle.run_journal.specs.Parts.{is_running}
use Rattle.run_journal.specs.Arrivals.{arrive, is_shaken, can_ask, ask_on}
use Rattle.run_journal.specs.Looks.{is_look, can_ping, ping_on, is_silent, is_lost, ran_out}
use Rattle.run_journal.specs.Requests.{is_broken, is_interrupted}
use Rattle.run_journal.specs.Why.{bad_stream, child_clock, why}
use Rattle.run_journal.specs.Due.{all_along}
use Rattle.run_journal.specs.Course.{course}
use Rattle.run_journal.specs.Agreement.{is_heard, hears_looks, HearsLooks, hears, Hears, Flows, KeepsTime, KeepsRules, holds_no_clock, reads_late, tells_rightly, waits_on}
use Rattle.run_journal.proofs.Toy.{saved, got, put, dry, wait, one}
use Rattle.run_journal.proofs.ExampleAwake.{begins, asks}

-- one cell, with these limits
abbrev limited : Times → Job
limited times = record one { task = record one.task { times = times } }

-- a turn in which nothing comes
abbrev turn : ℕ → ℕ → List Entry
turn limit ms = wait limit [] ∷ made.Moment ms ∷ made.Looked 0 None ∷ []

-- ---- no readiness

-- 100 ms to become ready, and the kernel says nothing
abbrev hasty : Job
hasty = limited (record { start_ms = 100; limit_ms = None; interrupt = false })

abbrev unready : List Entry
unready = reverse (begins ++ turn 100 110 ++ wait 0 [] ∷ [])

-- ---- no idle

abbrev patient : Job
patient = limited (record { start_ms = 60000; limit_ms = None; interrupt = false })

abbrev unidle : List Entry
unidle =
    reverse (asks ++ (wait 500 (true ∷ []) ∷ made.Moment 50 ∷ made.Looked 0 None ∷ got one Shell (3 ∷ 2 ∷ []) ∷ dry one Shell ∷ []) ++ turn 500 4050 ++ wait 0 [] ∷ [])

-- ---- no reply

-- a second for each cell
abbrev timed : Job
timed = limited (record { start_ms = 60000; limit_ms = Some 1000; interrupt = false })

abbrev late : List Entry
late = reverse (asks ++ turn 500 1040 ++ wait 0 [] ∷ [])

-- then an interrupt
abbrev interrupting : Job
interrupting = limited (record { start_ms = 60000; limit_ms = Some 1000; interrupt = true })

abbrev later : List Entry
later = reverse (asks ++ turn 500 1040 ++ (wait 0 [] ∷ put one Control (203 ∷ 3 ∷ 1040 ∷ []) ∷ []) ++ turn 500 11040 ++ wait 0 [] ∷ [])

-- hasty: all premises of the laws hold
unready_rules : KeepsRules (hasty ∷ []) hasty unready
unfolding arrive is_shaken can_ask ask_on is_look can_ping ping_on is_silent is_lost ran_out is_broken is_interrupted bad_stream
unready_rules = record { among = inl refl; awake = record { only_awake = refl; waits_last_of_all = refl; short_for_a_cause = refl; reads_each = refl; reads_no_more = refl; up_to_date = refl; clock = refl; looks = refl; again = refl; only_refused = refl; early = refl; room = refl }; rising = refl; start = refl }

unready_runs : is_running hasty (before_wait unready) ≡ true
unfolding arrive is_shaken can_ask ask_on is_look can_ping ping_on is_silent is_lost ran_out is_broken is_interrupted bad_stream
unready_runs = refl

unready_hears : HearsLooks hasty unready
unfolding arrive is_shaken can_ask ask_on is_look can_ping ping_on is_silent is_lost ran_out is_broken is_interrupted bad_stream
unready_hears = refl

unready_flows : Flows hasty unready
unfolding arrive is_shaken can_ask ask_on is_look can_ping ping_on is_silent is_lost ran_out is_broken is_interrupted bad_stream
unready_flows = refl

unready_keeps_time : KeepsTime hasty unready
unfolding arrive is_shaken can_ask ask_on is_look can_ping ping_on is_silent is_lost ran_out is_broken is_interrupted bad_stream
unready_keeps_time = refl

unready_waits : all_along waits_on unready ≡ true
unfolding arrive is_shaken can_ask ask_on is_look can_ping ping_on is_silent is_lost ran_out is_broken is_interrupted bad_stream
unready_waits = refl

unready_tells : ◌≡◌ {A = List Bool} (all_along (tells_rightly hasty Shell) unready ∷ all_along (tells_rightly hasty Control) unready ∷ all_along (tells_rightly hasty Iopub) unready ∷ []) (true ∷ true ∷ true ∷ [])
unfolding arrive is_shaken can_ask ask_on is_look can_ping ping_on is_silent is_lost ran_out is_broken is_interrupted bad_stream
unready_tells = refl

unready_reads_late : all_along (reads_late hasty) unready ≡ true
unfolding arrive is_shaken can_ask ask_on is_look can_ping ping_on is_silent is_lost ran_out is_broken is_interrupted bad_stream
unready_reads_late = refl

unready_holds_no_clock : all_along (holds_no_clock hasty) unready ≡ true
unfolding arrive is_shaken can_ask ask_on is_look can_ping ping_on is_silent is_lost ran_out is_broken is_interrupted bad_stream
unready_holds_no_clock = refl

unready_told : (course hasty unready).held ≡ []
unfolding arrive is_shaken can_ask ask_on is_look can_ping ping_on is_silent is_lost ran_out is_broken is_interrupted bad_stream
unready_told = refl

unready_why : why hasty unready ≡ Some cause.NotReady
unfolding arrive is_shaken can_ask ask_on is_look can_ping ping_on is_silent is_lost ran_out is_broken is_interrupted bad_stream
unready_why = refl

unready_core : core_saves.why hasty.task (course hasty unready).told ≡ Some cause.NotReady
unfolding arrive is_shaken can_ask ask_on is_look can_ping ping_on is_silent is_lost ran_out is_broken is_interrupted bad_stream
unready_core = refl

-- patient: all premises of the laws hold
unidle_rules : KeepsRules (patient ∷ []) patient unidle
unfolding arrive is_shaken can_ask ask_on is_look can_ping ping_on is_silent is_lost ran_out is_broken is_interrupted bad_stream
unidle_rules = record { among = inl refl; awake = record { only_awake = refl; waits_last_of_all = refl; short_for_a_cause = refl; reads_each = refl; reads_no_more = refl; up_to_date = refl; clock = refl; looks = refl; again = refl; only_refused = refl; early = refl; room = refl }; rising = refl; start = refl }

unidle_runs : is_running patient (before_wait unidle) ≡ true
unfolding arrive is_shaken can_ask ask_on is_look can_ping ping_on is_silent is_lost ran_out is_broken is_interrupted bad_stream
unidle_runs = refl

unidle_hears : HearsLooks patient unidle
unfolding arrive is_shaken can_ask ask_on is_look can_ping ping_on is_silent is_lost ran_out is_broken is_interrupted bad_stream
unidle_hears = refl

unidle_flows : Flows patient unidle
unfolding arrive is_shaken can_ask ask_on is_look can_ping ping_on is_silent is_lost ran_out is_broken is_interrupted bad_stream
unidle_flows = refl

unidle_keeps_time : KeepsTime patient unidle
unfolding arrive is_shaken can_ask ask_on is_look can_ping ping_on is_silent is_lost ran_out is_broken is_interrupted bad_stream
unidle_keeps_time = refl

unidle_waits : all_along waits_on unidle ≡ true
unfolding arrive is_shaken can_ask ask_on is_look can_ping ping_on is_silent is_lost ran_out is_broken is_interrupted bad_stream
unidle_waits = refl

unidle_tells : ◌≡◌ {A = List Bool} (all_along (tells_rightly patient Shell) unidle ∷ all_along (tells_rightly patient Control) unidle ∷ all_along (tells_rightly patient Iopub) unidle ∷ []) (true ∷ true ∷ true ∷ [])
unfolding arrive is_shaken can_ask ask_on is_look can_ping ping_on is_silent is_lost ran_out is_broken is_interrupted bad_stream
unidle_tells = refl

unidle_reads_late : all_along (reads_late patient) unidle ≡ true
unfolding arrive is_shaken can_ask ask_on is_look can_ping ping_on is_silent is_lost ran_out is_broken is_interrupted bad_stream
unidle_reads_late = refl

unidle_holds_no_clock : all_along (holds_no_clock patient) unidle ≡ true
unfolding arrive is_shaken can_ask ask_on is_look can_ping ping_on is_silent is_lost ran_out is_broken is_interrupted bad_stream
unidle_holds_no_clock = refl

unidle_told : (course patient unidle).held ≡ []
unfolding arrive is_shaken can_ask ask_on is_look can_ping ping_on is_silent is_lost ran_out is_broken is_interrupted bad_stream
unidle_told = refl

unidle_why : why patient unidle ≡ Some cause.NoIdle
unfolding arrive is_shaken can_ask ask_on is_look can_ping ping_on is_silent is_lost ran_out is_broken is_interrupted bad_stream
unidle_why = refl

unidle_core : core_saves.why patient.task (course patient unidle).told ≡ Some cause.NoIdle
unfolding arrive is_shaken can_ask ask_on is_look can_ping ping_on is_silent is_lost ran_out is_broken is_interrupted bad_stream
unidle_core = refl

-- timed: all premises of the laws hold
late_rules : KeepsRules (timed ∷ []) timed late
unfolding arrive is_shaken can_ask ask_on is_look can_ping ping_on is_silent is_lost ran_out is_broken is_interrupted bad_stream
late_rules = record { among = inl refl; awake = record { only_awake = refl; waits_last_of_all = refl; short_for_a_cause = refl; reads_each = refl; reads_no_more = refl; up_to_date = refl; clock = refl; looks = refl; again = refl; only_refused = refl; early = refl; room = refl }; rising = refl; start = refl }

late_runs : is_running timed (before_wait late) ≡ true
unfolding arrive is_shaken can_ask ask_on is_look can_ping ping_on is_silent is_lost ran_out is_broken is_interrupted bad_stream
late_runs = refl

late_hears : HearsLooks timed late
unfolding arrive is_shaken can_ask ask_on is_look can_ping ping_on is_silent is_lost ran_out is_broken is_interrupted bad_stream
late_hears = refl

late_flows : Flows timed late
unfolding arrive is_shaken can_ask ask_on is_look can_ping ping_on is_silent is_lost ran_out is_broken is_interrupted bad_stream
late_flows = refl

late_keeps_time : KeepsTime timed late
unfolding arrive is_shaken can_ask ask_on is_look can_ping ping_on is_silent is_lost ran_out is_broken is_interrupted bad_stream
late_keeps_time = refl

late_waits : all_along waits_on late ≡ true
unfolding arrive is_shaken can_ask ask_on is_look can_ping ping_on is_silent is_lost ran_out is_broken is_interrupted bad_stream
late_waits = refl

late_tells : ◌≡◌ {A = List Bool} (all_along (tells_rightly timed Shell) late ∷ all_along (tells_rightly timed Control) late ∷ all_along (tells_rightly timed Iopub) late ∷ []) (true ∷ true ∷ true ∷ [])
unfolding arrive is_shaken can_ask ask_on is_look can_ping ping_on is_silent is_lost ran_out is_broken is_interrupted bad_stream
late_tells = refl

late_reads_late : all_along (reads_late timed) late ≡ true
unfolding arrive is_shaken can_ask ask_on is_look can_ping ping_on is_silent is_lost ran_out is_broken is_interrupted bad_stream
late_reads_late = refl

late_holds_no_clock : all_along (holds_no_clock timed) late ≡ true
unfolding arrive is_shaken can_ask ask_on is_look can_ping ping_on is_silent is_lost ran_out is_broken is_interrupted bad_stream
late_holds_no_clock = refl

late_told : (course timed late).held ≡ []
unfolding arrive is_shaken can_ask ask_on is_look can_ping ping_on is_silent is_lost ran_out is_broken is_interrupted bad_stream
late_told = refl

late_why : why timed late ≡ Some cause.TimedOut
unfolding arrive is_shaken can_ask ask_on is_look can_ping ping_on is_silent is_lost ran_out is_broken is_interrupted bad_stream
late_why = refl

late_core : core_saves.why timed.task (course timed late).told ≡ Some cause.TimedOut
unfolding arrive is_shaken can_ask ask_on is_look can_ping ping_on is_silent is_lost ran_out is_broken is_interrupted bad_stream
late_core = refl

-- interrupting: all premises of the laws hold
later_rules : KeepsRules (interrupting ∷ []) interrupting later
unfolding arrive is_shaken can_ask ask_on is_look can_ping ping_on is_silent is_lost ran_out is_broken is_interrupted bad_stream
later_rules = record { among = inl refl; awake = record { only_awake = refl; waits_last_of_all = refl; short_for_a_cause = refl; reads_each = refl; reads_no_more = refl; up_to_date = refl; clock = refl; looks = refl; again = refl; only_refused = refl; early = refl; room = refl }; rising = refl; start = refl }

later_runs : is_running interrupting (before_wait later) ≡ true
unfolding arrive is_shaken can_ask ask_on is_look can_ping ping_on is_silent is_lost ran_out is_broken is_interrupted bad_stream
later_runs = refl

later_hears : HearsLooks interrupting later
unfolding arrive is_shaken can_ask ask_on is_look can_ping ping_on is_silent is_lost ran_out is_broken is_interrupted bad_stream
later_hears = refl

later_flows : Flows interrupting later
unfolding arrive is_shaken can_ask ask_on is_look can_ping ping_on is_silent is_lost ran_out is_broken is_interrupted bad_stream
later_flows = refl

later_keeps_time : KeepsTime interrupting later
unfolding arrive is_shaken can_ask ask_on is_look can_ping ping_on is_silent is_lost ran_out is_broken is_interrupted bad_stream
later_keeps_time = refl

later_waits : all_along waits_on later ≡ true
unfolding arrive is_shaken can_ask ask_on is_look can_ping ping_on is_silent is_lost ran_out is_broken is_interrupted bad_stream
later_waits = refl

later_tells : ◌≡◌ {A = List Bool} (all_along (tells_rightly interrupting Shell) later ∷ all_along (tells_rightly interrupting Control) later ∷ all_along (tells_rightly interrupting Iopub) later ∷ []) (true ∷ true ∷ true ∷ [])
unfolding arrive is_shaken can_ask ask_on is_look can_ping ping_on is_silent is_lost ran_out is_broken is_interrupted bad_stream
later_tells = refl

later_reads_late : all_along (reads_late interrupting) later ≡ true
unfolding arrive is_shaken can_ask ask_on is_look can_ping ping_on is_silent is_lost ran_out is_broken is_interrupted bad_stream
later_reads_late = refl

later_holds_no_clock : all_along (holds_no_clock interrupting) later ≡ true
unfolding arrive is_shaken can_ask ask_on is_look can_ping ping_on is_silent is_lost ran_out is_broken is_interrupted bad_stream
later_holds_no_clock = refl

later_told : (course interrupting later).held ≡ []
unfolding arrive is_shaken can_ask ask_on is_look can_ping ping_on is_silent is_lost ran_out is_broken is_interrupted bad_stream
later_told = refl

later_why : why interrupting later ≡ Some cause.TimedOut
unfolding arrive is_shaken can_ask ask_on is_look can_ping ping_on is_silent is_lost ran_out is_broken is_interrupted bad_stream
later_why = refl

later_core : core_saves.why interrupting.task (course interrupting later).told ≡ Some cause.TimedOut
unfolding arrive is_shaken can_ask ask_on is_look can_ping ping_on is_silent is_lost ran_out is_broken is_interrupted bad_stream
later_core = refl

-- ---- a loss that shows in the look that stops the job

-- the look at a request without a reply finds the end of a connection
abbrev finds_end : List Entry
finds_end = asks ++ turn 500 1040 ++ (wait 0 (true ∷ []) ∷ made.Ended (record { job = 0; chan = Shell }) side.Read ∷ [])

-- the save of the stop follows
abbrev lost_last : List Entry
lost_last = reverse (finds_end ++ saved one)

-- up to that save the loss waits, and then it came after the stop
loss_waits : (course timed (reverse finds_end)).held ≡ event.Lost ∷ []
unfolding arrive is_shaken can_ask ask_on is_look can_ping ping_on is_silent is_lost ran_out is_broken is_interrupted bad_stream
loss_waits = refl

loss_is_last : (course timed lost_last).unheard ≡ event.Lost ∷ []
unfolding arrive is_shaken can_ask ask_on is_look can_ping ping_on is_silent is_lost ran_out is_broken is_interrupted bad_stream
loss_is_last = refl

not_all_heard : is_heard timed lost_last ≡ false
unfolding arrive is_shaken can_ask ask_on is_look can_ping ping_on is_silent is_lost ran_out is_broken is_interrupted bad_stream
not_all_heard = refl

-- timed, with that loss: all premises of the laws hold
lost_last_rules : KeepsRules (timed ∷ []) timed lost_last
unfolding arrive is_shaken can_ask ask_on is_look can_ping ping_on is_silent is_lost ran_out is_broken is_interrupted bad_stream
lost_last_rules = record { among = inl refl; awake = record { only_awake = refl; waits_last_of_all = refl; short_for_a_cause = refl; reads_each = refl; reads_no_more = refl; up_to_date = refl; clock = refl; looks = refl; again = refl; only_refused = refl; early = refl; room = refl }; rising = refl; start = refl }

lost_last_runs : is_running timed (before_wait lost_last) ≡ true
unfolding arrive is_shaken can_ask ask_on is_look can_ping ping_on is_silent is_lost ran_out is_broken is_interrupted bad_stream
lost_last_runs = refl

lost_last_hears : HearsLooks timed lost_last
unfolding arrive is_shaken can_ask ask_on is_look can_ping ping_on is_silent is_lost ran_out is_broken is_interrupted bad_stream
lost_last_hears = refl

lost_last_flows : Flows timed lost_last
unfolding arrive is_shaken can_ask ask_on is_look can_ping ping_on is_silent is_lost ran_out is_broken is_interrupted bad_stream
lost_last_flows = refl

lost_last_keeps_time : KeepsTime timed lost_last
unfolding arrive is_shaken can_ask ask_on is_look can_ping ping_on is_silent is_lost ran_out is_broken is_interrupted bad_stream
lost_last_keeps_time = refl

lost_last_waits : all_along waits_on lost_last ≡ true
unfolding arrive is_shaken can_ask ask_on is_look can_ping ping_on is_silent is_lost ran_out is_broken is_interrupted bad_stream
lost_last_waits = refl

lost_last_tells : ◌≡◌ {A = List Bool} (all_along (tells_rightly timed Shell) lost_last ∷ all_along (tells_rightly timed Control) lost_last ∷ all_along (tells_rightly timed Iopub) lost_last ∷ []) (true ∷ true ∷ true ∷ [])
unfolding arrive is_shaken can_ask ask_on is_look can_ping ping_on is_silent is_lost ran_out is_broken is_interrupted bad_stream
lost_last_tells = refl

lost_last_reads_late : all_along (reads_late timed) lost_last ≡ true
unfolding arrive is_shaken can_ask ask_on is_look can_ping ping_on is_silent is_lost ran_out is_broken is_interrupted bad_stream
lost_last_reads_late = refl

lost_last_holds_no_clock : all_along (holds_no_clock timed) lost_last ≡ true
unfolding arrive is_shaken can_ask ask_on is_look can_ping ping_on is_silent is_lost ran_out is_broken is_interrupted bad_stream
lost_last_holds_no_clock = refl

lost_last_told : (course timed lost_last).held ≡ []
unfolding arrive is_shaken can_ask ask_on is_look can_ping ping_on is_silent is_lost ran_out is_broken is_interrupted bad_stream
lost_last_told = refl

lost_last_why : why timed lost_last ≡ Some cause.TimedOut
unfolding arrive is_shaken can_ask ask_on is_look can_ping ping_on is_silent is_lost ran_out is_broken is_interrupted bad_stream
lost_last_why = refl

lost_last_core : core_saves.why timed.task (course timed lost_last).told ≡ Some cause.TimedOut
unfolding arrive is_shaken can_ask ask_on is_look can_ping ping_on is_silent is_lost ran_out is_broken is_interrupted bad_stream
lost_last_core = refl

-- ---- a look that comes after a stop at once

-- in the look at a request without a reply its last piece brings what it waits for, and ends the look
abbrev answers_last : List Entry
answers_last = reverse (asks ++ turn 500 1040 ++ (wait 0 (true ∷ false ∷ true ∷ []) ∷ got one Iopub (1 ∷ 2 ∷ []) ∷ dry one Iopub ∷ got one Shell (3 ∷ 2 ∷ []) ∷ dry one Shell ∷ []) ++ saved one)

look_is_last : ◌≡◌ {A = List Bool} (is_heard timed answers_last ∷ hears_looks timed answers_last ∷ hears timed answers_last ∷ []) (false ∷ false ∷ true ∷ [])
unfolding arrive is_shaken can_ask ask_on is_look can_ping ping_on is_silent is_lost ran_out is_broken is_interrupted bad_stream
look_is_last = refl

answers_hear : Hears timed answers_last
unfolding arrive is_shaken can_ask ask_on is_look can_ping ping_on is_silent is_lost ran_out is_broken is_interrupted bad_stream
answers_hear = refl

answers_rules : KeepsRules (timed ∷ []) timed answers_last
unfolding arrive is_shaken can_ask ask_on is_look can_ping ping_on is_silent is_lost ran_out is_broken is_interrupted bad_stream
answers_rules = record { among = inl refl; awake = record { only_awake = refl; waits_last_of_all = refl; short_for_a_cause = refl; reads_each = refl; reads_no_more = refl; up_to_date = refl; clock = refl; looks = refl; again = refl; only_refused = refl; early = refl; room = refl }; rising = refl; start = refl }

answers_flow : Flows timed answers_last
unfolding arrive is_shaken can_ask ask_on is_look can_ping ping_on is_silent is_lost ran_out is_broken is_interrupted bad_stream
answers_flow = refl

answers_why : why timed answers_last ≡ Some cause.Done
unfolding arrive is_shaken can_ask ask_on is_look can_ping ping_on is_silent is_lost ran_out is_broken is_interrupted bad_stream
answers_why = refl

answers_core : core_saves.why timed.task (course timed answers_last).told ≡ Some cause.Done
unfolding arrive is_shaken can_ask ask_on is_look can_ping ping_on is_silent is_lost ran_out is_broken is_interrupted bad_stream
answers_core = refl

-- these jobs run their notebook
runs_notebook : timed.given ≡ Runs
runs_notebook = refl

-- ---- the start and the interrupt

starts : act_of hasty.task event.Saved [] ≡ act.Start
unfolding arrive is_shaken can_ask ask_on is_look can_ping ping_on is_silent is_lost ran_out is_broken is_interrupted bad_stream
starts = refl

child_started : child_clock hasty unready ≡ Some 10
unfolding arrive is_shaken can_ask ask_on is_look can_ping ping_on is_silent is_lost ran_out is_broken is_interrupted bad_stream
child_started = refl

core_started : start_time (course hasty unready).told ≡ Some 10
unfolding arrive is_shaken can_ask ask_on is_look can_ping ping_on is_silent is_lost ran_out is_broken is_interrupted bad_stream
core_started = refl

queued_then : is_queued interrupting.task 0 1040 (course interrupting later).told ≡ true
unfolding arrive is_shaken can_ask ask_on is_look can_ping ping_on is_silent is_lost ran_out is_broken is_interrupted bad_stream
queued_then = refl
