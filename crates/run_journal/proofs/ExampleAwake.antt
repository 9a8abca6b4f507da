-- A whole run that keeps the rules of the loop, and journals that break them.
use Rattle.std.proofs.Common.{◌≡◌, ℕ, List, [], ◌∷◌, ◌++◌, true, false, Some, None, codes, refl, reverse}
use Rattle.world.specs.declared.chan.Chan.TheVariants.{Shell, Control, Iopub}
use Rattle.world.specs.declared.entry.Entry.{Entry}
use Rattle.world.specs.declared.entry.Entry.TheVariants as made
use Rattle.world.specs.declared.side.Side.TheVariants as side
use Rattle.cell_core.specs.declared.event.Event.TheVariants as event
use Rattle.cell_core.specs.declared.brief.Brief.TheVariants as brief
use Rattle.run_journal.specs.Job.{Job}
use Rattle.run_journal.specs.Arrivals.{arrive, is_shaken, can_ask, ask_on}
use Rattle.run_journal.specs.Looks.{is_look, can_ping, ping_on, is_silent, is_lost, ran_out}
use Rattle.run_journal.specs.Requests.{is_broken, is_interrupted}
use Rattle.run_journal.specs.Why.{bad_stream}
use Rattle.run_journal.specs.Ends.{status_of}
use Rattle.run_journal.specs.Due.{all_along, is_sent}
use Rattle.run_journal.specs.Starts.{connects_rightly}
use Rattle.run_journal.specs.Awake.{in_order, waits_last, waits_short, reads_all, reads_few, keeps_up, reads_clock, looks_once, begins_again, begins_refused, begins_early, has_room}
use Rattle.run_journal.specs.Course.{course}
use Rattle.run_journal.specs.Agreement.{Flows, KeepsTime}
use Rattle.world.specs.declared.chan.Chan.{Chan}
use Rattle.world.specs.declared.connected.Connected.TheVariants as connected
use Rattle.world.specs.declared.did.Did.TheVariants.{Done as done}
use Rattle.run_journal.proofs.Toy.{saved, got, put, dry, closed, wait, one}

-- a connection that was begun, to this port
abbrev connect : Chan → ℕ → Entry
connect c port = made.Connected (record { job = 0; chan = c }) port connected.Begun

-- up to the first wait
abbrev pub begins : List Entry
begins =
    saved one ++ (made.Moment 10 ∷ made.Ports 0 (Some (1 ∷ 2 ∷ 3 ∷ 4 ∷ 5 ∷ [])) ∷ made.Started 0 (codes "k" ∷ []) [] (codes ".") done
    ∷ connect Shell 1 ∷ connect Control 4 ∷ connect Iopub 2 ∷ put one Shell (100 ∷ []) ∷ put one Control (100 ∷ []) ∷ put one Iopub (100 ∷ []) ∷ [])

-- up to the request to execute
abbrev pub asks : List Entry
asks =
    begins ++ (wait 500 (true ∷ true ∷ true ∷ []) ∷ made.Moment 20 ∷ made.Looked 0 None
    ∷ got one Shell (9 ∷ []) ∷ dry one Shell ∷ got one Control (9 ∷ []) ∷ dry one Control ∷ got one Iopub (9 ∷ []) ∷ dry one Iopub ∷ put one Iopub (101 ∷ [])
    ∷ wait 0 [] ∷ made.Moment 30 ∷ made.Looked 0 None ∷ put one Shell (201 ∷ 1 ∷ 30 ∷ [])
    ∷ wait 500 (true ∷ false ∷ true ∷ []) ∷ made.Moment 40 ∷ made.Looked 0 None
    ∷ got one Shell (5 ∷ 1 ∷ []) ∷ dry one Shell ∷ got one Iopub (0 ∷ 1 ∷ []) ∷ dry one Iopub ∷ put one Shell (202 ∷ 2 ∷ 40 ∷ []) ∷ [])

-- up to the end
abbrev told : List Entry
told =
    asks ++ (wait 500 (true ∷ false ∷ true ∷ []) ∷ made.Moment 50 ∷ made.Looked 0 None
    ∷ got one Shell (3 ∷ 2 ∷ []) ∷ dry one Shell ∷ got one Iopub (0 ∷ 2 ∷ 21 ∷ 2 ∷ 1 ∷ 2 ∷ []) ∷ [])
    ++ saved one ++ (put one Control (205 ∷ 3 ∷ 50 ∷ []) ∷ closed one Shell ∷ closed one Control ∷ closed one Iopub ∷ made.Killed 0 ∷ [])

-- the newest entry first
abbrev pub journal : List Entry
journal = reverse told

-- the run's jobs
abbrev pub jobs : List Job
jobs = one ∷ []

-- no byte is put that isn't due
only_due_is_sent : all_along (is_sent one) journal ≡ true
unfolding arrive is_shaken can_ask ask_on is_look can_ping ping_on is_silent is_lost ran_out is_broken is_interrupted bad_stream
only_due_is_sent = refl

ports_are_right : all_along (connects_rightly one) journal ≡ true
unfolding arrive is_shaken can_ask ask_on is_look can_ping ping_on is_silent is_lost ran_out is_broken is_interrupted bad_stream
ports_are_right = refl

only_awake_holds : all_along (in_order jobs) journal ≡ true
unfolding arrive is_shaken can_ask ask_on is_look can_ping ping_on is_silent is_lost ran_out is_broken is_interrupted bad_stream
only_awake_holds = refl

waits_last_of_all_holds : all_along (waits_last jobs) journal ≡ true
unfolding arrive is_shaken can_ask ask_on is_look can_ping ping_on is_silent is_lost ran_out is_broken is_interrupted bad_stream
waits_last_of_all_holds = refl

short_for_a_cause_holds : all_along (waits_short jobs) journal ≡ true
unfolding arrive is_shaken can_ask ask_on is_look can_ping ping_on is_silent is_lost ran_out is_broken is_interrupted bad_stream
short_for_a_cause_holds = refl

reads_each_holds : all_along (reads_all jobs) journal ≡ true
unfolding arrive is_shaken can_ask ask_on is_look can_ping ping_on is_silent is_lost ran_out is_broken is_interrupted bad_stream
reads_each_holds = refl

reads_no_more_holds : all_along (reads_few jobs) journal ≡ true
unfolding arrive is_shaken can_ask ask_on is_look can_ping ping_on is_silent is_lost ran_out is_broken is_interrupted bad_stream
reads_no_more_holds = refl

up_to_date_holds : all_along (keeps_up jobs) journal ≡ true
unfolding arrive is_shaken can_ask ask_on is_look can_ping ping_on is_silent is_lost ran_out is_broken is_interrupted bad_stream
up_to_date_holds = refl

clock_holds : all_along (reads_clock jobs) journal ≡ true
unfolding arrive is_shaken can_ask ask_on is_look can_ping ping_on is_silent is_lost ran_out is_broken is_interrupted bad_stream
clock_holds = refl

looks_holds : all_along (looks_once jobs) journal ≡ true
unfolding arrive is_shaken can_ask ask_on is_look can_ping ping_on is_silent is_lost ran_out is_broken is_interrupted bad_stream
looks_holds = refl

again_holds : all_along (begins_again jobs) journal ≡ true
unfolding arrive is_shaken can_ask ask_on is_look can_ping ping_on is_silent is_lost ran_out is_broken is_interrupted bad_stream
again_holds = refl

only_refused_holds : all_along (begins_refused jobs) journal ≡ true
unfolding arrive is_shaken can_ask ask_on is_look can_ping ping_on is_silent is_lost ran_out is_broken is_interrupted bad_stream
only_refused_holds = refl

early_holds : all_along (begins_early jobs) journal ≡ true
unfolding arrive is_shaken can_ask ask_on is_look can_ping ping_on is_silent is_lost ran_out is_broken is_interrupted bad_stream
early_holds = refl

room_holds : all_along has_room journal ≡ true
unfolding arrive is_shaken can_ask ask_on is_look can_ping ping_on is_silent is_lost ran_out is_broken is_interrupted bad_stream
room_holds = refl

-- ---- what the rules refuse

status_is : status_of one journal ≡ 0
unfolding arrive is_shaken can_ask ask_on is_look can_ping ping_on is_silent is_lost ran_out is_broken is_interrupted bad_stream
status_is = refl

-- it sleeps with a connection that was not read
sleeps_unread : all_along (waits_last jobs) (reverse (begins ++ (wait 500 (true ∷ []) ∷ made.Moment 20 ∷ made.Looked 0 None ∷ wait 500 [] ∷ []))) ≡ false
unfolding arrive is_shaken can_ask ask_on is_look can_ping ping_on is_silent is_lost ran_out is_broken is_interrupted bad_stream
sleeps_unread = refl

-- it waits again before it read what was reported
skips_a_reported : all_along (reads_all jobs) (reverse (begins ++ (wait 500 (true ∷ []) ∷ made.Moment 20 ∷ made.Looked 0 None ∷ wait 0 [] ∷ []))) ≡ false
unfolding arrive is_shaken can_ask ask_on is_look can_ping ping_on is_silent is_lost ran_out is_broken is_interrupted bad_stream
skips_a_reported = refl

-- it waits without reading the clock
no_clock : all_along (reads_clock jobs) (reverse (begins ++ (wait 500 [] ∷ made.Looked 0 None ∷ []))) ≡ false
unfolding arrive is_shaken can_ask ask_on is_look can_ping ping_on is_silent is_lost ran_out is_broken is_interrupted bad_stream
no_clock = refl

-- it reads a connection that nobody reported
unasked : all_along (in_order jobs) (reverse (begins ++ (wait 500 [] ∷ made.Moment 20 ∷ got one Shell (9 ∷ []) ∷ []))) ≡ false
unfolding arrive is_shaken can_ask ask_on is_look can_ping ping_on is_silent is_lost ran_out is_broken is_interrupted bad_stream
unasked = refl

-- it never begins a refused connection again
refused_for_good : all_along (begins_again jobs) (reverse (begins ++ (wait 500 (true ∷ []) ∷ made.Moment 20 ∷ made.Looked 0 None ∷ made.Refused (record { job = 0; chan = Shell }) side.Read ∷ wait 200 [] ∷ made.Moment 220 ∷ made.Looked 0 None ∷ wait 500 [] ∷ []))) ≡ false
unfolding arrive is_shaken can_ask ask_on is_look can_ping ping_on is_silent is_lost ran_out is_broken is_interrupted bad_stream
refused_for_good = refl

-- it asks before the handshakes are finished
asks_too_early : all_along (is_sent one) (reverse (begins ++ (put one Shell (201 ∷ 1 ∷ 30 ∷ []) ∷ []))) ≡ false
unfolding arrive is_shaken can_ask ask_on is_look can_ping ping_on is_silent is_lost ran_out is_broken is_interrupted bad_stream
asks_too_early = refl

-- what the core is told, in order
course_is : reverse (course one journal).told ≡ event.Saved ∷ event.Moment 10 ∷ event.Moment 20 ∷ event.Moment 30 ∷ event.Moment 40 ∷ event.Ready ∷ event.Moment 50 ∷ event.Reply false ∷ event.Io brief.Else ∷ event.Io brief.Else ∷ event.Io brief.Idle ∷ event.Saved ∷ []
unfolding arrive is_shaken can_ask ask_on is_look can_ping ping_on is_silent is_lost ran_out is_broken is_interrupted bad_stream
course_is = refl

-- a look may find a connection refused that was tried for it
tried_for_a_look : all_along (begins_again jobs) (reverse (begins ++ (wait 500 (true ∷ []) ∷ made.Moment 60010 ∷ made.Looked 0 None ∷ dry one Shell ∷ made.Refused (record { job = 0; chan = Iopub }) side.Write
    ∷ made.Connected (record { job = 0; chan = Iopub }) 2 connected.Refused ∷ wait 0 [] ∷ []))) ≡ true
unfolding arrive is_shaken can_ask ask_on is_look can_ping ping_on is_silent is_lost ran_out is_broken is_interrupted bad_stream
tried_for_a_look = refl

-- nothing of the requests waits to be told, nor comes after the stop
flows : Flows one journal
unfolding arrive is_shaken can_ask ask_on is_look can_ping ping_on is_silent is_lost ran_out is_broken is_interrupted bad_stream
flows = refl

-- the core's clock is the journal's where it matters
keeps_time : KeepsTime one journal
unfolding arrive is_shaken can_ask ask_on is_look can_ping ping_on is_silent is_lost ran_out is_broken is_interrupted bad_stream
keeps_time = refl
