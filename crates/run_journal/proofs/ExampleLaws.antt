-- Journals at which the laws say something.
use Rattle.std.proofs.Common.{◌≡◌, ℕ, List, [], ◌∷◌, ◌++◌, Bool, true, false, Option, Some, None, codes, refl, reverse, length, map}
use Rattle.std.specs.Prelude.{slice_get}
use Rattle.world.specs.declared.chan.Chan.TheVariants.{Shell, Iopub}
use Rattle.world.specs.declared.did.Did.TheVariants as did
use Rattle.world.specs.declared.entry.Entry.{Entry}
use Rattle.world.specs.declared.entry.Entry.TheVariants as made
use Rattle.world.specs.declared.left.Left.TheVariants.{Whole}
use Rattle.world.specs.Disk.{leaves}
use Rattle.world.specs.Waits.{before_wait}
use Rattle.cell_core.specs.declared.why.Why.TheVariants as cause
use Rattle.cell_core.specs.Events as events
use Rattle.cell_core.specs.Acts.{has_stopped, heard}
use Rattle.cell_core.specs.Requests as core
use Rattle.cell_core.specs.Saves as core_saves
use Rattle.run_journal.specs.Parts.{bytes_got, saves_of, before_shut, is_running}
use Rattle.run_journal.specs.OfJob.{is_of}
use Rattle.run_journal.specs.Arrivals.{arrive, is_shaken, can_ask, ask_on, is_ready, arrivals}
use Rattle.run_journal.specs.Looks.{ever, shows_lost, is_look, can_ping, ping_on, is_silent, is_lost, ran_out}
use Rattle.run_journal.specs.Requests.{Request, is_broken, is_interrupted, is_over, requests}
use Rattle.run_journal.specs.Why.{bad_stream, why}
use Rattle.run_journal.specs.Saves.{saves, texts}
use Rattle.run_journal.specs.Due.{all_along}
use Rattle.run_journal.specs.Course.{course}
use Rattle.run_journal.specs.Literal.{start_at}
use Rattle.run_journal.specs.Order.{begins_unread}
use Rattle.run_journal.specs.Agreement.{EndsLooks, Flows, IsHeard, at_once}
use Rattle.run_journal.proofs.Toy.{job, saved, saved_as, got, wait, turn, made_ready, printed, three, one, other}
use Rattle.run_journal.proofs.ExampleTwoPrints.{journal as done}
use Rattle.run_journal.proofs.ExampleAwake.{journal}
use Rattle.run_journal.proofs.ExampleDies.{dying}
use Rattle.run_journal.proofs.ExampleUnready.{broken}

-- ---- growth

-- where the kernel is ready nothing has stopped the job
abbrev ready : List Entry
ready = reverse (made_ready job)

is_ready_then : is_ready job ready ≡ true
unfolding arrive is_shaken can_ask ask_on is_look can_ping ping_on is_silent is_lost ran_out is_broken is_interrupted bad_stream
is_ready_then = refl

nothing_stops : why job (before_shut job ready) ≡ None
unfolding arrive is_shaken can_ask ask_on is_look can_ping ping_on is_silent is_lost ran_out is_broken is_interrupted bad_stream
nothing_stops = refl

one_due : length (saves job ready) ≡ 1
unfolding arrive is_shaken can_ask ask_on is_look can_ping ping_on is_silent is_lost ran_out is_broken is_interrupted bad_stream
one_due = refl

-- at its end it has two saves more
three_due : length (saves job done) ≡ 3
unfolding arrive is_shaken can_ask ask_on is_look can_ping ping_on is_silent is_lost ran_out is_broken is_interrupted bad_stream
three_due = refl

all_acked : saves_of job done ≡ 3
unfolding arrive is_shaken can_ask ask_on is_look can_ping ping_on is_silent is_lost ran_out is_broken is_interrupted bad_stream
all_acked = refl

first_over : map (λ (r : Request). is_over r) (requests job done) ≡ true ∷ true ∷ []
unfolding arrive is_shaken can_ask ask_on is_look can_ping ping_on is_silent is_lost ran_out is_broken is_interrupted bad_stream
first_over = refl

-- ---- other jobs

its_bytes : is_of job (got other Shell (9 ∷ [])) ready ≡ false
unfolding arrive is_shaken can_ask ask_on is_look can_ping ping_on is_silent is_lost ran_out is_broken is_interrupted bad_stream
its_bytes = refl

its_rename : is_of job (made.Renamed (codes "out2.nbrun-tmp") (codes "out2") did.Done) ready ≡ false
unfolding arrive is_shaken can_ask ask_on is_look can_ping ping_on is_silent is_lost ran_out is_broken is_interrupted bad_stream
its_rename = refl

its_sync : is_of job (made.DirSynced (codes ".") did.Done) ready ≡ false
unfolding arrive is_shaken can_ask ask_on is_look can_ping ping_on is_silent is_lost ran_out is_broken is_interrupted bad_stream
its_sync = refl

-- ---- a crash

-- the first save, with its writes
abbrev first_save : List Entry
first_save = reverse (saved_as job (0 ∷ 0 ∷ []))

-- a crash leaves the text of the one save that is due and acknowledged
crash_leaves : leaves first_save job.output ≡ Whole (0 ∷ 0 ∷ []) ∷ []
unfolding arrive is_shaken can_ask ask_on is_look can_ping ping_on is_silent is_lost ran_out is_broken is_interrupted bad_stream
crash_leaves = refl

text_is : slice_get (texts job first_save) 0 ≡ Some (0 ∷ 0 ∷ [])
unfolding arrive is_shaken can_ask ask_on is_look can_ping ping_on is_silent is_lost ran_out is_broken is_interrupted bad_stream
text_is = refl

acked_then : saves_of job first_save ≡ 1
unfolding arrive is_shaken can_ask ask_on is_look can_ping ping_on is_silent is_lost ran_out is_broken is_interrupted bad_stream
acked_then = refl

-- ---- order

-- the bytes of each connection in one piece, IOPub before shell
abbrev whole : List Entry
whole = reverse (made_ready job ++ turn 50 ++ (got job Iopub (0 ∷ 2 ∷ 21 ∷ 2 ∷ 1 ∷ 2 ∷ []) ∷ got job Shell (3 ∷ 2 ∷ []) ∷ []) ++ saved job ++ turn 60 ++ printed job 3 22 ++ saved job)

-- cut, and shell before the end of IOPub
abbrev cut : List Entry
cut = reverse (made_ready job ++ turn 50 ++ (got job Iopub (0 ∷ []) ∷ got job Iopub (2 ∷ 21 ∷ []) ∷ got job Shell (3 ∷ []) ∷ got job Shell (2 ∷ []) ∷ got job Iopub (2 ∷ 1 ∷ 2 ∷ []) ∷ []) ++ saved job ++ turn 60 ++ printed job 3 22 ++ saved job)

read_once : ◌≡◌ {A = List Bool} (all_along (begins_unread job Shell) whole ∷ all_along (begins_unread job Iopub) whole ∷ all_along (begins_unread job Shell) cut ∷ all_along (begins_unread job Iopub) cut ∷ []) (true ∷ true ∷ true ∷ true ∷ [])
unfolding arrive is_shaken can_ask ask_on is_look can_ping ping_on is_silent is_lost ran_out is_broken is_interrupted bad_stream
read_once = refl

same_shell : bytes_got job Shell whole ≡ 9 ∷ 5 ∷ 1 ∷ 3 ∷ 2 ∷ 3 ∷ 3 ∷ []
unfolding arrive is_shaken can_ask ask_on is_look can_ping ping_on is_silent is_lost ran_out is_broken is_interrupted bad_stream
same_shell = refl

same_shell_cut : bytes_got job Shell cut ≡ 9 ∷ 5 ∷ 1 ∷ 3 ∷ 2 ∷ 3 ∷ 3 ∷ []
unfolding arrive is_shaken can_ask ask_on is_look can_ping ping_on is_silent is_lost ran_out is_broken is_interrupted bad_stream
same_shell_cut = refl

-- where the requests come to stand
starts : ◌≡◌ {A = List (Option ℕ)} (start_at job 1 whole ∷ start_at job 2 whole ∷ start_at job 1 cut ∷ start_at job 2 cut ∷ []) (Some 21 ∷ Some 28 ∷ Some 21 ∷ Some 31 ∷ [])
unfolding arrive is_shaken can_ask ask_on is_look can_ping ping_on is_silent is_lost ran_out is_broken is_interrupted bad_stream
starts = refl

-- and where messages arrive
arrive_at : map {B = ℕ} (λ a. a.0) (arrivals job Iopub cut) ≡ 21 ∷ 26 ∷ 29 ∷ 29 ∷ 35 ∷ 35 ∷ 35 ∷ []
unfolding arrive is_shaken can_ask ask_on is_look can_ping ping_on is_silent is_lost ran_out is_broken is_interrupted bad_stream
arrive_at = refl

both_done : why job whole ≡ Some cause.Done
unfolding arrive is_shaken can_ask ask_on is_look can_ping ping_on is_silent is_lost ran_out is_broken is_interrupted bad_stream
both_done = refl

both_done_cut : why job cut ≡ Some cause.Done
unfolding arrive is_shaken can_ask ask_on is_look can_ping ping_on is_silent is_lost ran_out is_broken is_interrupted bad_stream
both_done_cut = refl

-- ---- agreement

told_saves : events.ack_count (course one journal).told ≡ 2
unfolding arrive is_shaken can_ask ask_on is_look can_ping ping_on is_silent is_lost ran_out is_broken is_interrupted bad_stream
told_saves = refl

told_passed : core.is_passed_in (core.after one.task 0 (course one journal).told) ≡ true
unfolding arrive is_shaken can_ask ask_on is_look can_ping ping_on is_silent is_lost ran_out is_broken is_interrupted bad_stream
told_passed = refl

-- ---- causes

-- a broken stream stops the core at once, and nothing came after that
broken_flows : Flows job (reverse broken)
unfolding arrive is_shaken can_ask ask_on is_look can_ping ping_on is_silent is_lost ran_out is_broken is_interrupted bad_stream
broken_flows = refl

core_stops : at_once (core_saves.why job.task (course job (reverse broken)).told) ≡ Some cause.BadPeer
unfolding arrive is_shaken can_ask ask_on is_look can_ping ping_on is_silent is_lost ran_out is_broken is_interrupted bad_stream
core_stops = refl

core_has_stopped : has_stopped job.task (heard job.task (course job (reverse broken)).told) ≡ true
unfolding arrive is_shaken can_ask ask_on is_look can_ping ping_on is_silent is_lost ran_out is_broken is_interrupted bad_stream
core_has_stopped = refl

-- the end of a connection was told, a look at the job is done, and the save of the stop is due
abbrev dies : List Entry
dies = reverse (dying ++ wait 0 [] ∷ [])

loss_told : events.ever events.is_lost (course three dies).told ≡ true
unfolding arrive is_shaken can_ask ask_on is_look can_ping ping_on is_silent is_lost ran_out is_broken is_interrupted bad_stream
loss_told = refl

loss_shown : ever (shows_lost three) dies ≡ true
unfolding arrive is_shaken can_ask ask_on is_look can_ping ping_on is_silent is_lost ran_out is_broken is_interrupted bad_stream
loss_shown = refl

all_heard : IsHeard three dies
unfolding arrive is_shaken can_ask ask_on is_look can_ping ping_on is_silent is_lost ran_out is_broken is_interrupted bad_stream
all_heard = refl

looks_end : EndsLooks three dies
unfolding arrive is_shaken can_ask ask_on is_look can_ping ping_on is_silent is_lost ran_out is_broken is_interrupted bad_stream
looks_end = refl

runs : is_running three (before_wait dies) ≡ true
unfolding arrive is_shaken can_ask ask_on is_look can_ping ping_on is_silent is_lost ran_out is_broken is_interrupted bad_stream
runs = refl

is_lost_then : is_lost three dies ≡ true
unfolding arrive is_shaken can_ask ask_on is_look can_ping ping_on is_silent is_lost ran_out is_broken is_interrupted bad_stream
is_lost_then = refl

dies_flows : Flows three dies
unfolding arrive is_shaken can_ask ask_on is_look can_ping ping_on is_silent is_lost ran_out is_broken is_interrupted bad_stream
dies_flows = refl

found_lost : events.look_since events.is_lost (course three dies).told ≡ true
unfolding arrive is_shaken can_ask ask_on is_look can_ping ping_on is_silent is_lost ran_out is_broken is_interrupted bad_stream
found_lost = refl

why_lost : why three dies ≡ Some cause.KernelLost
unfolding arrive is_shaken can_ask ask_on is_look can_ping ping_on is_silent is_lost ran_out is_broken is_interrupted bad_stream
why_lost = refl

nothing_waits : (course three dies).held ++ (course three dies).late ≡ []
unfolding arrive is_shaken can_ask ask_on is_look can_ping ping_on is_silent is_lost ran_out is_broken is_interrupted bad_stream
nothing_waits = refl
