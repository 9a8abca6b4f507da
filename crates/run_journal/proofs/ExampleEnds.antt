-- The other ends of jobs, and a kernel that answers no ping.
use Rattle.std.proofs.Common.{◌≡◌, ℕ, List, [], ◌∷◌, ◌++◌, true, Some, None, codes, refl, reverse, length}
use Rattle.world.specs.declared.chan.Chan.{Chan}
use Rattle.world.specs.declared.chan.Chan.TheVariants.{Shell, Control, Iopub, Heart}
use Rattle.world.specs.declared.did.Did.TheVariants as did
use Rattle.world.specs.declared.entry.Entry.{Entry}
use Rattle.world.specs.declared.entry.Entry.TheVariants as made
use Rattle.world.specs.declared.read_file.ReadFile.TheVariants as found
use Rattle.cell_core.specs.declared.why.Why.TheVariants as cause
use Rattle.run_journal.specs.Job.{Job}
use Rattle.run_journal.specs.Arrivals.{arrive, is_shaken, can_ask, ask_on}
use Rattle.run_journal.specs.Looks.{is_look, can_ping, ping_on, pings, pinged_of, is_silent, is_lost, ran_out}
use Rattle.run_journal.specs.Requests.{is_broken, is_interrupted}
use Rattle.run_journal.specs.Why.{bad_stream, why}
use Rattle.run_journal.specs.Ends.{Done, NotRead, BadSpec, NotSaved, NoNetwork, Spent, status_of, end_of}
use Rattle.run_journal.specs.Lines.{Saved, Last, Early, lines, line_text}
use Rattle.run_journal.proofs.Toy.{job, saved, got, put, dry, begun, closed, wait, turn, start, other}

-- the job whose kernel has no name, and that whose spec is refused
abbrev unnamed : Job
unnamed = record job { name_fault = Some (codes "no name") }

-- the same for a spec
abbrev unfit : Job
unfit = record job { spec_fault = Some (codes "no argv") }

-- its input is read
abbrev read : Entry
read = made.Read (codes "in") 33554432 (found.Whole [])

-- one wait alone
abbrev short : Job
short = record job { turns = 1 }

-- the same of the other job
abbrev short_too : Job
short_too = record other { turns = 1 }

input_fails : end_of job (made.Read (codes "in") 33554432 found.Failed ∷ []) ≡ Some (NotRead (codes "in"))
unfolding arrive is_shaken can_ask ask_on is_look can_ping ping_on is_silent is_lost ran_out is_broken is_interrupted bad_stream
input_fails = refl

no_name : end_of unnamed (read ∷ []) ≡ Some (BadSpec (codes "no name"))
unfolding arrive is_shaken can_ask ask_on is_look can_ping ping_on is_silent is_lost ran_out is_broken is_interrupted bad_stream
no_name = refl

spec_fails : end_of job (made.Read (codes "k/kernel.json") 1048576 found.Failed ∷ read ∷ []) ≡ Some (NotRead (codes "k/kernel.json"))
unfolding arrive is_shaken can_ask ask_on is_look can_ping ping_on is_silent is_lost ran_out is_broken is_interrupted bad_stream
spec_fails = refl

spec_refused : end_of unfit (made.Read (codes "k/kernel.json") 1048576 (found.Whole []) ∷ read ∷ []) ≡ Some (BadSpec (codes "no argv"))
unfolding arrive is_shaken can_ask ask_on is_look can_ping ping_on is_silent is_lost ran_out is_broken is_interrupted bad_stream
spec_refused = refl

-- where the input of another job was read last, the spec is that job's
spec_of_another : end_of unfit (made.Read (codes "k/kernel.json") 1048576 (found.Whole []) ∷ made.Read (codes "in2") 33554432 (found.Whole []) ∷ read ∷ []) ≡ None
unfolding arrive is_shaken can_ask ask_on is_look can_ping ping_on is_silent is_lost ran_out is_broken is_interrupted bad_stream
spec_of_another = refl

no_word : status_of job (made.Word None ∷ read ∷ []) ≡ 6
unfolding arrive is_shaken can_ask ask_on is_look can_ping ping_on is_silent is_lost ran_out is_broken is_interrupted bad_stream
no_word = refl

no_ports : end_of job (made.Ports 0 None ∷ reverse (saved job)) ≡ Some NoNetwork
unfolding arrive is_shaken can_ask ask_on is_look can_ping ping_on is_silent is_lost ran_out is_broken is_interrupted bad_stream
no_ports = refl

no_file : end_of job (made.Created (codes "out.nbrun-kernel.json") did.Failed ∷ reverse (saved job)) ≡ Some (NotSaved (codes "connection file"))
unfolding arrive is_shaken can_ask ask_on is_look can_ping ping_on is_silent is_lost ran_out is_broken is_interrupted bad_stream
no_file = refl

no_child : status_of job (made.Started 0 (codes "k" ∷ []) [] (codes ".") did.Failed ∷ reverse (saved job)) ≡ 6
unfolding arrive is_shaken can_ask ask_on is_look can_ping ping_on is_silent is_lost ran_out is_broken is_interrupted bad_stream
no_child = refl

-- a failed sync of the folder counts for the job whose rename stands directly before it
its_sync_fails : status_of job (made.DirSynced (codes ".") did.Failed ∷ made.Renamed (codes "out.nbrun-tmp") (codes "out") did.Done ∷ []) ≡ 10
unfolding arrive is_shaken can_ask ask_on is_look can_ping ping_on is_silent is_lost ran_out is_broken is_interrupted bad_stream
its_sync_fails = refl

-- and for no other job
others_sync_fails : status_of other (made.DirSynced (codes ".") did.Failed ∷ made.Renamed (codes "out.nbrun-tmp") (codes "out") did.Done ∷ []) ≡ 16
unfolding arrive is_shaken can_ask ask_on is_look can_ping ping_on is_silent is_lost ran_out is_broken is_interrupted bad_stream
others_sync_fails = refl

-- a failed wait ends each job, in their order
waits_fail : lines (job ∷ other ∷ []) (made.Waited 500 (record { ready = [] }) did.Failed ∷ reverse (saved job ++ start job ++ saved other ++ start other)) None ≡ Saved 0 2 (codes "out") ∷ Saved 0 2 (codes "out2") ∷ Last NoNetwork (codes "out") ∷ Last NoNetwork (codes "out2") ∷ []
unfolding arrive is_shaken can_ask ask_on is_look can_ping ping_on is_silent is_lost ran_out is_broken is_interrupted bad_stream
waits_fail = refl

waits_are_spent : lines (short ∷ short_too ∷ []) (reverse (saved short ++ start short ++ saved short_too ++ start short_too ++ (wait 500 [] ∷ made.Moment 510 ∷ []))) None ≡ Saved 0 2 (codes "out") ∷ Saved 0 2 (codes "out2") ∷ Last Spent (codes "out") ∷ Last Spent (codes "out2") ∷ []
unfolding arrive is_shaken can_ask ask_on is_look can_ping ping_on is_silent is_lost ran_out is_broken is_interrupted bad_stream
waits_are_spent = refl

-- ---- a shutdown that can't be written

-- the one wait is made, and all that was queued is put
abbrev spent : List Entry
spent = saved short ++ start short ++ turn 20
    ++ (got short Shell (9 ∷ []) ∷ got short Control (9 ∷ []) ∷ put short Shell (100 ∷ []) ∷ put short Control (100 ∷ []) ∷ [])

-- a write to a channel fails
abbrev put_failed : Chan → Entry
put_failed c = made.PutFailed (record { job = 0; chan = c })

-- no wait is left, and only the shutdown was still to be put
shutdown_fails : status_of short (put_failed Control ∷ reverse spent) ≡ 16
unfolding arrive is_shaken can_ask ask_on is_look can_ping ping_on is_silent is_lost ran_out is_broken is_interrupted bad_stream
shutdown_fails = refl

spent_is_said : lines (short ∷ []) (closed short Shell ∷ put_failed Control ∷ reverse spent) None ≡ Saved 0 2 (codes "out") ∷ Last Spent (codes "out") ∷ []
unfolding arrive is_shaken can_ask ask_on is_look can_ping ping_on is_silent is_lost ran_out is_broken is_interrupted bad_stream
spent_is_said = refl

-- a write to another channel fails
shell_fails : status_of short (put_failed Shell ∷ reverse spent) ≡ 14
unfolding arrive is_shaken can_ask ask_on is_look can_ping ping_on is_silent is_lost ran_out is_broken is_interrupted bad_stream
shell_fails = refl

-- READY was still to be put on control
ready_fails : status_of short (put_failed Control ∷ reverse (saved short ++ start short ++ turn 20)) ≡ 14
unfolding arrive is_shaken can_ask ask_on is_look can_ping ping_on is_silent is_lost ran_out is_broken is_interrupted bad_stream
ready_fails = refl

-- waits are left
control_fails : status_of job (put_failed Control ∷ reverse spent) ≡ 14
unfolding arrive is_shaken can_ask ask_on is_look can_ping ping_on is_silent is_lost ran_out is_broken is_interrupted bad_stream
control_fails = refl

-- ---- what is said

memory_is_refused : lines (job ∷ []) (reverse (saved job)) (Some (Early (codes "nbrun") (codes "no memory"))) ≡ Saved 0 2 (codes "out") ∷ Early (codes "nbrun") (codes "no memory") ∷ []
unfolding arrive is_shaken can_ask ask_on is_look can_ping ping_on is_silent is_lost ran_out is_broken is_interrupted bad_stream
memory_is_refused = refl

done_is_said : line_text (Last Done (codes "out")) ≡ codes "out: done" ++ 10 ∷ []
unfolding arrive is_shaken can_ask ask_on is_look can_ping ping_on is_silent is_lost ran_out is_broken is_interrupted bad_stream
done_is_said = refl

-- ---- pings

-- a job with a heartbeat
abbrev beating : Job
beating = record job { heartbeat = true }

-- a turn after three seconds more each, whose ping is taken
abbrev beat : ℕ → List Entry
beat ms = wait 500 [] ∷ made.Moment ms ∷ made.Looked 0 None ∷ put beating Heart (204 ∷ 0 ∷ 0 ∷ []) ∷ []

-- ready at 40, and ten pings, the first at 50
abbrev pinged : List Entry
pinged = saved beating ++ start beating ++ (begun beating Heart ∷ []) ++ turn 20
    ++ (got beating Heart (9 ∷ []) ∷ got beating Shell (9 ∷ []) ∷ got beating Iopub (9 ∷ []) ∷ put beating Iopub (100 ∷ 101 ∷ []) ∷ put beating Heart (100 ∷ []) ∷ [])
    ++ turn 30 ++ turn 40 ++ (got beating Iopub (0 ∷ 1 ∷ []) ∷ got beating Shell (5 ∷ 1 ∷ []) ∷ dry beating Shell ∷ dry beating Iopub ∷ dry beating Heart ∷ [])
    ++ beat 50 ++ beat 3050 ++ beat 6050 ++ beat 9050 ++ beat 12050 ++ beat 15050 ++ beat 18050 ++ beat 21050 ++ beat 24050 ++ beat 27050

ten_are_queued : length (pings beating (reverse pinged)).queued ≡ 10
unfolding arrive is_shaken can_ask ask_on is_look can_ping ping_on is_silent is_lost ran_out is_broken is_interrupted bad_stream
ten_are_queued = refl

-- the tenth ends behind the greeting and ten pings of three octets
tenth_is : (pinged_of (pings beating (reverse pinged))).tenth ≡ Some (record { at = 27050; end = 31 })
unfolding arrive is_shaken can_ask ask_on is_look can_ping ping_on is_silent is_lost ran_out is_broken is_interrupted bad_stream
tenth_is = refl

not_lost_yet : why beating (reverse (pinged ++ (wait 500 [] ∷ made.Moment 30049 ∷ made.Looked 0 None ∷ wait 0 [] ∷ []))) ≡ None
unfolding arrive is_shaken can_ask ask_on is_look can_ping ping_on is_silent is_lost ran_out is_broken is_interrupted bad_stream
not_lost_yet = refl

-- 3,000 ms past the tenth, with a look
lost_then : why beating (reverse (pinged ++ (wait 500 [] ∷ made.Moment 30050 ∷ made.Looked 0 None ∷ wait 0 [] ∷ []))) ≡ Some cause.KernelLost
unfolding arrive is_shaken can_ask ask_on is_look can_ping ping_on is_silent is_lost ran_out is_broken is_interrupted bad_stream
lost_then = refl

-- a message on the heartbeat counts them anew
echo_saves : why beating (reverse (pinged ++ (got beating Heart (0 ∷ 0 ∷ []) ∷ wait 500 [] ∷ made.Moment 30050 ∷ made.Looked 0 None ∷ wait 0 [] ∷ []))) ≡ None
unfolding arrive is_shaken can_ask ask_on is_look can_ping ping_on is_silent is_lost ran_out is_broken is_interrupted bad_stream
echo_saves = refl
