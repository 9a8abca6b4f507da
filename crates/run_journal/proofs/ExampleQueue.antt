-- What is queued, entry by entry.
use Rattle.std.proofs.Common.{◌≡◌, List, [], ◌∷◌, ◌++◌, Some, true, refl, reverse}
use Rattle.world.specs.declared.chan.Chan.TheVariants.{Shell, Control, Iopub, Heart}
use Rattle.world.specs.declared.entry.Entry.{Entry}
use Rattle.world.specs.declared.entry.Entry.TheVariants as made
use Rattle.run_journal.specs.Job.{Job}
use Rattle.run_journal.specs.Arrivals.{arrive, is_shaken, can_ask, ask_on}
use Rattle.run_journal.specs.Looks.{is_look, can_ping, ping_on, is_silent, is_lost, ran_out}
use Rattle.run_journal.specs.Requests.{is_broken, is_interrupted}
use Rattle.run_journal.specs.Why.{bad_stream}
use Rattle.run_journal.specs.Due.{dues}
use Rattle.run_journal.proofs.Toy.{job, saved, got, put, dry, begun, closed, wait, turn, start, made_ready, printed}

-- one cell, with a heartbeat
abbrev beating : Job
beating = record job { heartbeat = true; task = record { plan = 0 ∷ []; cells = 1; times = job.task.times } }

-- The handshakes on the heartbeat and on control are finished at 20. At 40 a PING comes on shell in the entry by which the
-- kernel is ready. The cell ends at 50; then another clock entry comes, before the connections are closed.
abbrev journal : List Entry
journal = reverse (saved beating ++ start beating ++ (begun beating Heart ∷ []) ++ turn 20
    ++ (got beating Heart (9 ∷ []) ∷ got beating Control (9 ∷ []) ∷ got beating Shell (9 ∷ []) ∷ got beating Iopub (9 ∷ []) ∷ put beating Iopub (100 ∷ 101 ∷ []) ∷ [])
    ++ turn 30 ++ turn 40 ++ (got beating Iopub (0 ∷ 1 ∷ []) ∷ got beating Shell (5 ∷ 1 ∷ 8 ∷ 77 ∷ []) ∷ [])
    ++ turn 50 ++ printed beating 2 21 ++ saved beating ++ (made.Moment 99 ∷ closed beating Shell ∷ made.Moment 120 ∷ []))

-- the PONG comes before the request that the same entry brings
shell_is : dues beating Shell journal ≡ 100 ∷ 201 ∷ 1 ∷ 30 ∷ 108 ∷ 77 ∷ 202 ∷ 2 ∷ 40 ∷ []
unfolding arrive is_shaken can_ask ask_on is_look can_ping ping_on is_silent is_lost ran_out is_broken is_interrupted bad_stream
shell_is = refl

-- the date of the last message is that of the end
control_is : dues beating Control journal ≡ 100 ∷ 205 ∷ 3 ∷ 50 ∷ []
unfolding arrive is_shaken can_ask ask_on is_look can_ping ping_on is_silent is_lost ran_out is_broken is_interrupted bad_stream
control_is = refl

-- the first ping is due at once: at 50, the first clock entry after readiness
heart_is : dues beating Heart journal ≡ 100 ∷ 204 ∷ 0 ∷ 0 ∷ []
unfolding arrive is_shaken can_ask ask_on is_look can_ping ping_on is_silent is_lost ran_out is_broken is_interrupted bad_stream
heart_is = refl

iopub_is : dues beating Iopub journal ≡ 100 ∷ 101 ∷ []
unfolding arrive is_shaken can_ask ask_on is_look can_ping ping_on is_silent is_lost ran_out is_broken is_interrupted bad_stream
iopub_is = refl

-- ---- a message that waits for the handshake

-- a job that interrupts a cell after 100 ms
abbrev hasty : Job
hasty = record job { task = record { plan = 0 ∷ 1 ∷ []; cells = 2; times = record { start_ms = 60000; limit_ms = Some 100; interrupt = true } } }

-- The look at 200 ends before the handshake on control is finished.
abbrev looked : List Entry
looked = made_ready hasty ++ turn 200 ++ (wait 0 [] ∷ dry hasty Shell ∷ dry hasty Iopub ∷ []) ++ turn 210

-- the interrupt of that look is not due yet
waiting_is : dues hasty Control (reverse looked) ≡ 100 ∷ []
unfolding arrive is_shaken can_ask ask_on is_look can_ping ping_on is_silent is_lost ran_out is_broken is_interrupted bad_stream
waiting_is = refl

-- one piece finishes the handshake and brings a PING: the PONG comes before the interrupt
waited_is : dues hasty Control (reverse (looked ++ (got hasty Control (9 ∷ 8 ∷ 77 ∷ []) ∷ []))) ≡ 100 ∷ 108 ∷ 77 ∷ 203 ∷ 3 ∷ 200 ∷ []
unfolding arrive is_shaken can_ask ask_on is_look can_ping ping_on is_silent is_lost ran_out is_broken is_interrupted bad_stream
waited_is = refl

-- on shell nothing waits
hasty_shell_is : dues hasty Shell (reverse (looked ++ (got hasty Control (9 ∷ 8 ∷ 77 ∷ []) ∷ []))) ≡ 100 ∷ 201 ∷ 1 ∷ 30 ∷ 202 ∷ 2 ∷ 40 ∷ []
unfolding arrive is_shaken can_ask ask_on is_look can_ping ping_on is_silent is_lost ran_out is_broken is_interrupted bad_stream
hasty_shell_is = refl
