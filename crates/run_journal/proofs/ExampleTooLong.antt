-- A cell that takes too long, with an interrupt.
use Rattle.std.proofs.Common.{◌≡◌, ℕ, List, [], ◌∷◌, ◌++◌, Bool, true, Some, None, refl, reverse, length, map}
use Rattle.world.specs.declared.chan.Chan.TheVariants.{Shell, Iopub}
use Rattle.world.specs.declared.entry.Entry.{Entry}
use Rattle.cell_core.specs.declared.why.Why.TheVariants as cause
use Rattle.run_journal.specs.Job.{Job}
use Rattle.run_journal.specs.Arrivals.{arrive, is_shaken, can_ask, ask_on}
use Rattle.run_journal.specs.Looks.{is_look, can_ping, ping_on, is_silent, is_lost, ran_out}
use Rattle.run_journal.specs.Requests.{own, requests, is_broken, is_interrupted}
use Rattle.run_journal.specs.Why.{bad_stream, why}
use Rattle.run_journal.specs.Saves.{saves}
use Rattle.run_journal.specs.Ends.{status_of}
use Rattle.run_journal.proofs.Toy.{job, saved, got, dry, wait, turn, made_ready}

-- one cell, which may take a second, and is interrupted then
abbrev limited : Job
limited = record job { task = record { plan = 0 ∷ []; cells = 1; times = record { start_ms = 60000; limit_ms = Some 1000; interrupt = true } } }

-- shell and IOPub are read to their end
abbrev dried : List Entry
dried = dry limited Shell ∷ dry limited Iopub ∷ []

-- Request 0 stands from 40 on. At 1,039 its time isn't over; at 1,100 it is, and a look follows.
abbrev asked : List Entry
asked = made_ready limited ++ dried ++ turn 1039 ++ dried ++ turn 1100 ++ dried ++ (wait 0 [] ∷ [])

-- the kernel answers the interrupt by an error
abbrev answered : List Entry
answered = asked ++ turn 1200 ++ (got limited Iopub (0 ∷ 2 ∷ 26 ∷ 2 ∷ 1 ∷ 2 ∷ []) ∷ got limited Shell (4 ∷ 2 ∷ []) ∷ []) ++ saved limited

-- it doesn't, up to 11,099
abbrev waited : List Entry
waited = asked ++ turn 11099 ++ dried ++ (wait 0 [] ∷ [])

-- the same a millisecond later
abbrev silent : List Entry
silent = asked ++ turn 11100 ++ dried ++ (wait 0 [] ∷ []) ++ saved limited

interrupt_is_queued : map {B = ℕ × ℕ × ℕ × ℕ × Bool} (λ r. (r.number, r.clock, length (own r), length r.replies, r.interrupted)) (requests limited (reverse asked)) ≡ (2, 40, 0, 0, true) ∷ []
unfolding arrive is_shaken can_ask ask_on is_look can_ping ping_on is_silent is_lost ran_out is_broken is_interrupted bad_stream
interrupt_is_queued = refl

answered_why : why limited (reverse answered) ≡ Some cause.CellError
unfolding arrive is_shaken can_ask ask_on is_look can_ping ping_on is_silent is_lost ran_out is_broken is_interrupted bad_stream
answered_why = refl

answered_status : status_of limited (reverse answered) ≡ 1
unfolding arrive is_shaken can_ask ask_on is_look can_ping ping_on is_silent is_lost ran_out is_broken is_interrupted bad_stream
answered_status = refl

waited_why : why limited (reverse waited) ≡ None
unfolding arrive is_shaken can_ask ask_on is_look can_ping ping_on is_silent is_lost ran_out is_broken is_interrupted bad_stream
waited_why = refl

silent_why : why limited (reverse silent) ≡ Some cause.TimedOut
unfolding arrive is_shaken can_ask ask_on is_look can_ping ping_on is_silent is_lost ran_out is_broken is_interrupted bad_stream
silent_why = refl

silent_saves : map {B = ℕ × List ℕ} (λ s. (s.settled, s.text)) (saves limited (reverse silent)) ≡ (0, 0 ∷ 0 ∷ []) ∷ (1, 1 ∷ 1 ∷ 255 ∷ []) ∷ []
unfolding arrive is_shaken can_ask ask_on is_look can_ping ping_on is_silent is_lost ran_out is_broken is_interrupted bad_stream
silent_saves = refl

silent_status : status_of limited (reverse silent) ≡ 9
unfolding arrive is_shaken can_ask ask_on is_look can_ping ping_on is_silent is_lost ran_out is_broken is_interrupted bad_stream
silent_status = refl
