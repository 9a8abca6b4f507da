-- A kernel that dies.
use Rattle.std.proofs.Common.{◌≡◌, ℕ, List, [], ◌∷◌, ◌++◌, false, Some, None, codes, refl, reverse, map}
use Rattle.world.specs.declared.chan.Chan.TheVariants.{Shell, Iopub}
use Rattle.world.specs.declared.entry.Entry.{Entry}
use Rattle.world.specs.declared.entry.Entry.TheVariants as made
use Rattle.world.specs.declared.side.Side.TheVariants as side
use Rattle.cell_core.specs.declared.why.Why.TheVariants as cause
use Rattle.cell_core.specs.declared.event.Event.TheVariants as event
use Rattle.cell_core.specs.declared.brief.Brief.TheVariants as brief
use Rattle.run_journal.specs.Arrivals.{arrive, is_shaken, can_ask, ask_on}
use Rattle.run_journal.specs.Looks.{is_look, can_ping, ping_on, is_silent, is_lost, ran_out}
use Rattle.run_journal.specs.Requests.{is_broken, is_interrupted}
use Rattle.run_journal.specs.Why.{bad_stream, why}
use Rattle.run_journal.specs.Saves.{saves}
use Rattle.run_journal.specs.Ends.{KernelLost, status_of}
use Rattle.run_journal.specs.Lines.{Saved, Last, lines}
use Rattle.run_journal.specs.Course.{course}
use Rattle.run_journal.proofs.Toy.{saved, got, wait, turn, made_ready, printed, three}

-- the first cell prints; in the second the kernel prints and dies
abbrev pub dying : List Entry
dying = made_ready three ++ turn 50 ++ printed three 2 21 ++ saved three ++ turn 60
    ++ (got three Iopub (0 ∷ 3 ∷ 22 ∷ 3 ∷ []) ∷ made.Ended (record { job = 0; chan = Iopub }) side.Read ∷ made.Ended (record { job = 0; chan = Shell }) side.Read ∷ [])

-- a look follows, and the save of the stop
abbrev dead : List Entry
dead = dying ++ (wait 0 [] ∷ []) ++ saved three

not_before_the_look : why three (reverse dying) ≡ None
unfolding arrive is_shaken can_ask ask_on is_look can_ping ping_on is_silent is_lost ran_out is_broken is_interrupted bad_stream
not_before_the_look = refl

why_is : why three (reverse dead) ≡ Some cause.KernelLost
unfolding arrive is_shaken can_ask ask_on is_look can_ping ping_on is_silent is_lost ran_out is_broken is_interrupted bad_stream
why_is = refl

saves_are : map {B = ℕ × List ℕ} (λ s. (s.settled, s.text)) (saves three (reverse dead)) ≡ (0, 0 ∷ 0 ∷ []) ∷ (1, 1 ∷ 0 ∷ 1 ∷ 255 ∷ []) ∷ (2, 2 ∷ 2 ∷ 1 ∷ 255 ∷ 2 ∷ 255 ∷ []) ∷ []
unfolding arrive is_shaken can_ask ask_on is_look can_ping ping_on is_silent is_lost ran_out is_broken is_interrupted bad_stream
saves_are = refl

status_is : status_of three (reverse dead) ≡ 8
unfolding arrive is_shaken can_ask ask_on is_look can_ping ping_on is_silent is_lost ran_out is_broken is_interrupted bad_stream
status_is = refl

lines_are : lines (three ∷ []) (reverse dead) None ≡ Saved 0 3 (codes "out") ∷ Saved 1 3 (codes "out") ∷ Saved 2 3 (codes "out") ∷ Last KernelLost (codes "out") ∷ []
unfolding arrive is_shaken can_ask ask_on is_look can_ping ping_on is_silent is_lost ran_out is_broken is_interrupted bad_stream
lines_are = refl

-- what the core is told, the newest first
course_is : (course three (reverse dead)).told ≡ event.Saved ∷ event.Looked ∷ event.Lost ∷ event.Lost ∷ event.Io brief.Else ∷ event.Io brief.Else ∷ event.Moment 60 ∷ event.Saved ∷ event.Reply false ∷ event.Io brief.Idle ∷ event.Io brief.Else ∷ event.Io brief.Else ∷ event.Moment 50 ∷ event.Ready ∷ event.Moment 40 ∷ event.Moment 30 ∷ event.Moment 20 ∷ event.Moment 10 ∷ event.Saved ∷ []
unfolding arrive is_shaken can_ask ask_on is_look can_ping ping_on is_silent is_lost ran_out is_broken is_interrupted bad_stream
course_is = refl
