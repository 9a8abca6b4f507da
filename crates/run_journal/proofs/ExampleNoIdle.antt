-- A reply without an idle.
use Rattle.std.proofs.Common.{◌≡◌, ℕ, List, [], ◌∷◌, ◌++◌, Some, None, codes, refl, reverse, map}
use Rattle.world.specs.declared.chan.Chan.TheVariants.{Shell, Iopub}
use Rattle.world.specs.declared.entry.Entry.{Entry}
use Rattle.cell_core.specs.declared.why.Why.TheVariants as cause
use Rattle.run_journal.specs.Arrivals.{arrive, is_shaken, can_ask, ask_on}
use Rattle.run_journal.specs.Looks.{is_look, can_ping, ping_on, is_silent, is_lost, ran_out}
use Rattle.run_journal.specs.Requests.{is_broken, is_interrupted}
use Rattle.run_journal.specs.Why.{bad_stream, why}
use Rattle.run_journal.specs.Saves.{saves}
use Rattle.run_journal.specs.Ends.{NoIdle, status_of}
use Rattle.run_journal.specs.Lines.{Saved, Last, lines}
use Rattle.run_journal.proofs.Toy.{job, saved, got, dry, wait, turn, made_ready}

-- the first cell prints, its reply comes at 50, its idle doesn't
abbrev replied : List Entry
replied = made_ready job ++ turn 50 ++ (got job Iopub (0 ∷ 2 ∷ 21 ∷ 2 ∷ []) ∷ got job Shell (3 ∷ 2 ∷ []) ∷ dry job Shell ∷ dry job Iopub ∷ [])

-- up to 4,049, with a look
abbrev waited : List Entry
waited = replied ++ turn 4049 ++ (dry job Shell ∷ dry job Iopub ∷ wait 0 [] ∷ [])

-- up to 4,050, with a look and the save of the stop
abbrev stopped : List Entry
stopped = replied ++ turn 4050 ++ (dry job Shell ∷ dry job Iopub ∷ wait 0 [] ∷ []) ++ saved job

waited_why : why job (reverse waited) ≡ None
unfolding arrive is_shaken can_ask ask_on is_look can_ping ping_on is_silent is_lost ran_out is_broken is_interrupted bad_stream
waited_why = refl

why_is : why job (reverse stopped) ≡ Some cause.NoIdle
unfolding arrive is_shaken can_ask ask_on is_look can_ping ping_on is_silent is_lost ran_out is_broken is_interrupted bad_stream
why_is = refl

saves_are : map {B = ℕ × List ℕ} (λ s. (s.settled, s.text)) (saves job (reverse stopped)) ≡ (0, 0 ∷ 0 ∷ []) ∷ (1, 1 ∷ 1 ∷ 1 ∷ 255 ∷ []) ∷ []
unfolding arrive is_shaken can_ask ask_on is_look can_ping ping_on is_silent is_lost ran_out is_broken is_interrupted bad_stream
saves_are = refl

status_is : status_of job (reverse stopped) ≡ 13
unfolding arrive is_shaken can_ask ask_on is_look can_ping ping_on is_silent is_lost ran_out is_broken is_interrupted bad_stream
status_is = refl

lines_are : lines (job ∷ []) (reverse stopped) None ≡ Saved 0 2 (codes "out") ∷ Saved 1 2 (codes "out") ∷ Last (NoIdle 0) (codes "out") ∷ []
unfolding arrive is_shaken can_ask ask_on is_look can_ping ping_on is_silent is_lost ran_out is_broken is_interrupted bad_stream
lines_are = refl
