-- A cell that raises.
use Rattle.std.proofs.Common.{◌≡◌, ℕ, List, [], ◌∷◌, ◌++◌, false, Some, None, codes, refl, reverse, map}
use Rattle.world.specs.declared.chan.Chan.TheVariants.{Shell, Iopub}
use Rattle.world.specs.declared.entry.Entry.{Entry}
use Rattle.cell_core.specs.declared.why.Why.TheVariants as cause
use Rattle.run_journal.specs.Job.{Job}
use Rattle.run_journal.specs.Arrivals.{arrive, is_shaken, can_ask, ask_on}
use Rattle.run_journal.specs.Looks.{is_look, can_ping, ping_on, is_silent, is_lost, ran_out}
use Rattle.run_journal.specs.Requests.{is_broken, is_interrupted}
use Rattle.run_journal.specs.Why.{bad_stream, why}
use Rattle.run_journal.specs.Saves.{saves}
use Rattle.run_journal.specs.Ends.{CellError, status_of}
use Rattle.run_journal.specs.Lines.{Saved, Last, lines}
use Rattle.run_journal.proofs.Toy.{saved, got, turn, made_ready, printed, three}

-- the same, where errors are allowed
abbrev lenient : Job
lenient = record three { fatal = λ k c. false }

-- the second cell raises
abbrev raised : List Entry
raised = made_ready three ++ turn 50 ++ printed three 2 21 ++ saved three
    ++ turn 60 ++ (got three Iopub (0 ∷ 3 ∷ 25 ∷ 3 ∷ 1 ∷ 3 ∷ []) ∷ got three Shell (4 ∷ 3 ∷ []) ∷ []) ++ saved three

-- where errors are allowed the third cell is run
abbrev allowed : List Entry
allowed = raised ++ turn 70 ++ printed three 4 23 ++ saved three

why_is : why three (reverse raised) ≡ Some cause.CellError
unfolding arrive is_shaken can_ask ask_on is_look can_ping ping_on is_silent is_lost ran_out is_broken is_interrupted bad_stream
why_is = refl

saves_are : map {B = ℕ × List ℕ} (λ s. (s.settled, s.text)) (saves three (reverse raised)) ≡ (0, 0 ∷ 0 ∷ []) ∷ (1, 1 ∷ 0 ∷ 1 ∷ 255 ∷ []) ∷ (2, 2 ∷ 2 ∷ 1 ∷ 255 ∷ 5 ∷ 255 ∷ []) ∷ []
unfolding arrive is_shaken can_ask ask_on is_look can_ping ping_on is_silent is_lost ran_out is_broken is_interrupted bad_stream
saves_are = refl

status_is : status_of three (reverse raised) ≡ 1
unfolding arrive is_shaken can_ask ask_on is_look can_ping ping_on is_silent is_lost ran_out is_broken is_interrupted bad_stream
status_is = refl

lines_are : lines (three ∷ []) (reverse raised) None ≡ Saved 0 3 (codes "out") ∷ Saved 1 3 (codes "out") ∷ Saved 2 3 (codes "out") ∷ Last (CellError 1 (codes "E")) (codes "out") ∷ []
unfolding arrive is_shaken can_ask ask_on is_look can_ping ping_on is_silent is_lost ran_out is_broken is_interrupted bad_stream
lines_are = refl

allowed_saves : map {B = ℕ × List ℕ} (λ s. (s.settled, s.text)) (saves lenient (reverse allowed)) ≡ (0, 0 ∷ 0 ∷ []) ∷ (1, 1 ∷ 0 ∷ 1 ∷ 255 ∷ []) ∷ (2, 2 ∷ 0 ∷ 1 ∷ 255 ∷ 5 ∷ 255 ∷ []) ∷ (3, 3 ∷ 0 ∷ 1 ∷ 255 ∷ 5 ∷ 255 ∷ 3 ∷ 255 ∷ []) ∷ []
unfolding arrive is_shaken can_ask ask_on is_look can_ping ping_on is_silent is_lost ran_out is_broken is_interrupted bad_stream
allowed_saves = refl

allowed_status : status_of lenient (reverse allowed) ≡ 0
unfolding arrive is_shaken can_ask ask_on is_look can_ping ping_on is_silent is_lost ran_out is_broken is_interrupted bad_stream
allowed_status = refl
