-- A display that a later cell updates.
use Rattle.std.proofs.Common.{◌≡◌, ℕ, List, [], ◌∷◌, ◌++◌, refl, reverse, map}
use Rattle.world.specs.declared.chan.Chan.TheVariants.{Shell, Iopub}
use Rattle.world.specs.declared.entry.Entry.{Entry}
use Rattle.run_journal.specs.Arrivals.{arrive, is_shaken, can_ask, ask_on}
use Rattle.run_journal.specs.Looks.{is_look, can_ping, ping_on, is_silent, is_lost, ran_out}
use Rattle.run_journal.specs.Requests.{is_broken, is_interrupted}
use Rattle.run_journal.specs.Why.{bad_stream}
use Rattle.run_journal.specs.Saves.{saves}
use Rattle.run_journal.specs.Ends.{status_of}
use Rattle.run_journal.proofs.Toy.{saved, got, turn, made_ready, printed, three}

-- the first shows `x` twice, the second prints, the third updates `x`
abbrev journal : List Entry
journal = reverse (made_ready three ++ (got three Iopub (0 ∷ 2 ∷ 41 ∷ 2 ∷ 42 ∷ 2 ∷ 1 ∷ 2 ∷ []) ∷ got three Shell (3 ∷ 2 ∷ []) ∷ []) ++ saved three
    ++ turn 60 ++ printed three 3 23 ++ saved three
    ++ turn 70 ++ (got three Iopub (0 ∷ 4 ∷ 69 ∷ 4 ∷ 1 ∷ 4 ∷ []) ∷ got three Shell (3 ∷ 4 ∷ []) ∷ []) ++ saved three)

-- each output of the first cell shows what was shown last under its id
saves_are : map {B = ℕ × List ℕ} (λ s. (s.settled, s.text)) (saves three journal) ≡ (0, 0 ∷ 0 ∷ []) ∷ (1, 1 ∷ 0 ∷ 2 ∷ 2 ∷ 255 ∷ []) ∷ (2, 2 ∷ 0 ∷ 2 ∷ 2 ∷ 255 ∷ 3 ∷ 255 ∷ []) ∷ (3, 3 ∷ 0 ∷ 9 ∷ 9 ∷ 255 ∷ 3 ∷ 255 ∷ 255 ∷ []) ∷ []
unfolding arrive is_shaken can_ask ask_on is_look can_ping ping_on is_silent is_lost ran_out is_broken is_interrupted bad_stream
saves_are = refl

status_is : status_of three journal ≡ 0
unfolding arrive is_shaken can_ask ask_on is_look can_ping ping_on is_silent is_lost ran_out is_broken is_interrupted bad_stream
status_is = refl
