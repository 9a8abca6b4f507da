-- A job that is left at the entry by which it ends: nothing more of its kernel is read.
use Rattle.std.proofs.Common.{◌≡◌, ℕ, List, [], ◌∷◌, ◌++◌, None, codes, refl, reverse, map}
use Rattle.world.specs.declared.chan.Chan.TheVariants.{Shell, Control, Iopub}
use Rattle.world.specs.declared.entry.Entry.{Entry}
use Rattle.run_journal.specs.Job.{Job}
use Rattle.run_journal.specs.Arrivals.{arrive, is_shaken, can_ask, ask_on}
use Rattle.run_journal.specs.Looks.{is_look, can_ping, ping_on, is_silent, is_lost, ran_out}
use Rattle.run_journal.specs.Requests.{is_broken, is_interrupted}
use Rattle.run_journal.specs.Why.{bad_stream}
use Rattle.run_journal.specs.Saves.{saves}
use Rattle.run_journal.specs.Ends.{BadPeer, status_of}
use Rattle.run_journal.specs.Lines.{Saved, Last, lines}
use Rattle.run_journal.proofs.Toy.{one, saved, got, put, closed, turn, start, made_ready}

-- the connections of the job are closed
abbrev left : List Entry
left = closed one Shell ∷ closed one Control ∷ closed one Iopub ∷ []

-- ---- a stream breaks behind the reply

-- The reply comes at 50, and then control breaks the grammar. The save of the stop is acknowledged.
abbrev stopped : List Entry
stopped = made_ready one ++ turn 50 ++ (got one Shell (3 ∷ 2 ∷ []) ∷ got one Control (5 ∷ []) ∷ []) ++ saved one

-- the cell is saved as the one that stopped the job, and without an output
saves_are : map {B = ℕ × List ℕ} (λ s. (s.settled, s.text)) (saves one (reverse (stopped ++ left))) ≡ (0, 0 ∷ 0 ∷ []) ∷ (1, 1 ∷ 1 ∷ 255 ∷ []) ∷ []
unfolding arrive is_shaken can_ask ask_on is_look can_ping ping_on is_silent is_lost ran_out is_broken is_interrupted bad_stream
saves_are = refl

status_is : status_of one (reverse (stopped ++ left)) ≡ 15
unfolding arrive is_shaken can_ask ask_on is_look can_ping ping_on is_silent is_lost ran_out is_broken is_interrupted bad_stream
status_is = refl

lines_are : lines (one ∷ []) (reverse (stopped ++ left)) None ≡ Saved 0 1 (codes "out") ∷ Saved 1 1 (codes "out") ∷ Last (BadPeer (record { chan = Control; number = 1; at = 0 })) (codes "out") ∷ []
unfolding arrive is_shaken can_ask ask_on is_look can_ping ping_on is_silent is_lost ran_out is_broken is_interrupted bad_stream
lines_are = refl

-- An output and the idle are read before the connections are closed, and make another save due. So a job has to be left first.
read_on : map {B = ℕ × List ℕ} (λ s. (s.settled, s.text)) (saves one (reverse (stopped ++ (got one Iopub (21 ∷ 2 ∷ 1 ∷ 2 ∷ []) ∷ []) ++ left))) ≡ (0, 0 ∷ 0 ∷ []) ∷ (1, 1 ∷ 0 ∷ 1 ∷ 255 ∷ []) ∷ []
unfolding arrive is_shaken can_ask ask_on is_look can_ping ping_on is_silent is_lost ran_out is_broken is_interrupted bad_stream
read_on = refl

-- ---- a stream breaks before the kernel is ready

-- The reply to the `kernel_info_request` comes at 40, and then control breaks the grammar, before IOPub is read.
abbrev unready : List Entry
unready = saved one ++ start one ++ turn 20 ++ (got one Shell (9 ∷ []) ∷ got one Iopub (9 ∷ []) ∷ put one Iopub (100 ∷ 101 ∷ []) ∷ [])
    ++ turn 30 ++ turn 40 ++ (got one Shell (5 ∷ 1 ∷ []) ∷ got one Control (5 ∷ []) ∷ [])

-- no request stands, so no further save is due
unready_saves : map {B = ℕ × List ℕ} (λ s. (s.settled, s.text)) (saves one (reverse (unready ++ left))) ≡ (0, 0 ∷ 0 ∷ []) ∷ []
unfolding arrive is_shaken can_ask ask_on is_look can_ping ping_on is_silent is_lost ran_out is_broken is_interrupted bad_stream
unready_saves = refl

unready_status : status_of one (reverse (unready ++ left)) ≡ 15
unfolding arrive is_shaken can_ask ask_on is_look can_ping ping_on is_silent is_lost ran_out is_broken is_interrupted bad_stream
unready_status = refl

unready_lines : lines (one ∷ []) (reverse (unready ++ left)) None ≡ Saved 0 1 (codes "out") ∷ Last (BadPeer (record { chan = Control; number = 1; at = 0 })) (codes "out") ∷ []
unfolding arrive is_shaken can_ask ask_on is_look can_ping ping_on is_silent is_lost ran_out is_broken is_interrupted bad_stream
unready_lines = refl
