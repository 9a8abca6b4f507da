-- A greeting that is none, and a kernel that never is ready.
use Rattle.std.proofs.Common.{◌≡◌, ℕ, List, [], ◌∷◌, ◌++◌, false, Some, None, codes, refl, reverse, map}
use Rattle.world.specs.declared.chan.Chan.TheVariants.{Shell, Iopub}
use Rattle.world.specs.declared.entry.Entry.{Entry}
use Rattle.cell_core.specs.declared.why.Why.TheVariants as cause
use Rattle.run_journal.specs.Job.{Job}
use Rattle.run_journal.specs.Arrivals.{arrive, is_shaken, can_ask, ask_on}
use Rattle.run_journal.specs.Looks.{is_look, can_ping, ping_on, is_silent, is_lost, ran_out}
use Rattle.run_journal.specs.Requests.{is_broken, is_interrupted}
use Rattle.run_journal.specs.Why.{bad_stream, why}
use Rattle.run_journal.specs.Saves.{saves}
use Rattle.run_journal.specs.Ends.{BadPeer, status_of}
use Rattle.run_journal.specs.Lines.{Saved, Last, lines}
use Rattle.run_journal.specs.Due.{dues}
use Rattle.run_journal.proofs.Toy.{job, saved, got, put, dry, wait, turn, start}

-- shell begins with another byte
abbrev pub broken : List Entry
broken = saved job ++ start job ++ turn 20 ++ (got job Shell (254 ∷ []) ∷ [])

-- a second to be ready
abbrev hasty : Job
hasty = record job { task = record { plan = 0 ∷ 1 ∷ []; cells = 2; times = record { start_ms = 1000; limit_ms = None; interrupt = false } } }

-- no reply up to 1,010, and a look
abbrev unready : List Entry
unready = saved hasty ++ start hasty ++ turn 20 ++ (got hasty Shell (9 ∷ []) ∷ got hasty Iopub (9 ∷ []) ∷ put hasty Iopub (100 ∷ 101 ∷ []) ∷ [])
    ++ turn 30 ++ turn 530 ++ turn 1010 ++ (dry hasty Shell ∷ dry hasty Iopub ∷ wait 0 [] ∷ [])

why_is : why job (reverse broken) ≡ Some cause.BadPeer
unfolding arrive is_shaken can_ask ask_on is_look can_ping ping_on is_silent is_lost ran_out is_broken is_interrupted bad_stream
why_is = refl

place_is : bad_stream job (reverse broken) ≡ Some (record { chan = Shell; number = 1; at = 0 })
unfolding arrive is_shaken can_ask ask_on is_look can_ping ping_on is_silent is_lost ran_out is_broken is_interrupted bad_stream
place_is = refl

-- no request stands, so no further save is due
saves_are : map {B = ℕ × List ℕ} (λ s. (s.settled, s.text)) (saves job (reverse broken)) ≡ (0, 0 ∷ 0 ∷ []) ∷ []
unfolding arrive is_shaken can_ask ask_on is_look can_ping ping_on is_silent is_lost ran_out is_broken is_interrupted bad_stream
saves_are = refl

status_is : status_of job (reverse broken) ≡ 15
unfolding arrive is_shaken can_ask ask_on is_look can_ping ping_on is_silent is_lost ran_out is_broken is_interrupted bad_stream
status_is = refl

lines_are : lines (job ∷ []) (reverse broken) None ≡ Saved 0 2 (codes "out") ∷ Last (BadPeer (record { chan = Shell; number = 1; at = 0 })) (codes "out") ∷ []
unfolding arrive is_shaken can_ask ask_on is_look can_ping ping_on is_silent is_lost ran_out is_broken is_interrupted bad_stream
lines_are = refl

unready_why : why hasty (reverse unready) ≡ Some cause.NotReady
unfolding arrive is_shaken can_ask ask_on is_look can_ping ping_on is_silent is_lost ran_out is_broken is_interrupted bad_stream
unready_why = refl

unready_saves : map {B = ℕ × List ℕ} (λ s. (s.settled, s.text)) (saves hasty (reverse unready)) ≡ (0, 0 ∷ 0 ∷ []) ∷ []
unfolding arrive is_shaken can_ask ask_on is_look can_ping ping_on is_silent is_lost ran_out is_broken is_interrupted bad_stream
unready_saves = refl

-- asked at 30 and at 530, and not again before 1,030
unready_asked : dues hasty Shell (reverse unready) ≡ 100 ∷ 201 ∷ 1 ∷ 30 ∷ 201 ∷ 2 ∷ 530 ∷ []
unfolding arrive is_shaken can_ask ask_on is_look can_ping ping_on is_silent is_lost ran_out is_broken is_interrupted bad_stream
unready_asked = refl
