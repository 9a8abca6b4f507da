-- A run of two cells, each of which prints.
use Rattle.std.proofs.Common.{◌≡◌, ℕ, List, [], ◌∷◌, ◌++◌, Bool, false, Some, None, codes, refl, reverse, length, map}
use Rattle.world.specs.declared.chan.Chan.TheVariants.{Shell, Iopub}
use Rattle.world.specs.declared.entry.Entry.{Entry}
use Rattle.cell_core.specs.declared.why.Why.TheVariants as cause
use Rattle.run_journal.specs.Arrivals.{arrive, is_shaken, can_ask, ask_on}
use Rattle.run_journal.specs.Looks.{is_look, can_ping, ping_on, is_silent, is_lost, ran_out}
use Rattle.run_journal.specs.Requests.{own, requests, is_broken, is_interrupted}
use Rattle.run_journal.specs.Why.{bad_stream, why}
use Rattle.run_journal.specs.Saves.{saves}
use Rattle.run_journal.specs.Ends.{Done, status_of}
use Rattle.run_journal.specs.Lines.{Saved, Last, lines}
use Rattle.run_journal.specs.Due.{dues}
use Rattle.run_journal.proofs.Toy.{job, saved, turn, made_ready, printed}

-- two cells print, each behind its request
abbrev pub journal : List Entry
journal = reverse (made_ready job ++ turn 50 ++ printed job 2 21 ++ saved job ++ turn 60 ++ printed job 3 22 ++ saved job)

-- each request with its number, its clock, its own messages, its replies, and whether it was interrupted
requests_are : map {B = ℕ × ℕ × ℕ × ℕ × Bool} (λ r. (r.number, r.clock, length (own r), length r.replies, r.interrupted)) (requests job journal) ≡ (2, 40, 3, 1, false) ∷ (3, 50, 3, 1, false) ∷ []
unfolding arrive is_shaken can_ask ask_on is_look can_ping ping_on is_silent is_lost ran_out is_broken is_interrupted bad_stream
requests_are = refl

why_is : why job journal ≡ Some cause.Done
unfolding arrive is_shaken can_ask ask_on is_look can_ping ping_on is_silent is_lost ran_out is_broken is_interrupted bad_stream
why_is = refl

saves_are : map {B = ℕ × List ℕ} (λ s. (s.settled, s.text)) (saves job journal) ≡ (0, 0 ∷ 0 ∷ []) ∷ (1, 1 ∷ 0 ∷ 1 ∷ 255 ∷ []) ∷ (2, 2 ∷ 0 ∷ 1 ∷ 255 ∷ 2 ∷ 255 ∷ []) ∷ []
unfolding arrive is_shaken can_ask ask_on is_look can_ping ping_on is_silent is_lost ran_out is_broken is_interrupted bad_stream
saves_are = refl

status_is : status_of job journal ≡ 0
unfolding arrive is_shaken can_ask ask_on is_look can_ping ping_on is_silent is_lost ran_out is_broken is_interrupted bad_stream
status_is = refl

lines_are : lines (job ∷ []) journal None ≡ Saved 0 2 (codes "out") ∷ Saved 1 2 (codes "out") ∷ Saved 2 2 (codes "out") ∷ Last Done (codes "out") ∷ []
unfolding arrive is_shaken can_ask ask_on is_look can_ping ping_on is_silent is_lost ran_out is_broken is_interrupted bad_stream
lines_are = refl

-- greeting, the `kernel_info_request`, and two `execute_request`s
shell_is : dues job Shell journal ≡ 100 ∷ 201 ∷ 1 ∷ 30 ∷ 202 ∷ 2 ∷ 40 ∷ 202 ∷ 3 ∷ 50 ∷ []
unfolding arrive is_shaken can_ask ask_on is_look can_ping ping_on is_silent is_lost ran_out is_broken is_interrupted bad_stream
shell_is = refl

iopub_is : dues job Iopub journal ≡ 100 ∷ 101 ∷ []
unfolding arrive is_shaken can_ask ask_on is_look can_ping ping_on is_silent is_lost ran_out is_broken is_interrupted bad_stream
iopub_is = refl
