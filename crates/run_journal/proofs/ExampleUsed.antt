-- Which messages are used, and in which order they may come.
use Rattle.std.proofs.Common.{◌≡◌, ℕ, List, [], ◌∷◌, ◌++◌, Bool, false, refl, reverse, length, map}
use Rattle.world.specs.declared.chan.Chan.TheVariants.{Shell, Iopub}
use Rattle.world.specs.declared.entry.Entry.{Entry}
use Rattle.run_journal.specs.Arrivals.{arrive, is_shaken, can_ask, ask_on}
use Rattle.run_journal.specs.Looks.{is_look, can_ping, ping_on, is_silent, is_lost, ran_out}
use Rattle.run_journal.specs.Requests.{own, requests, is_broken, is_interrupted}
use Rattle.run_journal.specs.Why.{bad_stream}
use Rattle.run_journal.specs.Saves.{saves}
use Rattle.run_journal.specs.Ends.{status_of}
use Rattle.run_journal.proofs.Toy.{job, saved, got, put, turn, start, made_ready, printed}

-- the rest of a run whose first request has come to its end: the second cell prints
abbrev rest : List Entry
rest = saved job ++ turn 60 ++ printed job 3 22 ++ saved job

-- the signature of the first cell's text is wrong
abbrev unsigned : List Entry
unsigned = reverse (made_ready job ++ turn 50 ++ printed job 2 7 ++ rest)

unsigned_is_left_out : map {B = ℕ × List ℕ} (λ s. (s.settled, s.text)) (saves job unsigned) ≡ (0, 0 ∷ 0 ∷ []) ∷ (1, 1 ∷ 0 ∷ 255 ∷ []) ∷ (2, 2 ∷ 0 ∷ 255 ∷ 2 ∷ 255 ∷ []) ∷ []
unfolding arrive is_shaken can_ask ask_on is_look can_ping ping_on is_silent is_lost ran_out is_broken is_interrupted bad_stream
unsigned_is_left_out = refl

unsigned_status : status_of job unsigned ≡ 0
unfolding arrive is_shaken can_ask ask_on is_look can_ping ping_on is_silent is_lost ran_out is_broken is_interrupted bad_stream
unsigned_status = refl

-- a text comes after the idle and before the reply
abbrev after_idle : List Entry
after_idle = reverse (made_ready job ++ turn 50 ++ (got job Iopub (0 ∷ 2 ∷ 1 ∷ 2 ∷ []) ∷ got job Iopub (21 ∷ 2 ∷ []) ∷ got job Shell (3 ∷ 2 ∷ []) ∷ []) ++ rest)

after_idle_is_left_out : map {B = ℕ × List ℕ} (λ s. (s.settled, s.text)) (saves job after_idle) ≡ (0, 0 ∷ 0 ∷ []) ∷ (1, 1 ∷ 0 ∷ 255 ∷ []) ∷ (2, 2 ∷ 0 ∷ 255 ∷ 2 ∷ 255 ∷ []) ∷ []
unfolding arrive is_shaken can_ask ask_on is_look can_ping ping_on is_silent is_lost ran_out is_broken is_interrupted bad_stream
after_idle_is_left_out = refl

after_idle_status : status_of job after_idle ≡ 0
unfolding arrive is_shaken can_ask ask_on is_look can_ping ping_on is_silent is_lost ran_out is_broken is_interrupted bad_stream
after_idle_status = refl

-- the reply comes before the idle
abbrev reply_first : List Entry
reply_first = reverse (made_ready job ++ turn 50 ++ (got job Shell (3 ∷ 2 ∷ []) ∷ got job Iopub (0 ∷ 2 ∷ 21 ∷ 2 ∷ 1 ∷ 2 ∷ []) ∷ []) ++ rest)

reply_first_saves : map {B = ℕ × List ℕ} (λ s. (s.settled, s.text)) (saves job reply_first) ≡ (0, 0 ∷ 0 ∷ []) ∷ (1, 1 ∷ 0 ∷ 1 ∷ 255 ∷ []) ∷ (2, 2 ∷ 0 ∷ 1 ∷ 255 ∷ 2 ∷ 255 ∷ []) ∷ []
unfolding arrive is_shaken can_ask ask_on is_look can_ping ping_on is_silent is_lost ran_out is_broken is_interrupted bad_stream
reply_first_saves = refl

-- a message for the first request comes in the entry by which the request comes to stand
abbrev too_early : List Entry
too_early = reverse (saved job ++ start job ++ turn 20 ++ (got job Shell (9 ∷ []) ∷ got job Iopub (9 ∷ []) ∷ put job Iopub (100 ∷ 101 ∷ []) ∷ [])
    ++ turn 30 ++ turn 40 ++ (got job Shell (5 ∷ 1 ∷ []) ∷ got job Iopub (0 ∷ 1 ∷ 25 ∷ 2 ∷ []) ∷ []) ++ printed job 2 21)

too_early_is_left_out : map {B = ℕ × ℕ × ℕ × ℕ × Bool} (λ r. (r.number, r.clock, length (own r), length r.replies, r.interrupted)) (requests job too_early) ≡ (2, 40, 3, 1, false) ∷ []
unfolding arrive is_shaken can_ask ask_on is_look can_ping ping_on is_silent is_lost ran_out is_broken is_interrupted bad_stream
too_early_is_left_out = refl

-- messages that are cut anywhere
messages_split : map {B = ℕ × List ℕ} (λ s. (s.settled, s.text)) (saves job (reverse (made_ready job ++ (got job Iopub (0 ∷ []) ∷ got job Iopub (2 ∷ 21 ∷ []) ∷ got job Iopub (2 ∷ 1 ∷ 2 ∷ []) ∷ got job Shell (3 ∷ 2 ∷ []) ∷ [])))) ≡ (0, 0 ∷ 0 ∷ []) ∷ (1, 1 ∷ 0 ∷ 1 ∷ 255 ∷ []) ∷ []
unfolding arrive is_shaken can_ask ask_on is_look can_ping ping_on is_silent is_lost ran_out is_broken is_interrupted bad_stream
messages_split = refl
