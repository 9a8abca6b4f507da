-- Two jobs beside each other: what is said of one is said by its own entries.
use Rattle.std.proofs.Common.{◌≡◌, ℕ, List, [], ◌∷◌, ◌++◌, true, false, None, codes, refl, reverse, map}
use Rattle.world.specs.declared.chan.Chan.TheVariants.{Shell, Control, Iopub}
use Rattle.world.specs.declared.entry.Entry.{Entry}
use Rattle.world.specs.declared.entry.Entry.TheVariants as made
use Rattle.run_journal.specs.Job.{Job}
use Rattle.run_journal.specs.OfJob.{of_job}
use Rattle.run_journal.specs.Arrivals.{arrive, is_shaken, can_ask, ask_on}
use Rattle.run_journal.specs.Looks.{is_look, can_ping, ping_on, is_silent, is_lost, ran_out}
use Rattle.run_journal.specs.Requests.{is_broken, is_interrupted}
use Rattle.run_journal.specs.Why.{bad_stream}
use Rattle.run_journal.specs.Saves.{saves}
use Rattle.run_journal.specs.Ends.{Done, BadPeer, status_of}
use Rattle.run_journal.specs.Lines.{Saved, Last, lines}
use Rattle.run_journal.proofs.Toy.{saved, got, put, closed, wait, start, printed, one}

-- the second job, with one cell as the first
abbrev two : Job
two = record one { number = 1; input = codes "in2"; output = codes "out2" }

-- a turn of both: a wait that reports shell and IOPub of each, the clock, and a look at each child
abbrev both : ℕ → List Entry
both ms = wait 500 (true ∷ false ∷ true ∷ false ∷ true ∷ false ∷ true ∷ []) ∷ made.Moment ms ∷ made.Looked 0 None ∷ made.Looked 1 None ∷ []

-- the handshakes of a job
abbrev shakes : Job → List Entry
shakes j = got j Shell (9 ∷ []) ∷ got j Iopub (9 ∷ []) ∷ put j Iopub (100 ∷ 101 ∷ []) ∷ []

-- its readiness
abbrev readies : Job → List Entry
readies j = got j Shell (5 ∷ 1 ∷ []) ∷ got j Iopub (0 ∷ 1 ∷ []) ∷ []

-- The first job is done at 50. The stream of the second one breaks at 50, and the save of its stop comes after the first job's.
abbrev told : List Entry
told = saved one ++ start one ++ saved two ++ start two ++ both 20 ++ shakes two ++ shakes one ++ both 30 ++ both 40 ++ readies one ++ readies two
    ++ both 50 ++ printed one 2 21 ++ saved one ++ (closed one Shell ∷ got two Iopub (24 ∷ 2 ∷ []) ∷ got two Control (5 ∷ []) ∷ []) ++ saved two

-- the newest entry first
abbrev journal : List Entry
journal = reverse told

first_saves : map {B = ℕ × List ℕ} (λ s. (s.settled, s.text)) (saves one journal) ≡ (0, 0 ∷ 0 ∷ []) ∷ (1, 1 ∷ 0 ∷ 1 ∷ 255 ∷ []) ∷ []
unfolding arrive is_shaken can_ask ask_on is_look can_ping ping_on is_silent is_lost ran_out is_broken is_interrupted bad_stream
first_saves = refl

second_saves : map {B = ℕ × List ℕ} (λ s. (s.settled, s.text)) (saves two journal) ≡ (0, 0 ∷ 0 ∷ []) ∷ (1, 1 ∷ 1 ∷ 4 ∷ 255 ∷ []) ∷ []
unfolding arrive is_shaken can_ask ask_on is_look can_ping ping_on is_silent is_lost ran_out is_broken is_interrupted bad_stream
second_saves = refl

first_status : status_of one journal ≡ 0
unfolding arrive is_shaken can_ask ask_on is_look can_ping ping_on is_silent is_lost ran_out is_broken is_interrupted bad_stream
first_status = refl

second_status : status_of two journal ≡ 15
unfolding arrive is_shaken can_ask ask_on is_look can_ping ping_on is_silent is_lost ran_out is_broken is_interrupted bad_stream
second_status = refl

first_own_saves : map {B = ℕ × List ℕ} (λ s. (s.settled, s.text)) (saves one (of_job one journal)) ≡ (0, 0 ∷ 0 ∷ []) ∷ (1, 1 ∷ 0 ∷ 1 ∷ 255 ∷ []) ∷ []
unfolding arrive is_shaken can_ask ask_on is_look can_ping ping_on is_silent is_lost ran_out is_broken is_interrupted bad_stream
first_own_saves = refl

second_own_saves : map {B = ℕ × List ℕ} (λ s. (s.settled, s.text)) (saves two (of_job two journal)) ≡ (0, 0 ∷ 0 ∷ []) ∷ (1, 1 ∷ 1 ∷ 4 ∷ 255 ∷ []) ∷ []
unfolding arrive is_shaken can_ask ask_on is_look can_ping ping_on is_silent is_lost ran_out is_broken is_interrupted bad_stream
second_own_saves = refl

-- in the order in which the jobs end
lines_are : lines (one ∷ two ∷ []) journal None ≡ Saved 0 1 (codes "out") ∷ Saved 0 1 (codes "out2") ∷ Saved 1 1 (codes "out") ∷ Last Done (codes "out") ∷ Saved 1 1 (codes "out2") ∷ Last (BadPeer (record { chan = Control; number = 1; at = 0 })) (codes "out2") ∷ []
unfolding arrive is_shaken can_ask ask_on is_look can_ping ping_on is_silent is_lost ran_out is_broken is_interrupted bad_stream
lines_are = refl

-- both jobs are done at 50, and each is left before the other is read
abbrev both_done : List Entry
both_done = saved one ++ start one ++ saved two ++ start two ++ both 20 ++ shakes two ++ shakes one ++ both 30 ++ both 40 ++ readies one ++ readies two
    ++ both 50 ++ printed one 2 21 ++ saved one ++ (closed one Shell ∷ []) ++ printed two 2 22 ++ saved two ++ (closed two Shell ∷ [])

-- the last line of a job stands behind its last save
done_lines : lines (one ∷ two ∷ []) (reverse both_done) None ≡ Saved 0 1 (codes "out") ∷ Saved 0 1 (codes "out2") ∷ Saved 1 1 (codes "out") ∷ Last Done (codes "out") ∷ Saved 1 1 (codes "out2") ∷ Last Done (codes "out2") ∷ []
unfolding arrive is_shaken can_ask ask_on is_look can_ping ping_on is_silent is_lost ran_out is_broken is_interrupted bad_stream
done_lines = refl
