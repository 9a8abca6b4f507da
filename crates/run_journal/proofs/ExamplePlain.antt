-- Runs without a kernel, and jobs that are refused.
use Rattle.std.proofs.Common.{◌≡◌, ℕ, List, [], ◌∷◌, ◌++◌, Some, None, codes, refl, reverse, map}
use Rattle.world.specs.declared.entry.Entry.{Entry}
use Rattle.world.specs.declared.entry.Entry.TheVariants as made
use Rattle.world.specs.declared.did.Did.TheVariants as did
use Rattle.world.specs.declared.read_file.ReadFile.TheVariants as found
use Rattle.cell_core.specs.declared.why.Why.TheVariants as cause
use Rattle.run_journal.specs.Job.{Job, Refuses, Prepares}
use Rattle.run_journal.specs.Arrivals.{arrive, is_shaken, can_ask, ask_on}
use Rattle.run_journal.specs.Looks.{is_look, can_ping, ping_on, is_silent, is_lost, ran_out}
use Rattle.run_journal.specs.Requests.{is_broken, is_interrupted}
use Rattle.run_journal.specs.Why.{bad_stream, why}
use Rattle.run_journal.specs.Saves.{saves, renamed_texts}
use Rattle.run_journal.specs.Ends.{Done, NotSaved, NoNotebook, status_of}
use Rattle.run_journal.specs.Lines.{Saved, Last, lines}
use Rattle.run_journal.proofs.Toy.{job, saved, saved_as}

-- two cells, none of which is run
abbrev plain : Job
plain = record job { task = record { plan = []; cells = 2; times = job.task.times } }

-- a notebook that is only prepared
abbrev prepared : Job
prepared = record plain { given = Prepares (7 ∷ 7 ∷ []) }

-- an input that gives no notebook
abbrev refused : Job
refused = record plain { given = Refuses 4 (codes "too large") }

-- a save with its writes, and one whose rename fails
abbrev cut : List Entry
cut = reverse (saved_as plain (0 ∷ 0 ∷ []) ++ (made.Renamed (codes "out.nbrun-tmp") (codes "out") did.Failed ∷ []))

plain_saves : map {B = ℕ × List ℕ} (λ s. (s.settled, s.text)) (saves plain []) ≡ (0, 0 ∷ 0 ∷ []) ∷ (2, 2 ∷ 0 ∷ []) ∷ []
unfolding arrive is_shaken can_ask ask_on is_look can_ping ping_on is_silent is_lost ran_out is_broken is_interrupted bad_stream
plain_saves = refl

plain_goes_on : why plain (reverse (saved plain)) ≡ None
unfolding arrive is_shaken can_ask ask_on is_look can_ping ping_on is_silent is_lost ran_out is_broken is_interrupted bad_stream
plain_goes_on = refl

plain_why : why plain (reverse (saved plain ++ saved plain)) ≡ Some cause.Done
unfolding arrive is_shaken can_ask ask_on is_look can_ping ping_on is_silent is_lost ran_out is_broken is_interrupted bad_stream
plain_why = refl

plain_lines : lines (plain ∷ []) (reverse (saved plain ++ saved plain)) None ≡ Saved 0 2 (codes "out") ∷ Saved 2 2 (codes "out") ∷ Last Done (codes "out") ∷ []
unfolding arrive is_shaken can_ask ask_on is_look can_ping ping_on is_silent is_lost ran_out is_broken is_interrupted bad_stream
plain_lines = refl

prepared_saves : map {B = ℕ × List ℕ} (λ s. (s.settled, s.text)) (saves prepared []) ≡ (0, 7 ∷ 7 ∷ []) ∷ []
unfolding arrive is_shaken can_ask ask_on is_look can_ping ping_on is_silent is_lost ran_out is_broken is_interrupted bad_stream
prepared_saves = refl

prepared_lines : lines (prepared ∷ []) (reverse (saved prepared)) None ≡ Saved 0 2 (codes "out") ∷ Last Done (codes "out") ∷ []
unfolding arrive is_shaken can_ask ask_on is_look can_ping ping_on is_silent is_lost ran_out is_broken is_interrupted bad_stream
prepared_lines = refl

refused_saves : saves refused [] ≡ []
unfolding arrive is_shaken can_ask ask_on is_look can_ping ping_on is_silent is_lost ran_out is_broken is_interrupted bad_stream
refused_saves = refl

refused_lines : lines (refused ∷ []) (made.Read (codes "in") 100 found.Big ∷ []) None ≡ Last (NoNotebook 4 (codes "too large")) (codes "out") ∷ []
unfolding arrive is_shaken can_ask ask_on is_look can_ping ping_on is_silent is_lost ran_out is_broken is_interrupted bad_stream
refused_lines = refl

refused_status : status_of refused (made.Read (codes "in") 100 found.Big ∷ []) ≡ 4
unfolding arrive is_shaken can_ask ask_on is_look can_ping ping_on is_silent is_lost ran_out is_broken is_interrupted bad_stream
refused_status = refl

cut_lines : lines (plain ∷ []) cut None ≡ Saved 0 2 (codes "out") ∷ Last (NotSaved (codes "rename")) (codes "out") ∷ []
unfolding arrive is_shaken can_ask ask_on is_look can_ping ping_on is_silent is_lost ran_out is_broken is_interrupted bad_stream
cut_lines = refl

cut_status : status_of plain cut ≡ 10
unfolding arrive is_shaken can_ask ask_on is_look can_ping ping_on is_silent is_lost ran_out is_broken is_interrupted bad_stream
cut_status = refl

-- only the done rename counts
cut_texts : renamed_texts plain cut ≡ Some (0 ∷ 0 ∷ []) ∷ []
unfolding arrive is_shaken can_ask ask_on is_look can_ping ping_on is_silent is_lost ran_out is_broken is_interrupted bad_stream
cut_texts = refl
