-- What a graph answers: the first status that isn't 0, in the order of the file.
use Rattle.std.specs.Prelude.{◌≡◌, ◌<◌, ℕ, List, Some}
use Rattle.graph_run.specs.declared.ended.Ended.{Ended}
use Rattle.graph_run.specs.Tests.{status_of}

-- no other status than 0 stands of the job
abbrev pub IsFaultless : List Ended → ℕ → Type 0
IsFaultless ended job = (status : ℕ) → status_of job ended ≡ Some status → status ≡ 0

-- the status of the first of so many jobs that has ended with another status than 0, and 0 where none has
pub data FirstFault (ended : List Ended) (count : ℕ) : ℕ → Type 0 where
  none : ((job : ℕ) → job < count → IsFaultless ended job) → FirstFault ended count 0
  first : (job status : ℕ) → job < count → ((k : ℕ) → k < job → IsFaultless ended k) → status_of job ended ≡ Some status → (status ≡ 0 → ⊥)
      → FirstFault ended count status

-- the status: that of the jobs, but 11 for a graph that would answer 0 where saying failed
pub data Answers (failed : Type 0) : ℕ → ℕ → Type 0 where
  plain : {code : ℕ} → (code ≡ 0 → failed → ⊥) → Answers failed code code
  not_said : failed → Answers failed 0 11
