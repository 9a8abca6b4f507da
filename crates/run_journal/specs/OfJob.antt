-- The entries of one job, in their order: what a run is to that job.
use Rattle.std.specs.Prelude.{ℕ, ◌+◌, ◌/◌, ◌==◌, ◌||◌, List, [], ◌∷◌, Bool, true, false, Option, Some, None, if◌then◌else◌}
use Rattle.std.specs.List.{list_any}
use Rattle.std.specs.Str.{bytes_eq}
use Rattle.world.specs.declared.entry.Entry.{Entry}
use Rattle.world.specs.declared.entry.Entry.TheVariants as made
use Rattle.world.specs.Jobs.{job_of}
use Rattle.words.specs.Paths.{temporary_of, connection_of}
use Rattle.run_journal.specs.Job.{Job}

-- a path is one of the job's: its input, its output, the temporary file or the connection file
abbrev pub is_own_path : Job → List ℕ → Bool
is_own_path j path =
    bytes_eq j.output path || bytes_eq j.input path || bytes_eq (temporary_of j.output) path || bytes_eq (connection_of j.output) path

-- whether the input that was read last is the job's, after a read of this path
abbrev pub after_read : Job → List ℕ → Bool → Bool
after_read j path before = if bytes_eq j.input path then true else if list_any (bytes_eq path) j.inputs then false else before

-- the input that was read last is the job's
abbrev pub reads_for : Job → List Entry → Bool
reads_for j [] = false
reads_for j (made.Read path most found ∷ past) = after_read j path (reads_for j past)
reads_for j (_ ∷ past) = reads_for j past

-- an entry renames a file onto the job's output, done or failed
abbrev pub renames_onto : Job → Entry → Bool
renames_onto j (made.Renamed from to did) = bytes_eq j.output to
renames_onto j _ = false

-- the newest entry renames a file onto the job's output, done or failed
abbrev pub is_onto : Job → List Entry → Bool
is_onto j [] = false
is_onto j (entry ∷ past) = renames_onto j entry

-- it is this number, where there is one
abbrev pub is_number : ℕ → Option ℕ → Bool
is_number number None = false
is_number number (Some other) = other == number

-- Whether an entry is of the job, by what came before it: it names the job, a connection or a path of it; it is a sync of a
-- folder directly after a rename onto the output; it is a read or a random word, and the input that was read last is the
-- job's; it is of the clock or a wait.
abbrev pub is_of : Job → Entry → List Entry → Bool
is_of j (made.Read path most found) past = is_own_path j path || after_read j path (reads_for j past)
is_of j (made.Created path did) past = is_own_path j path
is_of j (made.Wrote path bytes did) past = is_own_path j path
is_of j (made.Synced path did) past = is_own_path j path
is_of j (made.Renamed from to did) past = is_own_path j from || is_own_path j to
is_of j (made.DirSynced dir did) past = is_onto j past
is_of j (made.Removed path did) past = is_own_path j path
is_of j (made.Word word) past = reads_for j past
is_of j (made.Moment ms) past = true
is_of j (made.Waited ms reports did) past = true
is_of j entry past = is_number j.number (job_of entry)

-- reports from this place on, with those of other jobs taken back
abbrev pub own_places : ℕ → ℕ → List Bool → List Bool
own_places number p [] = []
own_places number p (ready ∷ rest) = (if p / 4 == number then ready else false) ∷ own_places number (p + 1) rest

-- a wait with its reports of other jobs taken back, another entry as it is
abbrev pub own_reports : Job → Entry → Entry
own_reports j (made.Waited ms reports did) = made.Waited ms (record { ready = own_places j.number 0 reports.ready }) did
own_reports j entry = entry

-- the entries of the job
abbrev pub of_job : Job → List Entry → List Entry
of_job j [] = []
of_job j (entry ∷ past) = if is_of j entry past then own_reports j entry ∷ of_job j past else of_job j past
