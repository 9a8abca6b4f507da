-- Files that a run uses and that the system takes for one, whatever their paths are (POSIX.1-2017, `stat`).
use Rattle.std.specs.Prelude.{ℕ, Bool, false, List, [], ◌∷◌, ◌++◌, Option, Some, None, if◌then◌else◌, ◌&&◌, ◌||◌, nat_eq, codes}
use Rattle.std.specs.Fmt.{decimal}
use Rattle.std.specs.List.{list_any}
use Rattle.std.specs.Str.{bytes_eq}
use Rattle.words.specs.declared.usage.Usage.{Usage}
use Rattle.words.specs.declared.usage.Usage.TheVariants as usage
use Rattle.world_real.specs.declared.file_id.FileId.{FileId}
use Rattle.nbrun_main.specs.declared.named.Named.{Named}
use Rattle.nbrun_main.specs.declared.named.Named.TheVariants as named
use Rattle.nbrun_main.specs.declared.used_file.UsedFile.{UsedFile}

-- ---- files

-- both are there, and are one file: it has one number on one device
abbrev pub is_one : Option FileId → Option FileId → Bool
is_one (Some a) (Some b) = nat_eq a.dev b.dev && nat_eq a.ino b.ino
is_one (Some a) None = false
is_one None b = false

-- the paths lead to one file, or are one name in one folder
abbrev pub is_same : UsedFile → UsedFile → Bool
is_same a b = is_one a.file b.file || (is_one a.folder b.folder && bytes_eq a.name b.name)

-- one of both is written, and they are the same: the run would write over a file that it uses otherwise too
abbrev pub clashes : UsedFile → UsedFile → Bool
clashes a b = (a.is_written || b.is_written) && is_same a b

-- what gives the first of these files, which come after those, that clashes with an earlier one
abbrev pub first_clash : List UsedFile → List UsedFile → Option Named
first_clash before [] = None
first_clash before (x ∷ xs) = if list_any (clashes x) before then Some x.named else first_clash (before ++ x ∷ []) xs

-- ---- the refusal

-- the JSON pointer to a member of a job in a jobs file (RFC 6901)
abbrev pub pointer_to : ℕ → List ℕ → List ℕ
pointer_to job name = codes "/jobs/" ++ (decimal job ++ (codes "/" ++ name))

-- the refusal of a path, which is that of a path that was given before
abbrev pub refusal_of : Named → Usage
refusal_of (named.Word i) = usage.SamePath i
refusal_of named.JobsFile = usage.BadJobs []
refusal_of (named.Input job) = usage.BadJobs (pointer_to job (codes "input"))
refusal_of (named.Output job) = usage.BadJobs (pointer_to job (codes "output"))
