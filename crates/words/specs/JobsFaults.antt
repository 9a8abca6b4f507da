-- Why a jobs file is refused: the first value that isn't as it has to be, in the order of the file, and then the first path that is equal to an earlier one.
use Rattle.std.specs.Prelude.{◌≡◌, ◌⊎◌, ℕ, ◌+◌, Bool, List, [], ◌∷◌, ◌++◌, Option, Some, None, if◌then◌else◌, ◌&&◌, is_some, length, codes}
use Rattle.std.specs.List.{list_any, list_all}
use Rattle.std.specs.Option.{option_or}
use Rattle.std.specs.Str.{bytes_eq}
use Rattle.jtext.specs.declared.json.Json.{Json}
use Rattle.jtext.specs.Find.{field, fields}
use Rattle.jtext.specs.Look.{is_object, is_list, items}
use Rattle.jtext.specs.Within.{IsTextWithin, IsNoTextWithin}
use Rattle.words.specs.declared.member.Member.{Member}
use Rattle.words.specs.declared.place.Place.{Place}
use Rattle.words.specs.declared.place.Place.TheVariants as place
use Rattle.words.specs.declared.usage.Usage.{Usage}
use Rattle.words.specs.declared.usage.Usage.TheVariants as usage
use Rattle.words.specs.declared.used_path.UsedPath.{UsedPath}
use Rattle.words.specs.Members.{has_key, member_of, takes_value}
use Rattle.words.specs.Places.{pointer}
use Rattle.words.specs.JobsFile.{is_count, is_equal, jobs_of, paths_of}

-- ---- a value that isn't as it has to be

-- the fault of a value of this member, in the job with this index
abbrev pub value_fault_of : ℕ → Json → Option Member → Option Place
value_fault_of i v None = None
value_fault_of i v (Some m) = if takes_value m v then None else Some (place.Value i m)

-- the fault of a member's value, in the job with this index
abbrev pub value_fault : ℕ → List ℕ × Json → Option Place
value_fault i p = value_fault_of i p.1 (member_of p.0)

-- the first fault of these members' values, in the job with this index
abbrev pub first_value_fault : ℕ → List (List ℕ × Json) → Option Place
first_value_fault i [] = None
first_value_fault i (p ∷ ps) = option_or (value_fault i p) (first_value_fault i ps)

-- no key is missing, and none is unknown
abbrev pub has_job_keys : Json → Bool
has_job_keys t = has_key (codes "input") t && has_key (codes "output") t && list_all (λ p. is_some (member_of p.0)) (fields t)

-- the fault of the job with this index: its keys come before its values
abbrev pub job_fault : ℕ → Json → Option Place
job_fault i t = if is_object t && has_job_keys t then first_value_fault i (fields t) else Some (place.Job i)

-- the first fault of these jobs, of which the first one has that index
abbrev pub first_job_fault : ℕ → List Json → Option Place
first_job_fault i [] = None
first_job_fault i (job ∷ jobs) = option_or (job_fault i job) (first_job_fault (i + 1) jobs)

-- the fault of the list of jobs: its count comes before its items
abbrev pub list_fault : Json → Option Place
list_fault v = if is_list v && is_count (length (items v)) then first_job_fault 0 (items v) else Some place.Jobs

-- the fault of the list of jobs, which may be missing
abbrev pub list_fault_of : Option Json → Option Place
list_fault_of None = Some place.Whole
list_fault_of (Some v) = list_fault v

-- the first value that isn't as it has to be
abbrev pub shape_fault : Json → Option Place
shape_fault t = if is_object t && list_all (λ p. bytes_eq p.0 (codes "jobs")) (fields t) then list_fault_of (field t (codes "jobs")) else Some place.Whole

-- ---- equal paths

-- the first of these paths, which come after those, that is equal to an earlier one
abbrev pub first_equal : List UsedPath → List UsedPath → Option Place
first_equal before [] = None
first_equal before (p ∷ ps) = if list_any (is_equal p) before then Some p.place else first_equal (before ++ p ∷ []) ps

-- the fault of the tree, in a jobs file with this path
abbrev pub fault : List ℕ → Json → Option Place
fault file t = option_or (shape_fault t) (first_equal [] (paths_of file (jobs_of t)))

-- ---- the refusal

-- the pointer that is answered where the bytes are a text of no tree: the empty one; or else that of the fault
abbrev pub Faulty : List ℕ → List ℕ → List ℕ → Type 0
Faulty file bytes at =
    (IsNoTextWithin 1048576 100 bytes × (at ≡ pointer place.Whole))
    ⊎ ((t : Json) × IsTextWithin 1048576 100 bytes t × ((p : Place) × (fault file t ≡ Some p) × (at ≡ pointer p)))

-- a jobs file with these bytes is refused so
abbrev pub Refused : List ℕ → List ℕ → Usage → Type 0
Refused file bytes u = (at : List ℕ) × (u ≡ usage.BadJobs at) × Faulty file bytes at
