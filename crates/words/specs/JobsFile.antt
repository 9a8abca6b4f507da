-- Which trees are jobs files, whatever is said of the others.
use Rattle.std.specs.Prelude.{◌≡◌, ℕ, ◌+◌, Bool, true, false, List, [], ◌∷◌, ◌++◌, Option, Some, None, ◌&&◌, nat_le, length, codes, unwrap_or}
use Rattle.std.specs.List.{list_all}
use Rattle.std.specs.Str.{bytes_eq}
use Rattle.jtext.specs.declared.json.Json.{Json}
use Rattle.jtext.specs.Find.{field, fields}
use Rattle.jtext.specs.Look.{is_object, is_list, items, there_and, string_at, items_of}
use Rattle.words.specs.declared.member.Member.{Member}
use Rattle.words.specs.declared.member.Member.TheVariants as member
use Rattle.words.specs.declared.place.Place.{Place}
use Rattle.words.specs.declared.place.Place.TheVariants as place
use Rattle.words.specs.declared.used_path.UsedPath.{UsedPath}
use Rattle.words.specs.Apart.{are_distinct}
use Rattle.words.specs.Members.{has_key, member_of, takes_value}
use Rattle.words.specs.Paths.{connection_of}
use Rattle.world.specs.Save.{temporary_of}

-- ---- the shape

-- there is such a member, and it takes the value
abbrev pub member_takes : Option Member → Json → Bool
member_takes None v = false
member_takes (Some m) v = takes_value m v

-- the pair is a member of a job, with a value that it takes
abbrev pub is_member : List ℕ × Json → Bool
is_member p = member_takes (member_of p.0) p.1

-- a job: an object of such members, with an input and an output
abbrev pub is_job : Json → Bool
is_job t = is_object t && has_key (codes "input") t && has_key (codes "output") t && list_all is_member (fields t)

-- one to sixteen of them
abbrev pub is_count : ℕ → Bool
is_count n = nat_le 1 n && nat_le n 16

-- one to sixteen jobs
abbrev pub are_jobs : Json → Bool
are_jobs v = is_list v && is_count (length (items v)) && list_all is_job (items v)

-- an object with the one key `jobs`, whose value is a list of jobs
abbrev pub is_batch : Json → Bool
is_batch t = is_object t && list_all (λ p. bytes_eq p.0 (codes "jobs")) (fields t) && there_and are_jobs (field t (codes "jobs"))

-- ---- the paths

-- the jobs, in the order of the file
abbrev pub jobs_of : Json → List Json
jobs_of t = items_of (field t (codes "jobs"))

-- the path under a key, and the empty text where there is none
abbrev pub path_at : List ℕ → Json → List ℕ
path_at key t = unwrap_or (string_at t key) []

-- the path, as this value of the file gives it
abbrev pub used_path : List ℕ → Place → UsedPath
used_path path place = record { path = path; place = place }

-- the paths of the job with this index: its input, and its output with the two files beside it
abbrev pub paths_of_job : ℕ → Json → List UsedPath
paths_of_job i job =
    used_path (path_at (codes "input") job) (place.Value i member.Input)
    ∷ used_path (path_at (codes "output") job) (place.Value i member.Output)
    ∷ used_path (temporary_of (path_at (codes "output") job)) (place.Value i member.Output)
    ∷ used_path (connection_of (path_at (codes "output") job)) (place.Value i member.Output) ∷ []

-- the paths of these jobs, of which the first one has that index
abbrev pub paths_from : ℕ → List Json → List UsedPath
paths_from i [] = []
paths_from i (job ∷ jobs) = paths_of_job i job ++ paths_from (i + 1) jobs

-- the jobs file, and then the paths of each job
abbrev pub paths_of : List ℕ → List Json → List UsedPath
paths_of file jobs = used_path file place.Whole ∷ paths_from 0 jobs

-- two uses of one path
abbrev pub is_equal : UsedPath → UsedPath → Bool
is_equal p q = bytes_eq p.path q.path

-- ---- the file

-- the tree is a jobs file with this path
pub record IsJobsFile (file : List ℕ) (t : Json) : Type 0 where
  pub shape : is_batch t ≡ true
  pub paths_differ : are_distinct is_equal (paths_of file (jobs_of t)) ≡ true
