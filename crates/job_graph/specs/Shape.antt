-- What a graph says of its jobs: their names, what each needs, and what it takes from others.
use Rattle.std.specs.Prelude.{ℕ, ◌+◌, Bool, List, [], ◌∷◌, Option, Some, None, if◌then◌else◌, map, codes, slice_get, unwrap_or}
use Rattle.std.specs.Str.{bytes_eq}
use Rattle.jtext.specs.declared.json.Json.{Json}
use Rattle.jtext.specs.Find.{field, fields}
use Rattle.jtext.specs.Look.{items, items_of, string_at, text_of, there_and}

-- the jobs of a graph, in the order of the file
abbrev pub jobs_of : Json → List Json
jobs_of t = items_of (field t (codes "jobs"))

-- the name of a job, and the empty text where it has none
abbrev pub name_of : Json → List ℕ
name_of job = unwrap_or (string_at job (codes "name")) []

-- the job has this name
abbrev pub is_named : List ℕ → Json → Bool
is_named name job = there_and (bytes_eq name) (string_at job (codes "name"))

-- what a job says that it needs
abbrev pub needs_of : Json → List Json
needs_of job = items_of (field job (codes "needs"))

-- the pairs of an object, and none where there is no value
abbrev pub pairs_of : Option Json → List (List ℕ × Json)
pairs_of None = []
pairs_of (Some v) = fields v

-- what a job takes from others: parameters with what they are taken from
abbrev pub takes_of : Json → List (List ℕ × Json)
takes_of job = pairs_of (field job (codes "take"))

-- what this job takes, and nothing where there is no job
abbrev pub takes_of_some : Option Json → List (List ℕ × Json)
takes_of_some None = []
takes_of_some (Some job) = takes_of job

-- what the job with this index takes
abbrev pub takes_at : Json → ℕ → List (List ℕ × Json)
takes_at t i = takes_of_some (slice_get (jobs_of t) i)

-- the index of the first of these jobs that has the name, where the first has that index
abbrev pub index_from : ℕ → List ℕ → List Json → ℕ
index_from i name [] = i
index_from i name (job ∷ jobs) = if is_named name job then i else index_from (i + 1) name jobs

-- the index of the job that has the name
abbrev pub index_of : List Json → List ℕ → ℕ
index_of jobs name = index_from 0 name jobs

-- the index of the job whose name is this value
abbrev pub index_of_value : List Json → Json → ℕ
index_of_value jobs v = index_of jobs (text_of v)

-- the indices of the jobs that a job needs
abbrev pub needed_by : List Json → Json → List ℕ
needed_by jobs job = map (index_of_value jobs) (needs_of job)

-- the text under a key, and the empty text where there is none
abbrev pub text_under : List ℕ → Json → List ℕ
text_under key v = unwrap_or (string_at v key) []
