-- What a graph gives: the names of its jobs, what each needs and takes, and a jobs file without these.
use Rattle.std.specs.Prelude.{ℕ, Bool, List, [], ◌∷◌, ◌||◌, not, filter, if◌then◌else◌, map, codes}
use Rattle.std.specs.Str.{bytes_eq}
use Rattle.jtext.specs.declared.json.Json.{Json}
use Rattle.jtext.specs.declared.json.Json.TheVariants as json
use Rattle.jtext.specs.Find.{fields}
use Rattle.jtext.specs.Look.{items}
use Rattle.job_graph.specs.declared.take.Take.{Take}
use Rattle.job_graph.specs.declared.whole.Graph.{Graph}
use Rattle.job_graph.specs.Shape.{jobs_of, name_of, needed_by, takes_of, index_of, text_under}

-- ---- names, needs, takes

-- the names of the jobs
abbrev pub names_of : Json → List (List ℕ)
names_of t = map name_of (jobs_of t)

-- for each job the indices of those that it needs
abbrev pub needs_of_graph : Json → List (List ℕ)
needs_of_graph t = map (needed_by (jobs_of t)) (jobs_of t)

-- a parameter that is taken from another job
abbrev pub taken : List Json → List ℕ × Json → Take
taken jobs p = record { param = p.0; job = index_of jobs (text_under (codes "job") p.1); scrap = text_under (codes "scrap") p.1 }

-- what a job takes, in the order of the file
abbrev pub taken_by : List Json → Json → List Take
taken_by jobs job = map (taken jobs) (takes_of job)

-- for each job what it takes
abbrev pub takes_of_graph : Json → List (List Take)
takes_of_graph t = map (taken_by (jobs_of t)) (jobs_of t)

-- ---- the rest

-- a member that only a graph has
abbrev pub is_of_graph : List ℕ × Json → Bool
is_of_graph p = bytes_eq p.0 (codes "name") || bytes_eq p.0 (codes "needs") || bytes_eq p.0 (codes "take")

-- a job as a jobs file has it
abbrev pub plain_job : Json → Json
plain_job job = json.Obj (filter (λ p. not (is_of_graph p)) (fields job))

-- a member of the file as a jobs file has it
abbrev pub plain_pair : List ℕ × Json → List ℕ × Json
plain_pair p = if bytes_eq p.0 (codes "jobs") then (p.0, json.Arr (map plain_job (items p.1))) else p

-- the jobs file that stays without names, needs and takes
abbrev pub rest_of : Json → Json
rest_of t = json.Obj (map plain_pair (fields t))

-- what the tree of a graph gives
abbrev pub graph_of : Json → Graph
graph_of t = record { names = names_of t; needs = needs_of_graph t; takes = takes_of_graph t; rest = rest_of t }
