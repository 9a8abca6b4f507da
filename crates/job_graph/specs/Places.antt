-- The values of a graph, and their JSON pointers (RFC 6901). No name of a parameter needs an escape there.
use Rattle.std.specs.Prelude.{ℕ, List, [], ◌++◌, codes, map, slice_get, unwrap_or}
use Rattle.std.specs.Fmt.{decimal}
use Rattle.jtext.specs.declared.json.Json.{Json}
use Rattle.job_graph.specs.declared.place.Place.{Place}
use Rattle.job_graph.specs.declared.place.Place.TheVariants as place
use Rattle.job_graph.specs.Shape.{takes_at}

-- the key with this index among the takes of a job
abbrev pub take_name : Json → ℕ → ℕ → List ℕ
take_name t i p = unwrap_or (slice_get (map (λ pair. pair.0) (takes_at t i)) p) []

-- the pointer to the job with this index
abbrev pub job_pointer : ℕ → List ℕ
job_pointer i = codes "/jobs/" ++ decimal i

-- the pointer to a value of the graph: the keys and the indices that lead to it
abbrev pub pointer : Json → Place → List ℕ
pointer t place.Whole = []
pointer t place.Jobs = codes "/jobs"
pointer t (place.Job i) = job_pointer i
pointer t (place.Name i) = job_pointer i ++ codes "/name"
pointer t (place.Needs i) = job_pointer i ++ codes "/needs"
pointer t (place.Need i k) = job_pointer i ++ (codes "/needs/" ++ decimal k)
pointer t (place.Takes i) = job_pointer i ++ codes "/take"
pointer t (place.Take i p) = job_pointer i ++ (codes "/take/" ++ take_name t i p)
pointer t (place.TakeJob i p) = job_pointer i ++ (codes "/take/" ++ (take_name t i p ++ codes "/job"))
pointer t (place.TakeScrap i p) = job_pointer i ++ (codes "/take/" ++ (take_name t i p ++ codes "/scrap"))
