-- Why a graph is refused: the first value that isn't as it has to be, in the order of the file.
use Rattle.std.specs.Prelude.{ℕ, ◌+◌, Bool, List, [], ◌∷◌, ◌++◌, Option, Some, None, if◌then◌else◌, ◌&&◌, ◌||◌, not, nat_le, length, codes, take, is_some}
use Rattle.std.specs.List.{list_all, list_any}
use Rattle.std.specs.Option.{option_or}
use Rattle.std.specs.Str.{bytes_eq}
use Rattle.jtext.specs.declared.json.Json.{Json}
use Rattle.jtext.specs.Find.{field, fields}
use Rattle.jtext.specs.Look.{is_object, is_list, is_string, items, text_of}
use Rattle.jtext.specs.Names.{is_name}
use Rattle.job_graph.specs.declared.place.Place.{Place}
use Rattle.job_graph.specs.declared.place.Place.TheVariants as place
use Rattle.job_graph.specs.Shape.{jobs_of, is_named, needs_of}

-- ---- names

-- a name: a string that isn't empty
abbrev pub is_full : Json → Bool
is_full v = is_string v && nat_le 1 (length (text_of v))

-- the fault of a name: it has to be one, and no earlier job's
abbrev pub name_fault : List Json → ℕ → Json → Option Place
name_fault jobs i v = if is_full v && not (list_any (is_named (text_of v)) (take i jobs)) then None else Some (place.Name i)

-- ---- needs

-- two values are equal texts
abbrev pub is_same : Json → Json → Bool
is_same v w = bytes_eq (text_of v) (text_of w)

-- A need is the name of a job, neither of the job's own nor of one that it names before.
abbrev pub is_need : List Json → Json → List Json → Json → Bool
is_need jobs job before v =
    is_string v && list_any (is_named (text_of v)) jobs && not (is_named (text_of v) job) && not (list_any (is_same v) before)

-- the fault of the first of these needs that is none, which come after those
abbrev pub first_need_fault : List Json → ℕ → Json → List Json → List Json → Option Place
first_need_fault jobs i job before [] = None
first_need_fault jobs i job before (v ∷ vs) =
    if is_need jobs job before v then first_need_fault jobs i job (before ++ v ∷ []) vs else Some (place.Need i (length before))

-- the fault of a list of needs
abbrev pub needs_fault : List Json → ℕ → Json → Json → Option Place
needs_fault jobs i job v = if is_list v then first_need_fault jobs i job [] (items v) else Some (place.Needs i)

-- ---- takes

-- a key of a take: the job, or the scrap's name
abbrev pub is_take_key : List ℕ × Json → Bool
is_take_key p = bytes_eq p.0 (codes "job") || bytes_eq p.0 (codes "scrap")

-- an object with just these two keys
abbrev pub has_take_keys : Json → Bool
has_take_keys v =
    is_object v && is_some (field v (codes "job")) && is_some (field v (codes "scrap")) && list_all is_take_key (fields v)

-- the value names a job that this job needs
abbrev pub is_needed : Json → Json → Bool
is_needed job v = is_string v && list_any (is_same v) (needs_of job)

-- the fault of a value of a take
abbrev pub member_fault : ℕ → Json → ℕ → List ℕ × Json → Option Place
member_fault i job p pair =
    if bytes_eq pair.0 (codes "job")
    then (if is_needed job pair.1 then None else Some (place.TakeJob i p))
    else (if is_string pair.1 then None else Some (place.TakeScrap i p))

-- the first fault of these values of a take
abbrev pub first_member_fault : ℕ → Json → ℕ → List (List ℕ × Json) → Option Place
first_member_fault i job p [] = None
first_member_fault i job p (pair ∷ pairs) = option_or (member_fault i job p pair) (first_member_fault i job p pairs)

-- the fault of a take: its keys come before its values
abbrev pub take_fault : ℕ → Json → ℕ → Json → Option Place
take_fault i job p v = if has_take_keys v then first_member_fault i job p (fields v) else Some (place.Take i p)

-- the first fault of these takes, of which the first has that index
abbrev pub first_take_fault : ℕ → Json → ℕ → List (List ℕ × Json) → Option Place
first_take_fault i job p [] = None
first_take_fault i job p (pair ∷ pairs) = option_or (take_fault i job p pair.1) (first_take_fault i job (p + 1) pairs)

-- the fault of what a job takes: an object whose keys are names of parameters
abbrev pub takes_fault : ℕ → Json → Json → Option Place
takes_fault i job v =
    if is_object v && list_all (λ p. is_name p.0) (fields v) then first_take_fault i job 0 (fields v) else Some (place.Takes i)

-- ---- jobs

-- the fault of a member of a job; other members are none of a graph's
abbrev pub value_fault : List Json → ℕ → Json → List ℕ × Json → Option Place
value_fault jobs i job p =
    if bytes_eq p.0 (codes "name") then name_fault jobs i p.1
    else if bytes_eq p.0 (codes "needs") then needs_fault jobs i job p.1
    else if bytes_eq p.0 (codes "take") then takes_fault i job p.1
    else None

-- the first fault of these members of a job
abbrev pub first_value_fault : List Json → ℕ → Json → List (List ℕ × Json) → Option Place
first_value_fault jobs i job [] = None
first_value_fault jobs i job (p ∷ ps) = option_or (value_fault jobs i job p) (first_value_fault jobs i job ps)

-- the fault of the job with this index: its name may not be missing
abbrev pub job_fault : List Json → ℕ → Json → Option Place
job_fault jobs i job = if is_some (field job (codes "name")) then first_value_fault jobs i job (fields job) else Some (place.Job i)

-- the first fault of these jobs, of which the first has that index
abbrev pub first_job_fault : List Json → ℕ → List Json → Option Place
first_job_fault jobs i [] = None
first_job_fault jobs i (job ∷ rest) = option_or (job_fault jobs i job) (first_job_fault jobs (i + 1) rest)

-- one to sixteen objects
abbrev pub are_objects : Json → Bool
are_objects v = is_list v && nat_le 1 (length (items v)) && nat_le (length (items v)) 16 && list_all is_object (items v)

-- the fault of the list of jobs: its count and its kinds come before what its jobs say
abbrev pub list_fault : Json → Option Place
list_fault v = if are_objects v then first_job_fault (items v) 0 (items v) else Some place.Jobs

-- the fault of the list of jobs, which may be missing
abbrev pub list_fault_of : Option Json → Option Place
list_fault_of None = Some place.Whole
list_fault_of (Some v) = list_fault v

-- the first value of a graph that isn't as it has to be
abbrev pub fault : Json → Option Place
fault t = if is_object t then list_fault_of (field t (codes "jobs")) else Some place.Whole
