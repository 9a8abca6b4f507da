-- The members of a job in a jobs file: their names, and the values that they take.
use Rattle.std.specs.Prelude.{ℕ, Bool, List, Option, Some, None, if◌then◌else◌, ◌&&◌, nat_lt, length, is_some, codes}
use Rattle.std.specs.List.{list_all}
use Rattle.std.specs.Str.{bytes_eq}
use Rattle.jtext.specs.declared.json.Json.{Json}
use Rattle.jtext.specs.Find.{field, fields}
use Rattle.jtext.specs.Look.{is_object, is_string, string, there_and}
use Rattle.jtext.specs.Names.{is_name}
use Rattle.words.specs.declared.member.Member.{Member}
use Rattle.words.specs.declared.member.Member.TheVariants.{Input, Output, Kernel, Cwd, Parameters}

-- the member with this name
abbrev pub member_of : List ℕ → Option Member
member_of name =
    if bytes_eq name (codes "input") then Some Input else
    if bytes_eq name (codes "output") then Some Output else
    if bytes_eq name (codes "kernel") then Some Kernel else
    if bytes_eq name (codes "cwd") then Some Cwd else
    if bytes_eq name (codes "parameters") then Some Parameters else None

-- the name of the member
abbrev pub name_of : Member → List ℕ
name_of Input = codes "input"
name_of Output = codes "output"
name_of Kernel = codes "kernel"
name_of Cwd = codes "cwd"
name_of Parameters = codes "parameters"

-- the object has this key
abbrev pub has_key : List ℕ → Json → Bool
has_key key t = is_some (field t key)

-- the value is a string that isn't empty
abbrev pub is_filled_string : Json → Bool
is_filled_string v = there_and (λ text. nat_lt 0 (length text)) (string v)

-- an object whose keys are names of parameters
abbrev pub are_parameters : Json → Bool
are_parameters v = is_object v && list_all (λ p. is_name p.0) (fields v)

-- the member takes this value
abbrev pub takes_value : Member → Json → Bool
takes_value Input v = is_filled_string v
takes_value Output v = is_filled_string v
takes_value Kernel v = is_string v
takes_value Cwd v = is_string v
takes_value Parameters v = are_parameters v
