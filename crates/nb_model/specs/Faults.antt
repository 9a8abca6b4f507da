-- The fault of a tree that is no notebook of nbformat 4.5: its version, else where its shape fails, else the
-- first id that an earlier cell has.
use Rattle.std.specs.Prelude.{◌≡◌, ℕ, if◌then◌else◌, List, [], ◌∷◌, Option, Some, None, option_map, codes}
use Rattle.std.specs.Option.{option_or}
use Rattle.std.specs.List.{list_any}
use Rattle.std.specs.Str.{bytes_eq}
use Rattle.jtext.specs.declared.json.Json.{Json}
use Rattle.jtext.specs.Look.{is_object, items}
use Rattle.nb_model.specs.declared.nb_fault.NbFault.{NbFault}
use Rattle.nb_model.specs.declared.nb_fault.NbFault.TheVariants as fault
use Rattle.nb_model.specs.Keys.{has_version}
use Rattle.nb_model.specs.Valid.{id_of}
use Rattle.nb_model.specs.Reading.{value_at}
use Rattle.nb_model.specs.Places.{of_notebook}

-- the first id that is among those before it, which these are and the ones on the way
abbrev pub repeated_id : List (List ℕ) → List Json → Option (List ℕ)
repeated_id earlier [] = None
repeated_id earlier (c ∷ cs) =
    if list_any (λ e. bytes_eq e (id_of c)) earlier then Some (id_of c)
    else repeated_id (id_of c ∷ earlier) cs

-- of an object that has its version
abbrev pub fault_within : Json → Option NbFault
fault_within t =
    option_or (option_map (λ p. fault.Shape p) (of_notebook t))
    (option_map (λ id. fault.SameId id) (repeated_id [] (items (value_at (codes "cells") t))))

-- the fault of a tree
abbrev pub fault_of : Json → Option NbFault
fault_of t =
    if is_object t then (if has_version t then fault_within t else Some fault.Version)
    else Some (fault.Shape [])

-- a refusal is the fault of the tree, but for want of memory
abbrev pub Refuses : Json → NbFault → Type 0
Refuses t fault.NoMemory = Unit {0}
Refuses t fault.Version = fault_of t ≡ Some fault.Version
Refuses t (fault.Shape p) = fault_of t ≡ Some (fault.Shape p)
Refuses t (fault.SameId id) = fault_of t ≡ Some (fault.SameId id)
