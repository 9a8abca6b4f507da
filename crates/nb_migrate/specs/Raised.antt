-- Notebooks of nbformat 4.0 to 4.4 as notebooks of 4.5, where each cell has an id (nbformat's change log, 4.5).
use Rattle.std.specs.Prelude.{ℕ, ◌+◌, Bool, List, [], ◌∷◌, ◌++◌, map, codes, ◌&&◌, ◌||◌, if◌then◌else◌}
use Rattle.std.specs.Str.{bytes_eq}
use Rattle.std.specs.Fmt.{decimal}
use Rattle.jtext.specs.declared.json.Json.{Json}
use Rattle.jtext.specs.declared.json.Json.TheVariants as json
use Rattle.jtext.specs.Find.{fields}
use Rattle.jtext.specs.Look.{is_object, is_list, items}
use Rattle.nb_model.specs.Keys.{has, is_number}
use Rattle.jtext.specs.Edit.{set_field}

-- a minor version below 5
abbrev pub is_older_minor : Json → Bool
is_older_minor v =
    is_number (codes "0") v || is_number (codes "1") v || is_number (codes "2") v
    || is_number (codes "3") v || is_number (codes "4") v

-- an object whose version is 4.0 to 4.4
abbrev pub is_older : Json → Bool
is_older t = has (codes "nbformat") (is_number (codes "4")) t && has (codes "nbformat_minor") is_older_minor t

-- the id of the cell with this index
abbrev pub new_id : ℕ → List ℕ
new_id i = codes "cell-" ++ decimal i

-- an object has that id, in the place of its own or last; what is no object stays
abbrev pub raised_cell : ℕ → Json → Json
raised_cell i v = if is_object v then set_field (codes "id") (json.Str (new_id i)) v else v

-- these items, of which the first has that index
abbrev pub raised_from : ℕ → List Json → List Json
raised_from i [] = []
raised_from i (v ∷ vs) = raised_cell i v ∷ raised_from (i + 1) vs

-- the items of a list; what is no list stays
abbrev pub raised_cells : Json → Json
raised_cells v = if is_list v then json.Arr (raised_from 0 (items v)) else v

-- the pair with the key `cells` or `nbformat_minor`; any other stays
abbrev pub raised_pair : List ℕ × Json → List ℕ × Json
raised_pair p =
    if bytes_eq p.0 (codes "cells") then (p.0, raised_cells p.1)
    else if bytes_eq p.0 (codes "nbformat_minor") then (p.0, json.Num (codes "5"))
    else p

-- the object with its version 4.5 and its cells' ids
abbrev pub raised_object : Json → Json
raised_object t = if is_object t then json.Obj (map raised_pair (fields t)) else t

-- a tree of 4.0 to 4.4 as one of 4.5; any other as it is
abbrev pub raised_tree : Json → Json
raised_tree t = if is_older t then raised_object t else t
