-- What an index holds: places by display id, and display ids by cell.
use Rattle.std.specs.Prelude.{◌≡◌, ℕ, Bool, true, List, [], ◌==◌, not, filter, unwrap_or}
use Rattle.std.specs.List.{list_any, list_all}
use Rattle.std.specs.Str.{bytes_eq}
use Rattle.std.specs.BTreeMap.{get}
use Rattle.std.specs.Ordering.{nat_cmp}
use Rattle.indexmap.specs.IndexMap.{get_by_text}
use Rattle.display_index.specs.declared.place.Place.{Place}
use Rattle.display_index.specs.declared.by_id.ById.{ById}
use Rattle.display_index.specs.declared.by_cell.ByCell.{ByCell}

-- the places held for an id
abbrev pub places_at : ById → List ℕ → List Place
places_at m id = unwrap_or (get_by_text m.places id) []

-- the ids held for a cell
abbrev pub ids_at : ByCell → ℕ → List (List ℕ)
ids_at m cell = unwrap_or (get nat_cmp m.ids cell) []

-- the id is held for the cell of the place
abbrev pub is_listed : ByCell → List ℕ → Place → Bool
is_listed m id p = list_any (λ other. bytes_eq other id) (ids_at m p.cell)

-- every id is held for the cells of its places
abbrev pub AreListed : ByCell → ById → Type 0
AreListed cells ids = (id : List ℕ) → list_all (λ p. is_listed cells id p) (places_at ids id) ≡ true

-- the places that aren't in the cell
abbrev pub outside : ℕ → List Place → List Place
outside cell ps = filter (λ p. not (p.cell == cell)) ps
