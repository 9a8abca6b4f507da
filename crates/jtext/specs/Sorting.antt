-- Pairs in the order of their keys' bytes, as `sort_keys` of Python's `json` has them: a stable insertion sort.
use Rattle.std.specs.Prelude.{◌≡◌, ℕ, if◌then◌else◌, List, [], ◌∷◌, map, slice_get, Some}
use Rattle.std.specs.declared.cmp.Ordering.{Ordering}
use Rattle.std.specs.Ordering.{is_gt, nat_cmp}
use Rattle.std.specs.Cmp.Lexicographic.{slice_cmp}
use Rattle.jtext.specs.declared.json.Json.{Json}
use Rattle.jtext.specs.declared.json.Json.TheVariants as json
use Rattle.jtext.specs.declared.json.Json.TheOpen.{Json-F}
use Rattle.jtext.specs.declared.json.Json.TheFolds.{fold-Json}

-- the order of two texts by their bytes: the first byte that differs decides, and a front comes before the whole
abbrev pub byte_order : List ℕ → List ℕ → Ordering
byte_order = slice_cmp nat_cmp

-- the new item before the first one that is not below it
abbrev pub insert_sorted : {X : Type 0} → (X → X → Ordering) → X → List X → List X
insert_sorted cmp new [] = new ∷ []
insert_sorted cmp new (x ∷ xs) = if is_gt (cmp new x) then x ∷ insert_sorted cmp new xs else new ∷ x ∷ xs

-- the items in that order, equal ones as they stood
abbrev pub sort_by : {X : Type 0} → (X → X → Ordering) → List X → List X
sort_by cmp [] = []
sort_by cmp (x ∷ xs) = insert_sorted cmp x (sort_by cmp xs)

-- pairs in the order of their keys
abbrev pub by_key : {A : Type 0} → List (List ℕ × A) → List (List ℕ × A)
by_key ps = sort_by (λ p q. byte_order p.0 q.0) ps

-- each place is that of a pair, and they stand in the order of the pairs' keys
abbrev pub ArePlacesByKey : {A : Type 0} → List (List ℕ × Json) → List (A × ℕ) → Type 0
ArePlacesByKey ps places = map (λ e. slice_get ps e.1) places ≡ map (λ p. Some p) (by_key ps)

-- one level, with what was sorted inside in its place
abbrev pub sort_step : Json-F Json → Json
sort_step Json-F.Null = json.Null
sort_step (Json-F.Bool b) = json.Bool b
sort_step (Json-F.Num s) = json.Num s
sort_step (Json-F.Str s) = json.Str s
sort_step (Json-F.Arr xs) = json.Arr xs
sort_step (Json-F.Obj ps) = json.Obj (by_key ps)

-- the tree with the pairs of each object in the order of their keys
abbrev pub sort_tree : Json → Json
sort_tree = fold-Json Json sort_step
