-- Lists in which no two items are the same, by a test.
use Rattle.std.specs.Prelude.{Bool, true, List, [], ◌∷◌, ◌&&◌, not}
use Rattle.std.specs.List.{list_any}

-- no item is the same as a later one
abbrev pub are_distinct : {A : Type 0} → (A → A → Bool) → List A → Bool
are_distinct same [] = true
are_distinct same (x ∷ xs) = not (list_any (same x) xs) && are_distinct same xs
