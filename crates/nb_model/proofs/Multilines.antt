-- A list of strings is a multiline string.
use Rattle.std.proofs.Common.{◌≡◌, ℕ, true, false, ◌||◌, List, [], ◌∷◌, map, refl, ap, ap₂, ◌∙◌, rules}
use Rattle.std.specs.List.{list_all}
use Rattle.jtext.specs.declared.json.Json.{Json, the_lemmas}
use Rattle.jtext.specs.declared.json.Json.TheVariants as json
use Rattle.jtext.specs.Bundle.{is_multiline}
use Rattle.jtext.specs.Look.{is_string}
use Rattle.nb_model.proofs.PreparedLaws.{and_eq, list_Arr, items_Arr}

is_string_Arr : (xs : List Json) → is_string (json.Arr xs) ≡ false
is_string_Arr xs = search (rules, the_lemmas)

-- a string is one
pub is_string_Str : (s : List ℕ) → is_string (json.Str s) ≡ true
is_string_Str s = search (rules, the_lemmas)

-- each of a list of strings is one
pub strings_fit : (ls : List (List ℕ)) → list_all is_string (map (λ l. json.Str l) ls) ≡ true
strings_fit [] = refl
strings_fit (l ∷ ls) = and_eq (is_string_Str l) (strings_fit ls)

pub strings_multiline : (ls : List (List ℕ)) → is_multiline (json.Arr (map (λ l. json.Str l) ls)) ≡ true
strings_multiline ls =
    let xs = map (λ l. json.Str l) ls in
    ap₂ (λ a b. a || b) (is_string_Arr xs) (and_eq (list_Arr xs) (ap (list_all is_string) (items_Arr xs) ∙ strings_fit ls))
