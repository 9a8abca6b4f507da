-- Trees looked into: what a value of a kind is, the one level of each kind, and the parts of a tree in which no key stands twice.
use Rattle.std.proofs.Common.{◌≡◌, ℕ, Bool, true, false, refl, List, [], ◌∷◌, Option, Some, sym, ap, ◌∙◌, inl, inr, subst, rules}
use Rattle.std.specs.Str.{bytes_eq}
use Rattle.std.proofs.lemmas.Bool.{cases_Bool, cond-true, cond-false}
use Rattle.jtext.specs.declared.json.Json.{Json, out-Json, roll-out-Json, roll-Json, the_lemmas}
use Rattle.jtext.specs.declared.json.Json.TheOpen.{Json-F}
use Rattle.jtext.specs.declared.json.Json.TheVariants as json
use Rattle.jtext.specs.declared.json.Json.TheVariants.{rolls-Obj, rolls-Arr, rolls-Str, rolls-Num}
use Rattle.jtext.specs.Find.{find, fields, fields_of}
use Rattle.jtext.specs.Grammar.{Distinct}
use Rattle.jtext.specs.Keyed as keyed
use Rattle.jtext.specs.Keyed.{Keyed, AllKeyed, PairsKeyed}
use Rattle.jtext.specs.Look.{is_object, is_object_layer, is_list, is_list_layer, items, items_layer, string, string_layer, number, number_layer}

-- ---- a value by its kind

object_level : (l : Json-F Json) → is_object_layer l ≡ true → roll-Json l ≡ json.Obj (fields_of l)
object_level Json-F.Null e = cc
object_level (Json-F.Bool b) e = cc
object_level (Json-F.Num s) e = cc
object_level (Json-F.Str s) e = cc
object_level (Json-F.Arr xs) e = cc
object_level (Json-F.Obj ps) e = rolls-Obj ps

-- an object is the object of its pairs
pub object_is : (t : Json) → is_object t ≡ true → t ≡ json.Obj (fields t)
object_is t e = sym (roll-out-Json t) ∙ object_level (out-Json t) e

list_level : (l : Json-F Json) → is_list_layer l ≡ true → roll-Json l ≡ json.Arr (items_layer l)
list_level Json-F.Null e = cc
list_level (Json-F.Bool b) e = cc
list_level (Json-F.Num s) e = cc
list_level (Json-F.Str s) e = cc
list_level (Json-F.Arr xs) e = rolls-Arr xs
list_level (Json-F.Obj ps) e = cc

-- a list is the list of its items
pub list_is : (t : Json) → is_list t ≡ true → t ≡ json.Arr (items t)
list_is t e = sym (roll-out-Json t) ∙ list_level (out-Json t) e

text_level : (l : Json-F Json) (s : List ℕ) → string_layer l ≡ Some s → roll-Json l ≡ json.Str s
text_level Json-F.Null s e = cc
text_level (Json-F.Bool b) s e = cc
text_level (Json-F.Num n) s e = cc
text_level (Json-F.Str r) s e = let h : r ≡ s = cc in rolls-Str r ∙ ap json.Str h
text_level (Json-F.Arr xs) s e = cc
text_level (Json-F.Obj ps) s e = cc

-- a string is the string of its text
pub text_is : (t : Json) (s : List ℕ) → string t ≡ Some s → t ≡ json.Str s
text_is t s e = sym (roll-out-Json t) ∙ text_level (out-Json t) s e

number_level : (l : Json-F Json) (s : List ℕ) → number_layer l ≡ Some s → roll-Json l ≡ json.Num s
number_level Json-F.Null s e = cc
number_level (Json-F.Bool b) s e = cc
number_level (Json-F.Num n) s e = let h : n ≡ s = cc in rolls-Num n ∙ ap json.Num h
number_level (Json-F.Str r) s e = cc
number_level (Json-F.Arr xs) s e = cc
number_level (Json-F.Obj ps) s e = cc

-- a number is the number of its text
pub number_is : (t : Json) (s : List ℕ) → number t ≡ Some s → t ≡ json.Num s
number_is t s e = sym (roll-out-Json t) ∙ number_level (out-Json t) s e

-- ---- levels

-- one level of each kind
pub open_Null : out-Json json.Null ≡ Json-F.Null
open_Null = search (rules, the_lemmas)

pub open_Bool : (b : Bool) → out-Json (json.Bool b) ≡ Json-F.Bool b
open_Bool b = search (rules, the_lemmas)

pub open_Num : (s : List ℕ) → out-Json (json.Num s) ≡ Json-F.Num s
open_Num s = search (rules, the_lemmas)

pub open_Str : (s : List ℕ) → out-Json (json.Str s) ≡ Json-F.Str s
open_Str s = search (rules, the_lemmas)

pub open_Arr : (xs : List Json) → out-Json (json.Arr xs) ≡ Json-F.Arr xs
open_Arr xs = search (rules, the_lemmas)

pub open_Obj : (ps : List (List ℕ × Json)) → out-Json (json.Obj ps) ≡ Json-F.Obj ps
open_Obj ps = search (rules, the_lemmas)

-- what is equal to a list is a list at its first level
pub as_array : (t : Json) (u : Json-F Json) (xs : List Json) → out-Json t ≡ u → t ≡ json.Arr xs → u ≡ Json-F.Arr xs
as_array t u xs o e = sym o ∙ ap out-Json e ∙ open_Arr xs

-- what is equal to an object is an object at its first level
pub as_object : (t : Json) (u : Json-F Json) (ps : List (List ℕ × Json)) → out-Json t ≡ u → t ≡ json.Obj ps → u ≡ Json-F.Obj ps
as_object t u ps o e = sym o ∙ ap out-Json e ∙ open_Obj ps

pub same_items : (xs ys : List Json) → ◌≡◌ {A = Json-F Json} (Json-F.Arr xs) (Json-F.Arr ys) → xs ≡ ys
same_items xs ys e = cc

pub same_pairs : (ps qs : List (List ℕ × Json)) → ◌≡◌ {A = Json-F Json} (Json-F.Obj ps) (Json-F.Obj qs) → ps ≡ qs
same_pairs ps qs e = cc

-- no key stands twice in the items of a list of that kind
pub items_keyed : (t : Json) (xs : List Json) → Keyed t → t ≡ json.Arr xs → AllKeyed xs
items_keyed _ xs keyed.null e = let h = as_array _ _ xs open_Null e in cc
items_keyed _ xs (keyed.boolean b) e = let h = as_array _ _ xs (open_Bool b) e in cc
items_keyed _ xs (keyed.number s) e = let h = as_array _ _ xs (open_Num s) e in cc
items_keyed _ xs (keyed.text s) e = let h = as_array _ _ xs (open_Str s) e in cc
items_keyed _ xs (keyed.array ys all) e = subst AllKeyed (same_items ys xs (as_array _ _ xs (open_Arr ys) e)) all
items_keyed _ xs (keyed.object ps all d) e = let h = as_array _ _ xs (open_Obj ps) e in cc

-- nor in the pairs of an object of that kind
pub pairs_keyed : (t : Json) (ps : List (List ℕ × Json)) → Keyed t → t ≡ json.Obj ps → PairsKeyed ps × Distinct ps
pairs_keyed _ ps keyed.null e = let h = as_object _ _ ps open_Null e in cc
pairs_keyed _ ps (keyed.boolean b) e = let h = as_object _ _ ps (open_Bool b) e in cc
pairs_keyed _ ps (keyed.number s) e = let h = as_object _ _ ps (open_Num s) e in cc
pairs_keyed _ ps (keyed.text s) e = let h = as_object _ _ ps (open_Str s) e in cc
pairs_keyed _ ps (keyed.array ys all) e = let h = as_object _ _ ps (open_Arr ys) e in cc
pairs_keyed _ ps (keyed.object qs all d) e = let same = same_pairs qs ps (as_object _ _ ps (open_Obj qs) e) in (subst PairsKeyed same all, subst Distinct same d)

-- the first item, and the others
pub first_keyed : (x : Json) (xs : List Json) → AllKeyed (x ∷ xs) → Keyed x × AllKeyed xs
first_keyed _ _ (keyed.more x xs k all) = (k, all)

-- the first value, and the others
pub pair_keyed : (p : List ℕ × Json) (ps : List (List ℕ × Json)) → PairsKeyed (p ∷ ps) → Keyed p.1 × PairsKeyed ps
pair_keyed _ _ (keyed.pair key value ps k all) = (k, all)

-- the value under a key
pub found_keyed : (key : List ℕ) (ps : List (List ℕ × Json)) (v : Json) → PairsKeyed ps → find key ps ≡ Some v → Keyed v
found_keyed key [] v all e = cc
found_keyed key (p ∷ ps) v all e =
    let h = pair_keyed p ps all in
    elim (cases_Bool (bytes_eq p.0 key)) [
      | inl t ↦ let s : ◌≡◌ {A = Option Json} (Some p.1) (Some v) = sym (cond-true (bytes_eq p.0 key) (Some p.1) (find key ps) t) ∙ e in let i : p.1 ≡ v = cc in subst Keyed i h.0
      | inr f ↦ found_keyed key ps v h.1 (sym (cond-false (bytes_eq p.0 key) (Some p.1) (find key ps) f) ∙ e)
    ]

-- ---- what other values have none of

-- a value that is no list has no items
pub no_items : (l : Json-F Json) → is_list_layer l ≡ false → items_layer l ≡ []
no_items Json-F.Null e = refl
no_items (Json-F.Bool b) e = refl
no_items (Json-F.Num s) e = refl
no_items (Json-F.Str s) e = refl
no_items (Json-F.Arr xs) e = cc
no_items (Json-F.Obj ps) e = refl

-- a value that is no object has no fields
pub no_fields : (l : Json-F Json) → is_object_layer l ≡ false → fields_of l ≡ []
no_fields Json-F.Null e = refl
no_fields (Json-F.Bool b) e = refl
no_fields (Json-F.Num s) e = refl
no_fields (Json-F.Str s) e = refl
no_fields (Json-F.Arr xs) e = refl
no_fields (Json-F.Obj ps) e = cc
