-- A notebook has no more cells than its text has bytes, and that of the parameters.
use Rattle.std.proofs.Common.{◌≡◌, ℕ, ◌+◌, ◌<◌, ◌≤◌, ◌^◌, Bool, true, false, List, [], ◌∷◌, ◌++◌, length, map, codes, Option, Some, None, unwrap_or, if◌then◌else◌, refl, sym, ap, subst, ◌∙◌, arith, length-append, length-drop, take, drop}
use Rattle.std.proofs.lemmas.List.{length-take, length-map}
use Rattle.std.specs.Prelude.{position, nat_eq}
use Rattle.std.specs.Cmp.Lexicographic.{pointwise}
use Rattle.std.specs.Str.{bytes_eq}
use Rattle.jtext.specs.declared.json.Json.{Json}
use Rattle.jtext.specs.declared.json.Json.TheVariants as json
use Rattle.jtext.specs.Grammar.{Spelled, Items, Pairs, Pair, null, yes, no, number, string, no_items, array, no_pairs, object, last_item, next_item, last_pair, next_pair, pair}
use Rattle.jtext.specs.Find.{find, field, fields, fields_of}
use Rattle.jtext.specs.Look.{items, items_layer, is_list, is_object}
use Rattle.jtext.proofs.Trees.{open_Null, open_Bool, open_Num, open_Str, open_Arr, open_Obj}
use Rattle.nb_model.specs.declared.cell.Cell.{Cell}
use Rattle.nb_model.specs.declared.notebook.Notebook.{Notebook}
use Rattle.nb_model.specs.Tags.{is_tagged}
use Rattle.nb_migrate.specs.Raised.{is_older, raised_tree, raised_object, raised_pair, raised_cells, raised_from}
use Rattle.nb_migrate.proofs.RaisedKeyed.{same_key}
use Rattle.nb_migrate.proofs.Raises.{raised_length}
use Rattle.nb_params.specs.Injected.{parametrised_notebook, injected_notebook, placed_at, placed_after, hidden_cell}
use Rattle.words.specs.declared.ask.Ask.{Ask}
use Rattle.nb_load.specs.Loaded.{Accepts}

-- how many items a value has
abbrev size : Json → ℕ
size v = length (items v)

-- the same of a value that may be absent
abbrev size_at : Option Json → ℕ
size_at v = size (unwrap_or v json.Null)

size_null : size json.Null ≡ 0
size_null = ap (λ u. length (items_layer u)) open_Null

size_num : (t : List ℕ) → size (json.Num t) ≡ 0
size_num t = ap (λ u. length (items_layer u)) (open_Num t)

size_list : (xs : List Json) → size (json.Arr xs) ≡ length xs
size_list xs = ap (λ u. length (items_layer u)) (open_Arr xs)

-- no value but a list has items
none : (t : Json) (m : ℕ) → size t ≡ 0 → size t ≤ m
none t m e = omega (arith, e)

-- no value but an object has a value under a key
no_field : (key : List ℕ) (t : Json) (m : ℕ) → fields t ≡ [] → size_at (field t key) ≤ m
no_field key t m e = let at : size_at (find key (fields t)) ≡ 0 = ap (λ ps. size_at (find key ps)) e ∙ size_null in omega (arith, at)

-- ---- items and bytes

items_within : (xs : List Json) (b : List ℕ) → Items xs b → length xs ≤ length b + 1
items_within [] b is = elim is [ ]
items_within (x ∷ []) b (last_item _ before inner after _ s v t e) = omega arith
items_within (x ∷ xs) b (next_item _ _ before inner after more _ s v t rest e) =
    omega (arith, items_within xs more rest, ap length e, length-append before (inner ++ (after ++ 44 ∷ more)), length-append inner (after ++ 44 ∷ more), length-append after (44 ∷ more))

size_within : (t : Json) (b : List ℕ) → Spelled t b → size t ≤ length b
size_within t b (null _ e) = none t (length b) size_null
size_within t b (yes _ e) = none t (length b) (ap (λ u. length (items_layer u)) (open_Bool true))
size_within t b (no _ e) = none t (length b) (ap (λ u. length (items_layer u)) (open_Bool false))
size_within t b (number _ e) = none t (length b) (size_num b)
size_within t b (string text _ e) = none t (length b) (ap (λ u. length (items_layer u)) (open_Str text))
size_within t b (no_items inner _ s e) = none t (length b) (size_list [])
size_within t b (array xs inner _ is e) = omega (arith, size_list xs, items_within xs inner is, ap length e, length-append inner (93 ∷ []))
size_within t b (no_pairs inner _ s e) = none t (length b) (ap (λ u. length (items_layer u)) (open_Obj []))
size_within t b (object ps inner _ is d e) = none t (length b) (ap (λ u. length (items_layer u)) (open_Obj ps))

either_within : (b : Bool) (v : Json) (rest : Option Json) (m : ℕ) → size v ≤ m → size_at rest ≤ m → size_at (if b then Some v else rest) ≤ m
either_within true v rest m h k = h
either_within false v rest m h k = k

pair_within : (p : List ℕ × Json) (b : List ℕ) → Pair p b → size p.1 ≤ length b
pair_within p b (pair key value name before after inner _ q s t v e) =
    omega (arith, size_within value inner v, ap length e, length-append name (before ++ 58 ∷ (after ++ inner)), length-append before (58 ∷ (after ++ inner)), length-append after inner)

find_within : (key : List ℕ) (ps : List (List ℕ × Json)) (b : List ℕ) → Pairs ps b → size_at (find key ps) ≤ length b
find_within key [] b is = elim is [ ]
find_within key (p ∷ []) b (last_pair _ before inner after _ s is t e) =
    let m = length b in
    either_within (pointwise nat_eq p.0 key) p.1 None m
    (omega (arith, pair_within p inner is, ap length e, length-append before (inner ++ after), length-append inner after)) (omega (arith, size_null))
find_within key (p ∷ ps) b (next_pair _ _ before inner after more _ s is t rest e) =
    let long : length b ≡ length before + (length inner + (length after + (1 + length more))) =
    omega (arith, ap length e, length-append before (inner ++ (after ++ 44 ∷ more)), length-append inner (after ++ 44 ∷ more), length-append after (44 ∷ more)) in
    either_within (pointwise nat_eq p.0 key) p.1 (find key ps) (length b)
    (omega (arith, pair_within p inner is, long)) (omega (arith, find_within key ps more rest, long))

field_within : (key : List ℕ) (t : Json) (b : List ℕ) → Spelled t b → size_at (field t key) ≤ length b
field_within key t b (null _ e) = no_field key t (length b) (ap fields_of open_Null)
field_within key t b (yes _ e) = no_field key t (length b) (ap fields_of (open_Bool true))
field_within key t b (no _ e) = no_field key t (length b) (ap fields_of (open_Bool false))
field_within key t b (number _ e) = no_field key t (length b) (ap fields_of (open_Num b))
field_within key t b (string text _ e) = no_field key t (length b) (ap fields_of (open_Str text))
field_within key t b (no_items inner _ s e) = no_field key t (length b) (ap fields_of (open_Arr []))
field_within key t b (array xs inner _ is e) = no_field key t (length b) (ap fields_of (open_Arr xs))
field_within key t b (no_pairs inner _ s e) = no_field key t (length b) (ap fields_of (open_Obj []))
field_within key t b (object ps inner _ is d e) =
    let at : size_at (field (json.Obj ps) key) ≡ size_at (find key ps) = ap (λ qs. size_at (find key (fields_of qs))) (open_Obj ps) in
    omega (arith, at, find_within key ps inner is, ap length e, length-append inner (125 ∷ []))

-- ---- raised

list_size : (b : Bool) (v : Json) → size (if b then json.Arr (raised_from 0 (items v)) else v) ≡ size v
list_size true v = size_list (raised_from 0 (items v)) ∙ raised_length 0 (items v)
list_size false v = refl

no_larger : (p : List ℕ × Json) (b c : Bool) (v w : Json) → size v ≤ size p.1 → size w ≤ size p.1 → size (if b then (p.0, v) else if c then (p.0, w) else p).1 ≤ size p.1
no_larger p true c v w h k = h
no_larger p false true v w h k = k
no_larger p false false v w h k = omega arith

raised_pair_size : (p : List ℕ × Json) → size (raised_pair p).1 ≤ size p.1
raised_pair_size p =
    no_larger p (bytes_eq p.0 (codes "cells")) (bytes_eq p.0 (codes "nbformat_minor")) (raised_cells p.1) (json.Num (codes "5"))
    (omega (arith, list_size (is_list p.1) p.1)) (omega (arith, size_num (codes "5")))

both_within : (b : Bool) (v w : Json) (r s : Option Json) → size v ≤ size w → size_at r ≤ size_at s → size_at (if b then Some v else r) ≤ size_at (if b then Some w else s)
both_within true v w r s h k = h
both_within false v w r s h k = k

raised_find : (key : List ℕ) (ps : List (List ℕ × Json)) → size_at (find key (map raised_pair ps)) ≤ size_at (find key ps)
raised_find key [] = omega arith
raised_find key (p ∷ ps) =
    subst (λ k. size_at (if pointwise nat_eq k key then Some (raised_pair p).1 else find key (map raised_pair ps)) ≤ size_at (find key (p ∷ ps))) (sym (same_key p))
    (both_within (pointwise nat_eq p.0 key) (raised_pair p).1 p.1 (find key (map raised_pair ps)) (find key ps) (raised_pair_size p) (raised_find key ps))

object_size : (b : Bool) (key : List ℕ) (t : Json) → size_at (field (if b then json.Obj (map raised_pair (fields t)) else t) key) ≤ size_at (field t key)
object_size true key t =
    let at : size_at (field (json.Obj (map raised_pair (fields t))) key) ≡ size_at (find key (map raised_pair (fields t))) = ap (λ u. size_at (find key (fields_of u))) (open_Obj (map raised_pair (fields t))) in
    omega (arith, at, raised_find key (fields t))
object_size false key t = omega arith

tree_size : (b : Bool) (key : List ℕ) (t : Json) → size_at (field (if b then raised_object t else t) key) ≤ size_at (field t key)
tree_size true key t = object_size (is_object t) key t
tree_size false key t = omega arith

-- ---- with the parameters

one_more : (i : ℕ) (x : Cell) (cells : List Cell) → length (take i cells ++ x ∷ drop (i + 1) cells) ≤ length cells + 1
one_more i x cells = omega (arith, length-append (take i cells) (x ∷ drop (i + 1) cells), length-take i cells, length-drop (i + 1) cells)

one_behind : (i : ℕ) (x : Cell) (cells : List Cell) → length (take (i + 1) cells ++ x ∷ drop (i + 1) cells) ≤ length cells + 1
one_behind i x cells = omega (arith, length-append (take (i + 1) cells) (x ∷ drop (i + 1) cells), length-take (i + 1) cells, length-drop (i + 1) cells)

placed_behind : (at : Option ℕ) (ps : List (List ℕ × Json)) (cells : List Cell) → length (placed_after at ps cells) ≤ length cells + 1
placed_behind None ps cells = omega arith
placed_behind (Some i) ps cells = one_behind i _ cells

placed : (at : Option ℕ) (ps : List (List ℕ × Json)) (cells : List Cell) → length (placed_at at ps cells) ≤ length cells + 1
placed None ps cells = placed_behind (position (is_tagged (codes "parameters")) cells) ps cells
placed (Some i) ps cells = one_more i _ cells

parametrised : (n : Notebook) (ps : List (List ℕ × Json)) → length (parametrised_notebook n ps).cells ≤ length n.cells + 1
parametrised n [] = omega arith
parametrised n (p ∷ ps) = placed (position (is_tagged (codes "injected-parameters")) n.cells) (p ∷ ps) n.cells

injected : (n : Notebook) (ps : List (List ℕ × Json)) (report : Bool) → length (injected_notebook n ps report).cells ≤ length n.cells + 1
injected n ps true = omega (arith, length-map (parametrised_notebook n ps).cells hidden_cell, parametrised n ps)
injected n ps false = parametrised n ps

pub few_cells : (a : Ask) (bytes : List ℕ) (n : Notebook) → Accepts a bytes n → length bytes ≤ 33554432 → length n.cells < 2 ^ 32
few_cells a bytes n h few =
    let t = h.read.tree in
    let s = h.read.gives.spells in
    let raised : size_at (field (raised_tree t) (codes "cells")) ≤ size_at (field t (codes "cells")) = tree_size (is_older t) (codes "cells") t in
    let within : size_at (field t (codes "cells")) ≤ length s.value = field_within (codes "cells") t s.value s.is_value in
    let long : length bytes ≡ length s.before + (length s.value + length s.after) = omega (arith, ap length s.text, length-append s.before (s.value ++ s.after), length-append s.value s.after) in
    let was : length h.notebook.cells ≡ size_at (field (raised_tree t) (codes "cells")) = ap (λ m. length m.cells) h.read.is ∙ length-map _ _ in
    let now : length n.cells ≤ length h.notebook.cells + 1 = subst (λ m. length m.cells ≤ length h.notebook.cells + 1) (sym h.is) (injected h.notebook a.params a.report) in
    let most : 33554434 < 2 ^ 32 = omega arith in
    omega (arith, raised, within, long, was, now, few, most)
