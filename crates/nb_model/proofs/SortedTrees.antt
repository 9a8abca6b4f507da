-- What is found in a tree whose pairs were sorted by their keys.
use Rattle.std.proofs.Common.{◌≡◌, ◌≢◌, ℕ, ◌+◌, Bool, true, false, ◌&&◌, List, [], ◌∷◌, map, Option, Some, None, refl, sym, ap, ap₂, ◌∙◌, inl, inr, cond, is_gt}
use Rattle.std.specs.Prelude.{option_map}
use Rattle.std.specs.List.{list_any, list_all}
use Rattle.std.specs.Str.{bytes_eq}
use Rattle.std.proofs.lemmas.Bool.{cases_Bool, cond-true, cond-false}
use Rattle.std.proofs.lemmas.List.Folds.{list_all-map}
use Rattle.std.proofs.lemmas.Slice.Eq.{bytes_eq-Decides}
use Rattle.jtext.specs.declared.json.Json.{Json, out-Json, roll-Json, roll-out-Json}
use Rattle.jtext.specs.declared.json.Json.TheOpen.{Json-F}
use Rattle.jtext.specs.declared.json.Json.TheVariants.{rolls-Obj, rolls-Arr, rolls-Str, rolls-Num, rolls-Bool, rolls-Null}
use Rattle.jtext.specs.Depth.{depth, highest, highest_of_pairs}
use Rattle.jtext.specs.Find.{find, field, fields, fields_of}
use Rattle.jtext.specs.Grammar.{Lacks, Distinct}
use Rattle.jtext.specs.Keyed as keyed
use Rattle.jtext.specs.Keyed.{Keyed, AllKeyed, PairsKeyed}
use Rattle.jtext.specs.Sorting.{byte_order, insert_sorted, by_key, sort_tree}
use Rattle.jtext.specs.Look.{is_object, is_object_layer, is_list, is_list_layer, items, items_layer, string, string_layer, number, number_layer, is_null, is_null_layer, there_and, absent_or}
use Rattle.jtext.proofs.Depths.{depth-Arr, depth-Obj}
use Rattle.jtext.proofs.Equals.{other_bytes}
use Rattle.jtext.proofs.Sorts.{all-sort_by, sort_by-map}
use Rattle.nb_model.specs.Keys.{has, may_have, has_only}
use Rattle.nb_model.proofs.DepthLaws.{highest-by_key}
use Rattle.nb_model.proofs.PreparedLaws.{and_eq}
use Rattle.jtext.proofs.Trees.{first_keyed, pair_keyed, open_Null, open_Bool, open_Num, open_Str, open_Arr, open_Obj}
use Rattle.jtext.proofs.SortedTrees.{with_sorted, sorted-Null, sorted-Bool, sorted-Num, sorted-Str, sorted-Arr, sorted-Obj, distinct-map}
use Rattle.nb_model.proofs.KeyedLemmas.{fields_keyed, pairs_of, keyed_value, keyed_items}

-- ---- one level

abbrev sorted_layer : Json-F Json → Json-F Json
sorted_layer Json-F.Null = Json-F.Null
sorted_layer (Json-F.Bool b) = Json-F.Bool b
sorted_layer (Json-F.Num s) = Json-F.Num s
sorted_layer (Json-F.Str s) = Json-F.Str s
sorted_layer (Json-F.Arr xs) = Json-F.Arr (map sort_tree xs)
sorted_layer (Json-F.Obj ps) = Json-F.Obj (by_key (map with_sorted ps))

layer_sorted : (l : Json-F Json) → out-Json (sort_tree (roll-Json l)) ≡ sorted_layer l
layer_sorted Json-F.Null = ap (λ t. out-Json (sort_tree t)) rolls-Null ∙ ap out-Json sorted-Null ∙ open_Null
layer_sorted (Json-F.Bool b) = ap (λ t. out-Json (sort_tree t)) (rolls-Bool b) ∙ ap out-Json (sorted-Bool b) ∙ open_Bool b
layer_sorted (Json-F.Num s) = ap (λ t. out-Json (sort_tree t)) (rolls-Num s) ∙ ap out-Json (sorted-Num s) ∙ open_Num s
layer_sorted (Json-F.Str s) = ap (λ t. out-Json (sort_tree t)) (rolls-Str s) ∙ ap out-Json (sorted-Str s) ∙ open_Str s
layer_sorted (Json-F.Arr xs) = ap (λ t. out-Json (sort_tree t)) (rolls-Arr xs) ∙ ap out-Json (sorted-Arr xs) ∙ open_Arr (map sort_tree xs)
layer_sorted (Json-F.Obj ps) = ap (λ t. out-Json (sort_tree t)) (rolls-Obj ps) ∙ ap out-Json (sorted-Obj ps) ∙ open_Obj (by_key (map with_sorted ps))

out_sorted : (t : Json) → out-Json (sort_tree t) ≡ sorted_layer (out-Json t)
out_sorted t = ap (λ u. out-Json (sort_tree u)) (sym (roll-out-Json t)) ∙ layer_sorted (out-Json t)

-- what is asked of one level is the same
of_layer : {A : Type 0} (f : Json-F Json → A) → ((l : Json-F Json) → f (sorted_layer l) ≡ f l) → (t : Json) → f (out-Json (sort_tree t)) ≡ f (out-Json t)
of_layer f same t = ap f (out_sorted t) ∙ same (out-Json t)

pub object_sorted : (t : Json) → is_object (sort_tree t) ≡ is_object t
object_sorted = of_layer is_object_layer (λ l. elim l as (λ k. is_object_layer (sorted_layer k) ≡ is_object_layer k) [ Json-F.Null ↦ refl | Json-F.Bool b ↦ refl | Json-F.Num s ↦ refl | Json-F.Str s ↦ refl | Json-F.Arr xs ↦ refl | Json-F.Obj ps ↦ refl ])

pub list_sorted : (t : Json) → is_list (sort_tree t) ≡ is_list t
list_sorted = of_layer is_list_layer (λ l. elim l as (λ k. is_list_layer (sorted_layer k) ≡ is_list_layer k) [ Json-F.Null ↦ refl | Json-F.Bool b ↦ refl | Json-F.Num s ↦ refl | Json-F.Str s ↦ refl | Json-F.Arr xs ↦ refl | Json-F.Obj ps ↦ refl ])

pub string_sorted : (t : Json) → string (sort_tree t) ≡ string t
string_sorted = of_layer string_layer (λ l. elim l as (λ k. string_layer (sorted_layer k) ≡ string_layer k) [ Json-F.Null ↦ refl | Json-F.Bool b ↦ refl | Json-F.Num s ↦ refl | Json-F.Str s ↦ refl | Json-F.Arr xs ↦ refl | Json-F.Obj ps ↦ refl ])

pub number_sorted : (t : Json) → number (sort_tree t) ≡ number t
number_sorted = of_layer number_layer (λ l. elim l as (λ k. number_layer (sorted_layer k) ≡ number_layer k) [ Json-F.Null ↦ refl | Json-F.Bool b ↦ refl | Json-F.Num s ↦ refl | Json-F.Str s ↦ refl | Json-F.Arr xs ↦ refl | Json-F.Obj ps ↦ refl ])

pub null_sorted : (t : Json) → is_null (sort_tree t) ≡ is_null t
null_sorted = of_layer is_null_layer (λ l. elim l as (λ k. is_null_layer (sorted_layer k) ≡ is_null_layer k) [ Json-F.Null ↦ refl | Json-F.Bool b ↦ refl | Json-F.Num s ↦ refl | Json-F.Str s ↦ refl | Json-F.Arr xs ↦ refl | Json-F.Obj ps ↦ refl ])

items_sorted : (t : Json) → items (sort_tree t) ≡ map sort_tree (items t)
items_sorted t = ap items_layer (out_sorted t) ∙ layer (out-Json t)
  where
    layer : (l : Json-F Json) → items_layer (sorted_layer l) ≡ map sort_tree (items_layer l)
    layer Json-F.Null = refl
    layer (Json-F.Bool b) = refl
    layer (Json-F.Num s) = refl
    layer (Json-F.Str s) = refl
    layer (Json-F.Arr xs) = refl
    layer (Json-F.Obj ps) = refl

fields_sorted : (t : Json) → fields (sort_tree t) ≡ by_key (map with_sorted (fields t))
fields_sorted t = ap fields_of (out_sorted t) ∙ layer (out-Json t)
  where
    layer : (l : Json-F Json) → fields_of (sorted_layer l) ≡ by_key (map with_sorted (fields_of l))
    layer Json-F.Null = refl
    layer (Json-F.Bool b) = refl
    layer (Json-F.Num s) = refl
    layer (Json-F.Str s) = refl
    layer (Json-F.Arr xs) = refl
    layer (Json-F.Obj ps) = refl

-- ---- sorted pairs

-- of two keys only one can be the key that is looked for
exchanged : (p q : List ℕ × Json) (key : List ℕ) (rest : Option Json) → q.0 ≢ p.0
    → cond (bytes_eq q.0 key) (Some q.1) (cond (bytes_eq p.0 key) (Some p.1) rest) ≡ cond (bytes_eq p.0 key) (Some p.1) (cond (bytes_eq q.0 key) (Some q.1) rest)
exchanged p q key rest ne =
    elim (cases_Bool (bytes_eq p.0 key)) [
      | inl t ↦
          let other : bytes_eq q.0 key ≡ false = ap (bytes_eq q.0) (sym ((bytes_eq-Decides p.0 key).0 t)) ∙ other_bytes q.0 p.0 ne in
          cond-false (bytes_eq q.0 key) (Some q.1) (cond (bytes_eq p.0 key) (Some p.1) rest) other ∙ cond-true (bytes_eq p.0 key) (Some p.1) rest t
          ∙ sym (cond-true (bytes_eq p.0 key) (Some p.1) (cond (bytes_eq q.0 key) (Some q.1) rest) t)
      | inr f ↦
          ap (λ o. cond (bytes_eq q.0 key) (Some q.1) o) (cond-false (bytes_eq p.0 key) (Some p.1) rest f)
          ∙ sym (cond-false (bytes_eq p.0 key) (Some p.1) (cond (bytes_eq q.0 key) (Some q.1) rest) f)
    ]

find-insert : (key : List ℕ) (p : List ℕ × Json) (ps : List (List ℕ × Json)) → Lacks p.0 ps → find key (insert_sorted (λ a b. byte_order a.0 b.0) p ps) ≡ cond (bytes_eq p.0 key) (Some p.1) (find key ps)
find-insert key p [] l = refl
find-insert key p (q ∷ qs) l =
    elim (is_gt (byte_order p.0 q.0)) as (λ b. find key (cond b (q ∷ insert_sorted (λ a c. byte_order a.0 c.0) p qs) (p ∷ q ∷ qs)) ≡ cond (bytes_eq p.0 key) (Some p.1) (find key (q ∷ qs))) [
      | true ↦ ap (λ o. cond (bytes_eq q.0 key) (Some q.1) o) (find-insert key p qs l.1) ∙ exchanged p q key (find key qs) l.0
      | false ↦ refl
    ]

find-by_key : (key : List ℕ) (ps : List (List ℕ × Json)) → Distinct ps → find key (by_key ps) ≡ find key ps
find-by_key key [] d = refl
find-by_key key (p ∷ ps) d =
    find-insert key p (by_key ps) (all-sort_by (λ a b. byte_order a.0 b.0) (λ q. q.0 ≢ p.0) ps d.0) ∙ ap (λ o. cond (bytes_eq p.0 key) (Some p.1) o) (find-by_key key ps d.1)

find-map : (key : List ℕ) (ps : List (List ℕ × Json)) → find key (map with_sorted ps) ≡ option_map sort_tree (find key ps)
find-map key [] = refl
find-map key (p ∷ ps) =
    ap (λ o. cond (bytes_eq p.0 key) (Some (sort_tree p.1)) o) (find-map key ps)
    ∙ (elim (bytes_eq p.0 key) as (λ b. cond b (Some (sort_tree p.1)) (option_map sort_tree (find key ps)) ≡ option_map sort_tree (cond b (Some p.1) (find key ps))) [ true ↦ refl | false ↦ refl ])

pub field_sorted : (key : List ℕ) (t : Json) → Keyed t → field (sort_tree t) key ≡ option_map sort_tree (field t key)
field_sorted key t k = ap (find key) (fields_sorted t) ∙ find-by_key key (map with_sorted (fields t)) (distinct-map (fields t) (fields_keyed t k).1) ∙ find-map key (fields t)

and_exchange : (a b c : Bool) → (a && (b && c)) ≡ (b && (a && c))
and_exchange true b c = refl
and_exchange false true c = refl
and_exchange false false c = refl

all-insert : {A : Type 0} (test : List ℕ × A → Bool) (p : List ℕ × A) (ps : List (List ℕ × A)) → list_all test (insert_sorted (λ a b. byte_order a.0 b.0) p ps) ≡ (test p && list_all test ps)
all-insert test p [] = refl
all-insert test p (q ∷ qs) =
    elim (is_gt (byte_order p.0 q.0)) as (λ b. list_all test (cond b (q ∷ insert_sorted (λ a c. byte_order a.0 c.0) p qs) (p ∷ q ∷ qs)) ≡ (test p && (test q && list_all test qs))) [
      | true ↦ ap (λ b. test q && b) (all-insert test p qs) ∙ and_exchange (test q) (test p) (list_all test qs)
      | false ↦ refl
    ]

all-by_key : {A : Type 0} (test : List ℕ × A → Bool) (ps : List (List ℕ × A)) → list_all test (by_key ps) ≡ list_all test ps
all-by_key test [] = refl
all-by_key test (p ∷ ps) = all-insert test p (by_key ps) ∙ ap (λ b. test p && b) (all-by_key test ps)

-- ---- tests

-- the test doesn't ask for the order of keys
abbrev pub Stays : (Json → Bool) → Type 0
Stays test = (t : Json) → Keyed t → test (sort_tree t) ≡ test t

pub has-stays : (key : List ℕ) (test : Json → Bool) → Stays test → Stays (has key test)
has-stays key test same t k = ap (there_and test) (field_sorted key t k) ∙ inside (field t key) refl
  where
    inside : (o : Option Json) → field t key ≡ o → there_and test (option_map sort_tree o) ≡ there_and test o
    inside None e = refl
    inside (Some v) e = same v (keyed_value key t v k e)

pub may_have-stays : (key : List ℕ) (test : Json → Bool) → Stays test → Stays (may_have key test)
may_have-stays key test same t k = ap (absent_or test) (field_sorted key t k) ∙ inside (field t key) refl
  where
    inside : (o : Option Json) → field t key ≡ o → absent_or test (option_map sort_tree o) ≡ absent_or test o
    inside None e = refl
    inside (Some v) e = same v (keyed_value key t v k e)

pub has_only-stays : (keys : List (List ℕ)) → Stays (has_only keys)
has_only-stays keys t k =
    let test = λ (p : List ℕ × Json). list_any (λ key. bytes_eq p.0 key) keys in
    ap (list_all test) (fields_sorted t) ∙ all-by_key test (map with_sorted (fields t)) ∙ list_all-map test with_sorted (fields t)

-- each item
pub all_sorted : (test : Json → Bool) → Stays test → (xs : List Json) → AllKeyed xs → list_all test (map sort_tree xs) ≡ list_all test xs
all_sorted test same [] k = refl
all_sorted test same (x ∷ xs) k = let h = first_keyed x xs k in and_eq (same x h.0) (all_sorted test same xs h.1)

pub items-stay : (test : Json → Bool) → Stays test → Stays (λ t. list_all test (items t))
items-stay test same t k = ap (list_all test) (items_sorted t) ∙ all_sorted test same (items t) (keyed_items t k)

pub items_of_sorted : {A : Type 0} (f : List Json → A) → ((xs : List Json) → AllKeyed xs → f (map sort_tree xs) ≡ f xs) → (t : Json) → Keyed t → f (items (sort_tree t)) ≡ f (items t)
items_of_sorted f same t k = ap f (items_sorted t) ∙ same (items t) (keyed_items t k)

-- the value of each pair, by its key
pub values-stay : (test : List ℕ → Json → Bool) → ((key : List ℕ) → Stays (test key)) → Stays (λ t. list_all (λ p. test p.0 p.1) (fields t))
values-stay test same t k =
    ap (list_all (λ p. test p.0 p.1)) (fields_sorted t) ∙ all-by_key (λ p. test p.0 p.1) (map with_sorted (fields t)) ∙ each (fields t) (pairs_of (fields t) (fields_keyed t k).0)
  where
    each : (ps : List (List ℕ × Json)) → PairsKeyed ps → list_all (λ p. test p.0 p.1) (map with_sorted ps) ≡ list_all (λ p. test p.0 p.1) ps
    each [] h = refl
    each (p ∷ ps) h = let g = pair_keyed p ps h in and_eq (same p.0 p.1 g.0) (each ps g.1)

-- ---- depth

abbrev with_depth : List ℕ × Json → List ℕ × ℕ
with_depth p = (p.0, depth p.1)

mutual
  pub depth_stays : (t : Json) → Keyed t → depth (sort_tree t) ≡ depth t
  depth_stays _ keyed.null = ap depth sorted-Null
  depth_stays _ (keyed.boolean b) = ap depth (sorted-Bool b)
  depth_stays _ (keyed.number s) = ap depth (sorted-Num s)
  depth_stays _ (keyed.text s) = ap depth (sorted-Str s)
  depth_stays _ (keyed.array xs all) = ap depth (sorted-Arr xs) ∙ depth-Arr (map sort_tree xs) ∙ ap (λ ns. 1 + highest ns) (depths_stay xs all) ∙ sym (depth-Arr xs)
  depth_stays _ (keyed.object ps all d) =
      ap depth (sorted-Obj ps) ∙ depth-Obj (by_key (map with_sorted ps)) ∙ ap (λ ns. 1 + highest_of_pairs ns) (sym (sort_by-map (λ a b. byte_order a.0 b.0) with_depth (map with_sorted ps)))
      ∙ ap (λ n. 1 + n) (highest-by_key (map with_depth (map with_sorted ps))) ∙ ap (λ ns. 1 + highest_of_pairs ns) (pair_depths_stay ps all) ∙ sym (depth-Obj ps)

  depths_stay : (xs : List Json) → AllKeyed xs → map depth (map sort_tree xs) ≡ map depth xs
  depths_stay _ keyed.none = refl
  depths_stay _ (keyed.more x xs k all) = ap₂ (λ n ns. n ∷ ns) (depth_stays x k) (depths_stay xs all)

  pair_depths_stay : (ps : List (List ℕ × Json)) → PairsKeyed ps → map with_depth (map with_sorted ps) ≡ map with_depth ps
  pair_depths_stay _ keyed.no_pairs = refl
  pair_depths_stay _ (keyed.pair key value ps k all) = ap₂ (λ n ns. (key, n) ∷ ns) (depth_stays value k) (pair_depths_stay ps all)
