-- The scraps of a notebook that was read can be parameters.
use Rattle.std.proofs.Common.{◌≡◌, ◌≤◌, ℕ, zero, suc, ◌+◌, Bool, true, false, cond, List, [], ◌∷◌, ◌++◌, map, Option, Some, None, IfSome, refl, sym, ap, ◌∙◌, subst, arith, codes}
use Rattle.std.specs.Prelude.{flat_map, nat_eq, option_and_then, unwrap_or, ◌||◌}
use Rattle.std.specs.List.{AllByRecursion}
use Rattle.std.specs.Str.{bytes_eq}
use Rattle.std.specs.Cmp.Lexicographic.{pointwise}
use Rattle.jtext.specs.declared.json.Json.{Json, out-Json}
use Rattle.jtext.specs.declared.json.Json.TheOpen.{Json-F}
use Rattle.jtext.specs.declared.json.Json.TheVariants as json
use Rattle.jtext.specs.Depth.{depth, highest, highest_of_pairs}
use Rattle.jtext.specs.Find.{find, fields, fields_of, field}
use Rattle.jtext.specs.Keyed as keyed
use Rattle.jtext.specs.Keyed.{Keyed, AllKeyed, PairsKeyed}
use Rattle.jtext.specs.Look.{items, items_layer, string_at}
use Rattle.jtext.specs.Names.{is_number}
use Rattle.jtext.proofs.Trees.{open_Null, open_Bool, open_Num, open_Str, open_Arr, open_Obj}
use Rattle.jtext.proofs.Depths.{depth-Null, depth-Bool, depth-Num, depth-Str, depth-Arr, depth-Obj, highest-all, pairs-all}
use Rattle.nb_model.specs.declared.cell.Cell.{Cell}
use Rattle.nb_model.specs.Keys.{is_text, has}
use Rattle.nb_model.specs.Planned.{joined_text}
use Rattle.nb_model.specs.Reading.{value_at, cell_of, notebook_of}
use Rattle.report_text.specs.Page.{is_of_type}
use Rattle.report_text.specs.Rows.{rows}
use Rattle.words.specs.Runnable.{IsParameter}
use Rattle.words.specs.Values.{value_of}
use Rattle.scrap_book.specs.Merging.{last_value, with_other_names, merged}
use Rattle.scrap_book.specs.Scraps.{pairs_of_texts, scrap_texts, row_scraps, stream_scraps, pairs_of_both, recorded_scraps, optional_scraps, bundle_scraps, output_scraps, cell_scraps, scraps}

-- ---- trees of a depth

-- no key stands twice in it, and it nests at most so deep
abbrev IsFine : ℕ → Json → Type 0
IsFine m v = Keyed v × (depth v ≤ m)

within : (k n m : ℕ) → n ≡ 1 + k → n ≤ suc m → k ≤ m
within k n m e le = omega (arith, e, le)

all_items : (xs : List Json) → AllKeyed xs → AllByRecursion Keyed xs
all_items _ keyed.none = tt
all_items _ (keyed.more x xs k all) = (k, all_items xs all)

all_values : (ps : List (List ℕ × Json)) → PairsKeyed ps → AllByRecursion (λ p. Keyed p.1) ps
all_values _ keyed.no_pairs = tt
all_values _ (keyed.pair key value ps k all) = (k, all_values ps all)

joined_pairs : (m : ℕ) (ps : List (List ℕ × Json)) → AllByRecursion (λ p. Keyed p.1) ps → AllByRecursion (λ p. depth p.1 ≤ m) ps → AllByRecursion (λ p. IsFine m p.1) ps
joined_pairs m [] k d = tt
joined_pairs m (p ∷ ps) k d = ((k.0, d.0), joined_pairs m ps k.1 d.1)

joined_items : (m : ℕ) (xs : List Json) → AllByRecursion Keyed xs → AllByRecursion (λ x. depth x ≤ m) xs → AllByRecursion (IsFine m) xs
joined_items m [] k d = tt
joined_items m (x ∷ xs) k d = ((k.0, d.0), joined_items m xs k.1 d.1)

no_fields : (m : ℕ) (t : Json) (u : Json-F Json) → out-Json t ≡ u → fields_of u ≡ [] → AllByRecursion (λ p. IsFine m p.1) (fields t)
no_fields m t u o e = subst (AllByRecursion (λ p. IsFine m p.1)) (sym (ap fields_of o ∙ e)) tt

fine_fields : (m : ℕ) (t : Json) → Keyed t → depth t ≤ suc m → AllByRecursion (λ p. IsFine m p.1) (fields t)
fine_fields m _ keyed.null le = no_fields m json.Null Json-F.Null open_Null refl
fine_fields m _ (keyed.boolean b) le = no_fields m (json.Bool b) (Json-F.Bool b) (open_Bool b) refl
fine_fields m _ (keyed.number s) le = no_fields m (json.Num s) (Json-F.Num s) (open_Num s) refl
fine_fields m _ (keyed.text s) le = no_fields m (json.Str s) (Json-F.Str s) (open_Str s) refl
fine_fields m _ (keyed.array xs all) le = no_fields m (json.Arr xs) (Json-F.Arr xs) (open_Arr xs) refl
fine_fields m _ (keyed.object ps all d) le =
    let deep = pairs-all m ps (within (highest_of_pairs (map (λ p. (p.0, depth p.1)) ps)) (depth (json.Obj ps)) m (depth-Obj ps) le) in
    subst (AllByRecursion (λ p. IsFine m p.1)) (sym (ap fields_of (open_Obj ps))) (joined_pairs m ps (all_values ps all) deep)

no_items : (m : ℕ) (t : Json) (u : Json-F Json) → out-Json t ≡ u → items_layer u ≡ [] → AllByRecursion (IsFine m) (items t)
no_items m t u o e = subst (AllByRecursion (IsFine m)) (sym (ap items_layer o ∙ e)) tt

fine_items : (m : ℕ) (t : Json) → Keyed t → depth t ≤ suc m → AllByRecursion (IsFine m) (items t)
fine_items m _ keyed.null le = no_items m json.Null Json-F.Null open_Null refl
fine_items m _ (keyed.boolean b) le = no_items m (json.Bool b) (Json-F.Bool b) (open_Bool b) refl
fine_items m _ (keyed.number s) le = no_items m (json.Num s) (Json-F.Num s) (open_Num s) refl
fine_items m _ (keyed.text s) le = no_items m (json.Str s) (Json-F.Str s) (open_Str s) refl
fine_items m _ (keyed.array xs all) le =
    let deep = highest-all m xs (within (highest (map depth xs)) (depth (json.Arr xs)) m (depth-Arr xs) le) in
    subst (AllByRecursion (IsFine m)) (sym (ap items_layer (open_Arr xs))) (joined_items m xs (all_items xs all) deep)
fine_items m _ (keyed.object ps all d) le = no_items m (json.Obj ps) (Json-F.Obj ps) (open_Obj ps) refl

found : (P : Json → Type 0) (key : List ℕ) (ps : List (List ℕ × Json)) → AllByRecursion (λ p. P p.1) ps → IfSome (find key ps) P
found P key [] all = tt
found P key (p ∷ ps) all = by_test (pointwise nat_eq p.0 key) (find key ps) all.0 (found P key ps all.1)
  where
    by_test : (b : Bool) (rest : Option Json) → P p.1 → IfSome rest P → IfSome (cond b (Some p.1) rest) P
    by_test true rest here there = here
    by_test false rest here there = there

fine_field : (m : ℕ) (key : List ℕ) (t : Json) → IsFine (suc m) t → IfSome (field t key) (IsFine m)
fine_field m key t fine = found (IsFine m) key (fields t) (fine_fields m t fine.0 fine.1)

null_fine : (m : ℕ) → IsFine m json.Null
null_fine m = let e = depth-Null in (keyed.null, omega (arith, e))

or_null : (m : ℕ) (o : Option Json) → IfSome o (IsFine m) → IsFine m (unwrap_or o json.Null)
or_null m None h = null_fine m
or_null m (Some v) h = h

fine_value : (m : ℕ) (key : List ℕ) (t : Json) → IsFine (suc m) t → IsFine m (value_at key t)
fine_value m key t fine = or_null m (field t key) (fine_field m key t fine)

-- ---- values

flat : (n : ℕ) → n ≡ 0 → n ≤ 124
flat n e = omega (arith, e)

one_of : (b : Bool) (x y : Json) → IsFine 124 x → IsFine 124 y → IsFine 124 (cond b x y)
one_of true x y p q = p
one_of false x y p q = q

spelled_fine : (text : List ℕ) → IsFine 124 (value_of text)
spelled_fine text =
    one_of (bytes_eq text (codes "True")) _ _ (keyed.boolean true, flat (depth (json.Bool true)) (depth-Bool true))
    (one_of (bytes_eq text (codes "False")) _ _ (keyed.boolean false, flat (depth (json.Bool false)) (depth-Bool false))
    (one_of (bytes_eq text (codes "None")) _ _ (null_fine 124)
    (one_of (is_number text) _ _ (keyed.number text, flat (depth (json.Num text)) (depth-Num text)) (keyed.text text, flat (depth (json.Str text)) (depth-Str text)))))

abbrev AreParameters : List (List ℕ × Json) → Type 0
AreParameters ps = AllByRecursion IsParameter ps

parameter : (name : List ℕ) (v : Json) → IsFine 124 v → IsParameter (name, v)
parameter name v fine = record { keyed = fine.0; nests = fine.1 }

all_both : (xs ys : List (List ℕ × Json)) → AreParameters xs → AreParameters ys → AreParameters (xs ++ ys)
all_both [] ys p q = q
all_both (x ∷ xs) ys p q = (p.0, all_both xs ys p.1 q)

all_flat : {A : Type 0} (Q : A → Type 0) (f : A → List (List ℕ × Json)) (xs : List A) → ((x : A) → Q x → AreParameters (f x)) → AllByRecursion Q xs → AreParameters (flat_map f xs)
all_flat Q f [] each all = tt
all_flat Q f (x ∷ xs) each all = all_both (f x) (flat_map f xs) (each x all.0) (all_flat Q f xs each all.1)

every_flat : {A : Type 0} (f : A → List (List ℕ × Json)) (xs : List A) → ((x : A) → AreParameters (f x)) → AreParameters (flat_map f xs)
every_flat f [] each = tt
every_flat f (x ∷ xs) each = all_both (f x) (flat_map f xs) (each x) (every_flat f xs each)

-- ---- outputs

texts_fine : (o : Option (List ℕ × List ℕ)) → AreParameters (pairs_of_texts o)
texts_fine None = tt
texts_fine (Some texts) = (parameter texts.0 (value_of texts.1) (spelled_fine texts.1), tt)

either_fine : (b : Bool) (x y : List (List ℕ × Json)) → AreParameters x → AreParameters y → AreParameters (cond b x y)
either_fine true x y p q = p
either_fine false x y p q = q

stream_fine : (o : Json) → AreParameters (stream_scraps o)
stream_fine o =
    either_fine (has (codes "name") (is_text (codes "stdout")) o) (flat_map row_scraps (rows (joined_text (value_at (codes "text") o)))) []
    (every_flat row_scraps (rows (joined_text (value_at (codes "text") o))) (λ row. texts_fine (scrap_texts row))) tt

deeper : (v : Json) → IsFine 121 v → IsFine 124 v
deeper v fine = let le = fine.1 in (fine.0, omega (arith, le))

both_fine : (name : Option (List ℕ)) (v : Option Json) → IfSome v (IsFine 121) → AreParameters (pairs_of_both name v)
both_fine None v h = tt
both_fine (Some name) None h = tt
both_fine (Some name) (Some v) h = (parameter name v (deeper v h), tt)

optional_fine : (recorded : Option Json) → IfSome recorded (IsFine 122) → AreParameters (optional_scraps recorded)
optional_fine None h = tt
optional_fine (Some recorded) h = both_fine (string_at recorded (codes "name")) (field recorded (codes "data")) (fine_field 121 (codes "data") recorded h)

bundle_fine : (bundle : Option Json) → IfSome bundle (IsFine 123) → AreParameters (bundle_scraps bundle)
bundle_fine None h = tt
bundle_fine (Some b) h =
    optional_fine (field b (codes "application/scrapbook.scrap.json+json")) (fine_field 122 (codes "application/scrapbook.scrap.json+json") b h)

output_fine : (o : Json) → IsFine 124 o → AreParameters (output_scraps o)
output_fine o fine =
    either_fine (is_of_type (codes "stream") o) (stream_scraps o) _ (stream_fine o)
    (either_fine (is_of_type (codes "display_data") o || is_of_type (codes "execute_result") o) (bundle_scraps (field o (codes "data"))) []
    (bundle_fine (field o (codes "data")) (fine_field 123 (codes "data") o fine)) tt)

-- ---- notebooks

cells_fine : (cs : List Json) → AllByRecursion (IsFine 126) cs → AreParameters (flat_map cell_scraps (map cell_of cs))
cells_fine [] all = tt
cells_fine (c ∷ cs) all =
    let outputs = fine_value 125 (codes "outputs") c all.0 in
    all_both (cell_scraps (cell_of c)) (flat_map cell_scraps (map cell_of cs))
    (all_flat (IsFine 124) output_scraps (items (value_at (codes "outputs") c)) output_fine (fine_items 124 (value_at (codes "outputs") c) outputs.0 outputs.1))
    (cells_fine cs all.1)

last_fine : (name : List ℕ) (v : Json) (ps : List (List ℕ × Json)) → IsParameter (name, v) → AreParameters ps → IsParameter (name, last_value name v ps)
last_fine name v [] h all = h
last_fine name v (p ∷ ps) h all = last_fine name (cond (bytes_eq name p.0) p.1 v) ps (either (bytes_eq name p.0)) all.1
  where
    either : (b : Bool) → IsParameter (name, cond b p.1 v)
    either true = record { keyed = all.0.keyed; nests = all.0.nests }
    either false = h

others_fine : (name : List ℕ) (ps : List (List ℕ × Json)) → AreParameters ps → AreParameters (with_other_names name ps)
others_fine name [] all = tt
others_fine name (p ∷ ps) all =
    either_fine (bytes_eq name p.0) (with_other_names name ps) (p ∷ with_other_names name ps) (others_fine name ps all.1) (all.0, others_fine name ps all.1)

merged_fine : (ps : List (List ℕ × Json)) → AreParameters ps → AreParameters (merged ps)
merged_fine [] all = tt
merged_fine (p ∷ ps) all = (last_fine p.0 p.1 ps (record { keyed = all.0.keyed; nests = all.0.nests }) all.1, others_fine p.0 (merged ps) (merged_fine ps all.1))

pub scraps_fine : (t : Json) → Keyed t → depth t ≤ 128 → AllByRecursion IsParameter (scraps (notebook_of t))
scraps_fine t k le =
    let cells = fine_value 127 (codes "cells") t (k, le) in
    merged_fine (flat_map cell_scraps (map cell_of (items (value_at (codes "cells") t)))) (cells_fine (items (value_at (codes "cells") t)) (fine_items 126 (value_at (codes "cells") t) cells.0 cells.1))
