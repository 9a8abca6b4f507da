-- The trees of outputs that were read are outputs of nbformat.
use Rattle.std.proofs.Common.{◌≡◌, ℕ, ◌<◌, ◌≤◌, Bool, true, false, ◌&&◌, ◌||◌, List, [], ◌∷◌, map, Option, Some, None, refl, sym, ap, ◌∙◌, arith, codes}
use Rattle.std.specs.Prelude.{if◌then◌else◌}
use Rattle.std.specs.List.{AllByRecursion, list_all}
use Rattle.std.specs.Str.{bytes_eq}
use Rattle.std.proofs.lemmas.Bool.{and_parts, and_from, or_left, or_right}
use Rattle.jtext.specs.declared.json.Json.{Json, out-Json}
use Rattle.jtext.specs.declared.json.Json.TheOpen.{Json-F}
use Rattle.jtext.specs.declared.json.Json.TheVariants as json
use Rattle.jtext.specs.Bundle.{is_multiline, is_json_type, is_bundle}
use Rattle.jtext.specs.Depth.{depth}
use Rattle.jtext.specs.Find.{find, fields}
use Rattle.jtext.specs.Grammar.{Lacks, Distinct}
use Rattle.jtext.specs.Keyed as keyed
use Rattle.jtext.specs.Keyed.{Keyed, PairsKeyed}
use Rattle.jtext.specs.Look.{is_object, is_list, items, is_string, is_strings, there_and}
use Rattle.jtext.proofs.Depths.{depth-Arr, depth-Null, depth-Num, depth-Str, highest-le}
use Rattle.jtext.proofs.Lists.{and_three}
use Rattle.jtext.proofs.Trees.{pairs_keyed}
use Rattle.nb_model.specs.Keys.{is_text, has}
use Rattle.nb_model.specs.Lines.{lines_of, lines_tree}
use Rattle.nb_model.specs.Schema.{stream_required, display_required, result_required, error_required, output_keys}
use Rattle.nb_model.specs.Tree.{count_tree}
use Rattle.nb_model.specs.Valid.{is_stream, is_display, is_result, is_error, is_output}
use Rattle.nb_model.specs.Values.{is_count}
use Rattle.nb_model.proofs.DepthLaws.{object_within, values_within}
use Rattle.nb_model.proofs.KeyedLemmas.{values_of, pairs_of, distinct_from, string_list_keyed}
use Rattle.nb_model.proofs.Multilines.{is_string_Str, strings_fit}
use Rattle.nb_model.proofs.PreparedLaws.{fields_Obj, object_Obj, string_Str, list_Arr, items_Arr, count_is, only_at}
use Rattle.jcontent.specs.declared.content.Content.{Content}
use Rattle.jcontent.specs.declared.content.Content.TheVariants as content
use Rattle.jcontent.specs.declared.shown.Shown.{Shown}
use Rattle.jcontent.specs.IsRead.{IsInner, IsShown, IsCount}
use Rattle.out_fold.specs.Cells.{date_pairs}
use Rattle.out_fold.specs.Tree.{is_text_type, lines_layer, in_lines, stored_pair, stored_bundle, stream_tree, display_tree, result_tree, error_tree, output_tree}
use Rattle.out_fold.proofs.ListTests.{no}
use Rattle.out_fold.proofs.ReadOutputs.{IsReadOutput}

-- ---- tests of a built object

has_at : (key : List ℕ) (test : Json → Bool) (qs : List (List ℕ × Json)) (v : Json) → find key qs ≡ Some v → test v ≡ true → has key test (json.Obj qs) ≡ true
has_at key test qs v e h = ap (λ ps. there_and test (find key ps)) (fields_Obj qs) ∙ ap (there_and test) e ∙ h

text_is : (text s : List ℕ) → bytes_eq s text ≡ true → is_text text (json.Str s) ≡ true
text_is text s e = ap (there_and (λ x. bytes_eq x text)) (string_Str s) ∙ e

strings_are : (ls : List (List ℕ)) → is_strings (json.Arr (map (λ l. json.Str l) ls)) ≡ true
strings_are ls =
    let xs = map (λ l. json.Str l) ls in
    and_from (is_list (json.Arr xs)) (list_all is_string (items (json.Arr xs))) (list_Arr xs) (ap (list_all is_string) (items_Arr xs) ∙ strings_fit ls)

lines_are : (s : List ℕ) → is_multiline (lines_tree s) ≡ true
lines_are s = or_right (is_string (lines_tree s)) (is_strings (lines_tree s)) (strings_are (lines_of s))

-- ---- depths

string_depth : (l : List ℕ) → depth (json.Str l) ≤ 0
string_depth l = let e = depth-Str l in omega (arith, e)

strings_depth : (ls : List (List ℕ)) → AllByRecursion (λ x. depth x ≤ 0) (map (λ l. json.Str l) ls)
strings_depth [] = tt
strings_depth (l ∷ ls) = (string_depth l, strings_depth ls)

list_depth : (ls : List (List ℕ)) → depth (json.Arr (map (λ l. json.Str l) ls)) ≤ 1
list_depth ls =
    let xs = map (λ l. json.Str l) ls in
    let e = depth-Arr xs in
    let h = highest-le 0 xs (strings_depth ls) in
    omega (arith, e, h)

up : (n m k : ℕ) → n ≤ m → m ≤ k → n ≤ k
up n m k a b = omega (arith, a, b)

below : (n : ℕ) → n < 100 → n ≤ 99
below n lt = omega (arith, lt)

-- ---- bundles

by_layer : (Q : Json → Type 0) (v : Json) (l : Json-F Json) → Q v → ((s : List ℕ) → Q (lines_tree s)) → Q (lines_layer v l)
by_layer Q v Json-F.Null h lines = h
by_layer Q v (Json-F.Bool b) h lines = h
by_layer Q v (Json-F.Num s) h lines = h
by_layer Q v (Json-F.Str s) h lines = lines s
by_layer Q v (Json-F.Arr xs) h lines = h
by_layer Q v (Json-F.Obj ps) h lines = h

by_type : (Q : Json → Type 0) (b : Bool) (v : Json) → Q v → ((s : List ℕ) → Q (lines_tree s)) → Q (if b then in_lines v else v)
by_type Q true v h lines = by_layer Q v (out-Json v) h lines
by_type Q false v h lines = h

-- what holds of a value and of all lines, holds of the value as it is stored
stored_value : (Q : Json → Type 0) (p : List ℕ × Json) → Q p.1 → ((s : List ℕ) → Q (lines_tree s)) → Q (stored_pair p).1
stored_value Q p h lines = by_type Q (is_text_type p.0) p.1 h lines

stored_values : (Q : Json → Type 0) (ps : List (List ℕ × Json)) → AllByRecursion (λ p. Q p.1) ps → ((s : List ℕ) → Q (lines_tree s)) → AllByRecursion (λ p. Q p.1) (map stored_pair ps)
stored_values Q [] all lines = tt
stored_values Q (p ∷ ps) all lines = (stored_value Q p all.0 lines, stored_values Q ps all.1 lines)

abbrev is_datum : List ℕ × Json → Bool
is_datum p = is_json_type p.0 || is_multiline p.1

datum_stored : (p : List ℕ × Json) → is_datum p ≡ true → is_datum (stored_pair p) ≡ true
datum_stored p e =
    stored_value (λ v. (is_json_type p.0 || is_multiline v) ≡ true) p e
    (λ s. or_right (is_json_type p.0) (is_multiline (lines_tree s)) (lines_are s))

data_stored : (ps : List (List ℕ × Json)) → list_all is_datum ps ≡ true → list_all is_datum (map stored_pair ps) ≡ true
data_stored [] e = refl
data_stored (p ∷ ps) e =
    let h = and_parts (is_datum p) (list_all is_datum ps) e in
    and_from (is_datum (stored_pair p)) (list_all is_datum (map stored_pair ps)) (datum_stored p h.0) (data_stored ps h.1)

bundle_stored : (ps : List (List ℕ × Json)) → is_bundle (json.Obj ps) ≡ true → is_bundle (stored_bundle ps) ≡ true
bundle_stored ps e =
    let h = and_parts (is_object (json.Obj ps)) (list_all is_datum (fields (json.Obj ps))) e in
    and_from (is_object (stored_bundle ps)) (list_all is_datum (fields (stored_bundle ps))) (object_Obj (map stored_pair ps))
    (ap (list_all is_datum) (fields_Obj (map stored_pair ps)) ∙ data_stored ps (ap (list_all is_datum) (sym (fields_Obj ps)) ∙ h.1))

lacks_stored : (key : List ℕ) (ps : List (List ℕ × Json)) → Lacks key ps → Lacks key (map stored_pair ps)
lacks_stored key [] l = tt
lacks_stored key (p ∷ ps) l = (l.0, lacks_stored key ps l.1)

distinct_stored : (ps : List (List ℕ × Json)) → Distinct ps → Distinct (map stored_pair ps)
distinct_stored [] d = tt
distinct_stored (p ∷ ps) d = (lacks_stored p.0 ps d.0, distinct_stored ps d.1)

keyed_stored : (ps : List (List ℕ × Json)) → Keyed (json.Obj ps) → Keyed (stored_bundle ps)
keyed_stored ps k =
    let h = pairs_keyed (json.Obj ps) ps k refl in
    let qs = map stored_pair ps in
    keyed.object qs (pairs_of qs (stored_values Keyed ps (values_of ps h.0) (λ s. string_list_keyed (lines_of s)))) (distinct_stored ps h.1)

depth_stored : (ps : List (List ℕ × Json)) → depth (json.Obj ps) < 100 → depth (stored_bundle ps) ≤ 99
depth_stored ps h =
    object_within 98 (map stored_pair ps)
    (stored_values (λ v. depth v ≤ 98) ps (values_within 98 ps (below (depth (json.Obj ps)) h)) (λ s. up (depth (lines_tree s)) 1 98 (list_depth (lines_of s)) (omega arith)))

-- ---- outputs

-- an output of nbformat with distinct keys, nested at most 100 deep
pub record IsFit (o : Json) : Type 0 where
  pub valid : is_output o ≡ true
  pub keyed : Keyed o
  pub within : depth o ≤ 100

-- a value under a key of an output
record IsPart (v : Json) : Type 0 where
  keyed : Keyed v
  within : depth v ≤ 99

parts_keyed : (ps : List (List ℕ × Json)) → AllByRecursion (λ p. IsPart p.1) ps → AllByRecursion (λ p. Keyed p.1) ps
parts_keyed [] all = tt
parts_keyed (p ∷ ps) all = (all.0.keyed, parts_keyed ps all.1)

parts_within : (ps : List (List ℕ × Json)) → AllByRecursion (λ p. IsPart p.1) ps → AllByRecursion (λ p. depth p.1 ≤ 99) ps
parts_within [] all = tt
parts_within (p ∷ ps) all = (all.0.within, parts_within ps all.1)

fit : (ps : List (List ℕ × Json)) → is_output (json.Obj ps) ≡ true → Distinct ps → AllByRecursion (λ p. IsPart p.1) ps → IsFit (json.Obj ps)
fit ps valid distinct all =
    record { valid = valid; keyed = keyed.object ps (pairs_of ps (parts_keyed ps all)) distinct; within = object_within 99 ps (parts_within ps all) }

string_part : (s : List ℕ) → IsPart (json.Str s)
string_part s = record { keyed = keyed.text s; within = up (depth (json.Str s)) 0 99 (string_depth s) (omega arith) }

strings_part : (ls : List (List ℕ)) → IsPart (json.Arr (map (λ l. json.Str l) ls))
strings_part ls = record { keyed = string_list_keyed ls; within = up (depth (json.Arr (map (λ l. json.Str l) ls))) 1 99 (list_depth ls) (omega arith) }

inner_part : (v : Json) → IsInner v → IsPart v
inner_part v h = record { keyed = h.keyed; within = below (depth v) h.within }

stored_part : (ps : List (List ℕ × Json)) → IsInner (json.Obj ps) → IsPart (stored_bundle ps)
stored_part ps h = record { keyed = keyed_stored ps h.keyed; within = depth_stored ps h.within }

null_depth : depth json.Null ≤ 0
null_depth = let e = depth-Null in omega (arith, e)

number_depth : (s : List ℕ) → depth (json.Num s) ≤ 0
number_depth s = let e = depth-Num s in omega (arith, e)

count_part : (o : Option (List ℕ)) → IsPart (count_tree o)
count_part None = record { keyed = keyed.null; within = up (depth json.Null) 0 99 null_depth (omega arith) }
count_part (Some s) = record { keyed = keyed.number s; within = up (depth (json.Num s)) 0 99 (number_depth s) (omega arith) }

-- one of four
pick : (o : Json) → is_object o ≡ true → (is_stream o || is_display o || is_result o || is_error o) ≡ true → is_output o ≡ true
pick o is one = and_from (is_object o) (is_stream o || is_display o || is_result o || is_error o) is one

and4 : (a b c d : Bool) → a ≡ true → b ≡ true → c ≡ true → d ≡ true → (a && b && c && d) ≡ true
and4 a b c d p q r s = and_from (a && b && c) d (and_three a b c p q r) s

and5 : (a b c d e : Bool) → a ≡ true → b ≡ true → c ≡ true → d ≡ true → e ≡ true → (a && b && c && d && e) ≡ true
and5 a b c d e p q r s t = and_from (a && b && c && d) e (and4 a b c d p q r s) t

-- the pairs of each kind
abbrev stream_pairs : List ℕ → List ℕ → List (List ℕ × Json)
stream_pairs name text = (codes "name", json.Str name) ∷ (codes "output_type", json.Str (codes "stream")) ∷ (codes "text", lines_tree text) ∷ []

abbrev display_pairs : Shown → List (List ℕ × Json)
display_pairs s = (codes "data", stored_bundle s.bundle) ∷ (codes "metadata", s.metadata) ∷ (codes "output_type", json.Str (codes "display_data")) ∷ []

abbrev result_pairs : Shown → Option (List ℕ) → List (List ℕ × Json)
result_pairs s count = (codes "data", stored_bundle s.bundle) ∷ (codes "execution_count", count_tree count) ∷ (codes "metadata", s.metadata) ∷ (codes "output_type", json.Str (codes "execute_result")) ∷ []

abbrev error_pairs : List ℕ → List ℕ → List (List ℕ) → List (List ℕ × Json)
error_pairs ename evalue traceback = (codes "ename", json.Str ename) ∷ (codes "evalue", json.Str evalue) ∷ (codes "output_type", json.Str (codes "error")) ∷ (codes "traceback", json.Arr (map (λ l. json.Str l) traceback)) ∷ []

-- the output type
type_at : (name : List ℕ) (qs : List (List ℕ × Json)) → find (codes "output_type") qs ≡ Some (json.Str name) → bytes_eq name name ≡ true → has (codes "output_type") (is_text name) (json.Obj qs) ≡ true
type_at name qs e same = has_at (codes "output_type") (is_text name) qs (json.Str name) e (text_is name name same)

stream_is : (name text : List ℕ) → is_stream (json.Obj (stream_pairs name text)) ≡ true
stream_is name text =
    let qs = stream_pairs name text in
    and4 _ _ _ _ (type_at (codes "stream") qs refl refl) (only_at (output_keys stream_required) qs refl)
    (has_at (codes "name") is_string qs (json.Str name) refl (is_string_Str name))
    (has_at (codes "text") is_multiline qs (lines_tree text) refl (lines_are text))

display_is : (s : Shown) → IsShown s → is_display (json.Obj (display_pairs s)) ≡ true
display_is s h =
    let qs = display_pairs s in
    and4 _ _ _ _ (type_at (codes "display_data") qs refl refl) (only_at (output_keys display_required) qs refl)
    (has_at (codes "data") is_bundle qs (stored_bundle s.bundle) refl (bundle_stored s.bundle h.bundle))
    (has_at (codes "metadata") is_object qs s.metadata refl h.object)

result_is : (s : Shown) (count : Option (List ℕ)) → IsShown s → IsCount count → is_result (json.Obj (result_pairs s count)) ≡ true
result_is s count h n =
    let qs = result_pairs s count in
    and5 _ _ _ _ _ (type_at (codes "execute_result") qs refl refl) (only_at (output_keys result_required) qs refl)
    (has_at (codes "data") is_bundle qs (stored_bundle s.bundle) refl (bundle_stored s.bundle h.bundle))
    (has_at (codes "metadata") is_object qs s.metadata refl h.object)
    (has_at (codes "execution_count") is_count qs (count_tree count) refl (count_is count ∙ n))

error_is : (ename evalue : List ℕ) (traceback : List (List ℕ)) → is_error (json.Obj (error_pairs ename evalue traceback)) ≡ true
error_is ename evalue traceback =
    let qs = error_pairs ename evalue traceback in
    and5 _ _ _ _ _ (type_at (codes "error") qs refl refl) (only_at (output_keys error_required) qs refl)
    (has_at (codes "ename") is_string qs (json.Str ename) refl (is_string_Str ename))
    (has_at (codes "evalue") is_string qs (json.Str evalue) refl (is_string_Str evalue))
    (has_at (codes "traceback") is_strings qs (json.Arr (map (λ l. json.Str l) traceback)) refl (strings_are traceback))

stream_fit : (name text : List ℕ) → IsFit (stream_tree name text)
stream_fit name text =
    let o = stream_tree name text in
    fit (stream_pairs name text)
    (pick o (object_Obj (stream_pairs name text)) (or_left (is_stream o || is_display o || is_result o) (is_error o) (or_left (is_stream o || is_display o) (is_result o) (or_left (is_stream o) (is_display o) (stream_is name text)))))
    (distinct_from (stream_pairs name text) refl)
    (string_part name, (string_part (codes "stream"), (strings_part (lines_of text), tt)))

display_fit : (s : Shown) → IsShown s → IsFit (display_tree s)
display_fit s h =
    let o = display_tree s in
    fit (display_pairs s)
    (pick o (object_Obj (display_pairs s)) (or_left (is_stream o || is_display o || is_result o) (is_error o) (or_left (is_stream o || is_display o) (is_result o) (or_right (is_stream o) (is_display o) (display_is s h)))))
    (distinct_from (display_pairs s) refl)
    (stored_part s.bundle h.values, (inner_part s.metadata h.metadata, (string_part (codes "display_data"), tt)))

result_fit : (s : Shown) (count : Option (List ℕ)) → IsShown s → IsCount count → IsFit (result_tree s count)
result_fit s count h n =
    let o = result_tree s count in
    fit (result_pairs s count)
    (pick o (object_Obj (result_pairs s count)) (or_left (is_stream o || is_display o || is_result o) (is_error o) (or_right (is_stream o || is_display o) (is_result o) (result_is s count h n))))
    (distinct_from (result_pairs s count) refl)
    (stored_part s.bundle h.values, (count_part count, (inner_part s.metadata h.metadata, (string_part (codes "execute_result"), tt))))

error_fit : (ename evalue : List ℕ) (traceback : List (List ℕ)) → IsFit (error_tree ename evalue traceback)
error_fit ename evalue traceback =
    let o = error_tree ename evalue traceback in
    fit (error_pairs ename evalue traceback)
    (pick o (object_Obj (error_pairs ename evalue traceback)) (or_right (is_stream o || is_display o || is_result o) (is_error o) (error_is ename evalue traceback)))
    (distinct_from (error_pairs ename evalue traceback) refl)
    (string_part ename, (string_part evalue, (string_part (codes "error"), (strings_part traceback, tt))))

tree_fit : (c : Content) → IsReadOutput c → IsFit (output_tree c)
tree_fit (content.Stream name text) h = stream_fit name text
tree_fit (content.Display s) h = display_fit s h.0
tree_fit (content.Outcome s count) h = result_fit s count h.0.0 h.0.1
tree_fit (content.Error ename evalue traceback) h = error_fit ename evalue traceback
tree_fit _ h = no h.1

-- the trees of these outputs
pub trees_fit : (cs : List Content) → AllByRecursion IsReadOutput cs → AllByRecursion IsFit (map output_tree cs)
trees_fit [] all = tt
trees_fit (c ∷ cs) all = (tree_fit c all.0, trees_fit cs all.1)

-- ---- dates

-- pairs of strings, and their depth
pub record AreDates (ps : List (List ℕ × Json)) : Type 0 where
  pub texts : AllByRecursion (λ (p : List ℕ × Json). is_string p.1 ≡ true) ps
  pub keyed : Keyed (json.Obj ps)
  pub within : depth (json.Obj ps) ≤ 1

-- the pairs of strings under these keys
pub dates_fit : (ps : List (List ℕ × List ℕ)) → Distinct (map (λ p. (p.0, json.Str p.1)) ps) → AreDates (map (λ p. (p.0, json.Str p.1)) ps)
dates_fit ps distinct =
    record { texts = are_strings ps; keyed = keyed.object (map (λ p. (p.0, json.Str p.1)) ps) (are_keyed ps) distinct; within = object_within 0 (map (λ p. (p.0, json.Str p.1)) ps) (are_flat ps) }
  where
    are_strings : (ps : List (List ℕ × List ℕ)) → AllByRecursion (λ (p : List ℕ × Json). is_string p.1 ≡ true) (map (λ p. (p.0, json.Str p.1)) ps)
    are_strings [] = tt
    are_strings (p ∷ ps) = (is_string_Str p.1, are_strings ps)

    are_keyed : (ps : List (List ℕ × List ℕ)) → PairsKeyed (map (λ p. (p.0, json.Str p.1)) ps)
    are_keyed [] = keyed.no_pairs
    are_keyed (p ∷ ps) = keyed.pair p.0 (json.Str p.1) (map (λ q. (q.0, json.Str q.1)) ps) (keyed.text p.1) (are_keyed ps)

    are_flat : (ps : List (List ℕ × List ℕ)) → AllByRecursion (λ (p : List ℕ × Json). depth p.1 ≤ 0) (map (λ p. (p.0, json.Str p.1)) ps)
    are_flat [] = tt
    are_flat (p ∷ ps) = (string_depth p.1, are_flat ps)

-- the dates of a cell, by the four that may be there
pub four_fit : (a b c d : Option (List ℕ)) → AreDates (date_pairs a b c d)
four_fit None None None None = dates_fit [] tt
four_fit None None None (Some d) = dates_fit ((codes "shell.execute_reply", d) ∷ []) (distinct_from (date_pairs None None None (Some d)) refl)
four_fit None None (Some c) None = dates_fit ((codes "iopub.status.idle", c) ∷ []) (distinct_from (date_pairs None None (Some c) None) refl)
four_fit None None (Some c) (Some d) = dates_fit ((codes "iopub.status.idle", c) ∷ (codes "shell.execute_reply", d) ∷ []) (distinct_from (date_pairs None None (Some c) (Some d)) refl)
four_fit None (Some b) None None = dates_fit ((codes "iopub.status.busy", b) ∷ []) (distinct_from (date_pairs None (Some b) None None) refl)
four_fit None (Some b) None (Some d) = dates_fit ((codes "iopub.status.busy", b) ∷ (codes "shell.execute_reply", d) ∷ []) (distinct_from (date_pairs None (Some b) None (Some d)) refl)
four_fit None (Some b) (Some c) None = dates_fit ((codes "iopub.status.busy", b) ∷ (codes "iopub.status.idle", c) ∷ []) (distinct_from (date_pairs None (Some b) (Some c) None) refl)
four_fit None (Some b) (Some c) (Some d) = dates_fit ((codes "iopub.status.busy", b) ∷ (codes "iopub.status.idle", c) ∷ (codes "shell.execute_reply", d) ∷ []) (distinct_from (date_pairs None (Some b) (Some c) (Some d)) refl)
four_fit (Some a) None None None = dates_fit ((codes "iopub.execute_input", a) ∷ []) (distinct_from (date_pairs (Some a) None None None) refl)
four_fit (Some a) None None (Some d) = dates_fit ((codes "iopub.execute_input", a) ∷ (codes "shell.execute_reply", d) ∷ []) (distinct_from (date_pairs (Some a) None None (Some d)) refl)
four_fit (Some a) None (Some c) None = dates_fit ((codes "iopub.execute_input", a) ∷ (codes "iopub.status.idle", c) ∷ []) (distinct_from (date_pairs (Some a) None (Some c) None) refl)
four_fit (Some a) None (Some c) (Some d) = dates_fit ((codes "iopub.execute_input", a) ∷ (codes "iopub.status.idle", c) ∷ (codes "shell.execute_reply", d) ∷ []) (distinct_from (date_pairs (Some a) None (Some c) (Some d)) refl)
four_fit (Some a) (Some b) None None = dates_fit ((codes "iopub.execute_input", a) ∷ (codes "iopub.status.busy", b) ∷ []) (distinct_from (date_pairs (Some a) (Some b) None None) refl)
four_fit (Some a) (Some b) None (Some d) = dates_fit ((codes "iopub.execute_input", a) ∷ (codes "iopub.status.busy", b) ∷ (codes "shell.execute_reply", d) ∷ []) (distinct_from (date_pairs (Some a) (Some b) None (Some d)) refl)
four_fit (Some a) (Some b) (Some c) None = dates_fit ((codes "iopub.execute_input", a) ∷ (codes "iopub.status.busy", b) ∷ (codes "iopub.status.idle", c) ∷ []) (distinct_from (date_pairs (Some a) (Some b) (Some c) None) refl)
four_fit (Some a) (Some b) (Some c) (Some d) = dates_fit ((codes "iopub.execute_input", a) ∷ (codes "iopub.status.busy", b) ∷ (codes "iopub.status.idle", c) ∷ (codes "shell.execute_reply", d) ∷ []) (distinct_from (date_pairs (Some a) (Some b) (Some c) (Some d)) refl)
