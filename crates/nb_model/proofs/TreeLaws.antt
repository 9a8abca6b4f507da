-- The tree of the notebook that a tree is, is that tree but for the order of keys.
use Rattle.std.proofs.Common.{◌≡◌, ℕ, Bool, true, false, ◌&&◌, ◌||◌, List, [], ◌∷◌, ◌++◌, map, Option, Some, None, refl, sym, ap, ap₂, ◌∙◌, inl, inr, rules}
use Rattle.std.specs.Prelude.{codes, unwrap_or, option_and_then}
use Rattle.std.specs.List.{list_any, list_all}
use Rattle.std.specs.Str.{bytes_eq}
use Rattle.std.proofs.lemmas.Bool.{cases_Bool, and_parts}
use Rattle.std.proofs.lemmas.Slice.Eq.{bytes_eq-Decides}
use Rattle.jtext.specs.declared.json.Json.{Json, out-Json, roll-out-Json, roll-Json, the_lemmas}
use Rattle.jtext.specs.declared.json.Json.TheOpen.{Json-F}
use Rattle.jtext.specs.declared.json.Json.TheVariants as json
use Rattle.jtext.specs.declared.json.Json.TheVariants.{rolls-Num, rolls-Null}
use Rattle.jtext.specs.Find.{field, fields}
use Rattle.jtext.specs.Grammar.{Distinct}
use Rattle.jtext.specs.Keyed.{Keyed, AllKeyed}
use Rattle.jtext.specs.Sorting.{byte_order, by_key, sort_tree}
use Rattle.jtext.specs.Indent.{bracket, member, further, indent, print}
use Rattle.jtext.specs.Look.{is_object, is_list, items, string, string_layer, number, number_layer, is_null_layer, there_and, is_whole_text}
use Rattle.jtext.proofs.Sorts.{sort_by-map}
use Rattle.nb_model.specs.declared.kind.Kind.{Kind}
use Rattle.nb_model.specs.declared.kind.Kind.TheVariants as kind
use Rattle.nb_model.specs.declared.cell.Cell.{Cell}
use Rattle.nb_model.specs.Keys.{is_text, is_number, has}
use Rattle.jtext.specs.Bundle.{is_multiline}
use Rattle.jtext.proofs.SortedTrees.{sorted-Arr, sorted-Obj}
use Rattle.jtext.proofs.Trees.{object_is, list_is, text_is, number_is, open_Str, items_keyed, pairs_keyed, first_keyed, found_keyed}
use Rattle.nb_model.specs.Schema.{notebook_keys, prose_cell_keys, code_cell_keys}
use Rattle.nb_model.specs.Values.{is_count}
use Rattle.nb_model.specs.Valid as valid
use Rattle.nb_model.specs.Reading.{value_at, cell_of, notebook_of, kind_named}
use Rattle.nb_model.specs.Tree.{optional_pair, count_tree, pairs_of_kind, outputs_of_kind, attachments_of_kind, cell_tree, notebook_tree}
use Rattle.nb_model.proofs.Tautologies.{always, same, from_same}
use Rattle.nb_model.proofs.KeyOrders.{chosen, by_key-chosen, by_key-again, chosen-found}

-- ---- a value by its kind

count_layer : (l : Json-F Json) → (is_null_layer l || there_and is_whole_text (number_layer l)) ≡ true → roll-Json l ≡ count_tree (number_layer l)
count_layer Json-F.Null e = rolls-Null
count_layer (Json-F.Bool b) e = cc
count_layer (Json-F.Num n) e = rolls-Num n
count_layer (Json-F.Str r) e = cc
count_layer (Json-F.Arr xs) e = cc
count_layer (Json-F.Obj ps) e = cc

count_is : (t : Json) → is_count t ≡ true → t ≡ count_tree (number t)
count_is t e = sym (roll-out-Json t) ∙ count_layer (out-Json t) e

-- the value that passes a test
there_is : {A : Type 0} (test : A → Bool) (o : Option A) → there_and test o ≡ true → (v : A) × (o ≡ Some v) × (test v ≡ true)
there_is test None e = cc
there_is test (Some v) e = (v, refl, e)

exact_text : (text : List ℕ) (v : Json) → is_text text v ≡ true → v ≡ json.Str text
exact_text text v e =
    let p = there_is (λ s. bytes_eq s text) (string v) e in
    text_is v p.0 p.1 ∙ ap json.Str ((bytes_eq-Decides p.0 text).0 p.2)

exact_number : (text : List ℕ) (v : Json) → is_number text v ≡ true → v ≡ json.Num text
exact_number text v e =
    let p = there_is (λ s. bytes_eq s text) (number v) e in
    number_is v p.0 p.1 ∙ ap json.Num ((bytes_eq-Decides p.0 text).0 p.2)

exact_id : (v : Json) → valid.is_id v ≡ true → v ≡ json.Str (unwrap_or (string v) [])
exact_id v e =
    let p = there_is _ (string v) e in
    text_is v p.0 p.1 ∙ ap (λ o. json.Str (unwrap_or o [])) (sym p.1)

-- ---- keys in order

code_order : (b0 b1 b2 b3 b4 b5 : Bool) → (b0 || (b1 || (b2 || (b3 || (b4 || (b5 || false)))))) ≡ (b0 || (b5 || (b1 || (b2 || (b4 || (b3 || false))))))
code_order b0 b1 b2 b3 b4 b5 = from_same (b0 || (b1 || (b2 || (b3 || (b4 || (b5 || false)))))) (b0 || (b5 || (b1 || (b2 || (b4 || (b3 || false)))))) (always 6 (λ b0 b1 b2 b3 b4 b5. same (b0 || (b1 || (b2 || (b3 || (b4 || (b5 || false)))))) (b0 || (b5 || (b1 || (b2 || (b4 || (b3 || false))))))) refl b0 b1 b2 b3 b4 b5)

code_order_known : (ps : List (List ℕ × Json)) → list_all (λ p. list_any (λ k. bytes_eq p.0 k) code_cell_keys) ps ≡ true → list_all (λ p. list_any (λ k. bytes_eq p.0 k) (codes "cell_type" ∷ codes "execution_count" ∷ codes "id" ∷ codes "metadata" ∷ codes "outputs" ∷ codes "source" ∷ [])) ps ≡ true
code_order_known [] e = refl
code_order_known (p ∷ ps) e =
    let h = and_parts (list_any (λ k. bytes_eq p.0 k) code_cell_keys) (list_all (λ q. list_any (λ k. bytes_eq q.0 k) code_cell_keys) ps) e in
    ap₂ (λ a b. a && b) (sym (code_order (bytes_eq p.0 (codes "cell_type")) (bytes_eq p.0 (codes "id")) (bytes_eq p.0 (codes "metadata")) (bytes_eq p.0 (codes "source")) (bytes_eq p.0 (codes "outputs")) (bytes_eq p.0 (codes "execution_count"))) ∙ h.0) (code_order_known ps h.1)

prose_order : (b0 b1 b2 b3 b4 : Bool) → (b0 || (b1 || (b2 || (b3 || (b4 || false))))) ≡ (b4 || (b0 || (b1 || (b2 || (b3 || false)))))
prose_order b0 b1 b2 b3 b4 = from_same (b0 || (b1 || (b2 || (b3 || (b4 || false))))) (b4 || (b0 || (b1 || (b2 || (b3 || false))))) (always 5 (λ b0 b1 b2 b3 b4. same (b0 || (b1 || (b2 || (b3 || (b4 || false))))) (b4 || (b0 || (b1 || (b2 || (b3 || false)))))) refl b0 b1 b2 b3 b4)

prose_order_known : (ps : List (List ℕ × Json)) → list_all (λ p. list_any (λ k. bytes_eq p.0 k) prose_cell_keys) ps ≡ true → list_all (λ p. list_any (λ k. bytes_eq p.0 k) (codes "attachments" ∷ codes "cell_type" ∷ codes "id" ∷ codes "metadata" ∷ codes "source" ∷ [])) ps ≡ true
prose_order_known [] e = refl
prose_order_known (p ∷ ps) e =
    let h = and_parts (list_any (λ k. bytes_eq p.0 k) prose_cell_keys) (list_all (λ q. list_any (λ k. bytes_eq q.0 k) prose_cell_keys) ps) e in
    ap₂ (λ a b. a && b) (sym (prose_order (bytes_eq p.0 (codes "cell_type")) (bytes_eq p.0 (codes "id")) (bytes_eq p.0 (codes "metadata")) (bytes_eq p.0 (codes "source")) (bytes_eq p.0 (codes "attachments"))) ∙ h.0) (prose_order_known ps h.1)

top_order : (b0 b1 b2 b3 : Bool) → (b0 || (b1 || (b2 || (b3 || false)))) ≡ (b3 || (b0 || (b1 || (b2 || false))))
top_order b0 b1 b2 b3 = from_same (b0 || (b1 || (b2 || (b3 || false)))) (b3 || (b0 || (b1 || (b2 || false)))) (always 4 (λ b0 b1 b2 b3. same (b0 || (b1 || (b2 || (b3 || false)))) (b3 || (b0 || (b1 || (b2 || false))))) refl b0 b1 b2 b3)

top_order_known : (ps : List (List ℕ × Json)) → list_all (λ p. list_any (λ k. bytes_eq p.0 k) notebook_keys) ps ≡ true → list_all (λ p. list_any (λ k. bytes_eq p.0 k) (codes "cells" ∷ codes "metadata" ∷ codes "nbformat" ∷ codes "nbformat_minor" ∷ [])) ps ≡ true
top_order_known [] e = refl
top_order_known (p ∷ ps) e =
    let h = and_parts (list_any (λ k. bytes_eq p.0 k) notebook_keys) (list_all (λ q. list_any (λ k. bytes_eq q.0 k) notebook_keys) ps) e in
    ap₂ (λ a b. a && b) (sym (top_order (bytes_eq p.0 (codes "metadata")) (bytes_eq p.0 (codes "nbformat")) (bytes_eq p.0 (codes "nbformat_minor")) (bytes_eq p.0 (codes "cells"))) ∙ h.0) (top_order_known ps h.1)

-- ---- the pairs of a cell

abbrev pub pairs_with : Kind → Cell → List (List ℕ × Json)
pairs_with k c = attachments_of_kind k c ++ (pairs_of_kind k c
    ++ ((codes "id", json.Str c.id) ∷ (codes "metadata", c.metadata) ∷ (outputs_of_kind k c ++ (codes "source", c.source) ∷ [])))

-- a value of an object that has its key
value_is : (key : List ℕ) (test : Json → Bool) (c : Json) → has key test c ≡ true → (field c key ≡ Some (value_at key c)) × (test (value_at key c) ≡ true)
value_is key test c e =
    elim (field c key) as (λ o. there_and test o ≡ true → (o ≡ Some (unwrap_or o json.Null)) × (test (unwrap_or o json.Null) ≡ true)) [ None ↦ λ h. cc | Some v ↦ λ h. (refl, h) ] e

id_is : (c : Json) → has (codes "id") valid.is_id c ≡ true → field c (codes "id") ≡ Some (json.Str (valid.id_of c))
id_is c e =
    let p = value_is (codes "id") valid.is_id c e in
    p.0 ∙ ap Some (exact_id (value_at (codes "id") c) p.1) ∙ ap (λ o. Some (json.Str (unwrap_or (option_and_then string o) []))) (sym p.0)

record IsCommon (c : Json) : Type 0 where
  id : field c (codes "id") ≡ Some (json.Str (valid.id_of c))
  metadata : field c (codes "metadata") ≡ Some (value_at (codes "metadata") c)
  source : field c (codes "source") ≡ Some (value_at (codes "source") c)

common_is : (c : Json) → valid.has_common c ≡ true → IsCommon c
common_is c e =
    let h = and_parts (has (codes "id") valid.is_id c && has (codes "metadata") valid.is_cell_metadata c) (has (codes "source") is_multiline c) e in
    let g = and_parts (has (codes "id") valid.is_id c) (has (codes "metadata") valid.is_cell_metadata c) h.0 in
    record { id = id_is c g.0; metadata = (value_is (codes "metadata") valid.is_cell_metadata c g.1).0; source = (value_is (codes "source") is_multiline c h.1).0 }

kind_of_text : (c : Json) (name : List ℕ) → field c (codes "cell_type") ≡ Some (json.Str name) → (cell_of c).kind ≡ kind_named name
kind_of_text c name e = ap (λ o. kind_named (unwrap_or (option_and_then string o) [])) e ∙ ap (λ o. kind_named (unwrap_or o [])) (string_of name)
  where
    string_of : (s : List ℕ) → string (json.Str s) ≡ Some s
    string_of s = ap string_layer (open_Str s)

-- a cell whose pairs are those of its parts
record IsCell (c : Json) : Type 0 where
  object : c ≡ json.Obj (fields c)
  order : Distinct (fields c) → by_key (pairs_with (cell_of c).kind (cell_of c)) ≡ by_key (fields c)

code_is : (c : Json) → is_object c ≡ true → valid.is_code_cell c ≡ true → IsCell c
code_is c o e =
    let K = has (codes "cell_type") (is_text (codes "code")) c in
    let N = list_all (λ p. list_any (λ key. bytes_eq p.0 key) code_cell_keys) (fields c) in
    let M = valid.has_common c in
    let U = has (codes "outputs") valid.are_outputs c in
    let h1 = and_parts (((K && N) && M) && U) (has (codes "execution_count") is_count c) e in
    let h2 = and_parts ((K && N) && M) U h1.0 in
    let h3 = and_parts (K && N) M h2.0 in
    let h4 = and_parts K N h3.0 in
    let t = value_is (codes "cell_type") (is_text (codes "code")) c h4.0 in
    let type : field c (codes "cell_type") ≡ Some (json.Str (codes "code")) = t.0 ∙ ap Some (exact_text (codes "code") (value_at (codes "cell_type") c) t.1) in
    let is = common_is c h3.1 in
    let n = value_is (codes "execution_count") is_count c h1.1 in
    let count : field c (codes "execution_count") ≡ Some (count_tree (cell_of c).count) =
    n.0 ∙ ap Some (count_is (value_at (codes "execution_count") c) n.1) ∙ ap (λ q. Some (count_tree (option_and_then number q))) (sym n.0) in
    let u = value_is (codes "outputs") valid.are_outputs c h2.1 in
    let outputs : field c (codes "outputs") ≡ Some (json.Arr (cell_of c).outputs) =
    u.0 ∙ ap Some (list_is (value_at (codes "outputs") c) (and_parts (is_list (value_at (codes "outputs") c)) _ u.1).0) in
    let found : chosen (codes "cell_type" ∷ codes "execution_count" ∷ codes "id" ∷ codes "metadata" ∷ codes "outputs" ∷ codes "source" ∷ []) (fields c) ≡ pairs_with kind.Code (cell_of c) = chosen-found (pairs_with kind.Code (cell_of c)) (fields c) (type, (count, (is.id, (is.metadata, (outputs, (is.source, tt)))))) in
    record {
      object = object_is c o;
      order = λ d. ap (λ k. by_key (pairs_with k (cell_of c))) (kind_of_text c (codes "code") type) ∙ ap by_key (sym found) ∙ by_key-again (codes "cell_type" ∷ codes "execution_count" ∷ codes "id" ∷ codes "metadata" ∷ codes "outputs" ∷ codes "source" ∷ []) (fields c) refl
          ∙ sym (by_key-chosen (codes "cell_type" ∷ codes "execution_count" ∷ codes "id" ∷ codes "metadata" ∷ codes "outputs" ∷ codes "source" ∷ []) (fields c) refl d (code_order_known (fields c) h4.1));
    }

prose_named : (c : Json) → is_object c ≡ true → (k : Kind) (name : List ℕ) → kind_named name ≡ k → chosen (codes "attachments" ∷ codes "cell_type" ∷ codes "id" ∷ codes "metadata" ∷ codes "source" ∷ []) (fields c) ≡ pairs_with k (cell_of c)
    → field c (codes "cell_type") ≡ Some (json.Str name) → list_all (λ p. list_any (λ key. bytes_eq p.0 key) prose_cell_keys) (fields c) ≡ true → IsCell c
prose_named c o k name named found type known =
    record {
      object = object_is c o;
      order = λ d. ap (λ q. by_key (pairs_with q (cell_of c))) (kind_of_text c name type ∙ named) ∙ ap by_key (sym found) ∙ by_key-again (codes "attachments" ∷ codes "cell_type" ∷ codes "id" ∷ codes "metadata" ∷ codes "source" ∷ []) (fields c) refl
          ∙ sym (by_key-chosen (codes "attachments" ∷ codes "cell_type" ∷ codes "id" ∷ codes "metadata" ∷ codes "source" ∷ []) (fields c) refl d (prose_order_known (fields c) known));
    }

prose_is : (c : Json) → is_object c ≡ true → valid.is_prose_cell c ≡ true → IsCell c
prose_is c o e =
    let K = has (codes "cell_type") (λ v. is_text (codes "raw") v || is_text (codes "markdown") v) c in
    let N = list_all (λ p. list_any (λ key. bytes_eq p.0 key) prose_cell_keys) (fields c) in
    let M = valid.has_common c in
    let h1 = and_parts ((K && N) && M) _ e in
    let h2 = and_parts (K && N) M h1.0 in
    let h3 = and_parts K N h2.0 in
    let t = value_is (codes "cell_type") (λ v. is_text (codes "raw") v || is_text (codes "markdown") v) c h3.0 in
    let v = value_at (codes "cell_type") c in
    let is = common_is c h2.1 in
    elim (cases_Bool (is_text (codes "raw") v)) [
      | inl r ↦
          let type : field c (codes "cell_type") ≡ Some (json.Str (codes "raw")) = t.0 ∙ ap Some (exact_text (codes "raw") v r) in
          prose_named c o kind.Raw (codes "raw") refl
          (ap (λ l. optional_pair (codes "attachments") (field c (codes "attachments")) ++ l)
          (chosen-found ((codes "cell_type", json.Str (codes "raw")) ∷ (codes "id", json.Str (valid.id_of c)) ∷ (codes "metadata", value_at (codes "metadata") c) ∷ (codes "source", value_at (codes "source") c) ∷ []) (fields c)
          (type, (is.id, (is.metadata, (is.source, tt)))))) type h3.1
      | inr nr ↦
          let type : field c (codes "cell_type") ≡ Some (json.Str (codes "markdown")) = t.0 ∙ ap Some (exact_text (codes "markdown") v (ap (λ b. b || is_text (codes "markdown") v) (sym nr) ∙ t.1)) in
          prose_named c o kind.Markdown (codes "markdown") refl
          (ap (λ l. optional_pair (codes "attachments") (field c (codes "attachments")) ++ l)
          (chosen-found ((codes "cell_type", json.Str (codes "markdown")) ∷ (codes "id", json.Str (valid.id_of c)) ∷ (codes "metadata", value_at (codes "metadata") c) ∷ (codes "source", value_at (codes "source") c) ∷ []) (fields c)
          (type, (is.id, (is.metadata, (is.source, tt)))))) type h3.1
    ]

cell_is : (c : Json) → valid.is_cell c ≡ true → IsCell c
cell_is c e =
    let h = and_parts (is_object c) (valid.is_prose_cell c || valid.is_code_cell c) e in
    elim (cases_Bool (valid.is_prose_cell c)) [
      | inl p ↦ prose_is c h.0 p
      | inr n ↦ code_is c h.0 (ap (λ b. b || valid.is_code_cell c) (sym n) ∙ h.1)
    ]

-- ---- what depends on a tree but for the order of keys

-- the pairs of a notebook
abbrev top_pairs : Json → Json → List (List ℕ × Json)
top_pairs cells metadata = (codes "cells", cells) ∷ (codes "metadata", metadata) ∷ (codes "nbformat", json.Num (codes "4")) ∷ (codes "nbformat_minor", json.Num (codes "5")) ∷ []

module _ {A : Type 0} (F : Json → A) (G : List (List ℕ × A) → A) (H : List A → A) (obj : (ps : List (List ℕ × Json)) → F (json.Obj ps) ≡ G (by_key (map (λ p. (p.0, F p.1)) ps)))
    (arr : (xs : List Json) → F (json.Arr xs) ≡ H (map F xs)) where
  abbrev with_F : List ℕ × Json → List ℕ × A
  with_F p = (p.0, F p.1)

  of_object : (ps : List (List ℕ × Json)) → F (json.Obj ps) ≡ G (map with_F (by_key ps))
  of_object ps = obj ps ∙ ap G (sort_by-map (λ p q. byte_order p.0 q.0) with_F ps)

  cell_same : (c : Json) → valid.is_cell c ≡ true → Keyed c → F (cell_tree (cell_of c)) ≡ F c
  cell_same c e k =
      let is = cell_is c e in
      of_object (pairs_with (cell_of c).kind (cell_of c)) ∙ ap (λ ps. G (map with_F ps)) (is.order (pairs_keyed c (fields c) k is.object).1) ∙ sym (of_object (fields c)) ∙ sym (ap F is.object)

  cells_same : (xs : List Json) → list_all valid.is_cell xs ≡ true → AllKeyed xs → map F (map cell_tree (map cell_of xs)) ≡ map F xs
  cells_same [] e k = refl
  cells_same (x ∷ xs) e k =
      let h = and_parts (valid.is_cell x) (list_all valid.is_cell xs) e in
      let g = first_keyed x xs k in
      ap₂ (λ y ys. y ∷ ys) (cell_same x h.0 g.0) (cells_same xs h.1 g.1)

  pub notebook_same : (t : Json) → valid.is_notebook t ≡ true → Keyed t → F (notebook_tree (notebook_of t)) ≡ F t
  notebook_same t e k =
      let O = is_object t in
      let N = list_all (λ p. list_any (λ key. bytes_eq p.0 key) notebook_keys) (fields t) in
      let V = has (codes "nbformat") (is_number (codes "4")) t in
      let W = has (codes "nbformat_minor") (is_number (codes "5")) t in
      let M = has (codes "metadata") valid.is_metadata t in
      let h1 = and_parts ((((O && N) && V) && W) && M) (has (codes "cells") valid.are_cells t) e in
      let h2 = and_parts (((O && N) && V) && W) M h1.0 in
      let h3 = and_parts ((O && N) && V) W h2.0 in
      let h4 = and_parts (O && N) V h3.0 in
      let h5 = and_parts O N h4.0 in
      let object = object_is t h5.0 in
      let pk = pairs_keyed t (fields t) k object in
      let c = value_is (codes "cells") valid.are_cells t h1.1 in
      let v = value_at (codes "cells") t in
      let shaped = and_parts (is_list v && list_all valid.is_cell (items v)) (valid.ids_differ (items v)) c.1 in
      let listed = and_parts (is_list v) (list_all valid.is_cell (items v)) shaped.0 in
      let list = list_is v listed.0 in
      let cells : field t (codes "cells") ≡ Some (json.Arr (items v)) = c.0 ∙ ap Some list in
      let m = value_is (codes "metadata") valid.is_metadata t h2.1 in
      let four = value_is (codes "nbformat") (is_number (codes "4")) t h4.1 in
      let five = value_is (codes "nbformat_minor") (is_number (codes "5")) t h3.1 in
      let four_is : field t (codes "nbformat") ≡ Some (json.Num (codes "4")) = four.0 ∙ ap Some (exact_number (codes "4") (value_at (codes "nbformat") t) four.1) in
      let five_is : field t (codes "nbformat_minor") ≡ Some (json.Num (codes "5")) = five.0 ∙ ap Some (exact_number (codes "5") (value_at (codes "nbformat_minor") t) five.1) in
      let ks = (codes "cells" ∷ codes "metadata" ∷ codes "nbformat" ∷ codes "nbformat_minor" ∷ []) in
      let pairs : chosen ks (fields t) ≡ top_pairs (json.Arr (items v)) (value_at (codes "metadata") t) =
      chosen-found (top_pairs (json.Arr (items v)) (value_at (codes "metadata") t)) (fields t) (cells, (m.0, (four_is, (five_is, tt)))) in
      let inner = found_keyed (codes "cells") (fields t) (json.Arr (items v)) pk.0 cells in
      let same_list : F (json.Arr (map cell_tree (map cell_of (items v)))) ≡ F (json.Arr (items v)) =
      arr (map cell_tree (map cell_of (items v))) ∙ ap H (cells_same (items v) listed.1 (items_keyed (json.Arr (items v)) (items v) inner refl)) ∙ sym (arr (items v)) in
      of_object (top_pairs (json.Arr (map cell_tree (map cell_of (items v)))) (value_at (codes "metadata") t))
      ∙ ap (λ x. G ((codes "cells", x) ∷ map with_F ((codes "metadata", value_at (codes "metadata") t) ∷ (codes "nbformat", json.Num (codes "4")) ∷ (codes "nbformat_minor", json.Num (codes "5")) ∷ []))) same_list
      ∙ ap (λ ps. G (map with_F ps)) (sym pairs ∙ sym (by_key-chosen ks (fields t) refl pk.1 (top_order_known (fields t) h5.1))) ∙ sym (of_object (fields t)) ∙ sym (ap F object)

-- ---- sorted trees and indented texts

pub sorted_same : (t : Json) → valid.is_notebook t ≡ true → Keyed t → sort_tree (notebook_tree (notebook_of t)) ≡ sort_tree t
sorted_same = notebook_same sort_tree json.Obj json.Arr sorted-Obj sorted-Arr

abbrev list_text : List (List ℕ → List ℕ) → List ℕ → List ℕ
list_text fs margin = bracket 91 93 margin (map (λ f. f (further margin)) fs)

abbrev object_text : List (List ℕ × (List ℕ → List ℕ)) → List ℕ → List ℕ
object_text ps margin = bracket 123 125 margin (map member (map (λ p. (p.0, p.1 (further margin))) ps))

indented-Arr : (xs : List Json) → indent (json.Arr xs) ≡ list_text (map indent xs)
indented-Arr xs = search (rules, the_lemmas)

indented-Obj : (ps : List (List ℕ × Json)) → indent (json.Obj ps) ≡ object_text (by_key (map (λ p. (p.0, indent p.1)) ps))
indented-Obj ps = search (rules, the_lemmas)

pub printed_same : (t : Json) → valid.is_notebook t ≡ true → Keyed t → print (notebook_tree (notebook_of t)) ≡ print t
printed_same t v k = ap (λ f. f [] ++ 10 ∷ []) (notebook_same indent object_text list_text indented-Obj indented-Arr t v k)
