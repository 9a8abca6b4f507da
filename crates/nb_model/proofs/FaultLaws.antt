-- A tree has a fault exactly where it is no notebook.
use Rattle.std.proofs.Common.{◌≡◌, ◌⊎◌, ℕ, ◌+◌, Bool, true, false, cond, not, ◌&&◌, ◌||◌, List, [], ◌∷◌, Option, Some, None, get_or, slice_get, refl, sym, ap, ap₂, ◌∙◌, inl, inr}
use Rattle.std.specs.Prelude.{is_some, is_none, option_map, option_and_then, unwrap_or, position, find, codes}
use Rattle.std.specs.Option.{option_or}
use Rattle.std.specs.List.{list_any, list_all, position_from}
use Rattle.std.specs.Str.{bytes_eq}
use Rattle.std.proofs.Math.Bool.{and_assoc}
use Rattle.std.proofs.lemmas.Bool.{cases_Bool, cond-true, cond-false, and_parts, not-true, not-false}
use Rattle.std.proofs.lemmas.List.Folds.{list_all_at}
use Rattle.std.proofs.lemmas.List.Quantifiers.{position-Some}
use Rattle.std.proofs.lemmas.Option.{slice_get-get_or}
use Rattle.std.proofs.lemmas.Iterator.Adapters.{position_from-zero}
use Rattle.std.proofs.lemmas.Slice.Eq.{bytes_eq-Decides}
use Rattle.jtext.specs.declared.json.Json.{Json}
use Rattle.jtext.specs.declared.json.Json.TheVariants as json
use Rattle.jtext.specs.Find.{field, fields}
use Rattle.jtext.specs.Look.{is_object, is_list, items, string, is_string, there_and, absent_or, is_strings}
use Rattle.nb_model.specs.declared.nb_fault.NbFault.TheVariants as fault
use Rattle.nb_model.specs.Keys.{is_text, is_number, has, may_have, has_only, has_version}
use Rattle.jtext.specs.Bundle.{is_multiline, is_bundle, is_json_type}
use Rattle.jtext.proofs.Edits.{not_first}
use Rattle.nb_model.specs.Schema.{notebook_keys, kernelspec_required, prose_cell_keys, code_cell_keys, stream_required, display_required, result_required, error_required, output_keys}
use Rattle.nb_model.specs.Values.{is_count}
use Rattle.nb_model.specs.Valid as valid
use Rattle.nb_model.specs.Reading.{value_at}
use Rattle.nb_model.specs.Pointer.{place_unless, under_key, under_item}
use Rattle.nb_model.specs.Places as place
use Rattle.nb_model.specs.Faults.{repeated_id, fault_within, fault_of}
use Rattle.nb_model.proofs.PreparedLaws.{and_eq, or_eq, is_prose_name}
use Rattle.nb_model.proofs.RegroupedTests.{two_keys, result_keys, error_keys, prose_keys, code_keys, top_level_keys, kernelspec_keys, one_key, version_first, one_more, one_taken}
use Rattle.nb_model.proofs.Tautologies.{always, same, from_same}

-- ---- parts of a place

none-or : {A : Type 0} (a b : Option A) → is_none (option_or a b) ≡ (is_none a && is_none b)
none-or None b = refl
none-or (Some x) b = refl

-- the place is none exactly so
record Tells {A : Type 0} (o : Option A) (b : Bool) : Type 0 where
  is : is_none o ≡ b

tells-or : {A : Type 0} {a b : Option A} {x y : Bool} → Tells a x → Tells b y → Tells (option_or a b) (x && y)
tells-or {A} {a} {b} p q = record { is = none-or a b ∙ and_eq p.is q.is }

none-map : {A B : Type 0} (f : A → B) (o : Option A) → is_none (option_map f o) ≡ is_none o
none-map f None = refl
none-map f (Some x) = refl

none-if : {A : Type 0} (b : Bool) (o : Option A) (x : A) → is_none (cond b o (Some x)) ≡ (b && is_none o)
none-if true o x = refl
none-if false o x = refl

none-unless : (b : Bool) → is_none (place_unless b) ≡ b
none-unless true = refl
none-unless false = refl

-- the first pair that fails is where the tests of all fail
none-pairs : {X A : Type 0} (test : X → Bool) (f : X → Option A) (ps : List X) → ((p : X) → test p ≡ false → is_none (f p) ≡ false)
    → is_none (option_and_then f (find (λ p. not (test p)) ps)) ≡ list_all test ps
none-pairs test f [] h = refl
none-pairs test f (p ∷ ps) h =
    elim (cases_Bool (test p)) [
      | inl t ↦
          ap (λ b. is_none (option_and_then f (cond (not b) (Some p) (find (λ q. not (test q)) ps)))) t ∙ none-pairs test f ps h ∙ ap (λ b. b && list_all test ps) (sym t)
      | inr e ↦
          ap (λ b. is_none (option_and_then f (cond (not b) (Some p) (find (λ q. not (test q)) ps)))) e ∙ h p e ∙ ap (λ b. b && list_all test ps) (sym e)
    ]

all_pass : (test : Json → Bool) (xs : List Json) (i : ℕ) → position_from (λ x. not (test x)) i xs ≡ None → list_all test xs ≡ true
all_pass test [] i e = refl
all_pass test (x ∷ xs) i e =
    let h = not_first (not (test x)) i (position_from (λ y. not (test y)) (i + 1) xs) e in
    and_eq (not-false (test x) h.0) (all_pass test xs (i + 1) h.1)

option_cases : {A : Type 0} (o : Option A) → (o ≡ None) ⊎ ((x : A) × (o ≡ Some x))
option_cases None = inl refl
option_cases (Some x) = inr (x, refl)

none-items : {A : Type 0} (test : Json → Bool) (f : ℕ → Option A) (xs : List Json) → ((i : ℕ) (x : Json) → slice_get xs i ≡ Some x → test x ≡ false → is_none (f i) ≡ false)
    → is_none (option_and_then f (position (λ x. not (test x)) xs)) ≡ list_all test xs
none-items test f xs h =
    elim (option_cases (position (λ x. not (test x)) xs)) [
      | inl e ↦ ap (λ o. is_none (option_and_then f o)) e ∙ sym (all_pass test xs 0 (sym (position_from-zero (λ x. not (test x)) xs) ∙ e))
      | inr p ↦
          let is = position-Some (λ x. not (test x)) xs p.0 json.Null p.1 in
          let fails = not-true (test (get_or xs p.0 json.Null)) is.1 in
          ap (λ o. is_none (option_and_then f o)) p.1 ∙ h p.0 (get_or xs p.0 json.Null) (slice_get-get_or xs p.0 json.Null is.0) fails ∙ sym (list_all_at test xs p.0 json.Null is.0 fails)
    ]

-- ---- keys

has-split : (key : List ℕ) (test : Json → Bool) (t : Json) → has key test t ≡ (is_some (field t key) && may_have key test t)
has-split key test t = elim (field t key) as (λ o. there_and test o ≡ (is_some o && absent_or test o)) [ None ↦ refl | Some v ↦ refl ]

none-value : (key : List ℕ) (test : Json → Bool) (t : Json) → is_none (place.of_value key test t) ≡ may_have key test t
none-value key test t = none-map _ (place_unless (may_have key test t)) ∙ none-unless (may_have key test t)

none-within : (key : List ℕ) (f : Json → Option (List ℕ)) (test : Json → Bool) (t : Json) → ((v : Json) → is_none (f v) ≡ test v) → is_none (place.within_value key f t) ≡ may_have key test t
none-within key f test t h =
    none-map _ (option_and_then f (field t key)) ∙ elim (field t key) as (λ o. is_none (option_and_then f o) ≡ absent_or test o) [ None ↦ refl | Some v ↦ h v ]

none-keys : (required known : List (List ℕ)) (t : Json) → is_none (place.of_keys required known t) ≡ (place.has_all required t && has_only known t)
none-keys required known t =
    none-or (place_unless (place.has_all required t)) _
    ∙ and_eq (none-unless (place.has_all required t)) (none-pairs (λ p. list_any (λ key. bytes_eq p.0 key) known) (λ p. under_key p.0 (Some [])) (fields t) (λ p e. refl))

value_tells : (key : List ℕ) (test : Json → Bool) (t : Json) → Tells (place.of_value key test t) (may_have key test t)
value_tells key test t = record { is = none-value key test t }

within_tells : (key : List ℕ) (f : Json → Option (List ℕ)) (test : Json → Bool) (t : Json) → ((v : Json) → is_none (f v) ≡ test v) → Tells (place.within_value key f t) (may_have key test t)
within_tells key f test t h = record { is = none-within key f test t h }

keys_tell : (required known : List (List ℕ)) (t : Json) → Tells (place.of_keys required known t) (place.has_all required t && has_only known t)
keys_tell required known t = record { is = none-keys required known t }

-- ---- values

strings-none : (v : Json) → is_none (place.of_strings v) ≡ is_strings v
strings-none v =
    none-if (is_list v) _ [] ∙ ap (λ b. is_list v && b) (none-items is_string (λ i. under_item i (Some [])) (items v) (λ i x at e. refl))

multiline-none : (v : Json) → is_none (place.of_multiline v) ≡ is_multiline v
multiline-none v = elim (is_string v) as (λ b. is_none (cond b None (place.of_strings v)) ≡ (b || is_strings v)) [ true ↦ refl | false ↦ strings-none v ]

bundle-none : (v : Json) → is_none (place.of_bundle v) ≡ is_bundle v
bundle-none v =
    none-if (is_object v) _ []
    ∙ ap (λ b. is_object v && b) (none-pairs (λ p. is_json_type p.0 || is_multiline p.1) (λ p. under_key p.0 (place.of_multiline p.1)) (fields v)
    (λ p e. none-map _ (place.of_multiline p.1) ∙ multiline-none p.1 ∙ second (is_json_type p.0) (is_multiline p.1) e))
  where
    second : (a b : Bool) → (a || b) ≡ false → b ≡ false
    second true b e = absurd (never e)
      where
        never : true ≡ false → ⊥
        never h = cc
    second false b e = e

attachments-none : (v : Json) → is_none (place.of_attachments v) ≡ valid.are_attachments v
attachments-none v =
    none-if (is_object v) _ []
    ∙ ap (λ b. is_object v && b) (none-pairs (λ p. is_bundle p.1) (λ p. under_key p.0 (place.of_bundle p.1)) (fields v)
    (λ p e. none-map _ (place.of_bundle p.1) ∙ bundle-none p.1 ∙ e))

-- ---- outputs

-- a text is no other
one_text : (key a b : List ℕ) (o : Json) → bytes_eq a b ≡ false → has key (is_text a) o ≡ true → has key (is_text b) o ≡ false
one_text key a b o ne =
    elim (field o key) as (λ f. there_and (is_text a) f ≡ true → there_and (is_text b) f ≡ false) [ None ↦ λ e. refl | Some v ↦ inner v ]
  where
    inner : (v : Json) → is_text a v ≡ true → is_text b v ≡ false
    inner v = elim (string v) as (λ f. there_and (λ s. bytes_eq s a) f ≡ true → there_and (λ s. bytes_eq s b) f ≡ false)
        [ None ↦ λ e. refl | Some s ↦ λ e. ap (λ x. bytes_eq x b) ((bytes_eq-Decides s a).0 e) ∙ ne ]

stream-none : (o : Json) → has (codes "output_type") (is_text (codes "stream")) o ≡ true → is_none (place.of_stream o) ≡ valid.is_stream o
stream-none o s =
    (tells-or (keys_tell stream_required (output_keys stream_required) o) (tells-or (value_tells (codes "name") is_string o) (within_tells (codes "text") place.of_multiline is_multiline o multiline-none))).is
    ∙ two_keys (is_some (field o (codes "name"))) (is_some (field o (codes "text"))) (has_only (output_keys stream_required) o) (may_have (codes "name") is_string o) (may_have (codes "text") is_multiline o)
    ∙ sym (and_eq (and_eq (and_eq s refl) (has-split (codes "name") is_string o)) (has-split (codes "text") is_multiline o))

data-none : (o : Json) → is_none (place.of_data o) ≡ (may_have (codes "data") is_bundle o && may_have (codes "metadata") is_object o)
data-none o = (tells-or (within_tells (codes "data") place.of_bundle is_bundle o bundle-none) (value_tells (codes "metadata") is_object o)).is

data_tells : (o : Json) → Tells (place.of_data o) (may_have (codes "data") is_bundle o && may_have (codes "metadata") is_object o)
data_tells o = record { is = data-none o }

display-none : (o : Json) → has (codes "output_type") (is_text (codes "display_data")) o ≡ true → is_none (place.of_display o) ≡ valid.is_display o
display-none o s =
    (tells-or (keys_tell display_required (output_keys display_required) o) (data_tells o)).is
    ∙ two_keys (is_some (field o (codes "data"))) (is_some (field o (codes "metadata"))) (has_only (output_keys display_required) o) (may_have (codes "data") is_bundle o) (may_have (codes "metadata") is_object o)
    ∙ sym (and_eq (and_eq (and_eq s refl) (has-split (codes "data") is_bundle o)) (has-split (codes "metadata") is_object o))

result-none : (o : Json) → has (codes "output_type") (is_text (codes "execute_result")) o ≡ true → is_none (place.of_result o) ≡ valid.is_result o
result-none o s =
    (tells-or (keys_tell result_required (output_keys result_required) o) (tells-or (data_tells o) (value_tells (codes "execution_count") is_count o))).is
    ∙ result_keys (is_some (field o (codes "data"))) (is_some (field o (codes "metadata"))) (is_some (field o (codes "execution_count"))) (has_only (output_keys result_required) o) (may_have (codes "data") is_bundle o) (may_have (codes "metadata") is_object o) (may_have (codes "execution_count") is_count o)
    ∙ sym (and_eq (and_eq (and_eq (and_eq s refl) (has-split (codes "data") is_bundle o)) (has-split (codes "metadata") is_object o)) (has-split (codes "execution_count") is_count o))

error-none : (o : Json) → has (codes "output_type") (is_text (codes "error")) o ≡ true → is_none (place.of_error o) ≡ valid.is_error o
error-none o s =
    (tells-or (keys_tell error_required (output_keys error_required) o) (tells-or (value_tells (codes "ename") is_string o) (tells-or (value_tells (codes "evalue") is_string o) (within_tells (codes "traceback") place.of_strings is_strings o strings-none)))).is
    ∙ error_keys (is_some (field o (codes "ename"))) (is_some (field o (codes "evalue"))) (is_some (field o (codes "traceback"))) (has_only (output_keys error_required) o) (may_have (codes "ename") is_string o) (may_have (codes "evalue") is_string o) (may_have (codes "traceback") is_strings o)
    ∙ sym (and_eq (and_eq (and_eq (and_eq s refl) (has-split (codes "ename") is_string o)) (has-split (codes "evalue") is_string o)) (has-split (codes "traceback") is_strings o))

-- the flag of a kind that it isn't
four_none : (o : Json) → has (codes "output_type") (is_text (codes "stream")) o ≡ false → has (codes "output_type") (is_text (codes "display_data")) o ≡ false
    → has (codes "output_type") (is_text (codes "execute_result")) o ≡ false → (valid.is_stream o || valid.is_display o || valid.is_result o || valid.is_error o) ≡ valid.is_error o
four_none o s d r =
    or_eq {y = valid.is_error o} (or_eq {x = false} {y = false} (or_eq {x = false} {y = false} (and_eq (and_eq (and_eq s refl) refl) refl) (and_eq (and_eq (and_eq d refl) refl) refl))
    (and_eq (and_eq (and_eq (and_eq r refl) refl) refl) refl)) refl

last_false : (o : Json) → has (codes "output_type") (is_text (codes "error")) o ≡ false → valid.is_error o ≡ false
last_false o e = and_eq (and_eq (and_eq (and_eq e refl) refl) refl) refl

display_false : (o : Json) → has (codes "output_type") (is_text (codes "display_data")) o ≡ false → valid.is_display o ≡ false
display_false o e = and_eq (and_eq (and_eq e refl) refl) refl

stream_false : (o : Json) → has (codes "output_type") (is_text (codes "stream")) o ≡ false → valid.is_stream o ≡ false
stream_false o e = and_eq (and_eq (and_eq e refl) refl) refl

result_false : (o : Json) → has (codes "output_type") (is_text (codes "execute_result")) o ≡ false → valid.is_result o ≡ false
result_false o e = and_eq (and_eq (and_eq (and_eq e refl) refl) refl) refl

only_first : (s d r e : Bool) → d ≡ false → r ≡ false → e ≡ false → s ≡ (s || d || r || e)
only_first s d r e p q w = from_same s (s || false || false || false) (always 1 (λ a. same a (a || false || false || false)) refl s) ∙ sym (or_eq (or_eq (or_eq refl p) q) w)

only_second : (s d r e : Bool) → s ≡ false → r ≡ false → e ≡ false → d ≡ (s || d || r || e)
only_second s d r e p q w = from_same d (false || d || false || false) (always 1 (λ a. same a (false || a || false || false)) refl d) ∙ sym (or_eq (or_eq (or_eq p refl) q) w)

only_third : (s d r e : Bool) → s ≡ false → d ≡ false → e ≡ false → r ≡ (s || d || r || e)
only_third s d r e p q w = from_same r (false || false || r || false) (always 1 (λ a. same a (false || false || a || false)) refl r) ∙ sym (or_eq (or_eq (or_eq p q) refl) w)

no_type : (o : Json) → is_none (cond (is_none (field o (codes "output_type"))) (Some []) (under_key (codes "output_type") (Some []))) ≡ false
no_type o = elim (is_none (field o (codes "output_type"))) as (λ b. is_none (cond b (Some []) (under_key (codes "output_type") (Some []))) ≡ false) [ true ↦ refl | false ↦ refl ]

by_type-none : (o : Json) → is_none (place.by_type o) ≡ (valid.is_stream o || valid.is_display o || valid.is_result o || valid.is_error o)
by_type-none o =
    let key = codes "output_type" in
    let T = λ (name : List ℕ). has (codes "output_type") (is_text name) o in
    let other = λ (a b : List ℕ). one_text (codes "output_type") a b o in
    elim (cases_Bool (T (codes "stream"))) [
      | inl s ↦ ap is_none (cond-true (T (codes "stream")) _ _ s) ∙ stream-none o s
          ∙ only_first (valid.is_stream o) (valid.is_display o) (valid.is_result o) (valid.is_error o) (display_false o (other (codes "stream") (codes "display_data") refl s)) (result_false o (other (codes "stream") (codes "execute_result") refl s)) (last_false o (other (codes "stream") (codes "error") refl s))
      | inr ns ↦ ap is_none (cond-false (T (codes "stream")) _ _ ns) ∙ elim (cases_Bool (T (codes "display_data"))) [
        | inl d ↦ ap is_none (cond-true (T (codes "display_data")) _ _ d) ∙ display-none o d
            ∙ only_second (valid.is_stream o) (valid.is_display o) (valid.is_result o) (valid.is_error o) (stream_false o ns) (result_false o (other (codes "display_data") (codes "execute_result") refl d)) (last_false o (other (codes "display_data") (codes "error") refl d))
        | inr nd ↦ ap is_none (cond-false (T (codes "display_data")) _ _ nd) ∙ elim (cases_Bool (T (codes "execute_result"))) [
          | inl r ↦ ap is_none (cond-true (T (codes "execute_result")) _ _ r) ∙ result-none o r
              ∙ only_third (valid.is_stream o) (valid.is_display o) (valid.is_result o) (valid.is_error o) (stream_false o ns) (display_false o nd) (last_false o (other (codes "execute_result") (codes "error") refl r))
          | inr nr ↦ ap is_none (cond-false (T (codes "execute_result")) _ _ nr) ∙ elim (cases_Bool (T (codes "error"))) [
            | inl e ↦ ap is_none (cond-true (T (codes "error")) _ _ e) ∙ error-none o e ∙ sym (four_none o ns nd nr)
            | inr ne ↦ ap is_none (cond-false (T (codes "error")) _ _ ne) ∙ no_type o ∙ sym (four_none o ns nd nr ∙ last_false o ne)
          ]
        ]
      ]
    ]

output-none : (o : Json) → is_none (place.of_output o) ≡ valid.is_output o
output-none o = none-if (is_object o) (place.by_type o) [] ∙ ap (λ b. is_object o && b) (by_type-none o)

at_item : (f : Json → Option (List ℕ)) (test : Json → Bool) (xs : List Json) → ((v : Json) → is_none (f v) ≡ test v)
    → is_none (place.within_items test f xs) ≡ list_all test xs
at_item f test xs h =
    none-items test (λ i. under_item i (option_and_then f (slice_get xs i))) xs
    (λ i x at fails. none-map _ (option_and_then f (slice_get xs i)) ∙ ap (λ o. is_none (option_and_then f o)) at ∙ h x ∙ fails)

outputs-none : (v : Json) → is_none (place.of_outputs v) ≡ valid.are_outputs v
outputs-none v = none-if (is_list v) _ [] ∙ ap (λ b. is_list v && b) (at_item place.of_output valid.is_output (items v) output-none)

-- ---- cells

cell_metadata-none : (v : Json) → is_none (place.of_cell_metadata v) ≡ valid.is_cell_metadata v
cell_metadata-none v = none-if (is_object v) _ [] ∙ ap (λ b. is_object v && b) (none-within (codes "tags") place.of_strings is_strings v strings-none)

common-none : (c : Json) → is_none (place.of_common c) ≡ (may_have (codes "id") valid.is_id c && (may_have (codes "metadata") valid.is_cell_metadata c && may_have (codes "source") is_multiline c))
common-none c =
    (tells-or (value_tells (codes "id") valid.is_id c)
    (tells-or (within_tells (codes "metadata") place.of_cell_metadata valid.is_cell_metadata c cell_metadata-none) (within_tells (codes "source") place.of_multiline is_multiline c multiline-none))).is

common-split : (c : Json) → valid.has_common c
    ≡ ((is_some (field c (codes "id")) && may_have (codes "id") valid.is_id c) && (is_some (field c (codes "metadata")) && may_have (codes "metadata") valid.is_cell_metadata c)
    && (is_some (field c (codes "source")) && may_have (codes "source") is_multiline c))
common-split c = and_eq (and_eq (has-split (codes "id") valid.is_id c) (has-split (codes "metadata") valid.is_cell_metadata c)) (has-split (codes "source") is_multiline c)

there : (key : List ℕ) (test : Json → Bool) (t : Json) → has key test t ≡ true → is_some (field t key) ≡ true
there key test t = elim (field t key) as (λ o. there_and test o ≡ true → is_some o ≡ true) [ None ↦ λ e. e | Some v ↦ λ e. refl ]

common_tells : (c : Json) → Tells (place.of_common c) (may_have (codes "id") valid.is_id c && (may_have (codes "metadata") valid.is_cell_metadata c && may_have (codes "source") is_multiline c))
common_tells c = record { is = common-none c }

-- the keys of a cell that has its kind
keys_there : (required known : List (List ℕ)) (c : Json) → is_some (field c (codes "cell_type")) ≡ true
    → Tells (place.of_keys (codes "cell_type" ∷ required) known c) ((true && place.has_all required c) && has_only known c)
keys_there required known c e = record { is = none-keys (codes "cell_type" ∷ required) known c ∙ ap (λ b. (b && place.has_all required c) && has_only known c) e }

prose-none : (c : Json) → has (codes "cell_type") is_prose_name c ≡ true → is_none (place.of_prose_cell c) ≡ valid.is_prose_cell c
prose-none c s =
    (tells-or (keys_there (codes "id" ∷ codes "metadata" ∷ codes "source" ∷ []) prose_cell_keys c (there (codes "cell_type") is_prose_name c s)) (tells-or (common_tells c) (within_tells (codes "attachments") place.of_attachments valid.are_attachments c attachments-none))).is
    ∙ prose_keys (is_some (field c (codes "id"))) (is_some (field c (codes "metadata"))) (is_some (field c (codes "source"))) (has_only prose_cell_keys c) (may_have (codes "id") valid.is_id c) (may_have (codes "metadata") valid.is_cell_metadata c) (may_have (codes "source") is_multiline c) (may_have (codes "attachments") valid.are_attachments c)
    ∙ sym (and_eq (and_eq (and_eq s refl) (common-split c)) refl)

code-none : (c : Json) → has (codes "cell_type") (is_text (codes "code")) c ≡ true → is_none (place.of_code_cell c) ≡ valid.is_code_cell c
code-none c s =
    (tells-or (keys_there (codes "id" ∷ codes "metadata" ∷ codes "source" ∷ codes "outputs" ∷ codes "execution_count" ∷ []) code_cell_keys c (there (codes "cell_type") (is_text (codes "code")) c s))
    (tells-or (common_tells c) (tells-or (value_tells (codes "execution_count") is_count c) (within_tells (codes "outputs") place.of_outputs valid.are_outputs c outputs-none)))).is
    ∙ code_keys (is_some (field c (codes "id"))) (is_some (field c (codes "metadata"))) (is_some (field c (codes "source"))) (is_some (field c (codes "outputs"))) (is_some (field c (codes "execution_count"))) (has_only code_cell_keys c) (may_have (codes "id") valid.is_id c) (may_have (codes "metadata") valid.is_cell_metadata c) (may_have (codes "source") is_multiline c) (may_have (codes "outputs") valid.are_outputs c) (may_have (codes "execution_count") is_count c)
    ∙ sym (and_eq (and_eq (and_eq (and_eq s refl) (common-split c)) (has-split (codes "outputs") valid.are_outputs c)) (has-split (codes "execution_count") is_count c))

prose_false : (c : Json) → has (codes "cell_type") is_prose_name c ≡ false → valid.is_prose_cell c ≡ false
prose_false c e = and_eq (and_eq (and_eq e refl) refl) refl

code_false : (c : Json) → has (codes "cell_type") (is_text (codes "code")) c ≡ false → valid.is_code_cell c ≡ false
code_false c e = and_eq (and_eq (and_eq (and_eq e refl) refl) refl) refl

prose_no_code : (c : Json) → has (codes "cell_type") is_prose_name c ≡ true → has (codes "cell_type") (is_text (codes "code")) c ≡ false
prose_no_code c =
    elim (field c (codes "cell_type")) as (λ o. there_and is_prose_name o ≡ true → there_and (is_text (codes "code")) o ≡ false) [ None ↦ λ e. refl | Some v ↦ inner v ]
  where
    inner : (v : Json) → is_prose_name v ≡ true → is_text (codes "code") v ≡ false
    inner v = elim (string v) as (λ f. (there_and (λ s. bytes_eq s (codes "raw")) f || there_and (λ s. bytes_eq s (codes "markdown")) f) ≡ true → there_and (λ s. bytes_eq s (codes "code")) f ≡ false)
        [ None ↦ λ e. refl | Some s ↦ text s ]
      where
        text : (s : List ℕ) → (bytes_eq s (codes "raw") || bytes_eq s (codes "markdown")) ≡ true → bytes_eq s (codes "code") ≡ false
        text s e = elim (cases_Bool (bytes_eq s (codes "raw"))) [
          | inl r ↦ ap (λ x. bytes_eq x (codes "code")) ((bytes_eq-Decides s (codes "raw")).0 r)
          | inr nr ↦ ap (λ x. bytes_eq x (codes "code")) ((bytes_eq-Decides s (codes "markdown")).0 (ap (λ b. b || bytes_eq s (codes "markdown")) (sym nr) ∙ e))
        ]

no_kind : (c : Json) → is_none (cond (is_none (field c (codes "cell_type"))) (Some []) (under_key (codes "cell_type") (Some []))) ≡ false
no_kind c = elim (is_none (field c (codes "cell_type"))) as (λ b. is_none (cond b (Some []) (under_key (codes "cell_type") (Some []))) ≡ false) [ true ↦ refl | false ↦ refl ]

by_kind-none : (c : Json) → is_none (place.by_kind c) ≡ (valid.is_prose_cell c || valid.is_code_cell c)
by_kind-none c =
    let P = has (codes "cell_type") is_prose_name c in
    let C = has (codes "cell_type") (is_text (codes "code")) c in
    elim (cases_Bool P) [
      | inl s ↦ ap is_none (cond-true P _ _ s) ∙ prose-none c s ∙ from_same (valid.is_prose_cell c) (valid.is_prose_cell c || false) (always 1 (λ a. same a (a || false)) refl (valid.is_prose_cell c)) ∙ sym (or_eq refl (code_false c (prose_no_code c s)))
      | inr ns ↦ ap is_none (cond-false P _ _ ns) ∙ elim (cases_Bool C) [
        | inl d ↦ ap is_none (cond-true C _ _ d) ∙ code-none c d ∙ sym (ap (λ b. b || valid.is_code_cell c) (prose_false c ns))
        | inr nd ↦ ap is_none (cond-false C _ _ nd) ∙ no_kind c ∙ sym (or_eq (prose_false c ns) (code_false c nd))
      ]
    ]

cell-none : (c : Json) → is_none (place.of_cell c) ≡ valid.is_cell c
cell-none c = none-if (is_object c) (place.by_kind c) [] ∙ ap (λ b. is_object c && b) (by_kind-none c)

abbrev are_shaped : Json → Bool
are_shaped v = is_list v && list_all valid.is_cell (items v)

cells-none : (v : Json) → is_none (place.of_cells v) ≡ are_shaped v
cells-none v = none-if (is_list v) _ [] ∙ ap (λ b. is_list v && b) (at_item place.of_cell valid.is_cell (items v) cell-none)

-- ---- the notebook

unless_tells : (b : Bool) → Tells (place_unless b) b
unless_tells b = record { is = none-unless b }

kernelspec-none : (v : Json) → is_none (place.of_kernelspec v) ≡ valid.is_kernelspec v
kernelspec-none v =
    none-if (is_object v) _ []
    ∙ ap (λ b. is_object v && b) (tells-or (unless_tells (place.has_all kernelspec_required v)) (tells-or (value_tells (codes "name") is_string v) (value_tells (codes "display_name") is_string v))).is
    ∙ kernelspec_keys (is_object v) (is_some (field v (codes "name"))) (is_some (field v (codes "display_name"))) (may_have (codes "name") is_string v) (may_have (codes "display_name") is_string v)
    ∙ sym (and_eq (and_eq {x = is_object v} refl (has-split (codes "name") is_string v)) (has-split (codes "display_name") is_string v))

language_info-none : (v : Json) → is_none (place.of_language_info v) ≡ valid.is_language_info v
language_info-none v =
    none-if (is_object v) _ []
    ∙ ap (λ b. is_object v && b) (tells-or (unless_tells (place.has_all (codes "name" ∷ []) v)) (value_tells (codes "name") is_string v)).is
    ∙ one_key (is_object v) (is_some (field v (codes "name"))) (may_have (codes "name") is_string v)
    ∙ sym (and_eq {x = is_object v} refl (has-split (codes "name") is_string v))

metadata-none : (v : Json) → is_none (place.of_metadata v) ≡ valid.is_metadata v
metadata-none v =
    none-if (is_object v) _ []
    ∙ ap (λ b. is_object v && b) (tells-or (within_tells (codes "kernelspec") place.of_kernelspec valid.is_kernelspec v kernelspec-none) (within_tells (codes "language_info") place.of_language_info valid.is_language_info v language_info-none)).is
    ∙ sym (and_assoc (is_object v) (may_have (codes "kernelspec") valid.is_kernelspec v) (may_have (codes "language_info") valid.is_language_info v))

-- ---- ids

-- none of the cells has one of these ids
abbrev others : List (List ℕ) → List Json → Bool
others earlier cs = list_all (λ c. not (list_any (λ e. bytes_eq e (valid.id_of c)) earlier)) cs

others-more : (i : List ℕ) (earlier : List (List ℕ)) (cs : List Json) → others (i ∷ earlier) cs ≡ (others earlier cs && not (list_any (λ d. bytes_eq i (valid.id_of d)) cs))
others-more i earlier [] = refl
others-more i earlier (c ∷ cs) =
    ap (λ b. not (bytes_eq i (valid.id_of c) || list_any (λ e. bytes_eq e (valid.id_of c)) earlier) && b) (others-more i earlier cs)
    ∙ one_more (bytes_eq i (valid.id_of c)) (list_any (λ e. bytes_eq e (valid.id_of c)) earlier) (others earlier cs) (list_any (λ d. bytes_eq i (valid.id_of d)) cs)

repeated-none : (earlier : List (List ℕ)) (cs : List Json) → is_none (repeated_id earlier cs) ≡ (others earlier cs && valid.ids_differ cs)
repeated-none earlier [] = refl
repeated-none earlier (c ∷ cs) =
    let seen = list_any (λ e. bytes_eq e (valid.id_of c)) earlier in
    let next = repeated_id (valid.id_of c ∷ earlier) cs in
    elim (cases_Bool seen) [
      | inl t ↦ ap is_none (cond-true seen (Some (valid.id_of c)) next t) ∙ sym (ap (λ b. (not b && others earlier cs) && valid.ids_differ (c ∷ cs)) t)
      | inr f ↦
          ap is_none (cond-false seen (Some (valid.id_of c)) next f) ∙ repeated-none (valid.id_of c ∷ earlier) cs ∙ ap (λ b. b && valid.ids_differ cs) (others-more (valid.id_of c) earlier cs)
          ∙ one_taken (others earlier cs) (list_any (λ d. bytes_eq (valid.id_of c) (valid.id_of d)) cs) (valid.ids_differ cs)
          ∙ sym (ap (λ b. (not b && others earlier cs) && valid.ids_differ (c ∷ cs)) f)
    ]

ids-none : (cs : List Json) → is_none (repeated_id [] cs) ≡ valid.ids_differ cs
ids-none cs = repeated-none [] cs ∙ ap (λ b. b && valid.ids_differ cs) (free cs)
  where
    free : (xs : List Json) → others [] xs ≡ true
    free [] = refl
    free (x ∷ xs) = free xs

cells-split : (t : Json)
    → has (codes "cells") valid.are_cells t ≡ (is_some (field t (codes "cells")) && (may_have (codes "cells") are_shaped t && valid.ids_differ (items (value_at (codes "cells") t))))
cells-split t =
    elim (field t (codes "cells")) as (λ o. there_and valid.are_cells o ≡ (is_some o && (absent_or are_shaped o && valid.ids_differ (items (unwrap_or o json.Null)))))
    [ None ↦ refl | Some v ↦ refl ]

top_keys : (t : Json) → is_some (field t (codes "nbformat")) ≡ true → is_some (field t (codes "nbformat_minor")) ≡ true
    → Tells (place.of_keys notebook_keys notebook_keys t) ((is_some (field t (codes "metadata")) && (true && (true && (is_some (field t (codes "cells")) && true)))) && has_only notebook_keys t)
top_keys t a b =
    record { is = none-keys notebook_keys notebook_keys t ∙ ap₂ (λ x y. (is_some (field t (codes "metadata")) && (x && (y && (is_some (field t (codes "cells")) && true)))) && has_only notebook_keys t) a b }

notebook_tells : (t : Json) → is_some (field t (codes "nbformat")) ≡ true → is_some (field t (codes "nbformat_minor")) ≡ true
    → Tells (option_map (λ p. fault.Shape p) (place.of_notebook t)) (((is_some (field t (codes "metadata")) && (true && (true && (is_some (field t (codes "cells")) && true)))) && has_only notebook_keys t)
    && (may_have (codes "metadata") valid.is_metadata t && may_have (codes "cells") are_shaped t))
notebook_tells t a b =
    record {
      is = none-map (λ p. fault.Shape p) (place.of_notebook t)
          ∙ (tells-or (top_keys t a b) (tells-or (within_tells (codes "metadata") place.of_metadata valid.is_metadata t metadata-none) (within_tells (codes "cells") place.of_cells are_shaped t cells-none))).is;
    }

ids_tell : (t : Json) → Tells (option_map (λ id. fault.SameId id) (repeated_id [] (items (value_at (codes "cells") t)))) (valid.ids_differ (items (value_at (codes "cells") t)))
ids_tell t =
    record { is = none-map (λ id. fault.SameId id) (repeated_id [] (items (value_at (codes "cells") t))) ∙ ids-none (items (value_at (codes "cells") t)) }

within-none : (t : Json) → is_object t ≡ true → has_version t ≡ true → is_none (fault_within t) ≡ valid.is_notebook t
within-none t o v =
    let h = and_parts (has (codes "nbformat") (is_number (codes "4")) t) (has (codes "nbformat_minor") (is_number (codes "5")) t) v in
    (tells-or (notebook_tells t (there (codes "nbformat") (is_number (codes "4")) t h.0) (there (codes "nbformat_minor") (is_number (codes "5")) t h.1)) (ids_tell t)).is
    ∙ top_level_keys (is_some (field t (codes "metadata"))) (is_some (field t (codes "cells"))) (has_only notebook_keys t) (may_have (codes "metadata") valid.is_metadata t) (may_have (codes "cells") are_shaped t) (valid.ids_differ (items (value_at (codes "cells") t)))
    ∙ sym (and_eq (and_eq (and_eq (and_eq (and_eq o refl) h.0) h.1) (has-split (codes "metadata") valid.is_metadata t)) (cells-split t))

no_object : (t : Json) → is_object t ≡ false → valid.is_notebook t ≡ false
no_object t e = and_eq (and_eq (and_eq (and_eq (and_eq e refl) refl) refl) refl) refl

no_version : (t : Json) → has_version t ≡ false → valid.is_notebook t ≡ false
no_version t e =
    version_first (is_object t) (has_only notebook_keys t) (has (codes "nbformat") (is_number (codes "4")) t) (has (codes "nbformat_minor") (is_number (codes "5")) t) (has (codes "metadata") valid.is_metadata t) (has (codes "cells") valid.are_cells t)
    ∙ ap (λ b. b && (((is_object t && (has_only notebook_keys t)) && has (codes "metadata") valid.is_metadata t) && has (codes "cells") valid.are_cells t)) e

-- a tree has no fault where it is a notebook, and one where it isn't
pub fault-none : (t : Json) → is_none (fault_of t) ≡ valid.is_notebook t
fault-none t =
    elim (cases_Bool (is_object t)) [
      | inr n ↦ ap is_none (cond-false (is_object t) _ _ n) ∙ sym (no_object t n)
      | inl o ↦ ap is_none (cond-true (is_object t) _ _ o) ∙ elim (cases_Bool (has_version t)) [
        | inl v ↦ ap is_none (cond-true (has_version t) _ _ v) ∙ within-none t o v
        | inr nv ↦ ap is_none (cond-false (has_version t) _ _ nv) ∙ sym (no_version t nv)
      ]
    ]

pub valid_of : (t : Json) → fault_of t ≡ None → valid.is_notebook t ≡ true
valid_of t e = sym (fault-none t) ∙ ap is_none e
