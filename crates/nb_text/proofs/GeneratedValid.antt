-- A generated notebook is valid, and none of its objects has a key twice.
use Rattle.std.proofs.Common.{◌≡◌, ℕ, zero, suc, ◌+◌, ◌<◌, ◌≤◌, ◌^◌, true, false, ◌||◌, not, List, [], ◌∷◌, ◌++◌, length, map, drop, refl, sym, ap, ap₂, ◌∙◌, arith, codes, rules}
use Rattle.std.proofs.lemmas.Bool.{le-leb}
use Rattle.std.proofs.lemmas.Fmt.{decimal_is_IsNumeral_wide, length-decimal-le_wide}
use Rattle.std.proofs.lemmas.List.{length-append}
use Rattle.std.specs.Fmt.{decimal}
use Rattle.std.specs.List.{AllByRecursion, list_any, list_all}
use Rattle.std.specs.Str.{bytes_eq}
use Rattle.std.specs.Str.Parse.{digits_value}
use Rattle.jtext.specs.declared.json.Json.{the_lemmas}
use Rattle.jtext.specs.declared.json.Json.TheVariants as json
use Rattle.jtext.specs.Depth.{depth}
use Rattle.jtext.specs.Keyed as keyed
use Rattle.jtext.specs.Keyed.{Keyed}
use Rattle.jtext.proofs.Equals.{other_bytes}
use Rattle.nb_model.specs.declared.kind.Kind.TheVariants as kind
use Rattle.nb_model.specs.Tree.{cell_tree, notebook_tree}
use Rattle.nb_model.specs.Valid.{is_metadata, is_cell_metadata, Valid}
use Rattle.nb_model.specs.Values.{is_id_text}
use Rattle.nb_model.proofs.CellValues.{all-map, top_pairs}
use Rattle.nb_model.proofs.DepthLaws.{string_within, items_within, object_within, null_within, within_list}
use Rattle.nb_model.proofs.KeyedLemmas.{pairs_of, distinct_from, cell_keyed, string_list_keyed, notebook_keyed}
use Rattle.nb_model.proofs.PreparedLaws.{and_eq, cell_fits, no_repeat, notebook_tree-fits}
use Rattle.nb_model.proofs.Multilines.{strings_multiline}
use Rattle.nb_model.proofs.TreeLaws.{pairs_with}
use Rattle.nb_model.proofs.IdTexts.{decimal_in_id}
use Rattle.nb_text.specs.Generated.{generated_cell, cells_from, kernelspec, kernel, verb, generated_notebook}

-- ---- ids

abbrev id : ℕ → List ℕ
id n = codes "g" ++ decimal n

id_injective : (m n : ℕ) → m < 10 ^ 64 → n < 10 ^ 64 → id m ≡ id n → m ≡ n
id_injective m n hm hn e = sym (decimal_is_IsNumeral_wide m hm).1 ∙ ap (λ s. digits_value 10 (drop 1 s)) e ∙ (decimal_is_IsNumeral_wide n hn).1

ids_apart : (m n : ℕ) → n < 10 ^ 64 → m < n → bytes_eq (id m) (id n) ≡ false
ids_apart m n h lt = other_bytes (id m) (id n) (λ e. let same : m ≡ n = id_injective m n (omega arith) h e in absurd (omega arith))

later_apart : (i j n : ℕ) → i < j → j + n < 10 ^ 64 → list_any (bytes_eq (id i)) (map (λ c. c.id) (cells_from j n)) ≡ false
later_apart i j zero lt h = refl
later_apart i j (suc n) lt h = ap₂ (λ a b. a || b) (ids_apart i j (omega arith) lt) (later_apart i (j + 1) n (omega arith) (omega arith))

ids_differ : (j n : ℕ) → j + n < 10 ^ 64 → no_repeat (map (λ c. c.id) (cells_from j n)) ≡ true
ids_differ j zero h = refl
ids_differ j (suc n) h = and_eq (ap not (later_apart j (j + 1) n (omega arith) (omega arith))) (ids_differ (j + 1) n (omega arith))

id_fits : (n : ℕ) → n < 10 ^ 44 → is_id_text (id n) ≡ true
id_fits n h =
    let short = length-decimal-le_wide 44 n (omega arith) h (omega arith) in
    let long = length-append (codes "g") (decimal n) in
    and_eq (and_eq (le-leb 1 (length (id n)) (omega arith)) (le-leb (length (id n)) 64 (omega arith))) (decimal_in_id n (omega arith))

-- ---- cells

empty_fits : is_cell_metadata (json.Obj []) ≡ true
empty_fits = search (rules, the_lemmas)

kernel_fits : is_metadata kernel ≡ true
kernel_fits = search (rules, the_lemmas)

generated_fits : (i : ℕ) → i < 10 ^ 44 → cell_fits (generated_cell i) ≡ true
generated_fits i h = and_eq (and_eq (and_eq (and_eq (id_fits i h) empty_fits) (strings_multiline ((verb i ++ decimal i) ∷ []))) refl) refl

cells_fit : (j n : ℕ) → j + n ≤ 10 ^ 44 → list_all cell_fits (cells_from j n) ≡ true
cells_fit j zero h = refl
cells_fit j (suc n) h = and_eq (generated_fits j (omega arith)) (cells_fit (j + 1) n (omega arith))

-- ---- depth

generated_within : (i : ℕ) → depth (cell_tree (generated_cell i)) ≤ 126
generated_within i =
    object_within 125 (pairs_with kind.Code (generated_cell i))
    (string_within 125 (codes "code"), (null_within 125, (string_within 125 (id i), (object_within 124 [] tt, (items_within 124 [] tt, (items_within 124 (json.Str (verb i ++ decimal i) ∷ []) (string_within 124 (verb i ++ decimal i), tt), tt))))))

cells_within : (j n : ℕ) → AllByRecursion (λ c. depth (cell_tree c) ≤ 126) (cells_from j n)
cells_within j zero = tt
cells_within j (suc n) = (generated_within j, cells_within (j + 1) n)

kernel_within : depth kernel ≤ 127
kernel_within =
    object_within 126 ((codes "kernelspec", kernelspec) ∷ [])
    (object_within 125 ((codes "display_name", json.Str (codes "Toy")) ∷ (codes "name", json.Str (codes "toy")) ∷ []) (string_within 125 (codes "Toy"), (string_within 125 (codes "toy"), tt)), tt)

number_within : (m : ℕ) (s : List ℕ) → depth (json.Num s) ≤ m
number_within m s = let e : depth (json.Num s) ≡ 0 = search (rules, the_lemmas) in omega (arith, e)

within : (n : ℕ) → depth (notebook_tree (generated_notebook n)) ≤ 128
within n =
    object_within 127 (top_pairs (generated_notebook n))
    (within_list (map cell_tree (cells_from 0 n)) (all-map (λ x. depth x ≤ 126) cell_tree (cells_from 0 n) (cells_within 0 n)), (kernel_within, (number_within 127 (codes "4"), (number_within 127 (codes "5"), tt))))

pub generated_valid : (n : ℕ) → n < 10 ^ 44 → Valid (notebook_tree (generated_notebook n))
generated_valid n h =
    record {
      notebook = notebook_tree-fits (generated_notebook n) ∙ and_eq kernel_fits (and_eq (cells_fit 0 n (omega arith)) (ids_differ 0 n (omega arith)));
      within = within n;
    }

-- ---- keys

generated_cell_keyed : (i : ℕ) → Keyed (cell_tree (generated_cell i))
generated_cell_keyed i =
    cell_keyed (generated_cell i)
    (keyed.text (codes "code"), (keyed.null, (keyed.text (id i), (keyed.object [] keyed.no_pairs tt, (string_list_keyed [], (string_list_keyed ((verb i ++ decimal i) ∷ []), tt))))))

cells_keyed : (j n : ℕ) → AllByRecursion (λ c. Keyed (cell_tree c)) (cells_from j n)
cells_keyed j zero = tt
cells_keyed j (suc n) = (generated_cell_keyed j, cells_keyed (j + 1) n)

kernel_keyed : Keyed kernel
kernel_keyed =
    let names = (codes "display_name", json.Str (codes "Toy")) ∷ (codes "name", json.Str (codes "toy")) ∷ [] in
    let spec = (codes "kernelspec", kernelspec) ∷ [] in
    keyed.object spec (pairs_of spec (keyed.object names (pairs_of names (keyed.text (codes "Toy"), (keyed.text (codes "toy"), tt))) (distinct_from names refl), tt)) (distinct_from spec refl)

pub generated_keyed : (n : ℕ) → Keyed (notebook_tree (generated_notebook n))
generated_keyed n = notebook_keyed (generated_notebook n) (cells_keyed 0 n) kernel_keyed
