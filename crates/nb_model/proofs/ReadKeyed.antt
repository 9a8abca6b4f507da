-- The notebook that a tree is has no key twice in an object, where the tree has none.
use Rattle.std.proofs.Common.{◌≡◌, ℕ, List, [], ◌∷◌, ◌++◌, map, Option, Some, None, refl, codes}
use Rattle.std.specs.List.{AllByRecursion}
use Rattle.jtext.specs.declared.json.Json.{Json}
use Rattle.jtext.specs.Find.{field, fields}
use Rattle.jtext.specs.Keyed as keyed
use Rattle.jtext.specs.Keyed.{Keyed, AllKeyed}
use Rattle.jtext.specs.Look.{items}
use Rattle.nb_model.specs.declared.kind.Kind.{Kind}
use Rattle.nb_model.specs.declared.kind.Kind.TheVariants as kind
use Rattle.nb_model.specs.Reading.{value_at, cell_of, notebook_of}
use Rattle.nb_model.specs.Tree.{optional_pair, count_tree, cell_tree, notebook_tree}
use Rattle.nb_model.proofs.DepthLaws.{all-found}
use Rattle.jtext.proofs.Trees.{first_keyed}
use Rattle.nb_model.proofs.TreeLaws.{pairs_with}
use Rattle.nb_model.proofs.CellValues.{Values, prose_pairs}
use Rattle.nb_model.proofs.KeyedLemmas.{fields_keyed, keyed_items, keyed_value, cell_keyed, notebook_keyed}

value_keyed : (key : List ℕ) (t : Json) → Keyed t → Keyed (value_at key t)
value_keyed key t k = all-found Keyed key (fields t) keyed.null (fields_keyed t k).0

attached : (c : Json) → Keyed c → (o : Option Json) → field c (codes "attachments") ≡ o → (rest : List (List ℕ × Json)) → Values Keyed rest → Values Keyed (optional_pair (codes "attachments") o ++ rest)
attached c k None e rest all = all
attached c k (Some v) e rest all = (keyed_value (codes "attachments") c v k e, all)

count_keyed : (o : Option (List ℕ)) → Keyed (count_tree o)
count_keyed None = keyed.null
count_keyed (Some s) = keyed.number s

prose_values : (name : List ℕ) (c : Json) → Keyed c → Values Keyed (optional_pair (codes "attachments") (cell_of c).attachments ++ prose_pairs name (cell_of c) (cell_of c).metadata)
prose_values name c k =
    attached c k (field c (codes "attachments")) refl (prose_pairs name (cell_of c) (cell_of c).metadata)
    (keyed.text name, (keyed.text (cell_of c).id, (value_keyed (codes "metadata") c k, (value_keyed (codes "source") c k, tt))))

values_read : (k : Kind) (c : Json) → Keyed c → Values Keyed (pairs_with k (cell_of c))
values_read kind.Raw c h = prose_values (codes "raw") c h
values_read kind.Markdown c h = prose_values (codes "markdown") c h
values_read kind.Code c h =
    let outputs = keyed_items (value_at (codes "outputs") c) (value_keyed (codes "outputs") c h) in
    (keyed.text (codes "code"), (count_keyed (cell_of c).count, (keyed.text (cell_of c).id, (value_keyed (codes "metadata") c h, (keyed.array (items (value_at (codes "outputs") c)) outputs, (value_keyed (codes "source") c h, tt))))))

cells_read : (xs : List Json) → AllKeyed xs → AllByRecursion (λ c. Keyed (cell_tree c)) (map cell_of xs)
cells_read [] k = tt
cells_read (x ∷ xs) k = let h = first_keyed x xs k in (cell_keyed (cell_of x) (values_read (cell_of x).kind x h.0), cells_read xs h.1)

pub read_keyed : (t : Json) → Keyed t → Keyed (notebook_tree (notebook_of t))
read_keyed t k =
    notebook_keyed (notebook_of t) (cells_read (items (value_at (codes "cells") t)) (keyed_items (value_at (codes "cells") t) (value_keyed (codes "cells") t k))) (value_keyed (codes "metadata") t k)
