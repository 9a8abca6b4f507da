-- What holds of the value of each pair of a cell or a notebook, when its metadata changes or its outputs are taken out.
use Rattle.std.proofs.Common.{ℕ, List, [], ◌∷◌, ◌++◌, map, Option, None, codes}
use Rattle.std.specs.List.{AllByRecursion}
use Rattle.jtext.specs.declared.json.Json.{Json}
use Rattle.jtext.specs.declared.json.Json.TheVariants as json
use Rattle.nb_model.specs.declared.kind.Kind.{Kind}
use Rattle.nb_model.specs.declared.kind.Kind.TheVariants as kind
use Rattle.nb_model.specs.declared.cell.Cell.{Cell}
use Rattle.nb_model.specs.declared.notebook.Notebook.{Notebook}
use Rattle.nb_model.specs.Tree.{optional_pair, count_tree, cell_tree}
use Rattle.nb_model.proofs.TreeLaws.{pairs_with}

-- the pairs of a cell of text, but for its attachments
abbrev pub prose_pairs : List ℕ → Cell → Json → List (List ℕ × Json)
prose_pairs name c m = (codes "cell_type", json.Str name) ∷ (codes "id", json.Str c.id) ∷ (codes "metadata", m) ∷ (codes "source", c.source) ∷ []

-- the pairs of a notebook
abbrev pub top_pairs : Notebook → List (List ℕ × Json)
top_pairs n = (codes "cells", json.Arr (map cell_tree n.cells)) ∷ (codes "metadata", n.metadata) ∷ (codes "nbformat", json.Num (codes "4")) ∷ (codes "nbformat_minor", json.Num (codes "5")) ∷ []

abbrev attached : Cell → List (List ℕ × Json)
attached c = optional_pair (codes "attachments") c.attachments

module _ (Q : Json → Type 0) where
  -- it holds of the value of each pair
  abbrev pub Values : List (List ℕ × Json) → Type 0
  Values ps = AllByRecursion (λ p. Q p.1) ps

  under : (xs ys zs : List (List ℕ × Json)) → (Values ys → Values zs) → Values (xs ++ ys) → Values (xs ++ zs)
  under [] ys zs f all = f all
  under (x ∷ xs) ys zs f all = (all.0, under xs ys zs f all.1)

  behind : (xs ys : List (List ℕ × Json)) → Values (xs ++ ys) → Values ys
  behind [] ys all = all
  behind (x ∷ xs) ys all = behind xs ys all.1

  pub metadata_in : (k : Kind) (c : Cell) → Values (pairs_with k c) → Q c.metadata
  metadata_in kind.Raw c all = (behind (attached c) (prose_pairs (codes "raw") c c.metadata) all).1.1.0
  metadata_in kind.Markdown c all = (behind (attached c) (prose_pairs (codes "markdown") c c.metadata) all).1.1.0
  metadata_in kind.Code c all = all.1.1.1.0

  pub with_metadata : (k : Kind) (c : Cell) (m : Json) → Q m → Values (pairs_with k c) → Values (pairs_with k (record c { metadata = m }))
  with_metadata kind.Raw c m q all = under (attached c) (prose_pairs (codes "raw") c c.metadata) (prose_pairs (codes "raw") c m) (λ h. (h.0, (h.1.0, (q, h.1.1.1)))) all
  with_metadata kind.Markdown c m q all = under (attached c) (prose_pairs (codes "markdown") c c.metadata) (prose_pairs (codes "markdown") c m) (λ h. (h.0, (h.1.0, (q, h.1.1.1)))) all
  with_metadata kind.Code c m q all = (all.0, (all.1.0, (all.1.1.0, (q, all.1.1.1.1))))

  -- with other outputs and another count
  pub with_outputs : (k : Kind) (c : Cell) (os : List Json) (n : Option (List ℕ)) → Q (count_tree n) → Q (json.Arr os)
      → Values (pairs_with k c) → Values (pairs_with k (record c { outputs = os; count = n }))
  with_outputs kind.Raw c os n count outputs all = all
  with_outputs kind.Markdown c os n count outputs all = all
  with_outputs kind.Code c os n count outputs all = (all.0, (count, (all.1.1.0, (all.1.1.1.0, (outputs, all.1.1.1.1.1)))))

  -- without outputs and count
  pub emptied : (k : Kind) (c : Cell) → Q json.Null → Q (json.Arr []) → Values (pairs_with k c) → Values (pairs_with k (record c { outputs = []; count = None }))
  emptied k c null none all = with_outputs k c [] None null none all

-- ---- lists of trees

pub all-map : {A B : Type 0} (P : B → Type 0) (f : A → B) (xs : List A) → AllByRecursion (λ x. P (f x)) xs → AllByRecursion P (map f xs)
all-map P f [] all = tt
all-map P f (x ∷ xs) all = (all.0, all-map P f xs all.1)

pub all-unmap : {A B : Type 0} (P : B → Type 0) (f : A → B) (xs : List A) → AllByRecursion P (map f xs) → AllByRecursion (λ x. P (f x)) xs
all-unmap P f [] all = tt
all-unmap P f (x ∷ xs) all = (all.0, all-unmap P f xs all.1)
