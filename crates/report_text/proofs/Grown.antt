-- Texts that grow piece by piece.
use Rattle.std.proofs.Common.{◌≡◌, ◌<◌, ℕ, ◌+◌, List, [], ◌∷◌, ◌++◌, length, map, take, get_or, refl, sym, ◌∙◌, ap, append_assoc}
use Rattle.std.proofs.lemmas.List.{flat_map_more, take_more}
use Rattle.std.proofs.lemmas.List.Concat.{flat_map-append}
use Rattle.std.specs.List.{flat_map}
use Rattle.nb_model.specs.declared.cell.Cell.{Cell}
use Rattle.nb_model.specs.declared.notebook.Notebook.{Notebook}
use Rattle.report_text.specs.Rows.{ended, text_of_rows}
use Rattle.report_text.specs.Script.{head_row, part_rows, part_of, cell_text, script}

pub two : (out a b o n : List ℕ) → o ≡ out ++ a → n ≡ o ++ b → n ≡ out ++ (a ++ b)
two out a b o n first second = second ∙ ap (λ x. x ++ b) first ∙ append_assoc out a b

pub three : (out a b c o p n : List ℕ) → o ≡ out ++ a → p ≡ o ++ b → n ≡ p ++ c → n ≡ out ++ (a ++ (b ++ c))
three out a b c o p n first second third =
    two out a (b ++ c) o n first (two o b c p n second third)

-- the piece of one item more
pub each_more : {X : Type 0} (f : X → List ℕ) (xs : List X) (i : ℕ) (x : X) (out o n : List ℕ) → i < length xs → x ≡ get_or xs i x
    → o ≡ out ++ flat_map f (take i xs) → n ≡ o ++ f x → n ≡ out ++ flat_map f (take (i + 1) xs)
each_more f xs i x out o n below is before after =
    after ∙ ap (λ t. t ++ f x) before ∙ flat_map_more f out (take i xs) x
    ∙ ap (λ ys. out ++ flat_map f ys) (sym (take_more xs i x below ∙ ap (λ y. take i xs ++ y ∷ []) (sym is)))

-- ---- scripts

cells_texts : (cells : List Cell) → flat_map cell_text cells ≡ text_of_rows (flat_map part_rows (map part_of cells))
cells_texts [] = refl
cells_texts (c ∷ cs) =
    ap (λ x. cell_text c ++ x) (cells_texts cs)
    ∙ sym (flat_map-append ended (part_rows (part_of c)) (flat_map part_rows (map part_of cs)))

pub script_made : (n : Notebook) → ended head_row ++ flat_map cell_text n.cells ≡ script n
script_made n = ap (λ x. ended head_row ++ x) (cells_texts n.cells)
