-- The lines of cells and notebooks, put together.
use Rattle.std.proofs.Common.{◌≡◌, ℕ, ◌<◌, List, [], ◌∷◌, ◌++◌, length, map, replicate, refl, sym, ap, ◌∙◌, append_assoc, append-nil, arith, codes, Option, Some, None, suc, ◌+◌, take, get_or}
use Rattle.std.proofs.lemmas.List.{map-append}
use Rattle.std.proofs.lemmas.Simd.{map-map}
use Rattle.std.proofs.Math.Seq.{take-suc}
use Rattle.jtext.specs.declared.json.Json.{Json}
use Rattle.jtext.specs.declared.json.Json.TheVariants as json
use Rattle.jtext.specs.Print.{quote, join}
use Rattle.jtext.specs.Sorting.{by_key}
use Rattle.jtext.specs.Indent.{on_line, further, bracket, indent, indent_items, indent_fields}
use Rattle.jtext.proofs.Indented.{array_text, object_text, indented-none, indented-Num, joined_first, joined_later}
use Rattle.nb_model.specs.declared.cell.Cell.{Cell}
use Rattle.nb_model.specs.declared.kind.Kind.{Kind}
use Rattle.nb_model.specs.declared.kind.Kind.TheVariants as kind
use Rattle.nb_model.specs.declared.notebook.Notebook.{Notebook}
use Rattle.nb_model.specs.Tree.{cell_tree, optional_pair}
use Rattle.nb_model.proofs.TreeLaws.{pairs_with}
use Rattle.nb_text.specs.Notebooks.{text_of, cell_lines, cells_line, rest_text, notebook_text}
use Rattle.nb_text.specs.Lines.{line_start, line, named_line}
use Rattle.nb_text.specs.Cells.{cell_text, sorted_pairs, pairs_of, common_pairs}

abbrev pub Pair : Type 0
Pair = List ℕ × Json

-- ---- lines

pub from_start : (margin key value : List ℕ) → named_line margin key value ≡ line_start margin key ++ value
from_start margin key value =
    ap (λ l. 10 ∷ l) (ap (λ l. margin ++ l) (sym (append_assoc (quote key) (58 ∷ 32 ∷ []) value)) ∙ sym (append_assoc margin (quote key ++ 58 ∷ 32 ∷ []) value))

-- a line from its start and its value
pub line_done : (margin out o n key value : List ℕ) → o ≡ out ++ line_start margin key → n ≡ o ++ value → n ≡ out ++ named_line margin key value
line_done margin out o n key value starts ends =
    ends ∙ ap (λ l. l ++ value) starts ∙ append_assoc out (line_start margin key) value ∙ ap (λ l. out ++ l) (sym (from_start margin key value))

-- the first of an object's lines
pub first_line : (margin out o : List ℕ) (p : List ℕ × Json) → o ≡ out ++ line margin p → o ≡ out ++ indent_fields margin (p ∷ [])
first_line margin out o p e = e ∙ ap (λ l. out ++ l) (sym (append-nil (line margin p)))

-- a comma, and one line more
pub next_line : (margin out o c n : List ℕ) (first : Pair) (others : List Pair) (p : Pair) → o ≡ out ++ indent_fields margin (first ∷ others) → c ≡ o ++ 44 ∷ [] → n ≡ c ++ line margin p
    → n ≡ out ++ indent_fields margin ((first ∷ others) ++ p ∷ [])
next_line margin out o c n first others p lines comma last =
    let ps = first ∷ others in
    last ∙ ap (λ l. l ++ line margin p) (comma ∙ ap (λ l. l ++ 44 ∷ []) lines)
    ∙ ap (λ l. l ++ line margin p) (append_assoc out (indent_fields margin ps) (44 ∷ []))
    ∙ append_assoc out (indent_fields margin ps ++ 44 ∷ []) (line margin p)
    ∙ ap (λ l. out ++ l) (sym (joined_later (line margin) ps p (omega arith)))

-- a line before others
pub line_before : (margin out o c n : List ℕ) (p q : List ℕ × Json) (qs : List (List ℕ × Json)) → o ≡ out ++ line margin p → c ≡ o ++ 44 ∷ [] → n ≡ c ++ indent_fields margin (q ∷ qs) → n ≡ out ++ indent_fields margin (p ∷ q ∷ qs)
line_before margin out o c n p q qs one comma others =
    others ∙ ap (λ l. l ++ indent_fields margin (q ∷ qs)) (comma ∙ ap (λ l. l ++ 44 ∷ []) one)
    ∙ append_assoc (out ++ line margin p) (44 ∷ []) (indent_fields margin (q ∷ qs))
    ∙ append_assoc out (line margin p) (44 ∷ indent_fields margin (q ∷ qs))

-- ---- lists

-- the line of a key, a bracket, lines within, and the bracket behind them
brackets_line : (margin out o1 o2 o3 o4 key inner : List ℕ) → o1 ≡ out ++ named_line margin key (91 ∷ []) → o2 ≡ o1 ++ inner → o3 ≡ o2 ++ 10 ∷ margin
    → o4 ≡ o3 ++ 93 ∷ [] → o4 ≡ out ++ named_line margin key (91 ∷ (inner ++ on_line margin (93 ∷ [])))
brackets_line margin out o1 o2 o3 o4 key inner opens items closes last =
    let start : o1 ≡ out ++ (line_start margin key ++ 91 ∷ []) = opens ∙ ap (λ l. out ++ l) (from_start margin key (91 ∷ [])) in
    last ∙ ap (λ l. l ++ 93 ∷ []) (closes ∙ ap (λ l. l ++ 10 ∷ margin) (items ∙ ap (λ l. l ++ inner) start))
    ∙ append_assoc ((out ++ (line_start margin key ++ 91 ∷ [])) ++ inner) (10 ∷ margin) (93 ∷ [])
    ∙ append_assoc (out ++ (line_start margin key ++ 91 ∷ [])) inner (on_line margin (93 ∷ []))
    ∙ append_assoc out (line_start margin key ++ 91 ∷ []) (inner ++ on_line margin (93 ∷ []))
    ∙ ap (λ l. out ++ l) (append_assoc (line_start margin key) (91 ∷ []) (inner ++ on_line margin (93 ∷ [])) ∙ sym (from_start margin key (91 ∷ (inner ++ on_line margin (93 ∷ [])))))

-- the line of a list that has items
pub list_line : (margin out o1 o2 o3 o4 key : List ℕ) (xs : List Json) → 0 < length xs → o1 ≡ out ++ named_line margin key (91 ∷ []) → o2 ≡ o1 ++ indent_items (further margin) xs
    → o3 ≡ o2 ++ 10 ∷ margin → o4 ≡ o3 ++ 93 ∷ [] → o4 ≡ out ++ line margin (key, json.Arr xs)
list_line margin out o1 o2 o3 o4 key xs some opens items closes last =
    brackets_line margin out o1 o2 o3 o4 key (indent_items (further margin) xs) opens items closes last
    ∙ ap (λ v. out ++ named_line margin key v) (sym (array_text xs margin some))

-- the line of the empty list
pub empty_line : (margin out o key : List ℕ) (xs : List Json) → xs ≡ [] → o ≡ out ++ named_line margin key (91 ∷ 93 ∷ []) → o ≡ out ++ line margin (key, json.Arr xs)
empty_line margin out o key xs none e = e ∙ ap (λ v. out ++ named_line margin key v) (sym (ap (λ ys. indent (json.Arr ys) margin) none ∙ indented-none margin))

-- ---- cells

prose_sorted : (name : List ℕ) (c : Cell) (o : Option Json) → by_key (optional_pair (codes "attachments") o ++ common_pairs name c) ≡ optional_pair (codes "attachments") o ++ common_pairs name c
prose_sorted name c None = refl
prose_sorted name c (Some v) = refl

sorted_by_kind : (k : Kind) (c : Cell) → by_key (pairs_with k c) ≡ pairs_of k c
sorted_by_kind kind.Raw c = prose_sorted (codes "raw") c c.attachments
sorted_by_kind kind.Markdown c = prose_sorted (codes "markdown") c c.attachments
sorted_by_kind kind.Code c = refl

some_prose : (name : List ℕ) (c : Cell) (o : Option Json) → 0 < length (optional_pair (codes "attachments") o ++ common_pairs name c)
some_prose name c None = omega arith
some_prose name c (Some v) = omega arith

some_pairs : (k : Kind) (c : Cell) → 0 < length (pairs_with k c)
some_pairs kind.Raw c = some_prose (codes "raw") c c.attachments
some_pairs kind.Markdown c = some_prose (codes "markdown") c c.attachments
some_pairs kind.Code c = omega arith

-- the text of a cell, by its sorted pairs
pub cell_by_pairs : (c : Cell) → indent (cell_tree c) (replicate 2 32) ≡ 123 ∷ (indent_fields (replicate 3 32) (sorted_pairs c) ++ on_line (replicate 2 32) (125 ∷ []))
cell_by_pairs c =
    object_text (pairs_with c.kind c) (replicate 2 32) (some_pairs c.kind c)
    ∙ ap (λ ps. 123 ∷ (indent_fields (replicate 3 32) ps ++ on_line (replicate 2 32) (125 ∷ []))) (sorted_by_kind c.kind c)

-- the text of a cell, from its braces and its lines
pub cell_done : (c : Cell) (out o1 o2 o3 o4 : List ℕ) → o1 ≡ out ++ 123 ∷ [] → o2 ≡ o1 ++ indent_fields (replicate 3 32) (sorted_pairs c) → o3 ≡ o2 ++ 10 ∷ replicate 2 32 → o4 ≡ o3 ++ 125 ∷ []
    → o4 ≡ out ++ indent (cell_tree c) (replicate 2 32)
cell_done c out o1 o2 o3 o4 opens lines closes last =
    let inner = indent_fields (replicate 3 32) (sorted_pairs c) in
    last ∙ ap (λ l. l ++ 125 ∷ []) (closes ∙ ap (λ l. l ++ 10 ∷ replicate 2 32) (lines ∙ ap (λ l. l ++ inner) opens))
    ∙ append_assoc ((out ++ 123 ∷ []) ++ inner) (10 ∷ replicate 2 32) (125 ∷ [])
    ∙ append_assoc (out ++ 123 ∷ []) inner (on_line (replicate 2 32) (125 ∷ []))
    ∙ append_assoc out (123 ∷ []) (inner ++ on_line (replicate 2 32) (125 ∷ []))
    ∙ ap (λ l. out ++ l) (sym (cell_by_pairs c))

-- ---- notebooks

pub some_items : {A B : Type 0} (f : A → B) (xs : List A) → 0 < length xs → 0 < length (map f xs)
some_items f [] h = absurd (omega (arith, h))
some_items f (x ∷ xs) h = omega arith

-- one item more
pub grown : {A : Type 0} (xs : List A) (i : ℕ) (x : A) → i < length xs → x ≡ get_or xs i x → take (i + 1) xs ≡ take i xs ++ x ∷ []
grown xs i x within is =
    let next : i + 1 ≡ suc i = omega arith in
    ap (λ n. take n xs) next ∙ take-suc xs i x within ∙ ap (λ d. take i xs ++ d ∷ []) (sym is)

-- the text of one cell more
pub grown_text : (cells : List Cell) (i : ℕ) (c : Cell) → i < length cells → c ≡ get_or cells i c → map cell_text (take (i + 1) cells) ≡ map cell_text (take i cells) ++ cell_text c ∷ []
grown_text cells i c within is = ap (map cell_text) (grown cells i c within is) ∙ map-append cell_text (take i cells) (c ∷ [])

abbrev margin : List ℕ
margin = replicate 2 32

-- the first text, on its line
pub first_text : (before after : List (List ℕ)) (b start out n o : List ℕ) → after ≡ before ++ b ∷ [] → length before ≡ 0 → out ≡ start ++ cell_lines before
    → n ≡ out ++ 10 ∷ margin → o ≡ n ++ b → o ≡ start ++ cell_lines after
first_text before after b start out n o more none so line last =
    last ∙ ap (λ l. l ++ b) (line ∙ ap (λ l. l ++ 10 ∷ margin) so)
    ∙ append_assoc (start ++ cell_lines before) (10 ∷ margin) b
    ∙ append_assoc start (cell_lines before) (on_line margin b)
    ∙ ap (λ l. start ++ l) (sym (ap cell_lines more ∙ joined_first (on_line margin) before b none))

-- a comma, and one text more on its line
pub next_text : (before after : List (List ℕ)) (b start out comma n o : List ℕ) → after ≡ before ++ b ∷ [] → 0 < length before → out ≡ start ++ cell_lines before
    → comma ≡ out ++ 44 ∷ [] → n ≡ comma ++ 10 ∷ margin → o ≡ n ++ b → o ≡ start ++ cell_lines after
next_text before after b start out comma n o more some so joins line last =
    last ∙ ap (λ l. l ++ b) (line ∙ ap (λ l. l ++ 10 ∷ margin) (joins ∙ ap (λ l. l ++ 44 ∷ []) so))
    ∙ append_assoc ((start ++ cell_lines before) ++ 44 ∷ []) (10 ∷ margin) b
    ∙ ap (λ l. l ++ on_line margin b) (append_assoc start (cell_lines before) (44 ∷ []))
    ∙ append_assoc start (cell_lines before ++ 44 ∷ []) (on_line margin b)
    ∙ ap (λ l. start ++ l) (sym (ap cell_lines more ∙ joined_later (on_line margin) before b some))

-- the texts between the brackets of their line
pub texts_line : (out o1 o2 o3 o4 : List ℕ) (texts : List (List ℕ)) → 0 < length texts → o1 ≡ out ++ named_line (replicate 1 32) (codes "cells") (91 ∷ [])
    → o2 ≡ o1 ++ cell_lines texts → o3 ≡ o2 ++ 10 ∷ replicate 1 32 → o4 ≡ o3 ++ 93 ∷ [] → o4 ≡ out ++ cells_line texts
texts_line out o1 o2 o3 o4 [] some opens texts closes last = absurd (omega (arith, some))
texts_line out o1 o2 o3 o4 (b ∷ bs) some opens texts closes last = brackets_line (replicate 1 32) out o1 o2 o3 o4 (codes "cells") (cell_lines (b ∷ bs)) opens texts closes last

-- ---- the rest

-- what is appended behind the cells
pub rest_done : (out o1 o2 o3 o4 o5 o6 o7 : List ℕ) (m : Json) → o1 ≡ out ++ 44 ∷ [] → o2 ≡ o1 ++ line (replicate 1 32) (codes "metadata", m) → o3 ≡ o2 ++ 44 ∷ []
    → o4 ≡ o3 ++ named_line (replicate 1 32) (codes "nbformat") (codes "4") → o5 ≡ o4 ++ 44 ∷ [] → o6 ≡ o5 ++ named_line (replicate 1 32) (codes "nbformat_minor") (codes "5")
    → o7 ≡ o6 ++ 10 ∷ 125 ∷ 10 ∷ [] → o7 ≡ out ++ rest_text m
rest_done out o1 o2 o3 o4 o5 o6 o7 m a b c d e f g =
    let parts : (x y z t : List ℕ) → ((((((out ++ 44 ∷ []) ++ x) ++ 44 ∷ []) ++ y) ++ 44 ∷ []) ++ z) ++ t ≡ out ++ 44 ∷ (x ++ 44 ∷ (y ++ 44 ∷ (z ++ t))) =
    λ x y z t. simp append_assoc in
    rw (g, f, e, d, c, b, a) (parts (line (replicate 1 32) (codes "metadata", m)) (named_line (replicate 1 32) (codes "nbformat") (codes "4"))
    (named_line (replicate 1 32) (codes "nbformat_minor") (codes "5")) (10 ∷ 125 ∷ 10 ∷ []))

-- the text of a notebook, from its parts
pub text_done : (m : Json) (texts : List (List ℕ)) (out o1 o2 o3 : List ℕ) → out ≡ [] → o1 ≡ out ++ 123 ∷ [] → o2 ≡ o1 ++ cells_line texts → o3 ≡ o2 ++ rest_text m
    → o3 ≡ notebook_text m texts
text_done m texts out o1 o2 o3 empty opens cells rest =
    rest ∙ ap (λ l. l ++ rest_text m) (cells ∙ ap (λ l. l ++ cells_line texts) (opens ∙ ap (λ l. l ++ 123 ∷ []) empty))

-- ---- the tree's text

items_are : (cells : List Cell) → indent_items (replicate 2 32) (map cell_tree cells) ≡ cell_lines (map cell_text cells)
items_are cells = ap join (map-map (λ t. on_line margin (indent t margin)) cell_tree cells ∙ sym (map-map (on_line margin) cell_text cells))

list_is : (cells : List Cell) → indent (json.Arr (map cell_tree cells)) (replicate 1 32) ≡ bracket 91 93 (replicate 1 32) (map cell_text cells)
list_is [] = indented-none (replicate 1 32)
list_is (c ∷ cs) = array_text (map cell_tree (c ∷ cs)) (replicate 1 32) (omega arith) ∙ ap (λ l. 91 ∷ (l ++ on_line (replicate 1 32) (93 ∷ []))) (items_are (c ∷ cs))

four_lines : (a b c d e : List ℕ) → join (a ∷ b ∷ c ∷ d ∷ []) ++ e ≡ a ++ 44 ∷ (b ++ 44 ∷ (c ++ 44 ∷ (d ++ e)))
four_lines a b c d e =
    append_assoc a (44 ∷ (b ++ 44 ∷ (c ++ 44 ∷ (d ++ [])))) e
    ∙ ap (λ l. a ++ 44 ∷ l) (append_assoc b (44 ∷ (c ++ 44 ∷ (d ++ []))) e
    ∙ ap (λ l. b ++ 44 ∷ l) (append_assoc c (44 ∷ (d ++ [])) e ∙ ap (λ l. c ++ 44 ∷ l) (ap (λ l. l ++ e) (append-nil d))))

-- the text of a notebook, by its pairs
pub notebook_lines : (n : Notebook) → text_of n ≡ 123 ∷ (indent_fields (replicate 1 32) ((codes "cells", json.Arr (map cell_tree n.cells)) ∷ (codes "metadata", n.metadata) ∷ (codes "nbformat", json.Num (codes "4")) ∷ (codes "nbformat_minor", json.Num (codes "5")) ∷ []) ++ 10 ∷ 125 ∷ 10 ∷ [])
notebook_lines n =
    let ps = (codes "cells", json.Arr (map cell_tree n.cells)) ∷ (codes "metadata", n.metadata) ∷ (codes "nbformat", json.Num (codes "4")) ∷ (codes "nbformat_minor", json.Num (codes "5")) ∷ [] in
    ap (λ l. l ++ 10 ∷ []) (object_text ps [] (omega arith)) ∙ ap (λ l. 123 ∷ l) (append_assoc (indent_fields (replicate 1 32) ps) (10 ∷ 125 ∷ []) (10 ∷ []))

-- the text of a notebook's tree, from the texts of its cells
pub printed : (n : Notebook) → notebook_text n.metadata (map cell_text n.cells) ≡ text_of n
printed n =
    let m = replicate 1 32 in
    let cells = line m (codes "cells", json.Arr (map cell_tree n.cells)) in
    let metadata = line m (codes "metadata", n.metadata) in
    let format = line m (codes "nbformat", json.Num (codes "4")) in
    let minor = line m (codes "nbformat_minor", json.Num (codes "5")) in
    let end = 10 ∷ 125 ∷ 10 ∷ [] in
    let named : (key s : List ℕ) → named_line m key s ≡ line m (key, json.Num s) = λ key s. ap (named_line m key) (sym (indented-Num s m)) in
    ap (λ l. 123 ∷ l)
    (ap (λ l. l ++ rest_text n.metadata) (ap (named_line m (codes "cells")) (sym (list_is n.cells)))
    ∙ ap (λ l. cells ++ 44 ∷ (metadata ++ 44 ∷ (l ++ 44 ∷ (named_line m (codes "nbformat_minor") (codes "5") ++ end)))) (named (codes "nbformat") (codes "4"))
    ∙ ap (λ l. cells ++ 44 ∷ (metadata ++ 44 ∷ (format ++ 44 ∷ (l ++ end)))) (named (codes "nbformat_minor") (codes "5"))
    ∙ sym (four_lines cells metadata format minor end))
    ∙ sym (notebook_lines n)
