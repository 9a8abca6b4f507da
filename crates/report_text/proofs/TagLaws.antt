-- The tags of a page.
use Rattle.std.proofs.Common.{◌≡◌, ℕ, ◌==◌, Bool, true, false, List, [], ◌∷◌, ◌++◌, map, codes, refl, sym, ◌∙◌, ap, append_assoc}
use Rattle.std.specs.List.{flat_map}
use Rattle.std.proofs.lemmas.List.Concat.{flat_map-append}
use Rattle.std.proofs.lemmas.Bool.{cond-true, cond-false}
use Rattle.jtext.specs.declared.json.Json.{Json}
use Rattle.nb_model.specs.declared.kind.Kind.{Kind}
use Rattle.nb_model.specs.declared.kind.Kind.TheVariants as kind
use Rattle.nb_model.specs.declared.cell.Cell.{Cell}
use Rattle.nb_model.specs.declared.notebook.Notebook.{Notebook}
use Rattle.nb_model.specs.Planned.{code}
use Rattle.nb_model.specs.Tree.{kind_name}
use Rattle.report_text.specs.Page.{escaped_octet, escaped, block_start, block_end, block, is_of_type, output_class, output_text, output_block, shown_outputs, cell_blocks, page, page_end}
use Rattle.report_text.specs.Tags.{tags, up_to_end, block_tags, cell_classes, start_tags, tags_of}

-- ---- text has no tag

plain_octet : (c : ℕ) (rest : List ℕ) → (c == 60) ≡ false → tags (c ∷ rest) ≡ tags rest
plain_octet c rest e = cond-false (c == 60) (up_to_end (c ∷ rest) ∷ tags rest) (tags rest) e

octet_tags : (c : ℕ) (rest : List ℕ) → tags (escaped_octet c ++ rest) ≡ tags rest
octet_tags c rest = amp (c == 38) refl
  where
    quote : (b : Bool) → (c == 34) ≡ b → (c == 38) ≡ false → (c == 60) ≡ false → (c == 62) ≡ false → tags (escaped_octet c ++ rest) ≡ tags rest
    quote true e n1 n2 n3 =
        ap (λ t. tags (t ++ rest)) (cond-false (c == 38) _ _ n1 ∙ cond-false (c == 60) _ _ n2 ∙ cond-false (c == 62) _ _ n3 ∙ cond-true (c == 34) _ _ e)
    quote false e n1 n2 n3 =
        ap (λ t. tags (t ++ rest)) (cond-false (c == 38) _ _ n1 ∙ cond-false (c == 60) _ _ n2 ∙ cond-false (c == 62) _ _ n3 ∙ cond-false (c == 34) _ _ e)
        ∙ plain_octet c rest n2

    more : (b : Bool) → (c == 62) ≡ b → (c == 38) ≡ false → (c == 60) ≡ false → tags (escaped_octet c ++ rest) ≡ tags rest
    more true e n1 n2 = ap (λ t. tags (t ++ rest)) (cond-false (c == 38) _ _ n1 ∙ cond-false (c == 60) _ _ n2 ∙ cond-true (c == 62) _ _ e)
    more false e n1 n2 = quote (c == 34) refl n1 n2 e

    less : (b : Bool) → (c == 60) ≡ b → (c == 38) ≡ false → tags (escaped_octet c ++ rest) ≡ tags rest
    less true e n1 = ap (λ t. tags (t ++ rest)) (cond-false (c == 38) _ _ n1 ∙ cond-true (c == 60) _ _ e)
    less false e n1 = more (c == 62) refl n1 e

    amp : (b : Bool) → (c == 38) ≡ b → tags (escaped_octet c ++ rest) ≡ tags rest
    amp true e = ap (λ t. tags (t ++ rest)) (cond-true (c == 38) _ _ e)
    amp false e = less (c == 60) refl e

text_tags : (text rest : List ℕ) → tags (escaped text ++ rest) ≡ tags rest
text_tags [] rest = refl
text_tags (c ∷ cs) rest =
    ap tags (append_assoc (escaped_octet c) (escaped cs) rest) ∙ octet_tags c (escaped cs ++ rest) ∙ text_tags cs rest

-- ---- blocks

-- the classes of blocks have no octet that ends a tag or begins one
pub record IsClass (class : List ℕ) : Type 0 where
  pub begins : (rest : List ℕ) → tags (block_start class ++ rest) ≡ block_start class ∷ tags rest

kind_class : (k : Kind) → IsClass (kind_name k)
kind_class kind.Raw = record { begins = λ rest. refl }
kind_class kind.Markdown = record { begins = λ rest. refl }
kind_class kind.Code = record { begins = λ rest. refl }

output_is_class : (o : Json) → IsClass (output_class o)
output_is_class o = stream (is_of_type (codes "stream") o) refl
  where
    error : (b : Bool) → is_of_type (codes "error") o ≡ b → is_of_type (codes "stream") o ≡ false → IsClass (output_class o)
    error true e n = rw (n, e) (record { begins = λ rest. refl })
    error false e n = rw (n, e) (record { begins = λ rest. refl })

    stream : (b : Bool) → is_of_type (codes "stream") o ≡ b → IsClass (output_class o)
    stream true e = rw e (record { begins = λ rest. refl })
    stream false e = error (is_of_type (codes "error") o) refl e

block_has : (class text rest : List ℕ) → IsClass class → tags (block class text ++ rest) ≡ block_tags class ++ tags rest
block_has class text rest is =
    ap tags (append_assoc (block_start class) (escaped text ++ block_end) rest) ∙ is.begins ((escaped text ++ block_end) ++ rest)
    ∙ ap (λ ts. block_start class ∷ ts) (ap tags (append_assoc (escaped text) block_end rest) ∙ text_tags text (block_end ++ rest))

outputs_have : (os : List Json) (rest : List ℕ) → tags (flat_map output_block os ++ rest) ≡ flat_map block_tags (map output_class os) ++ tags rest
outputs_have [] rest = refl
outputs_have (o ∷ os) rest =
    ap tags (append_assoc (output_block o) (flat_map output_block os) rest)
    ∙ block_has (output_class o) (output_text o) (flat_map output_block os ++ rest) (output_is_class o)
    ∙ ap (λ ts. block_tags (output_class o) ++ ts) (outputs_have os rest)

cell_has : (c : Cell) (rest : List ℕ) → tags (cell_blocks c ++ rest) ≡ flat_map block_tags (cell_classes c) ++ tags rest
cell_has c rest =
    let os = shown_outputs c.kind c.outputs in
    ap tags (append_assoc (block (kind_name c.kind) (code c)) (flat_map output_block os) rest)
    ∙ block_has (kind_name c.kind) (code c) (flat_map output_block os ++ rest) (kind_class c.kind)
    ∙ ap (λ ts. block_tags (kind_name c.kind) ++ ts) (outputs_have os rest)

cells_have : (cs : List Cell) (rest : List ℕ) → tags (flat_map cell_blocks cs ++ rest) ≡ flat_map block_tags (flat_map cell_classes cs) ++ tags rest
cells_have [] rest = refl
cells_have (c ∷ cs) rest =
    ap tags (append_assoc (cell_blocks c) (flat_map cell_blocks cs) rest)
    ∙ cell_has c (flat_map cell_blocks cs ++ rest)
    ∙ ap (λ ts. flat_map block_tags (cell_classes c) ++ ts) (cells_have cs rest)
    ∙ sym (append_assoc (flat_map block_tags (cell_classes c)) (flat_map block_tags (flat_map cell_classes cs)) (tags rest))
    ∙ ap (λ ts. ts ++ tags rest) (sym (flat_map-append block_tags (cell_classes c) (flat_map cell_classes cs)))

-- the tags of a page are those that the kinds of cells and outputs give
pub page_tags : (n : Notebook) → tags (page n) ≡ tags_of n
page_tags n = ap (λ ts. start_tags ++ ts) (cells_have n.cells page_end)
