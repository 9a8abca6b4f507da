-- The trees of the program's notebooks are sound.
use Rattle.std.proofs.Common.{◌≡◌, ℕ, ◌+◌, ◌<◌, ◌≤◌, true, List, [], ◌∷◌, ◌++◌, map, length, take, get_or, Option, Some, None, refl, sym, ap, ◌∙◌, inl, inr, subst, codes, arith}
use Rattle.std.specs.Prelude.{nat_le}
use Rattle.std.specs.List.{AllByRecursion, list_all}
use Rattle.std.specs.Option.{IfSome}
use Rattle.std.specs.Str.{IsUtf8}
use Rattle.std.proofs.lemmas.Bool.{leb-true, and_parts}
use Rattle.std.proofs.lemmas.List.{take_more}
use Rattle.jtext.specs.declared.json.Json.{Json}
use Rattle.jtext.specs.Number.{IsNumber}
use Rattle.jtext.specs.Sound as sound
use Rattle.jtext.specs.Sound.{Sound, AllSound, PairsSound}
use Rattle.jtext.proofs.Keys.{all-push}
use Rattle.jtext.proofs.Utf8s.{Ascii, utf8_ascii}
use Rattle.nb_model.specs.declared.kind.Kind.{Kind}
use Rattle.nb_model.specs.declared.kind.Kind.TheVariants as kind
use Rattle.nb_model.specs.declared.cell.Cell.{Cell}
use Rattle.nb_model.specs.declared.notebook.Notebook.{Notebook}
use Rattle.nb_model.specs.Tree.{optional_pair, count_tree, cell_tree, notebook_tree}
use Rattle.nb_model.proofs.TreeLaws.{pairs_with}
use Rattle.nb_model.proofs.CellValues.{Values, prose_pairs, top_pairs}

-- ---- keys

ascii_from : (s : List ℕ) → list_all (λ c. nat_le c 127) s ≡ true → Ascii s
ascii_from [] e = tt
ascii_from (c ∷ cs) e =
    let h = and_parts (nat_le c 127) (list_all (λ x. nat_le x 127) cs) e in
    let low = leb-true c 127 h.0 in
    (omega (arith, low), ascii_from cs h.1)

-- a key of the format
key : (s : List ℕ) → list_all (λ c. nat_le c 127) s ≡ true → IsUtf8 s
key s e = utf8_ascii s (ascii_from s e)

pairs_from : (ps : List (List ℕ × Json)) → list_all (λ p. list_all (λ c. nat_le c 127) p.0) ps ≡ true → Values Sound ps → PairsSound ps
pairs_from [] e all = sound.no_pairs
pairs_from (p ∷ ps) e all =
    let h = and_parts (list_all (λ c. nat_le c 127) p.0) (list_all (λ q. list_all (λ c. nat_le c 127) q.0) ps) e in
    sound.pair p.0 p.1 ps (key p.0 h.0) all.0 (pairs_from ps h.1 all.1)

-- ---- a cell

record IsSound (c : Cell) : Type 0 where
  id : IsUtf8 c.id
  metadata : Sound c.metadata
  source : Sound c.source
  attachments : IfSome c.attachments (λ v. Sound v)
  outputs : AllSound c.outputs
  count : IfSome c.count (λ s. IsNumber s)

prose_sound : (name : List ℕ) (c : Cell) (o : Option Json) → IsUtf8 name → IfSome o (λ v. Sound v) → IsSound c → PairsSound (optional_pair (codes "attachments") o ++ prose_pairs name c c.metadata)
prose_sound name c None u a s = pairs_from (prose_pairs name c c.metadata) refl (sound.text name u, (sound.text c.id s.id, (s.metadata, (s.source, tt))))
prose_sound name c (Some v) u a s =
    pairs_from ((codes "attachments", v) ∷ prose_pairs name c c.metadata) refl (a, (sound.text name u, (sound.text c.id s.id, (s.metadata, (s.source, tt)))))

count_sound : (o : Option (List ℕ)) → IfSome o (λ s. IsNumber s) → Sound (count_tree o)
count_sound None n = sound.null
count_sound (Some s) n = sound.number s n

pairs_sound : (k : Kind) (c : Cell) → IsSound c → PairsSound (pairs_with k c)
pairs_sound kind.Raw c s = prose_sound (codes "raw") c c.attachments (key (codes "raw") refl) s.attachments s
pairs_sound kind.Markdown c s = prose_sound (codes "markdown") c c.attachments (key (codes "markdown") refl) s.attachments s
pairs_sound kind.Code c s =
    pairs_from (pairs_with kind.Code c) refl
    (sound.text (codes "code") (key (codes "code") refl), (count_sound c.count s.count, (sound.text c.id s.id, (s.metadata, (sound.array c.outputs s.outputs, (s.source, tt))))))

pub cell_sound : (c : Cell) → IsUtf8 c.id → Sound c.metadata → Sound c.source → IfSome c.attachments (λ v. Sound v) → AllSound c.outputs → IfSome c.count (λ s. IsNumber s) → Sound (cell_tree c)
cell_sound c id metadata source attachments outputs count =
    sound.object (pairs_with c.kind c) (pairs_sound c.kind c (record { id = id; metadata = metadata; source = source; attachments = attachments; outputs = outputs; count = count }))

-- ---- a notebook

all_sound : (cs : List Cell) → AllByRecursion (λ c. Sound (cell_tree c)) cs → AllSound (map cell_tree cs)
all_sound [] all = sound.none
all_sound (c ∷ cs) all = sound.more (cell_tree c) (map cell_tree cs) all.0 (all_sound cs all.1)

digit : (d : ℕ) → 49 ≤ d → d ≤ 57 → IsNumber (d ∷ [])
digit d low high = record { minus = []; whole = d ∷ []; fraction = []; exponent = []; is_minus = inl refl; is_whole = inr (d, [], low, high, tt, refl); is_fraction = inl refl; is_exponent = inl refl; text = refl }

pub notebook_sound : (n : Notebook) → Sound n.metadata → AllByRecursion (λ c. Sound (cell_tree c)) n.cells → Sound (notebook_tree n)
notebook_sound n m cells =
    let list = sound.array (map cell_tree n.cells) (all_sound n.cells cells) in
    let four = sound.number (codes "4") (digit 52 (omega arith) (omega arith)) in
    let five = sound.number (codes "5") (digit 53 (omega arith) (omega arith)) in
    sound.object (top_pairs n) (pairs_from (top_pairs n) refl (list, (m, (four, (five, tt)))))

pub cells_more : (cs : List Cell) (i : ℕ) (c : Cell) → i < length cs → c ≡ get_or cs i c → AllByRecursion (λ d. Sound (cell_tree d)) (take i cs) → Sound (cell_tree c) → AllByRecursion (λ d. Sound (cell_tree d)) (take (i + 1) cs)
cells_more cs i c lt is all s =
    subst (AllByRecursion (λ d. Sound (cell_tree d))) (sym (take_more cs i c lt ∙ ap (λ d. take i cs ++ d ∷ []) (sym is))) (all-push (λ d. Sound (cell_tree d)) (take i cs) c all s)
