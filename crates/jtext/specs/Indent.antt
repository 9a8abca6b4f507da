-- Indented JSON text (RFC 8259, section 2, leaves the white space free): pairs sorted by their keys, each item or pair on a line of its own, one space a level, and a line end at the very end.
use Rattle.std.specs.Prelude.{ℕ, List, [], ◌∷◌, ◌++◌, map, codes}
use Rattle.jtext.specs.declared.json.Json.{Json}
use Rattle.jtext.specs.declared.json.Json.TheOpen.{Json-F}
use Rattle.jtext.specs.declared.json.Json.TheFolds.{fold-Json}
use Rattle.jtext.specs.Print.{quote, join, word}
use Rattle.jtext.specs.Sorting.{by_key}

-- a new line that begins with that margin, and the text on it
abbrev pub on_line : List ℕ → List ℕ → List ℕ
on_line margin b = 10 ∷ (margin ++ b)

-- the margin one level further in
abbrev pub further : List ℕ → List ℕ
further margin = margin ++ 32 ∷ []

-- texts between brackets that stand at that margin
abbrev pub bracket : ℕ → ℕ → List ℕ → List (List ℕ) → List ℕ
bracket start close margin [] = start ∷ close ∷ []
bracket start close margin (b ∷ bs) = start ∷ (join (map (on_line (further margin)) (b ∷ bs)) ++ on_line margin (close ∷ []))

-- a key, `: ` and the text of its value
abbrev pub member : List ℕ × List ℕ → List ℕ
member p = quote p.0 ++ 58 ∷ 32 ∷ p.1

-- one level, with what each value inside writes at a margin in its place
abbrev pub indent_step : Json-F (List ℕ → List ℕ) → List ℕ → List ℕ
indent_step Json-F.Null margin = codes "null"
indent_step (Json-F.Bool b) margin = word b
indent_step (Json-F.Num s) margin = s
indent_step (Json-F.Str s) margin = quote s
indent_step (Json-F.Arr fs) margin = bracket 91 93 margin (map (λ f. f (further margin)) fs)
indent_step (Json-F.Obj ps) margin = bracket 123 125 margin (map member (map (λ p. (p.0, p.1 (further margin))) (by_key ps)))

-- the text of a value that stands at that margin
abbrev pub indent : Json → List ℕ → List ℕ
indent = fold-Json (List ℕ → List ℕ) indent_step

-- the whole indented text
abbrev pub print : Json → List ℕ
print t = indent t [] ++ 10 ∷ []

-- items, each on a line at that margin
abbrev pub indent_items : List ℕ → List Json → List ℕ
indent_items margin xs = join (map (λ x. on_line margin (indent x margin)) xs)

-- pairs as they stand, each on a line at that margin
abbrev pub indent_fields : List ℕ → List (List ℕ × Json) → List ℕ
indent_fields margin ps = join (map (λ p. on_line margin (member (p.0, indent p.1 margin))) ps)
