-- Names that stand once.
use Rattle.std.proofs.Common.{◌≡◌, ℕ, Bool, true, false, List, [], ◌∷◌, refl, sym, if◌then◌else◌}
use Rattle.std.specs.Str.{bytes_eq}
use Rattle.jtext.specs.declared.json.Json.{Json}
use Rattle.jtext.specs.Grammar.{Distinct, Lacks}
use Rattle.jtext.proofs.Equals.{apart_bytes}
use Rattle.scrap_book.specs.Merging.{with_other_names, merged}

-- the pairs of other names lack the name
others_lack : (name : List ℕ) (ps : List (List ℕ × Json)) → Lacks name (with_other_names name ps)
others_lack name [] = tt
others_lack name (p ∷ ps) = by (bytes_eq name p.0) refl (others_lack name ps)
  where
    by : (b : Bool) → bytes_eq name p.0 ≡ b → Lacks name (with_other_names name ps)
        → Lacks name (if b then with_other_names name ps else p ∷ with_other_names name ps)
    by true e rest = rest
    by false e rest = ((λ same. apart_bytes name p.0 e (sym same)), rest)

-- and what all pairs lack
still_lack : (key name : List ℕ) (ps : List (List ℕ × Json)) → Lacks key ps → Lacks key (with_other_names name ps)
still_lack key name [] lacks = tt
still_lack key name (p ∷ ps) lacks = by (bytes_eq name p.0) (still_lack key name ps lacks.1)
  where
    by : (b : Bool) → Lacks key (with_other_names name ps)
        → Lacks key (if b then with_other_names name ps else p ∷ with_other_names name ps)
    by true rest = rest
    by false rest = (lacks.0, rest)

others_distinct : (name : List ℕ) (ps : List (List ℕ × Json)) → Distinct ps → Distinct (with_other_names name ps)
others_distinct name [] once = tt
others_distinct name (p ∷ ps) once =
    by (bytes_eq name p.0) (still_lack p.0 name ps once.0) (others_distinct name ps once.1)
  where
    by : (b : Bool) → Lacks p.0 (with_other_names name ps) → Distinct (with_other_names name ps)
        → Distinct (if b then with_other_names name ps else p ∷ with_other_names name ps)
    by true lacks rest = rest
    by false lacks rest = (lacks, rest)

-- in merged pairs no name stands twice
pub merged_once : (ps : List (List ℕ × Json)) → Distinct (merged ps)
merged_once [] = tt
merged_once (p ∷ ps) = (others_lack p.0 (merged ps), others_distinct p.0 (merged ps) (merged_once ps))
