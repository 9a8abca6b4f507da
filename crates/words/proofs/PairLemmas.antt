-- A value that is set under a name: what holds of the pairs, and that no name stands twice.
use Rattle.std.proofs.Common.{◌≡◌, ◌≢◌, ℕ, Bool, true, false, cond, List, [], ◌∷◌, refl, sym, subst}
use Rattle.std.specs.List.{AllByRecursion}
use Rattle.std.specs.Str.{bytes_eq}
use Rattle.std.proofs.lemmas.Slice.Eq.{bytes_eq-Decides}
use Rattle.jtext.specs.declared.json.Json.{Json}
use Rattle.jtext.specs.Edit.{set_pair}
use Rattle.jtext.specs.Grammar.{Distinct}
use Rattle.jtext.proofs.Equals.{apart_bytes}

-- what holds of the new pair and of each that stood holds of each pair
pub all-set_pair : (P : List ℕ × Json → Type 0) (name : List ℕ) (v : Json) (ps : List (List ℕ × Json))
    → P (name, v) → AllByRecursion P ps → AllByRecursion P (set_pair name v ps)
all-set_pair P name v [] here all = (here, tt)
all-set_pair P name v (p ∷ ps) here all =
    by_test (bytes_eq p.0 name) refl (set_pair name v ps) (all-set_pair P name v ps here all.1)
  where
    by_test : (b : Bool) → bytes_eq p.0 name ≡ b → (more : List (List ℕ × Json)) → AllByRecursion P more
        → AllByRecursion P (cond b ((p.0, v) ∷ ps) (p ∷ more))
    by_test true e more rest =
        let Q : List ℕ → Type 0 = λ k. P (k, v) in
        (subst Q (sym ((bytes_eq-Decides p.0 name).0 e)) here, all.1)
    by_test false e more rest = (all.0, rest)

distinct_step : (b : Bool) (name : List ℕ) (v : Json) (p : List ℕ × Json) (ps : List (List ℕ × Json))
    → bytes_eq p.0 name ≡ b → Distinct (set_pair name v ps) → Distinct (p ∷ ps)
    → Distinct (cond b ((p.0, v) ∷ ps) (p ∷ set_pair name v ps))
distinct_step true name v p ps e more d = d
distinct_step false name v p ps e more d =
    (all-set_pair (λ q. q.0 ≢ p.0) name v ps (λ s. apart_bytes p.0 name e (sym s)) d.0, more)

-- no name stands twice
pub distinct-set_pair : (name : List ℕ) (v : Json) (ps : List (List ℕ × Json))
    → Distinct ps → Distinct (set_pair name v ps)
distinct-set_pair name v [] d = (tt, tt)
distinct-set_pair name v (p ∷ ps) d =
    distinct_step (bytes_eq p.0 name) name v p ps refl (distinct-set_pair name v ps d.1) d
