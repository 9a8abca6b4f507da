-- Keys that stand once, and words.
use Rattle.std.proofs.Common.{◌≡◌, ℕ, ◌≢◌, false, ◌||◌, List, [], ◌∷◌, ◌++◌, length, take, drop, Option, Some, None, refl, sym, ap₂, ◌∙◌, inl, inr}
use Rattle.std.proofs.lemmas.Bool.{or_parts}
use Rattle.std.proofs.lemmas.List.{take-append-drop}
use Rattle.std.proofs.lemmas.Slice.Eq.{bytes_eq-Decides}
use Rattle.std.specs.Prelude.{nat_eq}
use Rattle.std.specs.List.{AllByRecursion, starts_with}
use Rattle.std.specs.Str.{bytes_eq}
use Rattle.jtext.specs.declared.json.Json.{Json}
use Rattle.jtext.specs.Readings.{strip_word}
use Rattle.jtext.specs.Grammar.{Distinct}
use Rattle.jtext.specs.Reading.{has_key}
use Rattle.jtext.proofs.Binds.{chosen}
use Rattle.jtext.proofs.Equals.{apart_bytes, other_bytes}

pub all-push : {A : Type 0} (P : A → Type 0) (xs : List A) (x : A) → AllByRecursion P xs → P x → AllByRecursion P (xs ++ x ∷ [])
all-push P [] x all p = (p, tt)
all-push P (y ∷ ys) x all p = (all.0, all-push P ys x all.1 p)

pub all-at : {A : Type 0} (P : A → Type 0) (xs : List A) (x : A) (ys : List A) → AllByRecursion P (xs ++ x ∷ ys) → P x
all-at P [] x ys all = all.0
all-at P (z ∷ zs) x ys all = all-at P zs x ys all.1

pub distinct-push : (ps : List (List ℕ × Json)) (p : List ℕ × Json) → Distinct ps → has_key ps p.0 ≡ false → Distinct (ps ++ p ∷ [])
distinct-push [] p d e = (tt, tt)
distinct-push (r ∷ rs) p d e =
    let h = or_parts (bytes_eq r.0 p.0) (has_key rs p.0) e in
    (all-push (λ q. q.0 ≢ r.0) rs p d.0 (λ e. apart_bytes r.0 p.0 h.0 (sym e)), distinct-push rs p d.1 h.1)

pub distinct-free : (ps : List (List ℕ × Json)) (p : List ℕ × Json) (qs : List (List ℕ × Json)) → Distinct (ps ++ p ∷ qs) → has_key ps p.0 ≡ false
distinct-free [] p qs d = refl
distinct-free (r ∷ rs) p qs d = ap₂ (λ a b. a || b) (other_bytes r.0 p.0 (λ e. all-at (λ q. q.0 ≢ r.0) rs p qs d.0 (sym e))) (distinct-free rs p qs d.1)

pub strip_sound : (name s rest : List ℕ) → strip_word name s ≡ Some rest → s ≡ name ++ rest
strip_sound name s rest e =
    elim (chosen (starts_with nat_eq s name) (Some (drop (length name) s)) None (Some rest) e) [
      | inl h ↦
          let front : name ≡ take (length name) s = (bytes_eq-Decides name (take (length name) s)).0 h.0 in
          sym (take-append-drop (length name) s) ∙ ap₂ (λ a b. a ++ b) (sym front) (inside _ rest h.1)
      | inr h ↦ absurd (never rest h.1)
    ]
  where
    inside : (u v : List ℕ) → ◌≡◌ {A = Option (List ℕ)} (Some u) (Some v) → u ≡ v
    inside u v e = cc

    never : (v : List ℕ) → ◌≡◌ {A = Option (List ℕ)} None (Some v) → ⊥
    never v e = cc
