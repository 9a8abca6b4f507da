-- Equal texts, and texts that differ.
use Rattle.std.proofs.Common.{◌≡◌, ◌≢◌, ℕ, true, false, List, refl, sym, ◌∙◌, ap, inl, inr}
use Rattle.std.specs.Str.{bytes_eq}
use Rattle.std.proofs.lemmas.Bool.{cases_Bool, true≢false}
use Rattle.std.proofs.lemmas.Slice.Eq.{bytes_eq-Decides}

-- a text is equal to itself
pub same_bytes : (a : List ℕ) → bytes_eq a a ≡ true
same_bytes a = (bytes_eq-Decides a a).1 refl

-- what the test finds equal is equal
pub equal_bytes : (a b : List ℕ) → bytes_eq a b ≡ true → a ≡ b
equal_bytes a b e = (bytes_eq-Decides a b).0 e

-- it finds no others equal
pub other_bytes : (a b : List ℕ) → a ≢ b → bytes_eq a b ≡ false
other_bytes a b apart = elim (cases_Bool (bytes_eq a b)) [ inl t ↦ absurd (apart (equal_bytes a b t)) | inr f ↦ f ]

-- and what it finds different is
pub apart_bytes : (a b : List ℕ) → bytes_eq a b ≡ false → a ≢ b
apart_bytes a b e same = true≢false (sym (same_bytes a) ∙ ap (bytes_eq a) same ∙ e)

-- it finds the same the other way round
pub turned_bytes : (a b : List ℕ) → bytes_eq a b ≡ bytes_eq b a
turned_bytes a b =
    elim (cases_Bool (bytes_eq a b)) [
      | inl t ↦ t ∙ sym ((bytes_eq-Decides b a).1 (sym (equal_bytes a b t)))
      | inr f ↦ f ∙ sym (other_bytes b a (λ same. apart_bytes a b f (sym same)))
    ]
