-- The test of a number is the number grammar.
use Rattle.std.proofs.Common.{◌≡◌, ℕ, true, false, ◌==◌, List, [], ◌∷◌, length, Option, Some, None, refl, sym, ◌∙◌, arith}
use Rattle.std.proofs.lemmas.Bool.{false≢true, false_from_ne_true}
use Rattle.std.proofs.lemmas.Bool.Decides.{nat_tests}
use Rattle.std.proofs.lemmas.List.{append-nil}
use Rattle.jtext.specs.Number.{IsNumber}
use Rattle.jtext.specs.Names.{is_number, is_nothing}
use Rattle.jtext.specs.Reading.{after_number}
use Rattle.jtext.proofs.Numbers.{number_text}
use Rattle.jtext.proofs.NumberSound.{not_number, more_than_number, number_sound}

tested : (s : List ℕ) → IsNumber s → (r : Option (List ℕ)) → after_number s ≡ r → is_nothing r ≡ true
tested s is None e = absurd (not_number s is e)
tested s is (Some []) e = refl
tested s is (Some (c ∷ cs)) e = absurd (more_than_number s (c ∷ cs) is e (grind (arith, nat_tests)))

-- a number passes the test
pub number_passes : (s : List ℕ) → IsNumber s → is_number s ≡ true
number_passes s is = tested s is (after_number s) refl

sound : (s : List ℕ) → (r : Option (List ℕ)) → after_number s ≡ r → is_nothing r ≡ true → IsNumber s
sound s None e t = absurd (false≢true t)
sound s (Some []) e t = number_text s s [] (number_sound s [] e) (sym (append-nil s))
sound s (Some (c ∷ cs)) e t = absurd (false≢true (let n : false ≡ (length (c ∷ cs) == 0) = grind (arith, nat_tests) in n ∙ t))

-- what passes the test is a number
pub number_of_test : (s : List ℕ) → is_number s ≡ true → IsNumber s
number_of_test s t = sound s (after_number s) refl t

-- a text that is no number fails it
pub number_fails : (s : List ℕ) → (IsNumber s → ⊥) → is_number s ≡ false
number_fails s none = false_from_ne_true (is_number s) (λ e. none (number_of_test s e))
