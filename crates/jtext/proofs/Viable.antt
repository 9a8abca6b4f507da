-- Each state of the machine can be completed to a text, and no text goes on with a byte that it refuses.
use Rattle.std.proofs.Common.{◌≡◌, ℕ, zero, suc, Bool, true, false, List, [], ◌∷◌, ◌++◌, Option, Some, None, refl, sym, ap, ◌∙◌, append_assoc, arith}
use Rattle.std.proofs.lemmas.Bool.Decides.{nat_tests}
use Rattle.std.specs.Option.{option_and_then}
use Rattle.jtext.proofs.Machine as machine
use Rattle.jtext.proofs.Machine.{Frame, Mode, State, at, value, first, first_key, key, colon, after, text, escape, unit, word, minus, zero_, whole, point, fraction, tail, power, sign, exponent, step, run, start, Refuses, IsBegun, NoneGoesOn}
use Rattle.jtext.proofs.Follows.{run-append}

-- these bytes lead from σ to a value with nothing open
Completes : State → Type 0
Completes σ = (more : List ℕ) × (run σ more ≡ Some (at after []))

by : (σ τ : State) (front : List ℕ) → run σ front ≡ Some τ → Completes τ → Completes σ
unfolding Completes
by σ τ front e c = (front ++ c.0, run-append σ τ front c.0 e ∙ c.1)

close_all : (fs : List Frame) → Completes (at after fs)
unfolding Completes
close_all [] = ([], refl)
close_all (machine.list ∷ fs) = by (at after (machine.list ∷ fs)) (at after fs) (93 ∷ []) refl (close_all fs)
close_all (machine.object ∷ fs) = by (at after (machine.object ∷ fs)) (at after fs) (125 ∷ []) refl (close_all fs)

space_after : (fs : List Frame) → step (at after fs) 32 ≡ Some (at after fs)
space_after [] = refl
space_after (machine.list ∷ fs) = refl
space_after (machine.object ∷ fs) = refl

-- a space ends a number
ended : (σ : State) (fs : List Frame) → step σ 32 ≡ step (at after fs) 32 → Completes σ
ended σ fs e = by σ (at after fs) (32 ∷ []) (ap (option_and_then (λ x. run x [])) (e ∙ space_after fs)) (close_all fs)

at_value : (fs : List Frame) → Completes (at value fs)
at_value fs = by (at value fs) (at after fs) (34 ∷ 34 ∷ []) refl (close_all fs)

at_colon : (fs : List Frame) → Completes (at colon fs)
at_colon fs = by (at colon fs) (at value fs) (58 ∷ []) refl (at_value fs)

at_text : (k : Bool) (fs : List Frame) → Completes (at (text k) fs)
at_text true fs = by (at (text true) fs) (at colon fs) (34 ∷ []) refl (at_colon fs)
at_text false fs = by (at (text false) fs) (at after fs) (34 ∷ []) refl (close_all fs)

at_unit : (k : Bool) (n : ℕ) (fs : List Frame) → Completes (at (unit k n) fs)
at_unit k zero fs = by (at (unit k zero) fs) (at (text k) fs) (48 ∷ []) refl (at_text k fs)
at_unit k (suc n) fs = by (at (unit k (suc n)) fs) (at (unit k n) fs) (48 ∷ []) refl (at_unit k n fs)

same_letter : (l : ℕ) (ls : List ℕ) (fs : List Frame) → step (at (word (l ∷ ls)) fs) l ≡ Some (at (word ls) fs)
same_letter l ls fs = grind (arith, nat_tests)

at_word : (ls : List ℕ) (fs : List Frame) → Completes (at (word ls) fs)
at_word [] fs = ended (at (word []) fs) fs refl
at_word (l ∷ ls) fs = by (at (word (l ∷ ls)) fs) (at (word ls) fs) (l ∷ []) (ap (option_and_then (λ x. run x [])) (same_letter l ls fs)) (at_word ls fs)

at_key : (fs : List Frame) → Completes (at key fs)
at_key fs = by (at key fs) (at colon fs) (34 ∷ 34 ∷ []) refl (at_colon fs)

at_mode : (m : Mode) (fs : List Frame) → Completes (at m fs)
at_mode value fs = at_value fs
at_mode first fs = by (at first fs) (at after fs) (34 ∷ 34 ∷ []) refl (close_all fs)
at_mode first_key fs = by (at first_key fs) (at colon fs) (34 ∷ 34 ∷ []) refl (at_colon fs)
at_mode key fs = at_key fs
at_mode colon fs = at_colon fs
at_mode after fs = close_all fs
at_mode (text k) fs = at_text k fs
at_mode (escape k) fs = by (at (escape k) fs) (at (text k) fs) (110 ∷ []) refl (at_text k fs)
at_mode (unit k n) fs = at_unit k n fs
at_mode (word ls) fs = at_word ls fs
at_mode minus fs = by (at minus fs) (at zero_ fs) (48 ∷ []) refl (ended (at zero_ fs) fs refl)
at_mode zero_ fs = ended (at zero_ fs) fs refl
at_mode whole fs = ended (at whole fs) fs refl
at_mode point fs = by (at point fs) (at fraction fs) (48 ∷ []) refl (ended (at fraction fs) fs refl)
at_mode fraction fs = ended (at fraction fs) fs refl
at_mode tail fs = ended (at tail fs) fs refl
at_mode power fs = by (at power fs) (at exponent fs) (48 ∷ []) refl (ended (at exponent fs) fs refl)
at_mode sign fs = by (at sign fs) (at exponent fs) (48 ∷ []) refl (ended (at exponent fs) fs refl)
at_mode exponent fs = ended (at exponent fs) fs refl

-- what runs begins a text
pub begun : (b : List ℕ) (σ : State) → run start b ≡ Some σ → IsBegun b
unfolding Completes
begun b σ e =
    let c = at_mode σ.0 σ.1 in
    let whole : run start (b ++ c.0) ≡ Some (at after []) = run-append start σ b c.0 e ∙ c.1 in
    (c.0, run-append start (at after []) (b ++ c.0) (32 ∷ []) whole)

pub none_goes_on : (front rest : List ℕ) (σ : State) → run start front ≡ Some σ → Refuses σ rest → NoneGoesOn front rest
none_goes_on front [] σ e r = λ is. r (ends (step σ 32) (sym (run-append start σ front (32 ∷ []) e) ∙ is))
  where
    ends : (o : Option State) → option_and_then (λ x. Some x) o ≡ Some (at after []) → o ≡ Some (at after [])
    ends None h = h
    ends (Some x) h = h
none_goes_on front (c ∷ cs) σ e r = λ more is.
    let stuck : run start (front ++ ((c ∷ more) ++ 32 ∷ [])) ≡ None = run-append start σ front ((c ∷ more) ++ 32 ∷ []) e ∙ ap (option_and_then (λ x. run x (more ++ 32 ∷ []))) r in
    let same = append_assoc front (c ∷ more) (32 ∷ []) in
    never (sym stuck ∙ ap (run start) (sym same) ∙ is)
  where
    never : ◌≡◌ {A = Option State} None (Some (at after [])) → ⊥
    never h = cc
