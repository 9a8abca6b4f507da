-- Setting a variable, at the place where its name is found.
use Rattle.std.proofs.Common.{◌≡◌, ℕ, zero, suc, ◌+◌, ◌<◌, true, false, List, [], ◌∷◌, ◌++◌, Option, Some, None, length, get_or, set, refl, sym, ap, ◌∙◌, arith}
use Rattle.std.specs.List.{position, position_from}
use Rattle.std.specs.Str.{bytes_eq}
use Rattle.std.proofs.lemmas.Iterator.Adapters.{position_from-zero}
use Rattle.std.proofs.lemmas.Bool.{cond-true, cond-false}
use Rattle.std.proofs.lemmas.List.Quantifiers.{position-Some}
use Rattle.toy_lang.specs.Variables.{Variables, with_variable}
use Rattle.jtext.proofs.Edits.{not_first}

nothing : List ℕ × List ℕ
nothing = ([], [])

set_at : (name value : List ℕ) (vs : Variables) (i : ℕ) → i < length vs
    → bytes_eq (get_or vs i nothing).0 name ≡ true
    → ((k : ℕ) → k < i → bytes_eq (get_or vs k nothing).0 name ≡ false)
    → set vs i (name, value) ≡ with_variable name value vs
set_at name value [] i lt here none = absurd (omega arith)
set_at name value (v ∷ vs) zero lt here none =
    sym (cond-true (bytes_eq v.0 name) ((name, value) ∷ vs) (v ∷ with_variable name value vs) here)
set_at name value (v ∷ vs) (suc i) lt here none =
    ap (λ l. v ∷ l) (set_at name value vs i (omega arith) here (λ k below. none (suc k) (omega arith)))
    ∙ sym (cond-false (bytes_eq v.0 name) ((name, value) ∷ vs) (v ∷ with_variable name value vs)
    (none 0 (omega arith)))

-- to put the variable at the place of its name is to set it
pub set_variable_at : (name value : List ℕ) (vs : Variables) (i : ℕ)
    → position (λ v. bytes_eq v.0 name) vs ≡ Some i → set vs i (name, value) ≡ with_variable name value vs
set_variable_at name value vs i e =
    let is = position-Some (λ v. bytes_eq v.0 name) vs i nothing e in set_at name value vs i is.0 is.1 is.2

absent_from : (name value : List ℕ) (vs : Variables) (i : ℕ)
    → position_from (λ v. bytes_eq v.0 name) i vs ≡ None
    → vs ++ (name, value) ∷ [] ≡ with_variable name value vs
absent_from name value [] i e = refl
absent_from name value (v ∷ vs) i e =
    let h = not_first (bytes_eq v.0 name) i (position_from (λ w. bytes_eq w.0 name) (i + 1) vs) e in
    ap (λ l. v ∷ l) (absent_from name value vs (i + 1) h.1)
    ∙ sym (cond-false (bytes_eq v.0 name) ((name, value) ∷ vs) (v ∷ with_variable name value vs) h.0)

-- a name that has no place gets its value at the end
pub set_variable_last : (name value : List ℕ) (vs : Variables)
    → position (λ v. bytes_eq v.0 name) vs ≡ None → vs ++ (name, value) ∷ [] ≡ with_variable name value vs
set_variable_last name value vs e =
    absent_from name value vs 0 (sym (position_from-zero (λ v. bytes_eq v.0 name) vs) ∙ e)

-- the place of a name, in the list and by the text that were lent
pub placed : (vs lent : Variables) (name text : List ℕ) (r o : Option ℕ) → lent ≡ vs → text ≡ name
    → r ≡ position (λ v. bytes_eq v.0 text) lent → r ≡ o → position (λ v. bytes_eq v.0 name) vs ≡ o
placed vs lent name text r o a b p e =
    sym (ap (λ t. position (λ v. bytes_eq v.0 t) vs) b) ∙ sym (ap (position (λ v. bytes_eq v.0 text)) a) ∙ sym p ∙ e
