-- A literal, character by character.
use Rattle.std.proofs.Common.{◌≡◌, ℕ, ◌+◌, ◌<◌, List, [], ◌∷◌, ◌++◌, length, get_or, drop, Option, Some, None, option_map, refl, sym, ap, ◌∙◌, append_assoc, arith}
use Rattle.std.proofs.lemmas.List.{at_drop_more, at_drop_all, length_push}
use Rattle.std.specs.Prelude.{option_and_then}
use Rattle.toy_lang.specs.declared.literal.Stage.{Stage}
use Rattle.toy_lang.specs.declared.literal.Stage.TheVariants.{Unopened, Open, Escape, Code, Closed}
use Rattle.toy_lang.specs.Literals.{advance, bytes_of, ending, text_from}

-- what stands before is put before both
two_parts : (out more : List ℕ) (r : Option (List ℕ))
    → option_map (λ t. out ++ t) (option_map (λ t. more ++ t) r) ≡ option_map (λ t. (out ++ more) ++ t) r
two_parts out more None = refl
two_parts out more (Some t) = ap Some (sym (append_assoc out more t))

-- the text with what stands before the rest
abbrev pub text_with : List ℕ → Stage → List ℕ → Option (List ℕ)
text_with out stage cs = option_map (λ t. out ++ t) (text_from stage cs)

-- one more character
pub one_more : (out : List ℕ) (stage next : Stage) (put : Option ℕ) (c : ℕ) (cs : List ℕ)
    → advance stage c ≡ Some (put, next)
    → text_with (out ++ bytes_of put) next cs ≡ text_with out stage (c ∷ cs)
one_more out stage next put c cs e =
    sym (ap (λ r. option_map (λ t. out ++ t) (option_and_then
    (λ s. option_map (λ text. bytes_of s.0 ++ text) (text_from s.1 cs)) r)) e
    ∙ two_parts out (bytes_of put) (text_from next cs))

-- a character that can't stand there
pub refused : (out : List ℕ) (stage : Stage) (c : ℕ) (cs : List ℕ)
    → advance stage c ≡ None → text_with out stage (c ∷ cs) ≡ None
refused out stage c cs e =
    ap (λ r. option_map (λ t. out ++ t) (option_and_then
    (λ s. option_map (λ text. bytes_of s.0 ++ text) (text_from s.1 cs)) r)) e

-- this turn's character is the next one of the literal
next_char : (out : List ℕ) (stage : Stage) (cs : List ℕ) (n c : ℕ) → (n < length cs) × (c ≡ get_or cs n c)
    → text_with out stage (drop n cs) ≡ text_with out stage (c ∷ drop (n + 1) cs)
next_char out stage cs n c h =
    at_drop_more (text_with out stage) cs n c h.0 ∙ ap (λ x. text_with out stage (x ∷ drop (n + 1) cs)) (sym h.1)

-- the invariant after a turn
pub after_turn : (out new : List ℕ) (stage next : Stage) (put : Option ℕ) (cs yielded : List ℕ) (c : ℕ)
    (whole : Option (List ℕ))
    → (length yielded < length cs) × (c ≡ get_or cs (length yielded) c)
    → advance stage c ≡ Some (put, next) → new ≡ out ++ bytes_of put
    → text_with out stage (drop (length yielded) cs) ≡ whole
    → text_with new next (drop (length (yielded ++ c ∷ [])) cs) ≡ whole
after_turn out new stage next put cs yielded c whole turn step grown before =
    ap (λ k. text_with new next (drop k cs)) (length_push yielded c)
    ∙ ap (λ o. text_with o next (drop (length yielded + 1) cs)) grown
    ∙ one_more out stage next put c (drop (length yielded + 1) cs) step
    ∙ sym (next_char out stage cs (length yielded) c turn) ∙ before

-- a turn whose character can't stand there
pub refused_turn : (out : List ℕ) (stage : Stage) (cs yielded : List ℕ) (c : ℕ) (whole : Option (List ℕ))
    → (length yielded < length cs) × (c ≡ get_or cs (length yielded) c)
    → advance stage c ≡ None
    → text_with out stage (drop (length yielded) cs) ≡ whole → None ≡ whole
refused_turn out stage cs yielded c whole turn step before =
    sym (next_char out stage cs (length yielded) c turn ∙ refused out stage c (drop (length yielded + 1) cs) step)
    ∙ before

-- after the last turn
pub at_end : (out : List ℕ) (stage : Stage) (cs yielded : List ℕ) (whole : Option (List ℕ))
    → length yielded ≡ length cs
    → text_with out stage (drop (length yielded) cs) ≡ whole → option_map (λ t. out ++ t) (ending stage) ≡ whole
at_end out stage cs yielded whole all before =
    sym (at_drop_all (text_with out stage) cs (length yielded) (omega (arith, all))) ∙ before

-- a literal that isn't closed is none
pub unclosed : (out : List ℕ) (stage : Stage) → (stage ≡ Closed → ⊥)
    → option_map (λ t. out ++ t) (ending stage) ≡ None
unclosed out Unopened other = refl
unclosed out Open other = refl
unclosed out Escape other = refl
unclosed out (Code left code) other = refl
unclosed out Closed other = absurd (other refl)
