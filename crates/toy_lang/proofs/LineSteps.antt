-- A text, line by line.
use Rattle.std.proofs.Common.{◌≡◌, ℕ, ◌+◌, ◌<◌, ◌≤◌, true, false, cond, List, [], ◌∷◌, ◌++◌, length, get_or, drop, sym, ap, subst, ◌∙◌, append_assoc, arith}
use Rattle.std.proofs.lemmas.List.{at_drop_more, at_drop_all, length_push, append-nil}
use Rattle.toy_lang.specs.declared.deed.Deed.{Deed}
use Rattle.toy_lang.specs.declared.deed.Deed.TheVariants.{Pass, Set, Give}
use Rattle.toy_lang.specs.declared.effect.Effect.{Effect}
use Rattle.toy_lang.specs.Variables.{Variables, with_variable}
use Rattle.toy_lang.specs.Lines.{deed}
use Rattle.toy_lang.specs.Runs.{is_last, effects_of, ends, variables_of, effects_from, variables_from}

-- the effects of a first line that does this
effects_by : (vars : Variables) (l : List ℕ) (ls : List (List ℕ)) (d : Deed) → d ≡ deed vars l
    → effects_from vars (l ∷ ls) ≡ effects_of d ++ cond (ends d) [] (effects_from (variables_of d vars) ls)
effects_by vars l ls d e = sym (ap (λ x. effects_of x ++ cond (ends x) [] (effects_from (variables_of x vars) ls)) e)

-- the variables after it
variables_by : (vars : Variables) (l : List ℕ) (ls : List (List ℕ)) (d : Deed) → d ≡ deed vars l
    → variables_from vars (l ∷ ls) ≡ cond (ends d) vars (variables_from (variables_of d vars) ls)
variables_by vars l ls d e = sym (ap (λ x. cond (ends x) vars (variables_from (variables_of x vars) ls)) e)

-- what stands before the effects of these lines makes up all effects, and they leave these variables
abbrev pub Stands : Variables → List (List ℕ) → List Effect → List Effect → Variables → Type 0
Stands vars ls out all after = (out ++ effects_from vars ls ≡ all) × (variables_from vars ls ≡ after)

-- a line that does nothing
pub passes : (vars : Variables) (l : List ℕ) (ls : List (List ℕ)) (out all : List Effect) (after : Variables)
    → Pass ≡ deed vars l → Stands vars (l ∷ ls) out all after → Stands vars ls out all after
passes vars l ls out all after e s =
    (sym (ap (λ x. out ++ x) (effects_by vars l ls Pass e)) ∙ s.0, sym (variables_by vars l ls Pass e) ∙ s.1)

-- a line that sets a variable
pub sets : (vars : Variables) (l : List ℕ) (ls : List (List ℕ)) (out all : List Effect) (after : Variables)
    (name value : List ℕ) (next : Variables)
    → Set name value ≡ deed vars l → next ≡ with_variable name value vars → Stands vars (l ∷ ls) out all after
    → Stands next ls out all after
sets vars l ls out all after name value next e n s = (
  ap (λ v. out ++ effects_from v ls) n ∙ sym (ap (λ x. out ++ x) (effects_by vars l ls (Set name value) e)) ∙ s.0,
  ap (λ v. variables_from v ls) n ∙ sym (variables_by vars l ls (Set name value) e) ∙ s.1,
)

-- a line with an effect that something may follow
pub gives : (vars : Variables) (l : List ℕ) (ls : List (List ℕ)) (out all : List Effect) (after : Variables)
    (x : Effect) (new : List Effect)
    → Give x ≡ deed vars l → is_last x ≡ false → new ≡ out ++ x ∷ [] → Stands vars (l ∷ ls) out all after
    → Stands vars ls new all after
gives vars l ls out all after x new e n grown s = (
  ap (λ o. o ++ effects_from vars ls) grown ∙ append_assoc out (x ∷ []) (effects_from vars ls)
      ∙ sym (ap (λ y. out ++ y) (effects_by vars l ls (Give x) e
      ∙ ap (λ b. (x ∷ []) ++ cond b [] (effects_from vars ls)) n)) ∙ s.0,
  sym (variables_by vars l ls (Give x) e ∙ ap (λ b. cond b vars (variables_from vars ls)) n) ∙ s.1,
)

-- a line with the last effect
pub closes : (vars : Variables) (l : List ℕ) (ls : List (List ℕ)) (out all : List Effect) (after : Variables)
    (x : Effect) (new : List Effect)
    → Give x ≡ deed vars l → is_last x ≡ true → new ≡ out ++ x ∷ [] → Stands vars (l ∷ ls) out all after
    → (new ≡ all) × (vars ≡ after)
closes vars l ls out all after x new e y grown s = (
  grown ∙ sym (ap (λ z. out ++ z) (effects_by vars l ls (Give x) e
      ∙ ap (λ b. (x ∷ []) ++ cond b [] (effects_from vars ls)) y)) ∙ s.0,
  sym (variables_by vars l ls (Give x) e ∙ ap (λ b. cond b vars (variables_from vars ls)) y) ∙ s.1,
)

-- this turn's line is the next one of the text
pub at_turn : {A : Type 0} (vars : Variables) (all_lines : List (List ℕ)) (yielded : List A) (a : A) (l : List ℕ)
    (out all : List Effect) (after : Variables)
    → (length yielded < length all_lines) × (l ≡ get_or all_lines (length yielded) l)
    → Stands vars (drop (length yielded) all_lines) out all after
    → Stands vars (l ∷ drop (length (yielded ++ a ∷ [])) all_lines) out all after
at_turn vars all_lines yielded a l out all after turn s =
    let P : List (List ℕ) → Type 0 = λ ls. Stands vars ls out all after in
    let e : drop (length yielded) all_lines ≡ l ∷ drop (length (yielded ++ a ∷ [])) all_lines =
    at_drop_more (λ ls. ls) all_lines (length yielded) l turn.0
    ∙ ap (λ x. x ∷ drop (length yielded + 1) all_lines) (sym turn.1)
    ∙ ap (λ k. l ∷ drop k all_lines) (sym (length_push yielded a)) in
    subst P e s

-- after the last turn
pub at_end : {A : Type 0} (vars : Variables) (all_lines : List (List ℕ)) (yielded : List A) (out all : List Effect)
    (after : Variables)
    → length yielded ≡ length all_lines → Stands vars (drop (length yielded) all_lines) out all after → (out ≡ all)
    × (vars ≡ after)
at_end vars all_lines yielded out all after e s =
    let le : length all_lines ≤ length yielded = omega (arith, e) in (
      sym (append-nil out) ∙ sym (at_drop_all (λ ls. out ++ effects_from vars ls) all_lines (length yielded) le)
          ∙ s.0,
      sym (at_drop_all (variables_from vars) all_lines (length yielded) le) ∙ s.1,
    )
