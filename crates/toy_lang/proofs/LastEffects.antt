-- Nothing follows the last effect of a text.
use Rattle.std.proofs.Common.{◌≡◌, ℕ, Bool, true, false, cond, List, [], ◌∷◌, ◌++◌, refl, sym, ap, ◌∙◌}
use Rattle.toy_lang.specs.declared.deed.Deed.{Deed}
use Rattle.toy_lang.specs.declared.deed.Deed.TheVariants.{Pass, Set, Give}
use Rattle.toy_lang.specs.declared.effect.Effect.{Effect}
use Rattle.toy_lang.specs.Variables.{Variables}
use Rattle.toy_lang.specs.Lines.{deed}
use Rattle.toy_lang.specs.Runs.{is_last, effects_of, ends, variables_of, effects_from}

-- what stands behind a last effect is nothing
abbrev pub IsClosed : List Effect → Type 0
IsClosed es = (before after : List Effect) (e : Effect) → es ≡ before ++ e ∷ after → is_last e ≡ true → after ≡ []

not_true : false ≡ true → ⊥
not_true e = cc

none_there : (before after : List Effect) (e : Effect) → ◌≡◌ {A = List Effect} [] (before ++ e ∷ after) → ⊥
none_there [] after e eq = cc
none_there (y ∷ ys) after e eq = cc

alone : (x : Effect) → IsClosed (x ∷ [])
alone x [] after e eq last = cc
alone x (y ∷ ys) after e eq last = absurd
    (none_there ys after e (let t : ◌≡◌ {A = List Effect} [] (ys ++ e ∷ after) = cc in t))

before_more : (x : Effect) (rest : List Effect) → is_last x ≡ false → IsClosed rest → IsClosed (x ∷ rest)
before_more x rest more closed [] after e eq last =
    let same : x ≡ e = cc in absurd (not_true (sym more ∙ ap is_last same ∙ last))
before_more x rest more closed (y ∷ ys) after e eq last = closed ys after e (cc) last

by_effect : (x : Effect) (rest : List Effect) (b : Bool) → is_last x ≡ b → IsClosed rest
    → IsClosed ((x ∷ []) ++ cond b [] rest)
by_effect x rest true e closed = alone x
by_effect x rest false e closed = before_more x rest e closed

by_deed : (d : Deed) (rest : List Effect) → IsClosed rest → IsClosed (effects_of d ++ cond (ends d) [] rest)
by_deed Pass rest closed = closed
by_deed (Set name value) rest closed = closed
by_deed (Give x) rest closed = by_effect x rest (is_last x) refl closed

pub closed_effects : (vars : Variables) (ls : List (List ℕ)) → IsClosed (effects_from vars ls)
closed_effects vars [] = λ before after e eq last. absurd (none_there before after e eq)
closed_effects vars (l ∷ ls) =
    by_deed (deed vars l) (effects_from (variables_of (deed vars l) vars) ls)
    (closed_effects (variables_of (deed vars l) vars) ls)
