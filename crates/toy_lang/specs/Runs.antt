-- What texts of the toy language do.
use Rattle.std.specs.Prelude.{ℕ, Bool, true, false, List, [], ◌∷◌, ◌++◌, if◌then◌else◌, ◌==◌}
use Rattle.std.specs.List.{slice_split}
use Rattle.toy_lang.specs.declared.deed.Deed.{Deed}
use Rattle.toy_lang.specs.declared.deed.Deed.TheVariants.{Pass, Set, Give}
use Rattle.toy_lang.specs.declared.effect.Effect.{Effect}
use Rattle.toy_lang.specs.declared.effect.Effect.TheVariants as effect
use Rattle.toy_lang.specs.Variables.{Variables, with_variable}
use Rattle.toy_lang.specs.Lines.{deed}

-- ---- one line

-- nothing follows an error, nor the end of the kernel
abbrev pub is_last : Effect → Bool
is_last (effect.Raise ename evalue) = true
is_last effect.Die = true
is_last (effect.Print err text) = false
is_last (effect.Show id text update) = false
is_last (effect.Clear later) = false
is_last (effect.Outcome text) = false
is_last (effect.Sleep ms) = false

-- the effect of what a line does, if it has one
abbrev pub effects_of : Deed → List Effect
effects_of Pass = []
effects_of (Set name value) = []
effects_of (Give e) = e ∷ []

-- the line is the last one that is run
abbrev pub ends : Deed → Bool
ends Pass = false
ends (Set name value) = false
ends (Give e) = is_last e

-- the variables after it
abbrev pub variables_of : Deed → Variables → Variables
variables_of Pass vars = vars
variables_of (Set name value) vars = with_variable name value vars
variables_of (Give e) vars = vars

-- ---- all lines

-- the lines of a text, cut at U+000A
abbrev pub lines : List ℕ → List (List ℕ)
lines text = slice_split (λ c. c == 10) text

-- the effects of lines, where the variables are these
abbrev pub effects_from : Variables → List (List ℕ) → List Effect
effects_from vars [] = []
effects_from vars (l ∷ ls) =
    effects_of (deed vars l)
    ++ (if ends (deed vars l) then [] else effects_from (variables_of (deed vars l) vars) ls)

-- the variables after lines
abbrev pub variables_from : Variables → List (List ℕ) → Variables
variables_from vars [] = vars
variables_from vars (l ∷ ls) =
    if ends (deed vars l) then vars else variables_from (variables_of (deed vars l) vars) ls

-- the effects of a text, where the variables are these
abbrev pub effects : Variables → List ℕ → List Effect
effects vars text = effects_from vars (lines text)

-- the variables that the whole text leaves
abbrev pub variables_after : Variables → List ℕ → Variables
variables_after vars text = variables_from vars (lines text)
