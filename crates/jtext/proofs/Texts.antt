-- What spells a tree is a text of the looser grammar.
use Rattle.std.proofs.Common.{◌≡◌, ℕ, List, [], ◌∷◌, ◌++◌, inl, refl, ap, ◌∙◌, subst, append_assoc, arith}
use Rattle.std.specs.Option.{option_and_then}
use Rattle.jtext.specs.declared.json.Json.{Json}
use Rattle.jtext.specs.Grammar.{Spells, IsSpace}
use Rattle.jtext.specs.Depth.{depth}
use Rattle.jtext.proofs.Machine.{State, at, after, run, start, Like, Passed, Follows, IsText}
use Rattle.jtext.proofs.Fronts.{all-append}
use Rattle.jtext.proofs.Series.{Begins, ends_run}
use Rattle.jtext.proofs.Documents.{value_complete, begins}
use Rattle.jtext.proofs.Follows.{run-append, run_spaces, loops, after_loops, Bare}
use Rattle.jtext.proofs.Places.{value_follow}

pub bare_of : (s : List ℕ) → Begins s → Bare s
bare_of [] b = tt
bare_of (c ∷ cs) b = b.0

pub run_like : (ρ τ : State) (w : List ℕ) → Like ρ τ (w ++ 32 ∷ []) → run ρ (w ++ 32 ∷ []) ≡ run τ (w ++ 32 ∷ [])
run_like ρ τ [] l = ap (option_and_then (λ x. run x [])) l
run_like ρ τ (c ∷ cs) l = ap (option_and_then (λ x. run x (cs ++ 32 ∷ []))) l

pub spells_text : (t : Json) (b : List ℕ) → Spells t b → IsText b
spells_text t b is =
    let tail = is.after ++ 32 ∷ [] in
    let s = is.value ++ tail in
    let read = value_complete (depth t) t is.value is.is_value tail (omega arith) (ends_run is.after (32 ∷ []) is.is_after (inl (inl refl))) in
    let p : Passed start (at after []) s tail = subst (Follows start (at after []) s) read (value_follow (depth t) [] s (bare_of s (begins t is.value tail is.is_value))) in
    let whole : b ++ 32 ∷ [] ≡ is.before ++ s = ap (λ x. x ++ 32 ∷ []) is.text ∙ simp append_assoc in
    ap (run start) whole ∙ run-append start start is.before s (run_spaces start is.before (loops start refl refl refl refl) is.is_before)
    ∙ ap (run start) p.split ∙ run-append start p.place p.front tail p.runs ∙ run_like p.place (at after []) is.after p.like
    ∙ run_spaces (at after []) tail (after_loops []) (all-append IsSpace is.after (32 ∷ []) is.is_after (inl refl, tt))
