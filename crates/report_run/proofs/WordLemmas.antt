-- Which inputs a report would write over.
use Rattle.std.proofs.Common.{◌≡◌, ℕ, Bool, true, false, List, [], ◌∷◌, ◌++◌, codes, refl, sym, ◌∙◌, ap}
use Rattle.std.specs.Prelude.{◌||◌}
use Rattle.std.specs.Str.{bytes_eq}
use Rattle.std.proofs.lemmas.Bool.{true≢false, false_from_ne_true}
use Rattle.std.proofs.lemmas.Slice.Eq.{bytes_eq-Decides}
use Rattle.world.specs.Save.{temporary_of}
use Rattle.report_run.specs.Words.{is_written}

cancel : (o x y : List ℕ) → o ++ x ≡ o ++ y → x ≡ y
cancel [] x y e = e
cancel (c ∷ cs) x y e = cancel cs x y (cc)

either : (a b : Bool) → a ≡ false → b ≡ (a || b)
either true b e = absurd (true≢false e)
either false b e = refl

pub written_same : (i o : List ℕ) → bytes_eq i o ≡ true → true ≡ is_written i o
written_same i o e = ap (λ b. b || bytes_eq i (temporary_of o)) (sym e)

pub written_none : (i o : List ℕ) → bytes_eq i o ≡ false → ((rest : List ℕ) → i ≡ o ++ rest → ⊥) → false ≡ is_written i o
written_none i o e none =
    sym (false_from_ne_true (bytes_eq i (temporary_of o)) (λ is. absurd (none (codes ".nbrun-tmp") ((bytes_eq-Decides i (temporary_of o)).0 is))))
    ∙ either (bytes_eq i o) (bytes_eq i (temporary_of o)) e

pub written_rest : (i o rest : List ℕ) → bytes_eq i o ≡ false → i ≡ o ++ rest → bytes_eq rest (codes ".nbrun-tmp") ≡ is_written i o
written_rest i o rest e is = by (bytes_eq rest (codes ".nbrun-tmp")) refl ∙ either (bytes_eq i o) (bytes_eq i (temporary_of o)) e
  where
    by : (b : Bool) → bytes_eq rest (codes ".nbrun-tmp") ≡ b → bytes_eq rest (codes ".nbrun-tmp") ≡ bytes_eq i (temporary_of o)
    by true t = t ∙ sym ((bytes_eq-Decides i (temporary_of o)).1 (is ∙ ap (λ x. o ++ x) ((bytes_eq-Decides rest (codes ".nbrun-tmp")).0 t)))
    by false f =
        f ∙ sym (false_from_ne_true (bytes_eq i (temporary_of o)) (λ same. absurd (true≢false
        (sym ((bytes_eq-Decides rest (codes ".nbrun-tmp")).1 (cancel o rest (codes ".nbrun-tmp") (sym is ∙ (bytes_eq-Decides i (temporary_of o)).0 same))) ∙ f))))
