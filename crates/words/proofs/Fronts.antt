-- A text is another one with an ending where it begins with that one, and the ending is what is left.
use Rattle.std.proofs.lemmas.Cmp.{nat_eq_equiv}
use Rattle.std.proofs.Common.{◌≡◌, ℕ, ◌&&◌, nat_eq, List, [], ◌∷◌, ◌++◌, length, drop, refl, sym, ap, ◌∙◌}
use Rattle.std.specs.Str.{bytes_eq}
use Rattle.std.specs.List.{starts_with}
use Rattle.std.proofs.Math.Bool.{and_assoc}

pub beside : (output path ending : List ℕ) → bytes_eq path (output ++ ending) ≡ (starts_with nat_eq path output && bytes_eq (drop (length output) path) ending)
beside [] path ending = refl
beside (o ∷ os) [] ending = refl
beside (o ∷ os) (c ∷ cs) ending =
    ap (λ b. b && bytes_eq cs (os ++ ending)) (nat_eq_equiv.symm c o)
    ∙ ap (λ b. nat_eq o c && b) (beside os cs ending)
    ∙ sym (and_assoc (nat_eq o c) (starts_with nat_eq cs os) (bytes_eq (drop (length os) cs) ending))
