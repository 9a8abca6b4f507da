-- A word with its names replaced is one text.
use Rattle.std.proofs.Common.{◌≡◌, ℕ, List, [], ◌∷◌, ◌++◌, refl, ap, ap₂}
use Rattle.kspec.specs.Arguments.{IsFilled, AreFilled}
use Rattle.kspec.specs.Arguments.IsFilled.{end, file_put, folder_put, byte_kept}

pub one_text : (file folder word a b : List ℕ) → IsFilled file folder word a → IsFilled file folder word b → a ≡ b
one_text file folder _ _ _ end end = refl
one_text file folder _ _ _ (file_put {rest} {out} f) (file_put {rest = rest'} {out = out'} g) = ap (λ x. file ++ x) (one_text file folder rest out out' f g)
one_text file folder _ _ _ (folder_put {rest} {out} f) (folder_put {rest = rest'} {out = out'} g) = ap (λ x. folder ++ x) (one_text file folder rest out out' f g)
one_text file folder _ _ _ (byte_kept {c} {rest} {out} x y f) (byte_kept {c = c'} {rest = rest'} {out = out'} x' y' g) = ap (λ z. c ∷ z) (one_text file folder rest out out' f g)
one_text file folder _ _ _ (file_put {rest} f) (byte_kept x y g) = absurd (x rest refl)
one_text file folder _ _ _ (folder_put {rest} f) (byte_kept x y g) = absurd (y rest refl)
one_text file folder _ _ _ (byte_kept x y g) (file_put {rest} f) = absurd (x rest refl)
one_text file folder _ _ _ (byte_kept x y g) (folder_put {rest} f) = absurd (y rest refl)

pub one_filling : (file folder : List ℕ) (words a b : List (List ℕ)) → AreFilled file folder words a → AreFilled file folder words b → a ≡ b
one_filling file folder [] [] [] f g = refl
one_filling file folder [] [] (y ∷ ys) f g = elim g [ ]
one_filling file folder [] (x ∷ xs) b f g = elim f [ ]
one_filling file folder (w ∷ ws) [] b f g = elim f [ ]
one_filling file folder (w ∷ ws) (x ∷ xs) [] f g = elim g [ ]
one_filling file folder (w ∷ ws) (x ∷ xs) (y ∷ ys) (f, fs) (g, gs) = ap₂ (λ p ps. p ∷ ps) (one_text file folder w x y f g) (one_filling file folder ws xs ys fs gs)
