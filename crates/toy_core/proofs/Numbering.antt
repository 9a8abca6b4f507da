-- What is done for one note more.
use Rattle.std.proofs.Common.{◌≡◌, ℕ, List, [], ◌∷◌, ◌++◌, refl, sym, ap, ◌∙◌, append_assoc}
use Rattle.jtext.specs.declared.json.Json.{Json}
use Rattle.toy_core.specs.declared.act.Act.{Act}
use Rattle.toy_core.specs.declared.note.Note.{Note}
use Rattle.toy_core.specs.Sending.{act_of, acts_of, number_after, number_after_all}

acts-push : (key : List ℕ) (parent : Json) (n : ℕ) (notes : List Note) (x : Note)
    → acts_of key parent n (notes ++ x ∷ []) ≡ acts_of key parent n notes ++ act_of key parent (number_after_all n notes) x ∷ []
acts-push key parent n [] x = refl
acts-push key parent n (y ∷ notes) x = ap (λ l. act_of key parent n y ∷ l) (acts-push key parent (number_after n y) notes x)

pub number-push : (n : ℕ) (notes : List Note) (x : Note) → number_after_all n (notes ++ x ∷ []) ≡ number_after (number_after_all n notes) x
number-push n [] x = refl
number-push n (y ∷ notes) x = number-push (number_after n y) notes x

pub written_more : (key : List ℕ) (parent : Json) (n number : ℕ) (before out new : List Act) (notes : List Note) (x : Note)
    → out ≡ before ++ acts_of key parent n notes → number ≡ number_after_all n notes → new ≡ out ++ act_of key parent number x ∷ []
    → new ≡ before ++ acts_of key parent n (notes ++ x ∷ [])
written_more key parent n number before out new notes x e k h =
    h ∙ ap (λ l. l ++ act_of key parent number x ∷ []) e ∙ ap (λ m. (before ++ acts_of key parent n notes) ++ act_of key parent m x ∷ []) k
    ∙ append_assoc before (acts_of key parent n notes) (act_of key parent (number_after_all n notes) x ∷ [])
    ∙ ap (λ l. before ++ l) (sym (acts-push key parent n notes x))

pub numbered_more : (n number new : ℕ) (notes : List Note) (x : Note) → number ≡ number_after_all n notes → new ≡ number_after number x
    → new ≡ number_after_all n (notes ++ x ∷ [])
numbered_more n number new notes x k h = h ∙ ap (λ m. number_after m x) k ∙ sym (number-push n notes x)
