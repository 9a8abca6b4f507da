-- What is published for a text begins with busy and ends with idle.
use Rattle.std.proofs.Common.{◌≡◌, ℕ, true, false, List, [], ◌∷◌, ◌++◌, refl, sym, ap, ◌∙◌, append_assoc, flat_map}
use Rattle.std.specs.Prelude.{codes}
use Rattle.std.specs.List.{list_any}
use Rattle.toy_lang.specs.declared.effect.Effect.{Effect}
use Rattle.toy_lang.specs.declared.effect.Effect.TheVariants as effect
use Rattle.toy_lang.specs.ToyOut.{Message, status, input, messages_of, fine_reply, error_reply, close, is_death, publication, IsFromBusyToIdle}

not_false : true ≡ false → ⊥
not_false e = cc

-- a reply and idle end it
closed_by : (count : ℕ) (es : List Effect) → list_any is_death es ≡ false
    → (reply : Message) × (close count es ≡ reply ∷ status (codes "idle") ∷ [])
closed_by count [] e = (fine_reply count, refl)
closed_by count (effect.Raise ename evalue ∷ es) e = (error_reply count ename evalue, refl)
closed_by count (effect.Die ∷ es) e = absurd (not_false e)
closed_by count (effect.Print err text ∷ es) e = closed_by count es e
closed_by count (effect.Show id text update ∷ es) e = closed_by count es e
closed_by count (effect.Clear later ∷ es) e = closed_by count es e
closed_by count (effect.Outcome text ∷ es) e = closed_by count es e
closed_by count (effect.Sleep ms ∷ es) e = closed_by count es e

pub from_busy_to_idle : (code : List ℕ) (count : ℕ) (es : List Effect) → list_any is_death es ≡ false
    → IsFromBusyToIdle (publication code count es)
from_busy_to_idle code count es e =
    let c = closed_by count es e in
    let before : List Message = flat_map (messages_of count) es in
    let idle : List Message = status (codes "idle") ∷ [] in (
      input code count ∷ (before ++ c.0 ∷ []),
      ap (λ x. status (codes "busy") ∷ input code count ∷ (before ++ x)) c.1
          ∙ ap (λ x. status (codes "busy") ∷ input code count ∷ x) (sym (append_assoc before (c.0 ∷ []) idle)),
    )
