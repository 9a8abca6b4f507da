-- What a cell says is what is published for its text.
use Rattle.std.proofs.Common.{◌≡◌, ℕ, List, [], ◌∷◌, ◌++◌, map, flat_map, refl, ap, ◌∙◌, codes}
use Rattle.toy_lang.specs.declared.effect.Effect.{Effect}
use Rattle.toy_lang.specs.declared.effect.Effect.TheVariants as effect
use Rattle.toy_lang.specs.ToyOut as out
use Rattle.toy_lang.specs.ToyOut.{Message, messages_of, close, publication}
use Rattle.toy_core.specs.declared.note.Note.{Note}
use Rattle.toy_core.specs.declared.note.Note.TheVariants.{Say, Rest, Stop}
use Rattle.toy_core.specs.Notes.{publish, note_of, reply_notes, cell_notes, messages_in}

both : (xs ys : List Note) → messages_in (xs ++ ys) ≡ messages_in xs ++ messages_in ys
both [] ys = refl
both (Say c m ∷ xs) ys = ap (λ l. m ∷ l) (both xs ys)
both (Rest ms ∷ xs) ys = both xs ys
both (Stop status ∷ xs) ys = both xs ys

effects_said : (count : ℕ) (es : List Effect) → messages_in (map (note_of count) es) ≡ flat_map (messages_of count) es
effects_said count [] = refl
effects_said count (effect.Print err text ∷ es) = ap (λ l. out.stream err text ∷ l) (effects_said count es)
effects_said count (effect.Show id text update ∷ es) = ap (λ l. out.display id text update ∷ l) (effects_said count es)
effects_said count (effect.Clear later ∷ es) = ap (λ l. out.clear later ∷ l) (effects_said count es)
effects_said count (effect.Outcome text ∷ es) = ap (λ l. out.outcome count text ∷ l) (effects_said count es)
effects_said count (effect.Raise ename evalue ∷ es) = ap (λ l. out.error ename evalue ∷ l) (effects_said count es)
effects_said count (effect.Sleep ms ∷ es) = effects_said count es
effects_said count (effect.Die ∷ es) = effects_said count es

published_said : (ms : List Message) → messages_in (map publish ms) ≡ ms
published_said [] = refl
published_said (m ∷ ms) = ap (λ l. m ∷ l) (published_said ms)

delivered_said : (ms : List Message) → messages_in (reply_notes ms) ≡ ms
delivered_said [] = refl
delivered_said (m ∷ ms) = ap (λ l. m ∷ l) (published_said ms)

pub cell_said : (code : List ℕ) (count : ℕ) (es : List Effect) → messages_in (cell_notes code count es) ≡ publication code count es
cell_said code count es =
    let rest = both (map (note_of count) es) (reply_notes (close count es))
    ∙ ap (λ l. l ++ messages_in (reply_notes (close count es))) (effects_said count es)
    ∙ ap (λ l. flat_map (messages_of count) es ++ l) (delivered_said (close count es)) in
    ap (λ l. out.status (codes "busy") ∷ out.input code count ∷ l) rest
