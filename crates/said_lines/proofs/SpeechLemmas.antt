-- What is said changes no file, and what is heard of it.
use Rattle.std.proofs.Common.{◌≡◌, ◌⊎◌, inl, inr, ℕ, ◌<◌, List, [], ◌++◌, take, drop, refl, sym, ◌∙◌, ap, append_assoc, arith}
use Rattle.std.proofs.lemmas.Grind.{common_steps}
use Rattle.std.proofs.lemmas.List.{take-append-drop, append-nil}
use Rattle.world.specs.Counts.{Rose}
use Rattle.world.specs.declared.entry.Entry.{Entry}
use Rattle.world.specs.Moments.{Since, start, more as later}
use Rattle.world.specs.Parts.{OnSay, IsOf}
use Rattle.said_lines.specs.Speech.{Speech, Says, heard}
use Rattle.said_lines.specs.Speech as said

-- ---- its entries

speech_since : {text : List ℕ} {before : List Entry} {rest : List ℕ} {after : List Entry} → Speech text before rest after → Since (IsOf OnSay) before after
speech_since said.none = start
speech_since (said.more n before) = later (speech_since before) refl

pub says_since : {text : List ℕ} {failed : Type 0} {before after : List Entry} → Says text failed before after → Since (IsOf OnSay) before after
says_since (said.whole speech) = speech_since speech
says_since (said.cut f speech) = speech_since speech
says_since (said.refused f speech) = later (speech_since speech) refl

-- ---- what is heard

-- what was said and what is left are the text
pub speech_heard : {text : List ℕ} {before : List Entry} {rest : List ℕ} {after : List Entry} → Speech text before rest after → heard after ++ rest ≡ heard before ++ text
speech_heard said.none = refl
speech_heard (said.more {rest} {past} n before) = append_assoc (heard past) (take n rest) (drop n rest) ∙ ap (λ xs. heard past ++ xs) (take-append-drop n rest) ∙ speech_heard before

pub heard_text : {text : List ℕ} {failed : Type 0} {before after : List Entry} → heard before ≡ [] → Says text failed before after → (heard after ≡ text) ⊎ (failed × said.IsFront (heard after) text)
heard_text {text} {after = after} silent (said.whole speech) = inl (sym (append-nil (heard after)) ∙ speech_heard speech ∙ ap (λ h. h ++ text) silent)
heard_text {text} silent (said.cut {rest} f speech) = inr (f, record { rest = rest; whole = speech_heard speech ∙ ap (λ h. h ++ text) silent })
heard_text {text} silent (said.refused {rest} f speech) = inr (f, record { rest = rest; whole = speech_heard speech ∙ ap (λ h. h ++ text) silent })

-- ---- for the saying

-- a count that rose isn't 0
pub rose_above : (a b : ℕ) → Rose a b → 0 < b
rose_above a b rose = grind (arith, common_steps)
