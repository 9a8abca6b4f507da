-- What a request brings about, in order: what the toy kernel publishes and replies, its pauses and its end.
use Rattle.std.specs.Prelude.{ℕ, pos, List, [], ◌∷◌, ◌++◌, map, codes}
use Rattle.world.specs.declared.chan.Chan.TheVariants as chan
use Rattle.toy_lang.specs.declared.effect.Effect.{Effect}
use Rattle.toy_lang.specs.declared.effect.Effect.TheVariants as effect
use Rattle.toy_lang.specs.ToyOut as out
use Rattle.toy_lang.specs.ToyOut.{Message, close}
use Rattle.toy_core.specs.declared.note.Note.{Note}
use Rattle.toy_core.specs.declared.note.Note.TheVariants.{Say, Rest, Stop}
use Rattle.toy_core.specs.Contents.{kernel_info_reply}

-- a message on IOPub
abbrev pub publish : Message → Note
publish m = Say chan.Iopub m

-- a message on shell
abbrev pub reply : Message → Note
reply m = Say chan.Shell m

-- the kernel begins to work
abbrev pub busy : Note
busy = publish (out.status (codes "busy"))

-- the kernel is at rest again
abbrev pub idle : Note
idle = publish (out.status (codes "idle"))

-- what an effect does in the cell with this count
abbrev pub note_of : ℕ → Effect → Note
note_of count (effect.Print err text) = publish (out.stream err text)
note_of count (effect.Show id text update) = publish (out.display id text update)
note_of count (effect.Clear later) = publish (out.clear later)
note_of count (effect.Outcome text) = publish (out.outcome count text)
note_of count (effect.Raise ename evalue) = publish (out.error ename evalue)
note_of count (effect.Sleep ms) = Rest ms
note_of count effect.Die = Stop (pos 1)

-- the reply, which goes to shell, and what is published after it
abbrev pub reply_notes : List Message → List Note
reply_notes [] = []
reply_notes (m ∷ ms) = reply m ∷ map publish ms

-- a cell: busy, the input, its effects, the reply and idle
abbrev pub cell_notes : List ℕ → ℕ → List Effect → List Note
cell_notes code count es =
    busy ∷ publish (out.input code count) ∷ (map (note_of count) es ++ reply_notes (close count es))

-- what a request for information on the kernel brings
abbrev pub info_notes : List Note
info_notes = busy ∷ reply kernel_info_reply ∷ idle ∷ []

-- the error that ends an interrupted cell
abbrev pub interruption : Effect
interruption = effect.Raise (codes "KeyboardInterrupt") []

-- what ends an interrupted cell
abbrev pub interrupted_notes : ℕ → List Note
interrupted_notes count = note_of count interruption ∷ reply_notes (close count (interruption ∷ []))

-- one message on control
abbrev pub control_notes : Message → List Note
control_notes m = Say chan.Control m ∷ []

-- the messages that notes say
abbrev pub messages_in : List Note → List Message
messages_in [] = []
messages_in (Say c m ∷ notes) = m ∷ messages_in notes
messages_in (Rest ms ∷ notes) = messages_in notes
messages_in (Stop status ∷ notes) = messages_in notes
