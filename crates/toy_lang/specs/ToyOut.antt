-- What the toy kernel publishes for texts that are run one after another, from busy to idle, with its replies
-- (Jupyter messaging 5.3, "Messages on the IOPub (PUB/SUB) channel", "Execution results").
use Rattle.std.specs.Prelude.{◌≡◌, ℕ, zero, suc, ◌+◌, Bool, true, false, List, [], ◌∷◌, ◌++◌, if◌then◌else◌, flat_map, codes}
use Rattle.std.specs.Fmt.{decimal}
use Rattle.std.specs.List.{list_any}
use Rattle.jtext.specs.declared.json.Json.{Json}
use Rattle.jtext.specs.declared.json.Json.TheVariants as json
use Rattle.toy_lang.specs.declared.effect.Effect.{Effect}
use Rattle.toy_lang.specs.declared.effect.Effect.TheVariants as effect
use Rattle.toy_lang.specs.Runs.{effects, variables_after}
use Rattle.toy_lang.specs.Variables.{Variables}

-- a message by its type and its content
abbrev pub Message : Type 0
Message = List ℕ × Json

-- ---- contents

-- `status` with an execution state
abbrev pub status : List ℕ → Message
status state = (codes "status", json.Obj ((codes "execution_state", json.Str state) ∷ []))

-- `execution_count`
abbrev pub count_pair : ℕ → List ℕ × Json
count_pair count = (codes "execution_count", json.Num (decimal count))

-- `execute_input`: the code and the count
abbrev pub input : List ℕ → ℕ → Message
input code count = (codes "execute_input", json.Obj ((codes "code", json.Str code) ∷ count_pair count ∷ []))

-- `data`: plain text alone
abbrev pub data_of : List ℕ → List ℕ × Json
data_of text = (codes "data", json.Obj ((codes "text/plain", json.Str text) ∷ []))

-- `metadata`, which is empty
abbrev pub metadata : List ℕ × Json
metadata = (codes "metadata", json.Obj [])

-- `transient`: the display id
abbrev pub transient : List ℕ → List ℕ × Json
transient id = (codes "transient", json.Obj ((codes "display_id", json.Str id) ∷ []))

-- `traceback`: the one string that has an error's name and value
abbrev pub traceback : List ℕ → List ℕ → List ℕ × Json
traceback ename evalue = (codes "traceback", json.Arr (json.Str (ename ++ codes ": " ++ evalue) ∷ []))

-- an error: its name, its value and its traceback
abbrev pub error_fields : List ℕ → List ℕ → List (List ℕ × Json)
error_fields ename evalue =
    (codes "ename", json.Str ename) ∷ (codes "evalue", json.Str evalue) ∷ traceback ename evalue ∷ []

-- the stream of that kind
abbrev pub stream_name : Bool → List ℕ
stream_name true = codes "stderr"
stream_name false = codes "stdout"

-- a display, or an update of one
abbrev pub display_kind : Bool → List ℕ
display_kind true = codes "update_display_data"
display_kind false = codes "display_data"

-- a stream
abbrev pub stream : Bool → List ℕ → Message
stream err text =
    (codes "stream", json.Obj ((codes "name", json.Str (stream_name err)) ∷ (codes "text", json.Str text) ∷ []))

-- a display under an id, or an update of it
abbrev pub display : List ℕ → List ℕ → Bool → Message
display id text update = (display_kind update, json.Obj (data_of text ∷ metadata ∷ transient id ∷ []))

-- `clear_output`
abbrev pub clear : Bool → Message
clear later = (codes "clear_output", json.Obj ((codes "wait", json.Bool later) ∷ []))

-- `execute_result`
abbrev pub outcome : ℕ → List ℕ → Message
outcome count text = (codes "execute_result", json.Obj (count_pair count ∷ data_of text ∷ metadata ∷ []))

-- `error`
abbrev pub error : List ℕ → List ℕ → Message
error ename evalue = (codes "error", json.Obj (error_fields ename evalue))

-- what an effect publishes in the cell with this count
abbrev pub messages_of : ℕ → Effect → List Message
messages_of count (effect.Print err text) = stream err text ∷ []
messages_of count (effect.Show id text update) = display id text update ∷ []
messages_of count (effect.Clear later) = clear later ∷ []
messages_of count (effect.Outcome text) = outcome count text ∷ []
messages_of count (effect.Raise ename evalue) = error ename evalue ∷ []
messages_of count (effect.Sleep ms) = []
messages_of count effect.Die = []

-- ---- replies

-- `execute_reply` with this status and these further fields
abbrev pub reply_with : List ℕ → ℕ → List (List ℕ × Json) → Message
reply_with state count fields =
    (codes "execute_reply", json.Obj ((codes "status", json.Str state) ∷ count_pair count ∷ fields))

-- the reply of a cell without an error
abbrev pub fine_reply : ℕ → Message
fine_reply count = reply_with (codes "ok") count []

-- the reply of a cell with one
abbrev pub error_reply : ℕ → List ℕ → List ℕ → Message
error_reply count ename evalue = reply_with (codes "error") count (error_fields ename evalue)

-- the reply and what follows it; a kernel that has ended sends neither
abbrev pub close : ℕ → List Effect → List Message
close count [] = fine_reply count ∷ status (codes "idle") ∷ []
close count (effect.Raise ename evalue ∷ es) = error_reply count ename evalue ∷ status (codes "idle") ∷ []
close count (effect.Die ∷ es) = []
close count (effect.Print err text ∷ es) = close count es
close count (effect.Show id text update ∷ es) = close count es
close count (effect.Clear later ∷ es) = close count es
close count (effect.Outcome text ∷ es) = close count es
close count (effect.Sleep ms ∷ es) = close count es

-- ---- texts

-- the end of the kernel
abbrev pub is_death : Effect → Bool
is_death effect.Die = true
is_death (effect.Print err text) = false
is_death (effect.Show id text update) = false
is_death (effect.Clear later) = false
is_death (effect.Outcome text) = false
is_death (effect.Raise ename evalue) = false
is_death (effect.Sleep ms) = false

-- what is published for a text with these effects, from busy to idle
abbrev pub publication : List ℕ → ℕ → List Effect → List Message
publication code count es =
    status (codes "busy") ∷ input code count ∷ (flat_map (messages_of count) es ++ close count es)

-- it begins with busy and ends with idle
abbrev pub IsFromBusyToIdle : List Message → Type 0
IsFromBusyToIdle ms =
    (between : List Message) × (ms ≡ status (codes "busy") ∷ (between ++ status (codes "idle") ∷ []))

-- what is published for the text at a place, where the first has this count and the variables are these
abbrev pub toy_out_from : Variables → ℕ → List (List ℕ) → ℕ → List Message
toy_out_from vars count [] k = []
toy_out_from vars count (t ∷ ts) zero = publication t count (effects vars t)
toy_out_from vars count (t ∷ ts) (suc k) =
    if list_any is_death (effects vars t) then [] else toy_out_from (variables_after vars t) (count + 1) ts k

-- what the kernel publishes for the text at place k, counted from 0, of texts that are run one after another
abbrev pub toy_out : List (List ℕ) → ℕ → List Message
toy_out texts k = toy_out_from [] 1 texts k
