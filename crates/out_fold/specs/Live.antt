-- The meaning: which messages leave an output in their cell (Jupyter messaging 5.3, "Clear output").
use Rattle.std.specs.Prelude.{Bool, true, false, List, [], ◌∷◌, ◌&&◌, not, if◌then◌else◌}
use Rattle.std.specs.List.{list_any}
use Rattle.jcontent.specs.declared.content.Content.{Content}
use Rattle.jcontent.specs.declared.content.Content.TheVariants as content

-- the message makes an output
abbrev pub appends : Content → Bool
appends (content.Stream name text) = true
appends (content.Display shown) = true
appends (content.Outcome shown count) = true
appends (content.Error ename evalue traceback) = true
appends _ = false

-- what `clear_output` says of waiting, where the message is one
abbrev pub clears : (Bool → Bool) → Content → Bool
clears which (content.Clear later) = which later
clears which _ = false

-- a clear that acts at once
abbrev pub clears_now : Content → Bool
clears_now c = clears not c

-- a clear that waits for the next output
abbrev pub clears_later : Content → Bool
clears_later c = clears (λ later. later) c

-- an output stays where none of these follows: an immediate clear, or a waiting clear that is itself followed by an appending message
abbrev pub stays : List Content → Bool
stays [] = true
stays (c ∷ rest) = not (clears_now c) && (not (clears_later c && list_any appends rest) && stays rest)

-- the appending messages whose output stays under what follows them
abbrev pub live : List Content → List Content
live [] = []
live (c ∷ rest) = if appends c && stays rest then c ∷ live rest else live rest
