-- The meaning: what an output with a display id shows (Jupyter messaging 5.3, "Display data", "Update display data").
use Rattle.std.specs.Prelude.{ℕ, Bool, true, false, List, [], ◌∷◌, ◌++◌, ◌&&◌, Option, Some, None, if◌then◌else◌}
use Rattle.std.specs.Option.{option_or, option_and_then}
use Rattle.std.specs.Str.{bytes_eq}
use Rattle.jcontent.specs.declared.content.Content.{Content}
use Rattle.jcontent.specs.declared.content.Content.TheVariants as content
use Rattle.jcontent.specs.declared.shown.Shown.{Shown}
use Rattle.out_fold.specs.declared.latest.Data.{Data}
use Rattle.out_fold.specs.Live.{appends, stays}

-- its data and metadata
abbrev pub data_in : Shown → Data
data_in s = record { bundle = s.bundle; metadata = s.metadata }

-- what a message shows, in an output of its own or in place of what was shown
abbrev pub shown_in : Content → Option Shown
shown_in (content.Display s) = Some s
shown_in (content.Update s) = Some s
shown_in (content.Outcome s count) = Some s
shown_in _ = None

-- its data, where that is asked for
abbrev pub data_if : Bool → Shown → Option Data
data_if true s = Some (data_in s)
data_if false s = None

-- its data, where it has this display id
abbrev pub data_under : List ℕ → Option (List ℕ) → Shown → Option Data
data_under id None s = None
data_under id (Some other) s = data_if (bytes_eq other id) s

-- the data of what is shown, where it has this display id
abbrev pub data_shown : List ℕ → Option Shown → Option Data
data_shown id None = None
data_shown id (Some s) = data_under id s.id s

-- what a message shows under a display id, if it does
abbrev pub shows : List ℕ → Content → Option Data
shows id c = data_shown id (shown_in c)

-- what the last of these messages that shows something under the id shows; where none does, this
abbrev pub latest : List ℕ → Option Data → List Content → Option Data
latest id before [] = before
latest id before (c ∷ rest) = latest id (option_or (shows id c) before) rest

-- with these data, where there are some
abbrev pub with_data : Shown → Option Data → Shown
with_data s None = s
with_data s (Some d) = record { bundle = d.bundle; metadata = d.metadata; id = s.id }

-- with the data that is known of its display id, where it has one
abbrev pub known_to : (List ℕ → Option Data) → Shown → Shown
known_to known s = with_data s (option_and_then known s.id)

-- an output with the data that is known of its display id, where it has one
abbrev pub resolve : (List ℕ → Option Data) → Content → Content
resolve known (content.Display s) = content.Display (known_to known s)
resolve known (content.Outcome s count) = content.Outcome (known_to known s) count
resolve known c = c

-- an output as it is shown in the end: with the data of the last message after it that shows something under its display id
abbrev pub shown_output : Content → List Content → Content
shown_output c after = resolve (λ id. latest id None after) c

-- the outputs of a request: those of its live messages, as they are shown after its own messages and the later ones of other requests
abbrev pub outputs : List Content → List Content → List Content
outputs [] later = []
outputs (c ∷ rest) later = if appends c && stays rest then shown_output c (rest ++ later) ∷ outputs rest later else outputs rest later
