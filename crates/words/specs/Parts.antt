-- The parts of a command line: its words, but for the values of its options.
use Rattle.std.specs.Prelude.{ℕ, ◌+◌, ◌-◌, Bool, true, false, List, [], ◌∷◌, Option, Some, None, if◌then◌else◌, ◌&&◌, ◌||◌, ◌==◌, not, nat_le, nat_lt, length, slice_index, slice_get, unwrap_or, codes}
use Rattle.std.specs.Str.{bytes_eq}
use Rattle.words.specs.declared.choice.Choice.{Choice}
use Rattle.words.specs.declared.takes.Takes.{Takes}
use Rattle.words.specs.declared.takes.Takes.TheVariants.{Nothing}
use Rattle.words.specs.declared.kind.Kind.{Kind}
use Rattle.words.specs.declared.kind.Kind.TheVariants.{Path, End, Unknown, Chosen}
use Rattle.words.specs.declared.part.Part.{Part}
use Rattle.words.specs.Options.{choice_of, is_same_option, takes, arity, may_repeat, is_of_batch}

-- the word with this index
abbrev pub word : ℕ → List (List ℕ) → List ℕ
word i words = unwrap_or (slice_get words i) []

-- ---- what a word is

-- a word that is no path: a lone `-` is one too
abbrev pub begins_with_dash : List ℕ → Bool
begins_with_dash word = nat_lt 0 (length word) && (slice_index word 0 == 45)

-- a word that begins with `-`: an option, or none
abbrev pub kind_of_option : Option Choice → Kind
kind_of_option None = Unknown
kind_of_option (Some choice) = Chosen choice

-- what a word is that is no value; where the options have ended, each is a path
abbrev pub kind_of : Bool → List ℕ → Kind
kind_of ended word =
    if ended then Path else
    if bytes_eq word (codes "--") then End else
    if begins_with_dash word then kind_of_option (choice_of word) else Path

-- a path
abbrev pub is_path : Kind → Bool
is_path Path = true
is_path k = false

-- the `--` that ends the options
abbrev pub is_end : Kind → Bool
is_end End = true
is_end k = false

-- the options have ended after it
abbrev pub ends : Bool → Kind → Bool
ends ended k = ended || is_end k

-- a word that begins like an option and is none
abbrev pub is_unknown : Kind → Bool
is_unknown Unknown = true
is_unknown k = false

-- it is this option
abbrev pub is_choice : Choice → Kind → Bool
is_choice c (Chosen d) = is_same_option c d
is_choice c k = false

-- both are one option
abbrev pub is_same : Kind → Kind → Bool
is_same (Chosen c) k = is_choice c k
is_same j k = false

-- it is an option that may stand only once
abbrev pub is_once : Kind → Bool
is_once (Chosen c) = not (may_repeat c)
is_once k = false

-- a batch takes it: an option of every job, or `--`
abbrev pub is_of_batch_kind : Kind → Bool
is_of_batch_kind (Chosen c) = is_of_batch c
is_of_batch_kind End = true
is_of_batch_kind k = false

-- the values that follow it
abbrev pub takes_of : Kind → Takes
takes_of (Chosen c) = takes c
takes_of k = Nothing

-- ---- the words as parts

-- the part of a kind at this index
abbrev pub part_at : ℕ → Kind → Part
part_at i kind = record { kind = kind; at = i; first = i + 1; second = i + 2 }

-- both are one option, which may stand only once
abbrev pub repeats : Part → Part → Bool
repeats p q = is_once p.kind && is_once q.kind && is_same p.kind q.kind

-- as many words follow the part as it takes values
abbrev pub has_values : List (List ℕ) → Part → Bool
has_values words p = nat_le (arity (takes_of p.kind)) (length words - p.first)

-- the parts of the words from index i on, of which the first ones are values still
abbrev pub parts_from : Bool → ℕ → ℕ → List (List ℕ) → List Part
parts_from ended values i [] = []
parts_from ended values i (w ∷ ws) =
    if nat_lt 0 values then parts_from ended (values - 1) (i + 1) ws else
    part_at i (kind_of ended w) ∷ parts_from (ends ended (kind_of ended w)) (arity (takes_of (kind_of ended w))) (i + 1) ws

-- the parts of the words, in their order
abbrev pub parts_of : List (List ℕ) → List Part
parts_of words = parts_from false 0 0 words
