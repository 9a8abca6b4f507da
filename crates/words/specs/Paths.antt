-- The paths of a command line, and which of them may go together.
use Rattle.std.specs.Prelude.{ℕ, Bool, List, [], ◌∷◌, ◌++◌, Option, Some, None, ◌-◌, ◌==◌, ◌||◌, if◌then◌else◌, not, codes}
use Rattle.std.specs.Str.{bytes_eq}
use Rattle.words.specs.declared.part.Part.{Part}
use Rattle.words.specs.Parts.{is_path, word}
pub use Rattle.world.specs.Save.{temporary_of}

-- the index of the nth path, counted from 0
abbrev pub path : ℕ → List Part → Option ℕ
path n [] = None
path n (p ∷ ps) = if is_path p.kind then (if n == 0 then Some p.at else path (n - 1) ps) else path n ps

-- the word with an index that may be missing
abbrev pub word_at : List (List ℕ) → Option ℕ → List ℕ
word_at words None = []
word_at words (Some i) = word i words

-- the nth path, and the empty text where there is none
abbrev pub path_text : ℕ → List (List ℕ) → List Part → List ℕ
path_text n words parts = word_at words (path n parts)

-- ---- the paths that a run writes

-- the connection file
abbrev pub connection_of : List ℕ → List ℕ
connection_of output = output ++ codes ".nbrun-kernel.json"

-- the input is none of the files that a run writes for this output
abbrev pub are_apart : List ℕ → List ℕ → Bool
are_apart input output = not (bytes_eq input output || bytes_eq input (temporary_of output) || bytes_eq input (connection_of output))
