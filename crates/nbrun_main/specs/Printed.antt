-- What is printed in place of a run.
use Rattle.std.specs.Prelude.{◌≡◌, ℕ, List, [], ◌∷◌, Option, Some, None, if◌then◌else◌, codes}
use Rattle.std.specs.Str.{bytes_eq}
use Rattle.world.specs.declared.entry.Entry.{Entry}
use Rattle.world.specs.declared.entry.Entry.TheVariants as made
use Rattle.world.specs.declared.did.Did.TheVariants.{Failed}
use Rattle.said_lines.specs.Lines.{spoken_line}
use Rattle.said_lines.specs.Speech.{Speech}
use Rattle.words.specs.Messages.{usage_message}
use Rattle.words.specs.declared.usage.Usage.{Usage}
use Rattle.nbrun_main.specs.declared.help.TheConstants.{HELP, VERSION}

-- the text that is printed for this word alone
abbrev pub text_for : List ℕ → Option (List ℕ)
text_for word =
    if bytes_eq word (codes "--help") then Some HELP.now else
    if bytes_eq word (codes "-h") then Some HELP.now else
    if bytes_eq word (codes "--version") then Some VERSION.now else None

-- the text that is printed in place of a run with these words: the help where there is none, and that of a word that stands alone
abbrev pub text_to_print : List (List ℕ) → Option (List ℕ)
text_to_print [] = Some HELP.now
text_to_print (word ∷ []) = text_for word
text_to_print (word ∷ other ∷ words) = None

-- no text is printed for these words: they are those of a run
abbrev pub IsRun : List (List ℕ) → Type 0
IsRun words = text_to_print words ≡ None

-- the entries of a printed text by the status: one where it was said whole, and one where it was said up to a say that failed
pub data Prints (text : List ℕ) (done unsaid : ℕ) (before : List Entry) : ℕ → List Entry → Type 0 where
  whole : {after : List Entry} → Speech text before [] after → Prints text done unsaid before done after
  cut : {rest : List ℕ} {past : List Entry} → Speech text before rest past → Prints text done unsaid before unsaid (made.Said rest Failed ∷ past)

-- the line of a run whose words are refused so
abbrev pub usage_line : Usage → List ℕ
usage_line usage = spoken_line (codes "usage") (usage_message usage)
