-- The lines that are said at the end of a run, each ended by a line feed.
use Rattle.std.specs.Prelude.{ℕ, List, ◌++◌, codes}
use Rattle.nb_load.specs.Reasons.{reason}
use Rattle.words.specs.Messages.{usage_message}
use Rattle.said_lines.specs.Lines.{spoken_line, saved_line}
use Rattle.save_disk.specs.declared.save_fault.SaveFault.{SaveFault}
use Rattle.save_disk.specs.Messages.{message}
use Rattle.nbrun_top.specs.declared.end.End.{End}
use Rattle.nbrun_top.specs.declared.end.End.TheVariants as end

-- which step of a save failed
abbrev pub save : SaveFault → List ℕ
save f = codes "cannot save: " ++ message f

-- the last line of a run on that input and that output
abbrev pub last : List ℕ → List ℕ → End → List ℕ
last input output (end.Done cells) = spoken_line output (codes "done")
last input output (end.Refused u) = spoken_line (codes "usage") (usage_message u)
last input output end.NotRead = spoken_line output (codes "cannot read " ++ input)
last input output end.TooLarge = spoken_line output (codes "too large")
last input output (end.NotLoaded f) = spoken_line output (reason f)
last input output (end.NotSaved f) = spoken_line output (save f)
last input output end.NoMemory = spoken_line (codes "nbrun") (codes "no memory")

-- all that is said: a save that was acknowledged, and the last line
abbrev pub all_lines : List ℕ → List ℕ → End → List ℕ
all_lines input output (end.Done cells) = saved_line output 0 cells ++ last input output (end.Done cells)
all_lines input output e = last input output e
