-- The line that is said at the end of a report, ended by a line feed.
use Rattle.std.specs.Prelude.{ℕ, List, ◌++◌, codes}
use Rattle.std.specs.Fmt.{decimal}
use Rattle.nb_load.specs.Reasons.{reason}
use Rattle.words.specs.declared.usage.Usage.{Usage}
use Rattle.words.specs.Messages.{usage_message}
use Rattle.said_lines.specs.Lines.{spoken_line}
use Rattle.save_disk.specs.declared.save_fault.SaveFault.{SaveFault}
use Rattle.save_disk.specs.Messages.{message}
use Rattle.report_run.specs.declared.end.End.{End}
use Rattle.report_run.specs.declared.end.End.TheVariants as end

-- which step of a save failed
abbrev pub save : SaveFault → List ℕ
save f = codes "cannot save: " ++ message f

-- the line of words that are refused
abbrev pub usage_line : Usage → List ℕ
usage_line u = spoken_line (codes "usage") (usage_message u)

-- the line of a report on that input and that output
abbrev pub line : List ℕ → List ℕ → End → List ℕ
line input output end.Done = spoken_line output (codes "done")
line input output (end.Refused u) = usage_line u
line input output end.NotRead = spoken_line output (codes "cannot read " ++ input)
line input output end.TooLarge = spoken_line output (codes "too large")
line input output (end.NotLoaded f) = spoken_line output (reason f)
line input output (end.NotScript number) = spoken_line output (codes "not a script at " ++ decimal number)
line input output (end.NotSaved f) = spoken_line output (save f)
line input output end.NoMemory = spoken_line (codes "nbrun") (codes "no memory")
