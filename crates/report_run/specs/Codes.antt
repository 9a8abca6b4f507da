-- The exit statuses as numbers.
use Rattle.std.specs.Prelude.{ℕ}
use Rattle.report_run.specs.declared.end.End.{End}
use Rattle.report_run.specs.declared.end.End.TheVariants as end

-- the number that the process answers, where the line could be said
abbrev pub code_of : End → ℕ
code_of end.Done = 0
code_of (end.Refused usage) = 2
code_of end.NotRead = 3
code_of end.TooLarge = 4
code_of (end.NotLoaded f) = 4
code_of (end.NotScript number) = 4
code_of (end.NotSaved f) = 10
code_of end.NoMemory = 12
