-- What a run needs of whatever is asked, and what the words and jobs files always give.
use Rattle.std.specs.Prelude.{◌<◌, ◌≤◌, ◌^◌, ℕ, List, IfSome}
use Rattle.std.specs.List.{AllByRecursion}
use Rattle.jtext.specs.declared.json.Json.{Json}
use Rattle.jtext.specs.Depth.{depth}
use Rattle.jtext.specs.Grammar.{Distinct}
use Rattle.jtext.specs.Keyed.{Keyed}
use Rattle.words.specs.declared.ask.Ask.{Ask}
use Rattle.words.specs.declared.command.Command.{Command}
use Rattle.words.specs.declared.command.Command.TheVariants as command

-- a parameter that a notebook can be given: no object in its value has a key twice, and it nests at most 124 deep, so that the
-- notebook with it nests at most 128 deep
pub record IsParameter (p : List ℕ × Json) : Type 0 where
  pub keyed : Keyed p.1
  pub nests : depth p.1 ≤ 124

-- parameters, of which no two have one name, and times in their range
pub record IsRunnable (a : Ask) : Type 0 where
  pub distinct : Distinct a.params
  pub parameters : AllByRecursion IsParameter a.params
  pub start : a.start_ms < 2 ^ 40
  pub limit : IfSome a.limit_ms (λ n. (0 < n) × (n < 2 ^ 40))

-- what is asked for can be run
abbrev pub IsRunnableCommand : Command → Type 0
IsRunnableCommand (command.One a) = IsRunnable a
IsRunnableCommand (command.Many file a) = IsRunnable a
IsRunnableCommand (command.Exercise n) = n ≤ 200
