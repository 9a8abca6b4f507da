-- Where the jobs of a cast save.
use Rattle.std.specs.Prelude.{◌≡◌, ℕ, List, Some, false}
use Rattle.std.specs.Str.{bytes_eq}
use Rattle.words.specs.declared.ask.Ask.{Ask}
use Rattle.job_saves.specs.Calls.{Cast}

-- each job of a cast saves to another path than this output
pub record SavesElsewhere (c : Cast) (output : List ℕ) : Type 0 where
  pub each : (number : ℕ) (a : Ask) → c.job number ≡ Some a → bytes_eq a.output output ≡ false
