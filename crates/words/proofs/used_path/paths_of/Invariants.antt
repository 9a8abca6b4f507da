use Rattle.std.proofs.Common.{◌≡◌, ◌++◌, drop}
use Rattle.words.specs.JobsFile as spec
use Rattle.words.proofs.used_path.paths_of.Given as goal

abbrev pub invariant-loop-i : goal.invariant-loop-i
invariant-loop-i l = l.paths ++ spec.paths_from l.i (drop l.i l.jobs) ≡ spec.paths_of l.fn.file l.fn.jobs
