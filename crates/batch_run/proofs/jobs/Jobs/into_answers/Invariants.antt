use Rattle.std.proofs.Common.{◌≡◌, length}
use Rattle.batch_run.specs.Stands.{answers_from}
use Rattle.batch_run.proofs.jobs.Jobs.into_answers.Given as goal

abbrev pub invariant-loop-slot : goal.invariant-loop-slot
invariant-loop-slot l = record { number : l.number ≡ length l.yielded; answers : l.answers ≡ answers_from l.fn.first l.yielded }
