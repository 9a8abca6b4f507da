use Rattle.std.proofs.Common.{ℕ, [], Ok, take, drop}
use Rattle.cell_core.specs.declared.act.Act.TheVariants.{Nothing}
use Rattle.world.specs.Moments.{Told}
use Rattle.job_journal.specs.Plot.{Plot}
use Rattle.job_run.specs.Heard.{arrivals_of}
use Rattle.job_run.specs.Standing.{Uses}
use Rattle.job_run.specs.Steps.{Proceeds}
use Rattle.job_run.proofs.execution.Execution.on_messages.Given as goal

abbrev pub invariant-loop-message : goal.invariant-loop-message
invariant-loop-message g l = record {
  goes : Proceeds {U = Unit {0}} g.W.Journal.journal g.W.Journal.counts l.fn.w l.w l.fn.self l.self Nothing (Ok tt);
  uses : (p : Plot) (number : ℕ) → Told (g.W.Journal.journal l.fn.w) (g.W.Journal.journal l.w)
      (λ before after. Uses p number l.fn.self l.standing l.chan [] (arrivals_of l.fn.messages) before
      → Uses p number l.self l.standing l.chan (arrivals_of (take l.message-index l.fn.messages)) (arrivals_of (drop l.message-index l.fn.messages)) after);
}
