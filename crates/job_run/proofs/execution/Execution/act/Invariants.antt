use Rattle.std.proofs.Common.{true, ◌≡◌, ℕ}
use Rattle.cell_core.specs.declared.event.Event.TheVariants.{Saved}
use Rattle.cell_core.specs.Answering.{can_answer}
use Rattle.job_journal.specs.Plot.{Plot}
use Rattle.job_run.specs.Standing.{StandsTo, is_idle}
use Rattle.cell_core.specs.StandsFor.{task_of}
use Rattle.cell_core.specs.Sending.{saves_ahead}
use Rattle.world.specs.Moments.{Told, Since}
use Rattle.job_notebook.specs.State.{output_of}
use Rattle.job_saves.specs.Course.{Origin, Stands, GoesOn, CallsOwn}
use Rattle.job_saves.specs.Sessions.{IsSaveCall}
use Rattle.job_run.specs.Held.{Holds, IsToDo}
use Rattle.job_run.specs.Counted.{IsCountedAt}
use Rattle.job_run.specs.Steps.{ReadsNoClock}
use Rattle.job_run.specs.Told.{KeepsBroken}
use Rattle.job_run.proofs.execution.Execution.act.Given as goal

abbrev pub invariant-loop-act : goal.invariant-loop-act
invariant-loop-act g l =
    record {
      holds : Holds l.self;
      todo : IsToDo l.self l.act;
      course : GoesOn g.W.Journal.journal g.W.Journal.counts l.fn.w l.w l.fn.self.book l.self.book true;
      calls : CallsOwn g.W.Journal.journal g.W.Journal.counts l.fn.w l.w l.fn.self.book l.self.book;
      saves : Told (g.W.Journal.journal l.fn.w) (g.W.Journal.journal l.w) (Since (IsSaveCall (output_of l.fn.self.book)));
      reads : ReadsNoClock g.W.Journal.journal l.fn.w l.w;
      task : task_of l.self.core ≡ task_of l.fn.self.core;
      terms : l.self.terms ≡ l.fn.self.terms;
      session : l.self.session ≡ l.fn.self.session;
      counts : (o : Origin) → o.is_watched ≡ true → Stands o l.fn.self.book true (g.W.Journal.journal l.fn.w) (g.W.Journal.counts l.fn.w) → IsCountedAt o l.fn.self l.fn.act (g.W.Journal.journal l.fn.w)
          → IsCountedAt o l.self l.act (g.W.Journal.journal l.w);
      stands : (p : Plot) (number : ℕ) → Told (g.W.Journal.journal l.fn.w) (g.W.Journal.journal l.w) (λ before after. (clock : ℕ) → StandsTo p number (record l.fn.self { clock = clock }) l.fn.act before
          → StandsTo p number (record l.self { clock = clock }) l.act after);
      clock : l.self.clock ≡ l.fn.self.clock;
      sent : l.self.sent ≡ l.fn.self.sent;
      kind : can_answer Saved l.fn.act ≡ true → can_answer Saved l.act ≡ true;
      broken : KeepsBroken l.fn.self.core l.self.core;
      still : is_idle l.fn.act ≡ true → (l.self ≡ l.fn.self) × (l.act ≡ l.fn.act) × (g.W.Journal.journal l.w ≡ g.W.Journal.journal l.fn.w);
    }

abbrev pub decreases-loop-act : goal.decreases-loop-act
decreases-loop-act g l = saves_ahead l.self.core
