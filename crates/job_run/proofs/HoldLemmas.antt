-- What an event makes of the parts of an execution.
use Rattle.std.proofs.Common.{◌≡◌, ℕ, ◌≤◌, sym, ap, subst, ◌∙◌, arith}
use Rattle.std.specs.Prelude.{is_some}
use Rattle.cell_core.specs.declared.act.Act.{Act}
use Rattle.cell_core.specs.declared.act.Act.TheVariants.{Nothing, Start, Send, Look, Interrupt, Save, Stop}
use Rattle.cell_core.specs.declared.machine.Core.{Core}
use Rattle.cell_core.specs.Sending.{IsInOrder, SendsOn, next_of}
use Rattle.cell_core.specs.StandsFor.{task_of}
use Rattle.cell_core.specs.Task.{Task}
use Rattle.job_notebook.specs.State.{settled_of, begun_of}
use Rattle.job_run.specs.declared.execution.Execution.{Execution}
use Rattle.job_run.specs.Held.{Holds}
use Rattle.job_run.specs.Told.{Hears}

goes_on : (task : Task) (was now : ℕ) (act : Act) → SendsOn task was now act → was ≤ now
goes_on task was now (Send cell) s = omega (arith, s.0, s.2)
goes_on task was now (Save settled) s = omega (arith, s.0, s.1)
goes_on task was now Nothing s = s
goes_on task was now Start s = s
goes_on task was now Look s = s
goes_on task was now Interrupt s = s
goes_on task was now (Stop cause) s = s

-- an execution whose core was told of one event more
pub holds_told : (x : Execution) (core : Core) (act : Act) → Holds x → task_of core ≡ task_of x.core → (IsInOrder (task_of x.core) → SendsOn (task_of x.core) (next_of x.core) (next_of core) act)
    → Hears core x.clock (is_some x.broken) → Holds (record x { core = core })
holds_told x core act h same sends heard =
    let on = goes_on (task_of x.core) (next_of x.core) (next_of core) act (sends h.ordered) in
    let begun : begun_of x.book ≤ next_of core = omega (arith, h.begun, on) in
    let settled : settled_of x.book ≤ next_of core = omega (arith, h.settled, on) in
    record {
      ordered = subst IsInOrder (sym same) h.ordered;
      cells = h.cells ∙ sym (ap (λ t. t.cells) same);
      begun = begun;
      settled = settled;
      asked = h.asked;
      sent = h.sent;
      early = h.early;
      heard = heard;
    }
