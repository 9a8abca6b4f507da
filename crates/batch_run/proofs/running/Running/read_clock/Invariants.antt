use Rattle.std.proofs.Common.{◌≡◌, ℕ, List, Option}
use Rattle.std.specs.Prelude.{IfSome}
use Rattle.words.specs.declared.ask.Ask.{Ask}
use Rattle.world.specs.declared.entry.Entry.{Entry}
use Rattle.world.specs.Counts.{Counts}
use Rattle.world.specs.Places.{time}
use Rattle.batch_run.specs.Owed.{first_clock}
use Rattle.batch_run.specs.Stands.{AllStand, Outset, SameOver, owing}
use Rattle.batch_run.proofs.running.Running.read_clock.Given as goal

abbrev pub invariant-loop-number : goal.invariant-loop-number
invariant-loop-number l = record {
  stands : (asks : ℕ → Option Ask) (start : Option (List Entry)) (from : Outset) (journal : Option (List Entry)) (counts : Counts) → IfSome journal (λ past. time past ≡ l.fn.ms)
      → AllStand asks start (owing (first_clock 0) from) l.fn.self.jobs.slots.items journal counts
      → AllStand asks start (owing (first_clock l.number) from) l.self.jobs.slots.items journal counts;
  over : SameOver l.fn.self.jobs.slots.items l.self.jobs.slots.items;
  lines : l.self.lines ≡ l.fn.self.lines;
  buf : l.self.buf ≡ l.fn.self.buf;
}
