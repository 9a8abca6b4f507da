use Rattle.std.proofs.Common.{◌≡◌, List, ℕ, take}
use Rattle.std.specs.List.{AllByRecursion}
use Rattle.jtext.specs.declared.json.Json.{Json}
use Rattle.jtext.specs.Grammar.{Distinct}
use Rattle.scrap_book.specs.Merging.{with_pairs}
use Rattle.words.specs.Runnable.{IsParameter}
use Rattle.world.specs.Counts.{DiskCause}
use Rattle.world.specs.Moments.{Told}
use Rattle.graph_run.specs.Tests.{Taken, takes_of}
use Rattle.graph_run.proofs.testing.take_all.Given as goal

abbrev pub invariant-loop-take : goal.invariant-loop-take
invariant-loop-take g l = record {
  taken : Told (g.W.Journal.journal l.fn.w) (g.W.Journal.journal l.w) (λ before now. (pairs : List (List ℕ × Json)) × Taken l.fn.flow before (take l.take-index l.takes) pairs now × (l.params ≡ with_pairs l.fn.ask.params pairs));
  are : l.takes ≡ takes_of l.fn.flow l.fn.job;
  distinct : Distinct l.fn.ask.params → Distinct l.params;
  parameters : AllByRecursion IsParameter l.fn.ask.params → AllByRecursion IsParameter l.params;
  counts : DiskCause (g.W.Journal.counts l.fn.w) (g.W.Journal.counts l.w) ⊥;
}
