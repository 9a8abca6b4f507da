use Rattle.std.proofs.Common.{◌≡◌, ◌++◌, take}
use Rattle.graph_run.proofs.standing.Standing.add.Given as goal

abbrev pub invariant-loop-end : goal.invariant-loop-end
invariant-loop-end l = record {
  ended : l.self.ended ≡ l.initial.self.ended ++ take l.end-index l.ended;
  ran : l.self.ran ≡ l.initial.self.ran;
}
