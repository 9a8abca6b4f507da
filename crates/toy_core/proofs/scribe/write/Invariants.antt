use Rattle.std.proofs.Common.{◌≡◌, ◌++◌}
use Rattle.toy_core.specs.Sending.{acts_of, number_after_all}
use Rattle.toy_core.proofs.scribe.write.Given as goal

abbrev pub invariant-loop-note : goal.invariant-loop-note
invariant-loop-note l = record {
  acts : l.out ≡ l.initial.out ++ acts_of l.key l.parent l.initial.number l.yielded;
  number : l.number ≡ number_after_all l.initial.number l.yielded;
}
