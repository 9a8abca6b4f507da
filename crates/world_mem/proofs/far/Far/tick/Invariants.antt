use Rattle.std.proofs.Common.{◌≡◌}
use Rattle.world_mem.proofs.FarLemmas.{TicksTo}
use Rattle.world_mem.proofs.far.Far.tick.Given as goal

-- the kernels of the jobs so far were brought to the moment
abbrev pub invariant-loop-job : goal.invariant-loop-job
invariant-loop-job g l = record {
  started : l.self.started ≡ l.initial.self.started;
  clock : l.self.clock ≡ l.initial.self.clock;
  ticks : TicksTo g.K.KernelSide.stands l.initial.self.started l.initial.self.clock l.job l.initial.self.kernels.items l.self.kernels.items;
}
