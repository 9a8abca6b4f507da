use Rattle.std.proofs.Common.{length, ◌<◌, ◌^◌}
use Rattle.zmtp_wire.specs.Command.{AreShort}
use Rattle.zmtp_wire.specs.Machine.{run}
use Rattle.zmtp_wire.proofs.RunLemmas.{Goes}
use Rattle.zmtp_wire.proofs.machine.run.Given as goal

abbrev pub invariant-loop-rest : goal.invariant-loop-rest
invariant-loop-rest l = record {
  low : l.at < 2 ^ 64;
  goes : Goes (run l.role l.start l.fn.state l.piece) (run l.role l.at l.now l.rest) l.initial.out l.out l.initial.owed l.owed;
  short : AreShort l.initial.owed → AreShort l.owed;
}

abbrev pub decreases-loop-rest : goal.decreases-loop-rest
decreases-loop-rest l = length l.rest
