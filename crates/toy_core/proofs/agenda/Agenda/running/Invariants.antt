use Rattle.std.proofs.Common.{◌≡◌, drop}
use Rattle.toy_core.specs.Acts.{first_close}
use Rattle.toy_core.proofs.agenda.Agenda.running.Given as goal

abbrev pub invariant-loop-act : goal.invariant-loop-act
invariant-loop-act l = first_close l.self.acts ≡ first_close (drop l.act-index l.act-items)
