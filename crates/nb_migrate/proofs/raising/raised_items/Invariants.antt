use Rattle.std.proofs.Common.{◌≡◌}
use Rattle.nb_migrate.specs.Raised.{raised_from}
use Rattle.nb_migrate.proofs.raising.raised_items.Given as goal

abbrev pub invariant-loop-item : goal.invariant-loop-item
invariant-loop-item l = l.out ≡ raised_from 0 l.yielded
