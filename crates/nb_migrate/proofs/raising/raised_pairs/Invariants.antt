use Rattle.std.proofs.Common.{◌≡◌, map}
use Rattle.nb_migrate.specs.Raised.{raised_pair}
use Rattle.nb_migrate.proofs.raising.raised_pairs.Given as goal

abbrev pub invariant-loop-pair : goal.invariant-loop-pair
invariant-loop-pair l = l.out ≡ map raised_pair l.yielded
