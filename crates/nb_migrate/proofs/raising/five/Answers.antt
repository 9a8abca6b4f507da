use Rattle.std.proofs.Common.{arith}
use Rattle.nb_migrate.proofs.Digits.{one_digit}
use Rattle.nb_migrate.proofs.raising.five.Goals as goal

pub of_number-requires : goal.of_number-requires
of_number-requires c = one_digit 53 (omega arith) (omega arith)
