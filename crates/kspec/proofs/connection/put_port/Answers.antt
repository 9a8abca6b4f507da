use Rattle.std.proofs.Common.{rules}
use Rattle.jtext.proofs.Decimals.{decimal_is_number}
use Rattle.kspec.proofs.connection.put_port.Goals as goal

pub of_number-requires : goal.of_number-requires
of_number-requires c = search (rules, decimal_is_number)
