use Rattle.std.proofs.Common.{rules}
use Rattle.jtext.proofs.Decimals.{decimal_is_number}
use Rattle.toy_core.proofs.outputs.count_pair.Goals as goal

pub of_number-requires : goal.of_number-requires
of_number-requires c = search (rules, decimal_is_number)
