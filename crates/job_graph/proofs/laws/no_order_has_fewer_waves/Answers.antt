use Rattle.std.proofs.Common.{suc, arith}
use Rattle.job_graph.proofs.Least.{least}
use Rattle.job_graph.proofs.laws.no_order_has_fewer_waves.Goals as goal

pub returns : goal.returns
returns c needs turn i w order has = least needs turn order (suc w) i w (omega arith) has
