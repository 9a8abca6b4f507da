use Rattle.std.proofs.Common.{arith}
use Rattle.nb_migrate.specs.Raised.{raised_tree}
use Rattle.nb_migrate.proofs.Depths.{no_deeper}
use Rattle.nb_migrate.proofs.RaisedKeyed.{raised_keyed}
use Rattle.nb_model.proofs.DepthLaws.{read_depth}
use Rattle.nb_model.proofs.PreparedLaws.{read_valid}
use Rattle.nb_migrate.proofs.laws.accepted_is_valid.Goals as goal

pub returns : goal.returns
returns c t e k h =
    let same = read_depth (raised_tree t) e (raised_keyed t k) in
    let less = no_deeper t in
    record { notebook = read_valid (raised_tree t) e; within = omega (arith, same, less, h) }
