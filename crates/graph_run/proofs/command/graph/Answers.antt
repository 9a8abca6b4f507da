use Rattle.graph_run.specs.Words.{texts}
use Rattle.graph_run.proofs.command.graph.Goals as goal

pub returns-in-Err : goal.returns-in-Err
returns-in-Err g c = record {
  promise = record {
    ran = c.refuse.ensures.ran (texts c.args.words.now) c.args.limits.now.here c.args.limits.now.turns c.in-Err.ensures.refused;
    usage = λ u is. c.refuse.ensures.status;
    kept = c.refuse.ensures.kept c.args.limits.now.turns;
  };
}
