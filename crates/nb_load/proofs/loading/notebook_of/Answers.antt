use Rattle.std.proofs.lemmas.Result.{err_from_is_err_and}
use Rattle.nb_load.proofs.loading.notebook_of.Goals as goal

pub returns-in_err-tree-clause-err : goal.returns-in_err-tree-clause-err
returns-in_err-tree-clause-err c =
    let p = err_from_is_err_and c.from_residual.result c.from_residual.ensures.1 in
    rw (p.1, p.2) (c.in_err-tree.ensures.err c.args.ask.now)

pub returns-in_err-notebook-clause-err : goal.returns-in_err-notebook-clause-err
returns-in_err-notebook-clause-err c =
    let p = err_from_is_err_and c.from_residual-in_err-notebook.result c.from_residual-in_err-notebook.ensures.1 in
    rw (p.1, p.2) (c.in_err-notebook.ensures.err c.args.ask.now c.args.bytes.now c.in_ok-tree.ensures.ok)
