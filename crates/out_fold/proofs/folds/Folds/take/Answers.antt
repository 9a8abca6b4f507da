use Rattle.std.specs.Option.{option_copied}
use Rattle.std.proofs.lemmas.Result.{on_ok_weaker, on_err_weaker}
use Rattle.out_fold.proofs.FoldLemmas.{same-shape, took-stands, kept-stands}
use Rattle.out_fold.proofs.folds.Folds.take.Goals as goal

pub returns-clause-shape : goal.returns-clause-shape
returns-clause-shape c =
    same-shape c.take_one.result c.args.self.now c.take_one.new.self c.args.c.now (option_copied c.args.date) c.take_one.ensures.ok c.take_one.ensures.err

pub returns-clause-stands : goal.returns-clause-stands
returns-clause-stands c =
    on_ok_weaker c.take_one.result (took-stands c.args.self.now c.take_one.new.self c.args.c.now (option_copied c.args.date)) c.take_one.ensures.ok

pub returns-clause-still : goal.returns-clause-still
returns-clause-still c = on_err_weaker c.take_one.result (kept-stands c.args.self.now c.take_one.new.self) c.take_one.ensures.err
