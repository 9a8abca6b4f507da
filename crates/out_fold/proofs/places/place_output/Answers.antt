use Rattle.std.proofs.Common.{rules}
use Rattle.std.proofs.lemmas.Result.{on_ok_weaker, on_err_weaker}
use Rattle.out_fold.proofs.PlaceLemmas.{placed-already, placed-added, grown-same}
use Rattle.out_fold.proofs.places.place_output.Goals as goal

pub returns-then-last_is_in-clause-ok : goal.returns-then-last_is_in-clause-ok
returns-then-last_is_in-clause-ok c = λ calls s.
    placed-already calls c.args.index.now c.args.c.now c.args.cell c.args.id.now c.requires
    (rw (← c.places.ensures calls s) (search rules)) s

pub returns-else-last_is_in-clause-ok : goal.returns-else-last_is_in-clause-ok
returns-else-last_is_in-clause-ok c =
    on_ok_weaker c.add.result (λ h. λ calls s. placed-added calls c.add.new.self c.args.c.now c.args.id.now (record { cell = c.args.cell; at = c.args.at }) c.requires (h calls s)) c.add.ensures.ok

pub returns-else-last_is_in-clause-err : goal.returns-else-last_is_in-clause-err
returns-else-last_is_in-clause-err c =
    on_err_weaker c.add.result (λ h. λ calls s. grown-same calls c.add.new.self c.args.cell (h calls s)) c.add.ensures.err
