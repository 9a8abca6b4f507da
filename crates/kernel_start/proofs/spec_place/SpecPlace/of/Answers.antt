use Rattle.std.proofs.Common.{sym}
use Rattle.kernel_start.specs.Finding.{no_name}
use Rattle.kernel_start.proofs.FindingLaws.{not_good, good_at, refused_path}
use Rattle.kernel_start.proofs.spec_place.SpecPlace.of.Goals as goal

pub returns-in_default-clause-err : goal.returns-in_default-clause-err
returns-in_default-clause-err c = no_name (sym c.in_default.ensures)

pub returns-then-not-good_name-clause-err : goal.returns-then-not-good_name-clause-err
returns-then-not-good_name-clause-err c =
    not_good c.args.ask.now c.args.notebook.now c.in-Some.name.now c.in-Some.ensures (sym c.if-not-good_name.ensures)

pub returns-in_err-place_of-clause-err : goal.returns-in_err-place_of-clause-err
returns-in_err-place_of-clause-err c =
    refused_path c.args.ask.now c.args.notebook.now c.from_residual.result
    (good_at c.args.ask.now c.args.notebook.now c.in-Some.name.now c.in-Some.ensures (sym c.if-not-good_name.ensures)) c.from_residual.ensures.1
