use Rattle.std.proofs.Common.{sym, subst}
use Rattle.report_text.specs.Drafts.{Takes}
use Rattle.report_text.proofs.Taken.{code_row, is_some_row}
use Rattle.report_text.proofs.draft.Draft.take_code.Goals as goal

pub returns-in_ok-add_row : goal.returns-in_ok-add_row
returns-in_ok-add_row c =
    subst (Takes c.args.self.now c.args.row.now) (sym c.in_ok-add_row.ensures)
    (code_row c.args.self.now c.args.row.now c.requires (is_some_row c.args.row.now c.is_empty.result c.is_empty.ensures c.if-is_empty.false))
