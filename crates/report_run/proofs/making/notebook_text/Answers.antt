use Rattle.std.proofs.Common.{inr, refl, subst, sym}
use Rattle.report_text.specs.Reading.{Refuses, IsNoScript}
use Rattle.report_run.specs.Made.{no_script}
use Rattle.report_run.proofs.making.notebook_text.Goals as goal

pub returns-in-Err-Line-clause-refused : goal.returns-in-Err-Line-clause-refused
returns-in-Err-Line-clause-refused c =
    inr (no_script _ refl (subst (IsNoScript c.args.bytes.now) (sym c.in-Err-Line.number-is) (subst (Refuses c.args.bytes.now) c.in-Err-Line.field-0-is c.in-Err-Line.ensures.refused)))
