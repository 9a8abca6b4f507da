use Rattle.jtext.proofs.Refusals.{stands, answered, read_not_refused, not_utf8_answered}
use Rattle.std.proofs.Common.{sym, subst}
use Rattle.std.specs.Str.{IsValidUpTo}
use Rattle.jtext.proofs.Documents.{document_spells}
use Rattle.jtext.proofs.Only.{ok_only, err_only}
use Rattle.jtext.proofs.reader.read.Goals as goal

pub returns-in-Ok-document-clause-spelled : goal.returns-in-Ok-document-clause-spelled
returns-in-Ok-document-clause-spelled c =
    (document_spells c.args.deep c.args.bytes.now c.in-Ok.text.now c.in-Ok-document.tree c.in-Ok.ensures.cases.0 c.in-Ok.ensures.cases.1 c.in-Ok-document.ensures.exact).0

pub returns-in-Ok-document-clause-nests : goal.returns-in-Ok-document-clause-nests
returns-in-Ok-document-clause-nests c =
    (document_spells c.args.deep c.args.bytes.now c.in-Ok.text.now c.in-Ok-document.tree c.in-Ok.ensures.cases.0 c.in-Ok.ensures.cases.1 c.in-Ok-document.ensures.exact).1

pub returns-in-Ok-document-clause-only : goal.returns-in-Ok-document-clause-only
returns-in-Ok-document-clause-only c = λ t is deep. ok_only t c.in-Ok-document.tree c.args.bytes.now c.in-Ok.text.now c.args.deep c.in-Ok.ensures.cases.0 is deep c.in-Ok-document.ensures.exact

pub returns-in-Err-document-clause-only : goal.returns-in-Err-document-clause-only
returns-in-Err-document-clause-only c t is deep =
    err_only t c.in-Err-document.fault c.within.result _ c.args.bytes.now c.in-Ok.text.now c.args.deep c.in-Ok.ensures.cases.0 is deep c.in-Err-document.ensures.exact c.within.ensures

pub returns-in-Err-document-clause-stands : goal.returns-in-Err-document-clause-stands
returns-in-Err-document-clause-stands c = stands c.args.deep c.args.bytes.now c.in-Ok.text.now c.in-Err-document.fault c.within.result c.in-Ok.ensures.cases.0 c.in-Ok.ensures.cases.1 c.in-Err-document.ensures.exact c.within.ensures

pub returns-in-Err-document-clause-refused : goal.returns-in-Err-document-clause-refused
returns-in-Err-document-clause-refused c g is =
    answered c.args.deep c.args.bytes.now c.in-Ok.text.now c.in-Err-document.fault g c.within.result c.in-Ok.ensures.cases.0 c.in-Ok.ensures.cases.1 c.in-Err-document.ensures.exact c.within.ensures is

pub returns-in-Ok-document-clause-refused : goal.returns-in-Ok-document-clause-refused
returns-in-Ok-document-clause-refused c g is =
    read_not_refused c.args.deep c.args.bytes.now c.in-Ok.text.now c.in-Ok-document.tree g c.in-Ok.ensures.cases.0 c.in-Ok.ensures.cases.1 c.in-Ok-document.ensures.exact is

pub returns-in-Err-clause-stands : goal.returns-in-Err-clause-stands
returns-in-Err-clause-stands c = subst (IsValidUpTo c.args.bytes.now) (sym c.valid_up_to.ensures) c.in-Err.ensures.cases.1

pub returns-in-Err-clause-refused : goal.returns-in-Err-clause-refused
returns-in-Err-clause-refused c g is = not_utf8_answered c.args.deep c.valid_up_to.result c.args.bytes.now g (subst (IsValidUpTo c.args.bytes.now) (sym c.valid_up_to.ensures) c.in-Err.ensures.cases.1) is
