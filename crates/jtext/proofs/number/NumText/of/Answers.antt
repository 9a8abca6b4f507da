use Rattle.std.proofs.Common.{sym}
use Rattle.jtext.proofs.NumberSound.{not_number, more_than_number}
use Rattle.jtext.proofs.number.NumText.of.Goals as goal

pub returns-in_default : goal.returns-in_default
returns-in_default c = λ is. not_number c.args.text.now is (sym c.in_default.ensures.exact)

pub returns-then-not-is_empty : goal.returns-then-not-is_empty
returns-then-not-is_empty c = λ is. more_than_number c.args.text.now c.in-Some.rest.now is (sym c.in-Some.ensures.exact) c.if-not-is_empty.ensures
