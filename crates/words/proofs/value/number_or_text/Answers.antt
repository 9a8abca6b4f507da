use Rattle.words.proofs.NumberTests.{number_taken, text_taken}
use Rattle.words.proofs.value.number_or_text.Goals as goal

pub returns-in-Ok : goal.returns-in-Ok
returns-in-Ok c = number_taken c.args.t.now _ c.in-Ok.ensures.0 c.in-Ok.ensures.1

pub returns-in_ok-of-in-Err-NotNumber : goal.returns-in_ok-of-in-Err-NotNumber
returns-in_ok-of-in-Err-NotNumber c = text_taken c.args.t.now _ c.in_ok-of-in-Err-NotNumber.ensures (rw c.in-Err-NotNumber.field-0-is at c.in-Err-NotNumber.ensures)
