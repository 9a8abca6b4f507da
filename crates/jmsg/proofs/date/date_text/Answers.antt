use Rattle.std.proofs.Common.{◌≡◌, ◌∙◌, ◌+ℤ◌, ◌*ℤ◌, ◌*◌, ap, pos, w64, arith}
use Rattle.std.proofs.lemmas.Int.{to_z_pos}
use Rattle.jiff.proofs.SpanFacts.{signed_arith}
use Rattle.jmsg.specs.Date.{IsDateText}
use Rattle.jmsg.proofs.CalendarLemmas.{date_is}
use Rattle.jmsg.proofs.date.date_text.Goals as goal

pub returns-clause-is : goal.returns-clause-is
unfolding IsDateText
returns-clause-is c =
    let at = rw c.unwrap-at.ensures at c.from_millisecond.ensures.value in
    let ms = to_z_pos w64 c.args.ms (omega (arith, c.requires)) in
    let sum : pos c.args.ms *ℤ pos 1000000 +ℤ pos 0 ≡ pos (c.args.ms * 1000000) = omega (arith, signed_arith) in
    (c.to_datetime.result, c.to_datetime.ensures ∙ ap (λ n. n +ℤ pos 0) (at ∙ ap (λ z. z *ℤ pos 1000000) ms) ∙ sum, c.text_of.ensures)

pub returns-clause-date : goal.returns-clause-date
returns-clause-date c = date_is c.args.ms c.text_of.result (returns-clause-is c)
