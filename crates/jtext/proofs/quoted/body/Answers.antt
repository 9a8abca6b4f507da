use Rattle.std.proofs.Common.{[], Ok, refl, sym, ap, ◌∙◌, arith}
use Rattle.jtext.proofs.Numbers.{at_byte}
use Rattle.jtext.proofs.Bodies.{body_ends}
use Rattle.jtext.proofs.quoted.body.Goals as goal

pub returns-in_ok-of-in-Some-eq34-default-clause-exact : goal.returns-in_ok-of-in-Some-eq34-default-clause-exact
returns-in_ok-of-in-Some-eq34-default-clause-exact c n h =
    let s = c.args.s.now in
    let after = c.split_plain.result.1.now in
    let closed = c.in-Some-eq34-default in
    let next = closed.next.now in
    body_ends n s [] s c.split_plain.result.0.now after (n, h, refl) c.split_plain.ensures.parts next
    (at_byte after next closed.field-0-0 34 closed.ensures.some (omega (arith, closed.field-0-0-test))) ∙ ap (λ x. Ok (x, next)) (sym c.in_ok-of-in-Some-eq34-default.ensures)
