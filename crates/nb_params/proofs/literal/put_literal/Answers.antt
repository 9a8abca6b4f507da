use Rattle.std.proofs.Common.{sym, ◌∙◌}
use Rattle.std.proofs.lemmas.Iterator.{YieldsList-from_chars}
use Rattle.std.proofs.lemmas.Iterator.Consumers.{YieldsList-end}
use Rattle.nb_params.proofs.Literals.{map_same, between_quotes}
use Rattle.nb_params.proofs.literal.put_literal.Goals as goal

pub returns : goal.returns
returns c =
    let t = YieldsList-end (YieldsList-from_chars c.args.text.now c.utf8.text cc) c.loop-c.yielded _ c.loop-c.yielded_by _ _ c.in-None.is c.next.ensures.steps in
    between_quotes _ _ _ _ _ _ c.in_ok-push_str.ensures.bytes c.loop-c.invariant (sym (map_same c.loop-c.yielded) ∙ t.0) c.in_ok-push_str-2.ensures.bytes
