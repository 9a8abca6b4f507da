use Rattle.std.proofs.Common.{sym, ◌∙◌}
use Rattle.std.proofs.lemmas.List.{take_rest}
use Rattle.jmsg.proofs.FrameLemmas.{follow_place, routing_alone}
use Rattle.jmsg.proofs.frames.after_delimiter.Goals as goal

pub returns-clause-some : goal.returns-clause-some
returns-clause-some c = rw take_rest (follow_place c.args.parts.now c.in_ok-place.place (sym c.delimiter_place.ensures.place ∙ c.in_ok-place.was))

pub returns-in_err-place-clause-none : goal.returns-in_err-place-clause-none
returns-in_err-place-clause-none c = rw c.from_residual.ensures (routing_alone c.args.parts.now (sym c.delimiter_place.ensures.place ∙ c.in_err-place.was))
