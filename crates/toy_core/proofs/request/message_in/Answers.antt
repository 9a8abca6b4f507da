use Rattle.std.proofs.Common.{ap, ◌∙◌}
use Rattle.jmsg.specs.Decoding.{message_in, decode}
use Rattle.toy_core.proofs.request.message_in.Goals as goal

pub returns : goal.returns
unfolding decode
returns c =
    c.message_of.ensures ∙ ap message_in (c.decoded_is_signed.ensures.only_verdict c.args.key.now c.args.parts.now _ (rw c.bytes.ensures at c.in_ok-verdict.ensures.is))
