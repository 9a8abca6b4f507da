use Rattle.std.proofs.Common.{◌++◌, ap, sym, ◌∙◌}
use Rattle.std.proofs.lemmas.Result.{on_ok_weaker}
use Rattle.zmtp_wire.specs.Writing.{message_octets}
use Rattle.zmtp_peer.proofs.ReplyLemmas.{envelope_octets}
use Rattle.zmtp_peer.proofs.peer.Peer.message_bytes.Goals as goal

pub returns-clause-ok : goal.returns-clause-ok
returns-clause-ok c =
    let e = envelope_octets c.args.self.now.role c.args.parts.now (sym c.has_envelope.ensures ∙ c.if-not-has_envelope.false) c.requires.some in
    on_ok_weaker c.add.result (λ k. k ∙ ap (λ x. c.args.out.now ++ x) (c.bytes.ensures ∙ c.in_ok-put_message.ensures.ok ∙ ap (λ x. x ++ message_octets c.args.parts.now) c.in_ok-octets.ensures ∙ sym e)) c.add.ensures.ok
