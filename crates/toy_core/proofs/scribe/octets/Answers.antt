use Rattle.toy_core.proofs.scribe.octets.Goals as goal

pub returns : goal.returns
returns c =
    let list = rw (c.in_ok-frames.ensures, c.in_ok-message_to.ensures) at c.in_ok-put_message.ensures in
    rw list at c.body_octets.ensures
