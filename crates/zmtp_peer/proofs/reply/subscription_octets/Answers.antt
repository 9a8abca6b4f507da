use Rattle.zmtp_peer.proofs.ReplyLemmas.{newer_octets, older_octets}
use Rattle.zmtp_peer.proofs.reply.subscription_octets.Goals as goal

pub returns-then-newer : goal.returns-then-newer
returns-then-newer c = newer_octets c.args.newer c.if-newer.true

pub returns-else-newer : goal.returns-else-newer
returns-else-newer c = older_octets c.args.newer c.if-newer.false
