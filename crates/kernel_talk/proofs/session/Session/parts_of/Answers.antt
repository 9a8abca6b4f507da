use Rattle.std.proofs.Common.{◌≡◌, subst, IfOk}
use Rattle.jmsg.specs.Encoded.{encode}
use Rattle.kernel_talk.proofs.session.Session.parts_of.Goals as goal

pub returns : goal.returns
returns c = subst (λ m. IfOk c.encode.result (λ parts. parts ≡ encode c.args.self.now.key m)) c.in_ok-message.ensures c.encode.ensures
