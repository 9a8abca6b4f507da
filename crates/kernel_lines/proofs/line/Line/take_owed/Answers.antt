use Rattle.std.proofs.Common.{◌++◌, refl, sym, ap, ◌∙◌, subst}
use Rattle.zmtp_peer.specs.Peer.{StandsFor}
use Rattle.zmtp_peer.specs.Reply.{Owes}
use Rattle.kernel_lines.specs.Line.{role_of}
use Rattle.kernel_lines.proofs.line.Line.take_owed.Goals as goal

pub returns-clause-is : goal.returns-clause-is
returns-clause-is c =
    record {
      same = refl;
      role = c.replies.ensures.role;
      owes = λ b sent s.
          let k = c.in_ok-replies.ensures.owes b sent s in
          subst (λ x. Owes (role_of c.args.self.now) b (sent ++ x)) (sym (k.1 ∙ ap (λ x. x ++ k.0) c.new-octets.ensures)) k.2;
      stands = λ b sent s.
          let k = c.in_ok-replies.ensures.owes b sent s in
          subst (λ x. StandsFor c.replies.new.self b (sent ++ x)) (sym (k.1 ∙ ap (λ x. x ++ k.0) c.new-octets.ensures)) k.3;
    }
