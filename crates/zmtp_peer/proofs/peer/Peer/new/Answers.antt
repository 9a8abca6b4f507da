use Rattle.std.proofs.Common.{[], Ok, refl}
use Rattle.zmtp_peer.proofs.PeerLemmas.{gives_nothing}
use Rattle.zmtp_peer.proofs.peer.Peer.new.Goals as goal

pub returns-clause-stands : goal.returns-clause-stands
returns-clause-stands c = record {
  contexts = [];
  subscription = [];
  messages = [];
  owed = [];
  answer = Ok tt;
  unstarved = refl;
  role = c.new.ensures.role;
  reads = c.new.ensures.stands;
  gives = gives_nothing c.args.role;
  prefixes = c.new-2.ensures;
  spoke = refl;
  due = λ u. (refl, λ e. refl);
  done = λ u. absurd (cc);
}
