use Rattle.std.proofs.Common.{List, ℕ, sym, ◌∙◌, subst}
use Rattle.zmtp_peer.specs.Reply.{Subscribes, no_sub, not_yet, everything}
use Rattle.zmtp_peer.proofs.PeerLemmas.{shaken_here, not_shaken_here, shaken_newer}
use Rattle.zmtp_peer.proofs.peer.Peer.subscription_due.Goals as goal

pub returns-then-not-is_sub-clause-none : goal.returns-then-not-is_sub-clause-none
returns-then-not-is_sub-clause-none c = λ b sent s u. no_sub (sym c.is_sub.ensures ∙ c.if-not-is_sub.true)

pub returns-then-not-shaken-clause-none : goal.returns-then-not-shaken-clause-none
returns-then-not-shaken-clause-none c = λ b sent s u.
    not_yet (not_shaken_here c.args.self.now b sent c.shaken.result s (c.shaken.ensures.is b s.contexts s.reads) c.if-not-shaken.true)

pub returns-in-Some-clause-some : goal.returns-in-Some-clause-some
returns-in-Some-clause-some c = λ b sent s.
    let p = c.args.self.now in
    let e = sym c.is_sub.ensures ∙ c.if-not-is_sub.false in
    let k = shaken_here p b sent c.shaken.result s (c.shaken.ensures.is b s.contexts s.reads) c.if-not-shaken.false in
    let n = sym (c.in-Some.ensures.is b s.contexts s.reads) in
    record {
      ungiven = c.if-self.false;
      sub = e;
      shaken = k;
      subscribes = subst (λ (x : List ℕ). Subscribes p.role b x) (sym c.subscription_octets.ensures) (everything c.in-Some.newer e k n);
    }

pub returns-in-None-clause-none : goal.returns-in-None-clause-none
returns-in-None-clause-none c = λ b sent s u.
    let p = c.args.self.now in
    let k = shaken_here p b sent c.shaken.result s (c.shaken.ensures.is b s.contexts s.reads) c.if-not-shaken.false in
    absurd (shaken_newer p.role b k (sym (c.in-None.ensures.is b s.contexts s.reads)))
