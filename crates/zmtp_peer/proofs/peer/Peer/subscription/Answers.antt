use Rattle.std.proofs.Common.{◌≡◌, [], true, false, sym, ◌∙◌}
use Rattle.zmtp_wire.proofs.ShakenLemmas.{is_true, true_is}
use Rattle.zmtp_peer.specs.Reply.{no_sub, not_yet, everything, subscription_octets}
use Rattle.zmtp_peer.proofs.PeerLemmas.{shaken_newer}
use Rattle.zmtp_peer.proofs.OwedLemmas.{subscribes_one}
use Rattle.zmtp_peer.proofs.peer.Peer.subscription.Goals as goal

pub returns-then-not-is_sub-clause-is : goal.returns-then-not-is_sub-clause-is
returns-then-not-is_sub-clause-is c = λ b sent s. subscribes_one c.args.self.now.role b [] (no_sub (sym c.is_sub.ensures ∙ c.if-not-is_sub.true))

pub returns-then-not-shaken-clause-is : goal.returns-then-not-shaken-clause-is
returns-then-not-shaken-clause-is c = λ b sent s.
    subscribes_one c.args.self.now.role b [] (not_yet (λ k. let t : true ≡ false = sym (is_true c.shaken.result ((c.shaken.ensures.is b sent s).1 k)) ∙ c.if-not-shaken.true in absurd (cc)))

pub returns-in-Some-clause-is : goal.returns-in-Some-clause-is
returns-in-Some-clause-is c = λ b sent s.
    let r = c.args.self.now.role in
    let e = sym c.is_sub.ensures ∙ c.if-not-is_sub.false in
    let k = (c.shaken.ensures.is b sent s).0 (true_is c.shaken.result c.if-not-shaken.false) in
    c.subscription_octets.ensures ∙ subscribes_one r b (subscription_octets c.in-Some.newer) (everything c.in-Some.newer e k (sym (c.newer.ensures.is b s.contexts s.reads) ∙ c.in-Some.is))

pub returns-in-None-clause-is : goal.returns-in-None-clause-is
returns-in-None-clause-is c = λ b sent s.
    let k = (c.shaken.ensures.is b sent s).0 (true_is c.shaken.result c.if-not-shaken.false) in
    absurd (shaken_newer c.args.self.now.role b k (sym (c.in-None.ensures.is b s.contexts s.reads)))
