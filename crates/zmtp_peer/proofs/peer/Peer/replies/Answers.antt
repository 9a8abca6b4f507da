use Rattle.std.proofs.Common.{true, refl, sym, subst}
use Rattle.std.proofs.lemmas.Result.{on_ok_weaker}
use Rattle.zmtp_peer.specs.declared.peer.Peer.{Peer}
use Rattle.zmtp_peer.proofs.PeerLemmas.{Taken, Replied, replied_due, replied_settled}
use Rattle.zmtp_peer.proofs.peer.Peer.replies.Goals as goal

pub returns-in-Some-clause-owes : goal.returns-in-Some-clause-owes
returns-in-Some-clause-owes c =
    let p = c.args.self.now in
    let o = c.owed-contexts in
    let p' : Peer = record p { decoder = o.new.self; subscribed = true } in
    on_ok_weaker c.give.result
    (λ k. λ b sent s.
    let t : Taken p p' b s.contexts o.result = record {
      same = refl;
      starved = refl;
      prefixes = refl;
      decoder = o.ensures.role;
      reads = o.ensures.stands b s.contexts s.reads;
      contexts = o.ensures.contexts b s.contexts s.reads;
    } in
    let r = replied_due p p' b sent c.in-Some.subscription.now c.args.out.now c.give.new.out o.result s (c.in-Some.ensures.some b sent s) t refl k.0 in
    subst (λ (x : Peer). Replied p x b sent c.args.out.now c.give.new.out) (sym k.1) r) c.give.ensures.ok

pub returns-in-None-clause-owes : goal.returns-in-None-clause-owes
returns-in-None-clause-owes c =
    let p = c.args.self.now in
    let o = c.owed-contexts-in-None in
    let p' : Peer = record p { decoder = o.new.self } in
    on_ok_weaker c.give-in-None.result
    (λ k. λ b sent s.
    let t : Taken p p' b s.contexts o.result = record {
      same = refl;
      starved = refl;
      prefixes = refl;
      decoder = o.ensures.role;
      reads = o.ensures.stands b s.contexts s.reads;
      contexts = o.ensures.contexts b s.contexts s.reads;
    } in
    let r = replied_settled p p' b sent c.args.out.now c.give-in-None.new.out o.result s (c.in-None.ensures.none b sent s) t refl k.0 in
    subst (λ (x : Peer). Replied p x b sent c.args.out.now c.give-in-None.new.out) (sym k.1) r) c.give-in-None.ensures.ok
