use Rattle.std.proofs.Common.{inl, inr, refl, sym, ap, ◌∙◌}
use Rattle.std.proofs.lemmas.List.{nil_from_length}
use Rattle.zmtp_wire.proofs.GivesLemmas.{grows_all}
use Rattle.zmtp_peer.specs.declared.peer.Peer.{Peer}
use Rattle.zmtp_peer.specs.Subscription.{prefixes_after}
use Rattle.zmtp_peer.proofs.PeerLemmas.{fed_stands, Fed, brings_here, some_here, either_way, all_came, some_came, grows_none}
use Rattle.zmtp_peer.proofs.peer.Peer.feed.Goals as goal

pub returns-then-len-eq0-clause-stands : goal.returns-then-len-eq0-clause-stands
returns-then-len-eq0-clause-stands c = λ u b sent s.
    let p = c.args.self.now in
    let w = c.feed-answer in
    let p' : Peer = record p { decoder = w.new.self } in
    let none = nil_from_length w.new.out (sym c.len.ensures ∙ c.if-len-eq0.true) in
    let fed : Fed p p' b c.args.piece.now w.new.out w.result s.contexts = record {
      same = refl;
      subscribed = refl;
      starved = refl;
      decoder = w.ensures.role;
      reads = w.ensures.stands u b s.contexts s.reads;
      brings = brings_here p b c.args.piece.now sent c.new-came.result w.new.out w.result s c.new-came.ensures (w.ensures.brings u b s.contexts s.reads);
      prefixes = ap (prefixes_after p.role p.prefixes) (sym none);
    } in
    fed_stands p p' b c.args.piece.now sent w.new.out w.result s fed

pub returns-then-len-eq0-clause-starved : goal.returns-then-len-eq0-clause-starved
returns-then-len-eq0-clause-starved c = λ u b sent s.
    let p = c.args.self.now in
    let w = c.feed-answer in
    let none = nil_from_length w.new.out (sym c.len.ensures ∙ c.if-len-eq0.true) in
    some_came p.role b c.args.piece.now c.args.out.now c.args.out.now w.new.out (some_here p b c.args.piece.now sent c.new-came.result w.new.out s c.new-came.ensures (w.ensures.starved u b s.contexts s.reads))
    (grows_none p.role c.args.out.now w.new.out none)

pub returns-in-Ok-clause-stands : goal.returns-in-Ok-clause-stands
returns-in-Ok-clause-stands c = λ u b sent s.
    let p = c.args.self.now in
    let w = c.feed-answer in
    let p' : Peer = record p { decoder = w.new.self; prefixes = c.deliver.new.prefixes } in
    let fed : Fed p p' b c.args.piece.now w.new.out w.result s.contexts = record {
      same = refl;
      subscribed = refl;
      starved = refl;
      decoder = w.ensures.role;
      reads = w.ensures.stands u b s.contexts s.reads;
      brings = brings_here p b c.args.piece.now sent c.new-came.result w.new.out w.result s c.new-came.ensures (w.ensures.brings u b s.contexts s.reads);
      prefixes = c.in-Ok.ensures.prefixes;
    } in
    fed_stands p p' b c.args.piece.now sent w.new.out w.result s fed

pub returns-in-Ok-clause-starved : goal.returns-in-Ok-clause-starved
returns-in-Ok-clause-starved c = λ u b sent s.
    let p = c.args.self.now in
    let w = c.feed-answer in
    some_came p.role b c.args.piece.now c.args.out.now c.deliver.new.out w.new.out (some_here p b c.args.piece.now sent c.new-came.result w.new.out s c.new-came.ensures (w.ensures.starved u b s.contexts s.reads))
    (grows_all _ _ _ c.in-Ok.ensures.bodies)

pub returns-in-Err-clause-starved : goal.returns-in-Err-clause-starved
returns-in-Err-clause-starved c = λ u b sent s.
    let p = c.args.self.now in
    let w = c.feed-answer in
    elim (either_way w.result) [
      | inl h ↦
          some_came p.role b c.args.piece.now c.args.out.now c.deliver.new.out w.new.out (some_here p b c.args.piece.now sent c.new-came.result w.new.out s c.new-came.ensures (w.ensures.starved h b s.contexts s.reads))
          c.in-Err.ensures.starved
      | inr h ↦
          all_came p.role b c.args.piece.now c.args.out.now c.deliver.new.out w.new.out w.result
          (brings_here p b c.args.piece.now sent c.new-came.result w.new.out w.result s c.new-came.ensures (w.ensures.brings h b s.contexts s.reads)) c.in-Err.ensures.starved
    ]
