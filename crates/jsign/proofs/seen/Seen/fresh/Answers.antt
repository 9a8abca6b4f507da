use Rattle.std.proofs.Common.{sym}
use Rattle.jsign.proofs.HistoryLemmas.{evicted_at, room_at, answer_known, answer_new, history_known, history_new, held_with_room, held_without_room}
use Rattle.jsign.proofs.seen.Seen.fresh.Goals as goal

pub returns-then-contains-clause-answer : goal.returns-then-contains-clause-answer
returns-then-contains-clause-answer c = rw (← c.self.view_is) (answer_known _ _ _ c.self.invariant (sym c.if-contains.ensures))

pub returns-then-contains-clause-history : goal.returns-then-contains-clause-history
returns-then-contains-clause-history c = rw (← c.self.view_is) (history_known _ _ _ c.self.invariant (sym c.if-contains.ensures))

pub invariant_of-self-in-Some : goal.invariant_of-self-in-Some
invariant_of-self-in-Some c =
    let full = evicted_at c.self.inside.ring c.args.sig.now c.in-Some.oldest c.push_back.result c.self.invariant.capacity c.push_back.ensures.value c.in-Some.is in
    rw c.push_back.ensures.items (held_without_room _ _ _ _ _ _ c.self.invariant (sym c.if-contains.ensures) c.in-Ok.ensures.updates full.0 full.1 c.remove.ensures.updates)

pub invariant_of-self-in_default-push_back : goal.invariant_of-self-in_default-push_back
invariant_of-self-in_default-push_back c =
    let room = room_at c.self.inside.ring c.args.sig.now c.push_back.result c.self.invariant.capacity c.push_back.ensures.value c.in_default-push_back.is in
    rw c.push_back.ensures.items (held_with_room _ _ _ _ c.self.invariant (sym c.if-contains.ensures) c.in-Ok.ensures.updates room)

pub returns-in-Some-clause-answer : goal.returns-in-Some-clause-answer
returns-in-Some-clause-answer c = rw (← c.self.view_is) (answer_new _ _ _ c.self.invariant (sym c.if-contains.ensures))

pub returns-in-Some-clause-history : goal.returns-in-Some-clause-history
returns-in-Some-clause-history c = rw (← c.self.view_is, c.push_back.ensures.items, c.self.invariant.capacity) (history_new _ _ _ c.self.invariant (sym c.if-contains.ensures))

pub returns-in_default-push_back-clause-answer : goal.returns-in_default-push_back-clause-answer
returns-in_default-push_back-clause-answer c = rw (← c.self.view_is) (answer_new _ _ _ c.self.invariant (sym c.if-contains.ensures))

pub returns-in_default-push_back-clause-history : goal.returns-in_default-push_back-clause-history
returns-in_default-push_back-clause-history c = rw (← c.self.view_is, c.push_back.ensures.items, c.self.invariant.capacity) (history_new _ _ _ c.self.invariant (sym c.if-contains.ensures))
