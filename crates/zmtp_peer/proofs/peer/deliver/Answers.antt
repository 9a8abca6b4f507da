use Rattle.std.proofs.Common.{length, ap, ◌∙◌, refl}
use Rattle.std.proofs.lemmas.Iterator.Adapters.{YieldsList-from_vec}
use Rattle.std.proofs.lemmas.Iterator.Consumers.{YieldsList-so_far}
use Rattle.jtext.proofs.Lists.{on_err}
use Rattle.zmtp_peer.proofs.BodyLemmas.{some_body, no_body, some_bodies}
use Rattle.zmtp_peer.proofs.PrefixLemmas.{prefixes-push}
use Rattle.zmtp_peer.proofs.peer.deliver.Goals as goal

pub returns-in_err-note-clause-starved : goal.returns-in_err-note-clause-starved
returns-in_err-note-clause-starved c =
    let s = c.into_iter-message-iterator.result in
    let g = c.into_iter-message-iterator.ensures.into_iter_gives in
    let v = c.into_vec-message-items in
    let road = YieldsList-from_vec {s = s} c.args.came (g.0 ∙ v.ensures) (g.1 ∙ v.result.ok.0 ∙ ap length v.ensures) in
    let front = YieldsList-so_far road c.loop-message.yielded _ c.loop-message.yielded_by in
    on_err c.from_residual.result (some_bodies c.args.role c.args.out.now c.loop-message.out c.loop-message.out c.args.came c.loop-message.yielded front c.loop-message.invariant.bodies refl)

pub loop-message-preserved-in-Continue-branch-2 : goal.loop-message-preserved-in-Continue-branch-2
loop-message-preserved-in-Continue-branch-2 c = record {
  bodies = some_body c.args.role c.args.out.now c.loop-message.out c.push.new.self c.loop-message.yielded c.in-Some.message c.in-Some-body_in.body c.loop-message.invariant.bodies c.in-Some-body_in.ensures.some c.in_ok-push.ensures.ok;
  prefixes = prefixes-push c.args.role c.args.prefixes.now c.loop-message.prefixes c.note.new.prefixes c.loop-message.yielded c.in-Some.message c.loop-message.invariant.prefixes c.in_ok-note.ensures;
}

pub returns-in_err-push-clause-starved : goal.returns-in_err-push-clause-starved
returns-in_err-push-clause-starved c =
    let s = c.into_iter-message-iterator.result in
    let g = c.into_iter-message-iterator.ensures.into_iter_gives in
    let v = c.into_vec-message-items in
    let road = YieldsList-from_vec {s = s} c.args.came (g.0 ∙ v.ensures) (g.1 ∙ v.result.ok.0 ∙ ap length v.ensures) in
    let front = YieldsList-so_far road c.loop-message.yielded _ c.loop-message.yielded_by in
    on_err c.from_residual-in_err-push.result (some_bodies c.args.role c.args.out.now c.loop-message.out c.push.new.self c.args.came c.loop-message.yielded front c.loop-message.invariant.bodies c.in_err-push.ensures.err)

pub loop-message-preserved : goal.loop-message-preserved
loop-message-preserved c = record {
  bodies = no_body c.args.role c.args.out.now c.loop-message.out c.loop-message.yielded c.in-Some.message c.loop-message.invariant.bodies c.in_default.ensures.none;
  prefixes = prefixes-push c.args.role c.args.prefixes.now c.loop-message.prefixes c.note.new.prefixes c.loop-message.yielded c.in-Some.message c.loop-message.invariant.prefixes c.in_ok-note.ensures;
}
