use Rattle.std.proofs.Common.{arith, ◌≡◌, ◌+◌, ◌∙◌, ap, sym, subst, ℕ, Option, min, slice_get}
use Rattle.ready_loop.specs.States.{awake_in, refused_in}
use Rattle.ready_loop.specs.Waits.{IsLeast, connect_wait}
use Rattle.ready_loop.proofs.WaitLemmas.{least_any, least_more, limit_asleep, asleep_more}
use Rattle.ready_loop.proofs.timer.limit.Goals as goal

pub loop-place-init : goal.loop-place-init
loop-place-init c = record {
  bound = c.ms_to_due-least.ensures.bound;
  least = least_any c.ms_to_due-least.ensures.least;
  asleep = λ p low. absurd (omega arith);
}

pub loop-place-preserved : goal.loop-place-preserved
loop-place-preserved c =
    let inv = c.loop-place.invariant in
    let n = c.loop-place.place in
    let refused : ℕ → Option ℕ = λ p. refused_in (slice_get c.args.links.now p) in
    let ms : c.min-least.result ≡ min (connect_wait (refused n) c.args.last) c.loop-place.least
    = c.min-least.ensures ∙ ap (λ (m : ℕ). min m c.loop-place.least) (c.ms_to_connect.ensures ∙ ap (λ (o : Option ℕ). connect_wait o c.args.last) (sym (ap refused_in c.at-link.ensures.found))) in
    record {
      bound = omega (arith, inv.bound, c.min-least.ensures);
      least = subst (λ (m : ℕ). IsLeast (n + 1) c.args.due c.args.last refused m) (sym ms) (least_more n c.args.due c.args.last c.loop-place.least refused inv.bound inv.least);
      asleep = asleep_more n (λ p. awake_in (slice_get c.args.links.now p)) (ap awake_in c.at-link.ensures.found ∙ c.if-link.false) inv.asleep;
    }

pub overflow_cast-result : goal.overflow_cast-result
overflow_cast-result c = let low = c.loop-place.invariant.bound in omega arith

pub returns : goal.returns
returns c =
    let n : c.loop-place.place ≡ 64 = omega (arith, c.loop-place.auto.place-end) in
    let inv = c.loop-place.invariant in
    limit_asleep c.args.due c.args.last c.loop-place.least (λ p. awake_in (slice_get c.args.links.now p)) (λ p. refused_in (slice_get c.args.links.now p))
    (λ p low. inv.asleep p (omega (arith, n)))
    (subst (λ (k : ℕ). IsLeast k c.args.due c.args.last (λ p. refused_in (slice_get c.args.links.now p)) c.loop-place.least) n inv.least)
