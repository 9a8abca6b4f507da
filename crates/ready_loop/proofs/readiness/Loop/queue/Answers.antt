use Rattle.std.proofs.Common.{arith, refl, ◌≡◌, ◌<◌, ◌++◌, ℕ, length, set, subst, OnOk}
use Rattle.world.specs.Places.{place_of}
use Rattle.ready_loop.specs.Queues.{rest_at, taken_at}
use Rattle.ready_loop.proofs.NewLemmas.{queue_stands, queue_known, queue_only}
use Rattle.ready_loop.proofs.readiness.Loop.queue.Goals as goal

pub returns-clause-stands : goal.returns-clause-stands
returns-clause-stands c =
    let low : place_of c.args.conn < length c.args.self.now.queues = omega (arith, c.place_at.ensures.within, c.place_at.ensures.place, c.push.ensures.size) in
    queue_stands c.push.result c.args.conn c.args.bytes c.args.self.now c.push.new.self low
    (subst (λ (q : ℕ). OnOk c.push.result (c.push.new.self ≡ set c.args.self.now.queues q (record { rest = rest_at c.args.self.now.queues q ++ c.args.bytes; taken = taken_at c.args.self.now.queues q })))
    c.place_at.ensures.place c.push.ensures.ok) c.push.ensures.err

pub returns-clause-known : goal.returns-clause-known
returns-clause-known c = queue_known c.push.result (place_of c.args.conn) c.args.bytes c.args.self.now c.push.new.self c.requires.begun
    (subst (λ (q : ℕ). OnOk c.push.result (c.push.new.self ≡ set c.args.self.now.queues q (record { rest = rest_at c.args.self.now.queues q ++ c.args.bytes; taken = taken_at c.args.self.now.queues q })))
    c.place_at.ensures.place c.push.ensures.ok) c.push.ensures.err

pub returns-clause-failed : goal.returns-clause-failed
returns-clause-failed c = λ p. refl

pub returns-clause-ports : goal.returns-clause-ports
returns-clause-ports c = refl

pub returns-clause-only : goal.returns-clause-only
returns-clause-only c = queue_only c.push.result (place_of c.args.conn) c.args.bytes c.args.self.now c.push.new.self
    (subst (λ (q : ℕ). OnOk c.push.result (c.push.new.self ≡ set c.args.self.now.queues q (record { rest = rest_at c.args.self.now.queues q ++ c.args.bytes; taken = taken_at c.args.self.now.queues q })))
    c.place_at.ensures.place c.push.ensures.ok) c.push.ensures.err
