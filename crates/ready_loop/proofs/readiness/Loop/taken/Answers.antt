use Rattle.std.proofs.Common.{arith, ◌<◌, ◌∙◌, ap}
use Rattle.world.specs.Places.{place_of}
use Rattle.ready_loop.specs.Queues.{taken_at}
use Rattle.ready_loop.proofs.NewLemmas.{taken_is}
use Rattle.ready_loop.proofs.readiness.Loop.taken.Goals as goal

pub returns : goal.returns
returns c = λ h journal stand.
    let low : place_of c.args.conn < 64 = omega (arith, c.place_at.ensures.within, c.place_at.ensures.place) in
    c.taken.ensures ∙ ap (taken_at c.args.self.now.queues) c.place_at.ensures.place ∙ taken_is (place_of c.args.conn) c.args.self.now low h journal stand
