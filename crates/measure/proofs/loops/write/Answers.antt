use Rattle.world.specs.Places.{place_of}
use Rattle.ready_loop.specs.History.{conn_on}
use Rattle.measure.proofs.loops.write.Goals as goal

pub puts-requires : goal.puts-requires
puts-requires c = record { each = λ chan. c.in-Ok.ensures.fresh (place_of (conn_on 0 chan)) }
