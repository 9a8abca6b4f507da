use Rattle.std.proofs.Common.{◌+◌}
use Rattle.world.specs.Waits.{wait_count}
use Rattle.ready_loop.specs.History.{no_history}
use Rattle.batch_run.proofs.LineLemmas.{none_begun}
use Rattle.batch_run.proofs.lines.Lines.new.Goals as goal

pub invariant_of-result : goal.invariant_of-result
invariant_of-result c = record { begun_are = none_begun c.no_places.ensures.none c.no_places.ensures.size }

pub returns-clause-sound : goal.returns-clause-sound
returns-clause-sound c = c.in_ok-new.ensures.ready.sound

pub returns-clause-stands : goal.returns-clause-stands
returns-clause-stands c = λ journal shut. (no_history (wait_count journal + c.args.turns), c.in_ok-new.ensures.stands journal shut)
