use Rattle.std.proofs.Common.{refl, ◌∙◌}
use Rattle.world.proofs.CountsLemmas.{rose_since}
use Rattle.batch_run.proofs.KeptLemmas.{on_ok}
use Rattle.batch_run.specs.Owed.{begins}
use Rattle.batch_run.proofs.LineLemmas.{fresh_kept}
use Rattle.batch_run.proofs.OweLemmas.{joined}
use Rattle.batch_run.proofs.SlotLemmas.{none_one}
use Rattle.batch_run.proofs.running.Running.join.Goals as goal

pub returns-in-Ok-clause-stands : goal.returns-in-Ok-clause-stands
returns-in-Ok-clause-stands g c = λ asks start from given runs s. c.in-Ok.ensures.stands asks start from c.args.self.now.jobs.slots.items given runs s

pub returns-in-Ok-clause-over : goal.returns-in-Ok-clause-over
returns-in-Ok-clause-over g c = λ n. n

pub returns-in-Err-clause-stands : goal.returns-in-Err-clause-stands
returns-in-Err-clause-stands g c = λ asks start from given runs s.
    joined asks start from c.lose_one.new.self.lines.connections c.lose_one.result c.args.number c.lose_one.ensures.gone
    (c.lose_one.ensures.stands (begins c.args.number) refl refl asks start from
    (rose_since from.counts.net (g.W.Journal.counts c.args.w.now).net (g.W.Journal.counts c.begin.new.w).net s.grow.net c.in-Err.ensures.cause)
    (c.in-Err.ensures.stands asks start from c.args.self.now.jobs.slots.items given runs s))

pub returns-in-Err-clause-over : goal.returns-in-Err-clause-over
returns-in-Err-clause-over g c = on_ok c.lose_one.result (λ f n. none_one c.lose_one.ensures.others f n) c.lose_one.ensures.over

pub returns-in-Err-clause-waiting : goal.returns-in-Err-clause-waiting
returns-in-Err-clause-waiting g c = c.lose_one.ensures.waiting c.requires.waiting

pub returns-in-Err-clause-fresh : goal.returns-in-Err-clause-fresh
returns-in-Err-clause-fresh g c = fresh_kept c.lose_one.ensures.left.known c.begin.ensures.fresh

pub returns-in-Err-clause-drained : goal.returns-in-Err-clause-drained
returns-in-Err-clause-drained g c = λ d. c.lose_one.ensures.left.drained (c.begin.ensures.drained d)

pub returns-in-Err-clause-sound : goal.returns-in-Err-clause-sound
returns-in-Err-clause-sound g c = on_ok c.lose_one.result (λ f. f c.in-Err.ensures.but) c.lose_one.ensures.sound

pub returns-in-Err-clause-waits : goal.returns-in-Err-clause-waits
returns-in-Err-clause-waits g c = c.lose_one.ensures.left.waits ∙ c.begin.ensures.waits
