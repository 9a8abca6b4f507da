use Rattle.std.proofs.Common.{arith, ap, ◌∙◌}
use Rattle.world.proofs.MomentsLemmas.{told_as}
use Rattle.ready_loop.proofs.NameLemmas.{named_goes, named_names, named_drained, named_offered, named_calm, named_failed, named_known}
use Rattle.ready_loop.proofs.StateLemmas.{sound_as, known_then}
use Rattle.ready_loop.proofs.FaultLemmas.{err_same}
use Rattle.ready_loop.proofs.WireLemmas.{wired_on}
use Rattle.ready_loop.proofs.readiness.Loop.offer.Goals as goal

pub returns-in-Err-clause-goes : goal.returns-in-Err-clause-goes
returns-in-Err-clause-goes g c = c.in-Err.ensures.goes

pub returns-in-Ok-clause-goes : goal.returns-in-Ok-clause-goes
returns-in-Ok-clause-goes g c = told_as c.in-Ok.ensures.goes (λ x y a. named_goes c.offer_all.new.self c.name_ends.new.self c.name_ends.result
    c.name_ends.ensures.all (ap (λ l. l.queues) c.name_ends.ensures.same) (ap (λ l. l.left) c.name_ends.ensures.same) c.name_ends.ensures.named a)

pub returns-in-Ok-clause-names : goal.returns-in-Ok-clause-names
returns-in-Ok-clause-names g c = told_as c.in-Ok.ensures.goes (λ x y a. named_names c.offer_all.new.self c.name_ends.new.self c.name_ends.result
    c.name_ends.ensures.all (ap (λ l. l.queues) c.name_ends.ensures.same) (ap (λ l. l.left) c.name_ends.ensures.same) c.name_ends.ensures.named a)

pub returns-in-Ok-clause-offered : goal.returns-in-Ok-clause-offered
returns-in-Ok-clause-offered g c = named_offered c.offer_all.new.self c.name_ends.new.self c.name_ends.ensures.all (ap (λ l. l.queues) c.name_ends.ensures.same) c.in-Ok.ensures.offered

pub returns-in-Ok-clause-calm : goal.returns-in-Ok-clause-calm
returns-in-Ok-clause-calm g c = named_calm c.offer_all.new.self c.name_ends.new.self c.name_ends.ensures.all (ap (λ l. l.queues) c.name_ends.ensures.same) c.in-Ok.ensures.offered

pub returns-in-Ok-clause-drained : goal.returns-in-Ok-clause-drained
returns-in-Ok-clause-drained g c = λ d. named_drained c.offer_all.new.self c.name_ends.new.self c.name_ends.ensures.all (ap (λ l. l.queues) c.name_ends.ensures.same) (c.in-Ok.ensures.drained d)

pub returns-in-Ok-clause-failed : goal.returns-in-Ok-clause-failed
returns-in-Ok-clause-failed g c = record {
  each = λ p. named_failed c.offer_all.new.self c.name_ends.new.self c.name_ends.ensures.all (ap (λ l. l.queues) c.name_ends.ensures.same) p ∙ c.in-Ok.ensures.failed.each p;
}

pub returns-in-Ok-clause-sound : goal.returns-in-Ok-clause-sound
returns-in-Ok-clause-sound g c = λ s. sound_as c.args.self.now c.name_ends.new.self
    (λ p. named_failed c.offer_all.new.self c.name_ends.new.self c.name_ends.ensures.all (ap (λ l. l.queues) c.name_ends.ensures.same) p ∙ c.in-Ok.ensures.failed.each p) s

pub returns-in-Ok-clause-known : goal.returns-in-Ok-clause-known
returns-in-Ok-clause-known g c = known_then c.in-Ok.ensures.known (named_known c.offer_all.new.self c.name_ends.new.self c.name_ends.ensures.all (ap (λ l. l.queues) c.name_ends.ensures.same))

pub returns-in-Err-clause-wires : goal.returns-in-Err-clause-wires
returns-in-Err-clause-wires g c = c.in-Err.ensures.wires

pub returns-in-Ok-clause-ports : goal.returns-in-Ok-clause-ports
returns-in-Ok-clause-ports g c = c.name_ends.ensures.ports ∙ c.in-Ok.ensures.ports

pub returns-in-Ok-clause-wires : goal.returns-in-Ok-clause-wires
returns-in-Ok-clause-wires g c = wired_on c.name_ends.ensures.ports c.in-Ok.ensures.wires

pub returns-in-Err-clause-came : goal.returns-in-Err-clause-came
returns-in-Err-clause-came g c = c.in-Err.ensures.came

pub returns-in-Err-clause-fault : goal.returns-in-Err-clause-fault
returns-in-Err-clause-fault g c = c.in-Err.ensures.fault

pub returns-in-Err-clause-names : goal.returns-in-Err-clause-names
returns-in-Err-clause-names g c = told_as c.in-Err.ensures.goes (λ x y a. record { so = λ h stand. tt })

pub returns-in-Err-clause-offered : goal.returns-in-Err-clause-offered
returns-in-Err-clause-offered g c = tt

pub returns-in-Err-clause-calm : goal.returns-in-Err-clause-calm
returns-in-Err-clause-calm g c = tt

pub returns-in-Err-clause-drained : goal.returns-in-Err-clause-drained
returns-in-Err-clause-drained g c = c.in-Err.ensures.drained

pub returns-in-Err-clause-failed : goal.returns-in-Err-clause-failed
returns-in-Err-clause-failed g c = record { each = c.in-Err.ensures.failed.each }

pub returns-in-Err-clause-sound : goal.returns-in-Err-clause-sound
returns-in-Err-clause-sound g c = tt

pub returns-in-Err-clause-known : goal.returns-in-Err-clause-known
returns-in-Err-clause-known g c = c.in-Err.ensures.known

pub returns-in-Err-clause-left : goal.returns-in-Err-clause-left
returns-in-Err-clause-left g c = c.in-Err.ensures.left

pub returns-in-Err-clause-ports : goal.returns-in-Err-clause-ports
returns-in-Err-clause-ports g c = c.in-Err.ensures.ports

pub returns-in-Err-clause-calls : goal.returns-in-Err-clause-calls
returns-in-Err-clause-calls g c = c.in-Err.ensures.calls

pub returns-in-Err-clause-cause : goal.returns-in-Err-clause-cause
returns-in-Err-clause-cause g c = c.in-Err.ensures.cause

pub returns-in-Ok-clause-came : goal.returns-in-Ok-clause-came
returns-in-Ok-clause-came g c = told_as c.in-Ok.ensures.goes (λ x y a. tt)

pub returns-in-Ok-clause-fault : goal.returns-in-Ok-clause-fault
returns-in-Ok-clause-fault g c = tt

pub returns-in-Ok-clause-left : goal.returns-in-Ok-clause-left
returns-in-Ok-clause-left g c = ap (λ l. l.left) c.name_ends.ensures.same ∙ c.in-Ok.ensures.left

pub returns-in-Ok-clause-calls : goal.returns-in-Ok-clause-calls
returns-in-Ok-clause-calls g c = c.in-Ok.ensures.calls

pub returns-in-Ok-clause-cause : goal.returns-in-Ok-clause-cause
returns-in-Ok-clause-cause g c = c.in-Ok.ensures.cause

pub returns-in-Ok-clause-reads : goal.returns-in-Ok-clause-reads
returns-in-Ok-clause-reads g c = omega (arith, c.in-Ok.ensures.reads, c.name_ends.ensures.reads)

pub returns-in-Ok-clause-anew : goal.returns-in-Ok-clause-anew
returns-in-Ok-clause-anew g c = λ conn e. absurd (cc)

pub returns-in-Err-clause-reads : goal.returns-in-Err-clause-reads
returns-in-Err-clause-reads g c = c.in-Err.ensures.reads

pub returns-in-Err-clause-anew : goal.returns-in-Err-clause-anew
returns-in-Err-clause-anew g c = λ conn e. c.in-Err.ensures.anew conn (err_same e)
