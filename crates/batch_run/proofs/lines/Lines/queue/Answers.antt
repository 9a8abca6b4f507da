use Rattle.batch_run.proofs.KeptLemmas.{queue_left}
use Rattle.ready_loop.specs.History.{after_queue}
use Rattle.batch_run.proofs.LineLemmas.{begun_same}
use Rattle.batch_run.proofs.LoopLemmas.{queue_keeps}
use Rattle.batch_run.proofs.lines.Lines.queue.Goals as goal

pub invariant_of-self : goal.invariant_of-self
invariant_of-self c = record { begun_are = begun_same c.queue.ensures.known.each c.args.self.now.begun_are }

pub returns-clause-stays : goal.returns-clause-stays
returns-clause-stays c = queue_left c.args.conn c.queue.ensures.only c.queue.ensures.known c.queue.ensures.reads c.queue.ensures.ports c.queue.ensures.drained c.queue.ensures.sound

pub returns-clause-begun : goal.returns-clause-begun
returns-clause-begun c = c.queue.ensures.known.begun

pub returns-clause-goes : goal.returns-clause-goes
returns-clause-goes c = λ asks start from o slots journal counts s.
    queue_keeps asks start from o slots journal counts c.args.self.now.connections c.queue.new.self c.queue.ensures.ports c.queue.ensures.known
    (λ h past stands. (after_queue c.args.conn c.args.bytes c.queue.result h, c.queue.ensures.stands h past stands)) s
