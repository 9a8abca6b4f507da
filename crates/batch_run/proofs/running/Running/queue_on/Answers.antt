use Rattle.std.proofs.Common.{refl}
use Rattle.batch_run.specs.Stands.{served_by}
use Rattle.batch_run.proofs.KeptLemmas.{left_start}
use Rattle.batch_run.proofs.SlotLemmas.{changes_start, over_start}
use Rattle.batch_run.proofs.running.Running.queue_on.Goals as goal

pub returns-then-not-was_begun-clause-left : goal.returns-then-not-was_begun-clause-left
returns-then-not-was_begun-clause-left c = left_start c.args.conn.job c.args.self.now.lines.connections

pub returns-then-not-was_begun-clause-linked : goal.returns-then-not-was_begun-clause-linked
returns-then-not-was_begun-clause-linked c = λ p. refl

pub returns-then-not-was_begun-clause-stands : goal.returns-then-not-was_begun-clause-stands
returns-then-not-was_begun-clause-stands c = λ asks start from o journal counts bare s. s

pub returns-then-not-was_begun-clause-over : goal.returns-then-not-was_begun-clause-over
returns-then-not-was_begun-clause-over c = over_start c.args.self.now.jobs.slots.items

pub returns-then-not-was_begun-clause-at : goal.returns-then-not-was_begun-clause-at
returns-then-not-was_begun-clause-at c = changes_start c.args.conn.job c.args.self.now.jobs.slots.items

pub returns-in-Some-clause-left : goal.returns-in-Some-clause-left
returns-in-Some-clause-left c = c.queue.ensures.stays

pub returns-in-Some-clause-linked : goal.returns-in-Some-clause-linked
returns-in-Some-clause-linked c = c.queue.ensures.begun

pub returns-in-Some-clause-at : goal.returns-in-Some-clause-at
returns-in-Some-clause-at c = c.hand_out.ensures.at

pub returns-in-Some-clause-stands : goal.returns-in-Some-clause-stands
returns-in-Some-clause-stands c = λ asks start from o journal counts bare s.
    c.queue.ensures.goes asks start from o c.hand_out.new.self.slots.items journal counts
    (c.hand_out.ensures.stands asks start (served_by o c.args.self.now.lines.connections from) journal counts bare s)

pub returns-in-Some-clause-over : goal.returns-in-Some-clause-over
returns-in-Some-clause-over c = c.hand_out.ensures.over

pub returns-in-None-clause-left : goal.returns-in-None-clause-left
returns-in-None-clause-left c = left_start c.args.conn.job c.args.self.now.lines.connections

pub returns-in-None-clause-linked : goal.returns-in-None-clause-linked
returns-in-None-clause-linked c = λ p. refl

pub returns-in-None-clause-at : goal.returns-in-None-clause-at
returns-in-None-clause-at c = c.hand_out.ensures.at

pub returns-in-None-clause-stands : goal.returns-in-None-clause-stands
returns-in-None-clause-stands c = λ asks start from o journal counts bare s.
    c.hand_out.ensures.stands asks start (served_by o c.args.self.now.lines.connections from) journal counts bare s

pub returns-in-None-clause-over : goal.returns-in-None-clause-over
returns-in-None-clause-over c = c.hand_out.ensures.over
