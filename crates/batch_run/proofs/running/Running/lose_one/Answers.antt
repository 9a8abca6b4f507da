use Rattle.std.proofs.Common.{◌∙◌}
use Rattle.batch_run.specs.Stands.{served_by}
use Rattle.batch_run.proofs.KeptLemmas.{kept_start}
use Rattle.batch_run.proofs.OweLemmas.{exits, forgets_lines}
use Rattle.batch_run.proofs.SlotLemmas.{waiting_others}
use Rattle.batch_run.proofs.running.Running.lose_one.Goals as goal

pub returns-in_err-lose-clause-stands : goal.returns-in_err-lose-clause-stands
returns-in_err-lose-clause-stands g c = λ o waits bare asks start from why s.
    exits _ asks start from o c.args.self.now.lines.connections c.from_residual.result c.from_residual.ensures.1
    (forgets_lines asks start from o c.args.self.now.lines.connections
    (c.lose.ensures.stands asks start (served_by o c.args.self.now.lines.connections from) (g.W.Journal.journal c.args.w.now) (g.W.Journal.counts c.args.w.now) why bare s))

pub returns-in_err-lose-clause-left : goal.returns-in_err-lose-clause-left
returns-in_err-lose-clause-left g c = kept_start c.args.self.now.lines.connections

pub returns-clause-stands : goal.returns-clause-stands
returns-clause-stands g c = λ o waits bare asks start from why s.
    c.leave.ensures.stands o waits bare asks start from (c.lose.ensures.stands asks start (served_by o c.args.self.now.lines.connections from) (g.W.Journal.journal c.args.w.now) (g.W.Journal.counts c.args.w.now) why bare s)

pub returns-clause-gone : goal.returns-clause-gone
returns-clause-gone g c = c.leave.ensures.gone

pub returns-clause-left : goal.returns-clause-left
returns-clause-left g c = c.leave.ensures.left.kept

pub returns-clause-waiting : goal.returns-clause-waiting
returns-clause-waiting g c = λ w. waiting_others c.leave.ensures.others (c.lose.ensures.waiting w)

pub returns-clause-others : goal.returns-clause-others
returns-clause-others g c = λ k ne. c.leave.ensures.others k ne ∙ c.lose.ensures.others k ne

pub returns-clause-over : goal.returns-clause-over
returns-clause-over g c = c.leave.ensures.over

pub returns-clause-sound : goal.returns-clause-sound
returns-clause-sound g c = c.leave.ensures.sound

pub returns-clause-linked : goal.returns-clause-linked
returns-clause-linked g c = c.leave.ensures.linked

pub returns-clause-size : goal.returns-clause-size
returns-clause-size g c = c.leave.ensures.size ∙ c.lose.ensures.size
