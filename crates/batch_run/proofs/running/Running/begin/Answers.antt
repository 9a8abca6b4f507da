use Rattle.std.proofs.Common.{◌≡◌, true, Ok, ap, subst}
use Rattle.std.specs.Prelude.{IfSome, slice_get}
use Rattle.job_run.specs.Run.{HasPorts}
use Rattle.batch_run.specs.declared.wanted.Wanted.{Wanted}
use Rattle.batch_run.specs.Owed.{begins}
use Rattle.batch_run.specs.Stands.{is_slot_running, served_by}
use Rattle.batch_run.proofs.KeptLemmas.{on_ok}
use Rattle.batch_run.proofs.LineLemmas.{fresh_later}
use Rattle.batch_run.proofs.OweLemmas.{fresh_closed, one_more_begun}
use Rattle.batch_run.proofs.SlotLemmas.{none_one}
use Rattle.batch_run.proofs.running.Running.begin.Goals as goal

pub returns-in-Ok-Some-clause-stands : goal.returns-in-Ok-Some-clause-stands
returns-in-Ok-Some-clause-stands g c = λ asks start from own here s.
    c.join.ensures.stands asks start from
    (λ e. subst (λ o. IfSome o (λ w. HasPorts c.args.number (Wanted.ports w) (g.W.Journal.journal c.begin.new.w))) c.in-Ok-Some.field-0-is c.in-Ok-Some.ensures.ports)
    (subst (λ o. IfSome o (λ (w : Wanted). is_slot_running (slice_get c.begin.new.self.slots.items c.args.number) ≡ true)) c.in-Ok-Some.field-0-is c.in-Ok-Some.ensures.runs)
    (c.in-Ok-Some.ensures.stands asks start (served_by (begins c.args.number) c.args.self.now.lines.connections from) own here (fresh_closed c.requires.fresh) s)

pub returns-in-Ok-Some-clause-over : goal.returns-in-Ok-Some-clause-over
returns-in-Ok-Some-clause-over g c = on_ok c.join.result (λ f n. f (none_one c.begin.ensures.others c.begin.ensures.over n)) c.join.ensures.over

pub returns-in-Ok-None-clause-stands : goal.returns-in-Ok-None-clause-stands
returns-in-Ok-None-clause-stands g c = λ asks start from own here s.
    one_more_begun asks start (served_by (begins c.args.number) c.args.self.now.lines.connections from) c.args.number (c.in-Ok-None.ensures.none (ap Ok c.in-Ok-None.field-0-is))
    (c.in-Ok-None.ensures.stands asks start (served_by (begins c.args.number) c.args.self.now.lines.connections from) own here (fresh_closed c.requires.fresh) s)

pub returns-in-Ok-None-clause-over : goal.returns-in-Ok-None-clause-over
returns-in-Ok-None-clause-over g c = λ n. none_one c.begin.ensures.others c.begin.ensures.over n

pub returns-in-Ok-None-clause-fresh : goal.returns-in-Ok-None-clause-fresh
returns-in-Ok-None-clause-fresh g c = fresh_later c.requires.fresh

pub returns-in-Err-clause-stands : goal.returns-in-Err-clause-stands
returns-in-Err-clause-stands g c = λ asks start from own here s.
    c.in-Err.ensures.stands asks start (served_by (begins c.args.number) c.args.self.now.lines.connections from) own here (fresh_closed c.requires.fresh) s
