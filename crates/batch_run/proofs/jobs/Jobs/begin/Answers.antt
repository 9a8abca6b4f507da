use Rattle.std.proofs.Common.{◌≡◌, length, set, Ok, Err, refl, sym, ◌∙◌, ap, subst, true}
use Rattle.std.specs.Prelude.{is_some, slice_get}
use Rattle.std.proofs.lemmas.List.{length-set}
use Rattle.batch_run.specs.declared.slot.Slot.TheVariants.{Running, Ended}
use Rattle.batch_run.specs.Stands.{AllStand, WaitingFrom}
use Rattle.batch_run.proofs.SlotLemmas.{waiting_at, waiting_set}
use Rattle.batch_run.proofs.JobStandLemmas.{job_begins}
use Rattle.job_run.specs.Run.{HasPorts}
use Rattle.batch_run.proofs.SlotLemmas.{none_wanted}
use Rattle.batch_run.specs.Owed.{begins}
use Rattle.batch_run.specs.Stands.{hush, is_slot_running, owing}
use Rattle.batch_run.specs.Due.{is_slot_over}
use Rattle.jtext.proofs.Lists.{slice_get-set_other, slice_get-set_same}
use Rattle.batch_run.proofs.OweLemmas.{owes_after}
use Rattle.batch_run.proofs.SaidLemmas.{speaks_running}
use Rattle.batch_run.proofs.jobs.Jobs.begin.Goals as goal

pub returns-in-Ok-clause-waiting : goal.returns-in-Ok-clause-waiting
returns-in-Ok-clause-waiting g c = subst (WaitingFrom _) (sym c.start.ensures.slots) (waiting_set (Running c.in-Ok.job) c.requires.waiting)

pub returns-in-Ok-clause-size : goal.returns-in-Ok-clause-size
returns-in-Ok-clause-size g c = ap length c.start.ensures.slots ∙ length-set c.args.self.now.slots.items c.args.number (Running c.in-Ok.job)

pub returns-in-Ok-clause-stands : goal.returns-in-Ok-clause-stands
returns-in-Ok-clause-stands g c = λ asks start from own here closed s.
    let items = c.args.self.now.slots.items in
    subst (λ xs. AllStand asks start (owing (begins c.args.number) from) xs (g.W.Journal.journal c.begin.new.w) (g.W.Journal.counts c.begin.new.w)) (sym c.start.ensures.slots)
    (speaks_running asks start (owing (begins c.args.number) from) (set items c.args.number (Running c.in-Ok.job)) (g.W.Journal.journal c.begin.new.w) (g.W.Journal.counts c.begin.new.w) c.args.number c.in-Ok.job
    (slice_get-set_same items c.args.number (Running c.in-Ok.job) c.requires.within)
    (job_begins asks start from items (g.W.Journal.journal c.args.w.now) (g.W.Journal.journal c.begin.new.w) (g.W.Journal.counts c.args.w.now) (g.W.Journal.counts c.begin.new.w)
    c.args.number c.args.ask (Ok c.in-Ok.job) here c.in-Ok.ensures.begun c.in-Ok.ensures.calls c.in-Ok.ensures.left tt tt tt c.in-Ok.ensures.output c.in-Ok.ensures.runs c.in-Ok.ensures.fresh own (waiting_at c.requires.waiting c.requires.within)
    closed c.last-before.result c.last-now.result c.last-before.ensures.is c.last-before.ensures.told c.last-now.ensures.is c.last-now.ensures.told s))

pub returns-in-Err-clause-size : goal.returns-in-Err-clause-size
returns-in-Err-clause-size g c = ap length c.end.ensures.slots ∙ length-set c.args.self.now.slots.items c.args.number (Ended c.in-Err.answer)

pub returns-in-Err-clause-waiting : goal.returns-in-Err-clause-waiting
returns-in-Err-clause-waiting g c = subst (WaitingFrom _) (sym c.end.ensures.slots) (waiting_set (Ended c.in-Err.answer) c.requires.waiting)

pub returns-in-Err-clause-stands : goal.returns-in-Err-clause-stands
returns-in-Err-clause-stands g c = λ asks start from own here closed s.
    let items = c.args.self.now.slots.items in
    let mid = set items c.args.number (Ended c.in-Err.answer) in
    let b : AllStand asks start (hush c.args.number (owing (begins c.args.number) from)) mid (g.W.Journal.journal c.begin.new.w) (g.W.Journal.counts c.begin.new.w) =
    job_begins asks start from items (g.W.Journal.journal c.args.w.now) (g.W.Journal.journal c.begin.new.w) (g.W.Journal.counts c.args.w.now) (g.W.Journal.counts c.begin.new.w)
    c.args.number c.args.ask (Err c.in-Err.answer) here c.in-Err.ensures.begun c.in-Err.ensures.calls c.in-Err.ensures.left c.in-Err.ensures.cause c.in-Err.ensures.answer c.in-Err.ensures.spent tt tt tt own (waiting_at c.requires.waiting c.requires.within)
    closed c.last-before.result c.last-now-in-Err.result c.last-before.ensures.is c.last-before.ensures.told c.last-now-in-Err.ensures.is c.last-now-in-Err.ensures.told s in
    let said = subst (λ xs. AllStand asks start (owing (begins c.args.number) from) xs (g.W.Journal.journal c.end.new.w) (g.W.Journal.counts c.end.new.w)) (sym c.end.ensures.slots)
    (c.end.ensures.stands asks start (owing (begins c.args.number) from) mid c.args.number c.args.ask refl own (slice_get-set_same items c.args.number (Ended c.in-Err.answer) c.requires.within) c.in-Err.ensures.answer b) in
    owes_after asks start from (begins c.args.number) c.end.result said

pub returns-in-Ok-clause-ports : goal.returns-in-Ok-clause-ports
returns-in-Ok-clause-ports g c = subst (λ ports. HasPorts c.args.number ports (g.W.Journal.journal c.begin.new.w)) (sym c.start.ensures.ports) c.in-Ok.ensures.ports

pub returns-in-Err-clause-ports : goal.returns-in-Err-clause-ports
returns-in-Err-clause-ports g c = none_wanted c.end.result (λ wanted. HasPorts c.args.number wanted.ports (g.W.Journal.journal c.end.new.w)) c.end.ensures.none

pub returns-in-Ok-clause-heart : goal.returns-in-Ok-clause-heart
returns-in-Ok-clause-heart g c = c.start.ensures.heart ∙ c.in-Ok.ensures.pings

pub returns-in-Err-clause-heart : goal.returns-in-Err-clause-heart
returns-in-Err-clause-heart g c = none_wanted c.end.result (λ wanted. wanted.heart ≡ c.args.ask.heartbeat) c.end.ensures.none

pub returns-in-Ok-clause-others : goal.returns-in-Ok-clause-others
returns-in-Ok-clause-others g c = λ k ne. ap (λ xs. slice_get xs k) c.start.ensures.slots ∙ slice_get-set_other c.args.self.now.slots.items c.args.number k (Running c.in-Ok.job) ne

pub returns-in-Err-clause-others : goal.returns-in-Err-clause-others
returns-in-Err-clause-others g c = λ k ne. ap (λ xs. slice_get xs k) c.end.ensures.slots ∙ slice_get-set_other c.args.self.now.slots.items c.args.number k (Ended c.in-Err.answer) ne

pub returns-in-Ok-clause-over : goal.returns-in-Ok-clause-over
returns-in-Ok-clause-over g c =
    ap (λ xs. is_slot_over (slice_get xs c.args.number)) c.start.ensures.slots ∙ ap is_slot_over (slice_get-set_same c.args.self.now.slots.items c.args.number (Running c.in-Ok.job) c.requires.within) ∙ ap (λ o. is_some o) c.in-Ok.ensures.fresh

pub returns-in-Err-clause-over : goal.returns-in-Err-clause-over
returns-in-Err-clause-over g c =
    ap (λ xs. is_slot_over (slice_get xs c.args.number)) c.end.ensures.slots ∙ ap is_slot_over (slice_get-set_same c.args.self.now.slots.items c.args.number (Ended c.in-Err.answer) c.requires.within)

pub returns-in-Err-clause-none : goal.returns-in-Err-clause-none
returns-in-Err-clause-none g c = λ e.
    ap (λ xs. is_slot_running (slice_get xs c.args.number)) c.end.ensures.slots ∙ ap is_slot_running (slice_get-set_same c.args.self.now.slots.items c.args.number (Ended c.in-Err.answer) c.requires.within)

pub returns-in-Ok-clause-runs : goal.returns-in-Ok-clause-runs
returns-in-Ok-clause-runs g c =
    ap (λ xs. is_slot_running (slice_get xs c.args.number)) c.start.ensures.slots ∙ ap is_slot_running (slice_get-set_same c.args.self.now.slots.items c.args.number (Running c.in-Ok.job) c.requires.within)

pub returns-in-Err-clause-runs : goal.returns-in-Err-clause-runs
returns-in-Err-clause-runs g c = none_wanted c.end.result (λ wanted. is_slot_running (slice_get c.end.new.self.slots.items c.args.number) ≡ true) c.end.ensures.none
