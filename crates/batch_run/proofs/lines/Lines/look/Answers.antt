use Rattle.std.proofs.Common.{◌∙◌, Err, ap, refl}
use Rattle.ready_loop.specs.declared.fault.LoopFault.TheVariants.{NetFault}
use Rattle.ready_loop.specs.States.{waits_left}
use Rattle.ready_loop.proofs.JobLemmas.{open_same}
use Rattle.batch_run.specs.Lines.{waits_of}
use Rattle.batch_run.proofs.CauseLemmas.{net_other}
use Rattle.batch_run.proofs.JournalLemmas.{look_fails, look_grows, look_waits, left_less}
use Rattle.batch_run.proofs.KeptLemmas.{broken_by, sound_none, sound_spent}
use Rattle.batch_run.proofs.LineLemmas.{begun_same}
use Rattle.batch_run.specs.Owed.{none}
use Rattle.batch_run.proofs.LoopLemmas.{links_same, looks_none, quiet_follow}
use Rattle.batch_run.proofs.StandLemmas.{loop_waits}
use Rattle.batch_run.proofs.lines.Lines.look.Goals as goal

pub look-requires : goal.look-requires
look-requires g c = record { drained = c.requires.drained; offered = c.requires.offered; sound = c.requires.sound }

pub invariant_of-self : goal.invariant_of-self
invariant_of-self g c = record { begun_are = begun_same c.look.ensures.known.each c.args.self.now.begun_are }

pub returns-in-Ok-clause-stands : goal.returns-in-Ok-clause-stands
returns-in-Ok-clause-stands g c = λ asks start from slots s.
    loop_waits c.args.self.now.connections c.look.new.self c.look.ensures.ports c.look.ensures.wires c.look.ensures.calls (look_grows c.look.result (g.W.Journal.counts c.args.w.now) (g.W.Journal.counts c.look.new.w) c.look.ensures.cause) (waits_of c.args.self.now) (waits_left c.look.new.self) (look_waits c.look.result (g.W.Journal.counts c.args.w.now) (g.W.Journal.counts c.look.new.w) (waits_of c.args.self.now) (waits_left c.look.new.self) c.look.ensures.cause c.look.ensures.left c.look.ensures.spent).few (look_waits c.look.result (g.W.Journal.counts c.args.w.now) (g.W.Journal.counts c.look.new.w) (waits_of c.args.self.now) (waits_left c.look.new.self) c.look.ensures.cause c.look.ensures.left c.look.ensures.spent).all asks start from slots none none
    (quiet_follow asks start from slots (g.W.Journal.journal c.args.w.now) (g.W.Journal.journal c.look.new.w) c.args.self.now.connections c.look.new.self s.few (links_same c.look.ensures.known) none refl (looks_none c.look.ensures.looked)) s

pub returns-in-Ok-clause-left : goal.returns-in-Ok-clause-left
returns-in-Ok-clause-left g c = (look_waits c.look.result (g.W.Journal.counts c.args.w.now) (g.W.Journal.counts c.look.new.w) (waits_of c.args.self.now) (waits_left c.look.new.self) c.look.ensures.cause c.look.ensures.left c.look.ensures.spent).less

pub returns-in-Ok-clause-linked : goal.returns-in-Ok-clause-linked
returns-in-Ok-clause-linked g c = open_same c.look.ensures.known

pub returns-in-Err-NetFault-Some-clause-stands : goal.returns-in-Err-NetFault-Some-clause-stands
returns-in-Err-NetFault-Some-clause-stands g c = λ asks start from slots s.
    loop_waits c.args.self.now.connections c.look.new.self c.look.ensures.ports c.look.ensures.wires c.look.ensures.calls (look_grows c.look.result (g.W.Journal.counts c.args.w.now) (g.W.Journal.counts c.look.new.w) c.look.ensures.cause) (waits_of c.args.self.now) (waits_left c.look.new.self) (look_waits c.look.result (g.W.Journal.counts c.args.w.now) (g.W.Journal.counts c.look.new.w) (waits_of c.args.self.now) (waits_left c.look.new.self) c.look.ensures.cause c.look.ensures.left c.look.ensures.spent).few (look_waits c.look.result (g.W.Journal.counts c.args.w.now) (g.W.Journal.counts c.look.new.w) (waits_of c.args.self.now) (waits_left c.look.new.self) c.look.ensures.cause c.look.ensures.left c.look.ensures.spent).all asks start from slots none none
    (quiet_follow asks start from slots (g.W.Journal.journal c.args.w.now) (g.W.Journal.journal c.look.new.w) c.args.self.now.connections c.look.new.self s.few (links_same c.look.ensures.known) none refl (looks_none c.look.ensures.looked)) s

pub returns-in-Err-NetFault-Some-clause-left : goal.returns-in-Err-NetFault-Some-clause-left
returns-in-Err-NetFault-Some-clause-left g c = (look_waits c.look.result (g.W.Journal.counts c.args.w.now) (g.W.Journal.counts c.look.new.w) (waits_of c.args.self.now) (waits_left c.look.new.self) c.look.ensures.cause c.look.ensures.left c.look.ensures.spent).less

pub returns-in-Err-NetFault-Some-clause-linked : goal.returns-in-Err-NetFault-Some-clause-linked
returns-in-Err-NetFault-Some-clause-linked g c = open_same c.look.ensures.known

pub returns-in-Err-NetFault-None-clause-stands : goal.returns-in-Err-NetFault-None-clause-stands
returns-in-Err-NetFault-None-clause-stands g c = λ asks start from slots s.
    loop_waits c.args.self.now.connections c.look.new.self c.look.ensures.ports c.look.ensures.wires c.look.ensures.calls (look_grows c.look.result (g.W.Journal.counts c.args.w.now) (g.W.Journal.counts c.look.new.w) c.look.ensures.cause) (waits_of c.args.self.now) (waits_left c.look.new.self) (look_waits c.look.result (g.W.Journal.counts c.args.w.now) (g.W.Journal.counts c.look.new.w) (waits_of c.args.self.now) (waits_left c.look.new.self) c.look.ensures.cause c.look.ensures.left c.look.ensures.spent).few (look_waits c.look.result (g.W.Journal.counts c.args.w.now) (g.W.Journal.counts c.look.new.w) (waits_of c.args.self.now) (waits_left c.look.new.self) c.look.ensures.cause c.look.ensures.left c.look.ensures.spent).all asks start from slots none none
    (quiet_follow asks start from slots (g.W.Journal.journal c.args.w.now) (g.W.Journal.journal c.look.new.w) c.args.self.now.connections c.look.new.self s.few (links_same c.look.ensures.known) none refl (looks_none c.look.ensures.looked)) s

pub returns-in-Err-NetFault-None-clause-left : goal.returns-in-Err-NetFault-None-clause-left
returns-in-Err-NetFault-None-clause-left g c = (look_waits c.look.result (g.W.Journal.counts c.args.w.now) (g.W.Journal.counts c.look.new.w) (waits_of c.args.self.now) (waits_left c.look.new.self) c.look.ensures.cause c.look.ensures.left c.look.ensures.spent).less

pub returns-in-Err-NetFault-None-clause-linked : goal.returns-in-Err-NetFault-None-clause-linked
returns-in-Err-NetFault-None-clause-linked g c = open_same c.look.ensures.known

pub returns-in-Err-Spent-clause-stands : goal.returns-in-Err-Spent-clause-stands
returns-in-Err-Spent-clause-stands g c = λ asks start from slots s.
    loop_waits c.args.self.now.connections c.look.new.self c.look.ensures.ports c.look.ensures.wires c.look.ensures.calls (look_grows c.look.result (g.W.Journal.counts c.args.w.now) (g.W.Journal.counts c.look.new.w) c.look.ensures.cause) (waits_of c.args.self.now) (waits_left c.look.new.self) (look_waits c.look.result (g.W.Journal.counts c.args.w.now) (g.W.Journal.counts c.look.new.w) (waits_of c.args.self.now) (waits_left c.look.new.self) c.look.ensures.cause c.look.ensures.left c.look.ensures.spent).few (look_waits c.look.result (g.W.Journal.counts c.args.w.now) (g.W.Journal.counts c.look.new.w) (waits_of c.args.self.now) (waits_left c.look.new.self) c.look.ensures.cause c.look.ensures.left c.look.ensures.spent).all asks start from slots none none
    (quiet_follow asks start from slots (g.W.Journal.journal c.args.w.now) (g.W.Journal.journal c.look.new.w) c.args.self.now.connections c.look.new.self s.few (links_same c.look.ensures.known) none refl (looks_none c.look.ensures.looked)) s

pub returns-in-Err-Spent-clause-left : goal.returns-in-Err-Spent-clause-left
returns-in-Err-Spent-clause-left g c = (look_waits c.look.result (g.W.Journal.counts c.args.w.now) (g.W.Journal.counts c.look.new.w) (waits_of c.args.self.now) (waits_left c.look.new.self) c.look.ensures.cause c.look.ensures.left c.look.ensures.spent).less

pub returns-in-Err-Spent-clause-linked : goal.returns-in-Err-Spent-clause-linked
returns-in-Err-Spent-clause-linked g c = open_same c.look.ensures.known

pub returns-in-Ok-clause-falls : goal.returns-in-Ok-clause-falls
returns-in-Ok-clause-falls g c = left_less (waits_of c.args.self.now) c.in-Ok.ensures.spent.1 c.in-Ok.ensures.left

pub returns-in-Ok-clause-sound : goal.returns-in-Ok-clause-sound
returns-in-Ok-clause-sound g c = c.in-Ok.ensures.sound

pub returns-in-Err-NetFault-Some-clause-by : goal.returns-in-Err-NetFault-Some-clause-by
returns-in-Err-NetFault-Some-clause-by g c = broken_by c.in-Err-NetFault-Some.field-0 c.in-Err-NetFault-Some.conn c.in-Err-NetFault-Some.conn.job (c.in-Err-NetFault-Some.field-0-is ∙ ap NetFault c.in-Err-NetFault-Some.field-0-0-is) refl
    c.in-Err-NetFault-Some.ensures.anew c.in-Err-NetFault-Some.ensures.known c.in-Err-NetFault-Some.ensures.failed c.requires.sound

pub returns-in-Err-NetFault-None-clause-by : goal.returns-in-Err-NetFault-None-clause-by
returns-in-Err-NetFault-None-clause-by g c = sound_none c.in-Err-NetFault-None.field-0 (c.in-Err-NetFault-None.field-0-is ∙ ap NetFault c.in-Err-NetFault-None.field-0-0-is) c.in-Err-NetFault-None.ensures.failed c.requires.sound

pub returns-in-Err-Spent-clause-by : goal.returns-in-Err-Spent-clause-by
returns-in-Err-Spent-clause-by g c = sound_spent c.in-Err-Spent.field-0 c.in-Err-Spent.field-0-is c.in-Err-Spent.ensures.failed c.requires.sound

pub returns-in-Err-NetFault-Some-clause-drained : goal.returns-in-Err-NetFault-Some-clause-drained
returns-in-Err-NetFault-Some-clause-drained g c = λ goes. c.in-Err-NetFault-Some.ensures.drained c.in-Err-NetFault-Some.conn (ap Err (c.in-Err-NetFault-Some.field-0-is ∙ ap NetFault c.in-Err-NetFault-Some.field-0-0-is))

pub returns-in-Err-NetFault-Some-clause-cause : goal.returns-in-Err-NetFault-Some-clause-cause
returns-in-Err-NetFault-Some-clause-cause g c = look_fails c.in-Err-NetFault-Some.field-0 (g.W.Journal.counts c.args.w.now) (g.W.Journal.counts c.look.new.w) c.in-Err-NetFault-Some.ensures.cause (net_other c.in-Err-NetFault-Some.field-0 _ c.in-Err-NetFault-Some.field-0-is)

pub returns-in-Err-NetFault-None-clause-cause : goal.returns-in-Err-NetFault-None-clause-cause
returns-in-Err-NetFault-None-clause-cause g c = look_fails c.in-Err-NetFault-None.field-0 (g.W.Journal.counts c.args.w.now) (g.W.Journal.counts c.look.new.w) c.in-Err-NetFault-None.ensures.cause (net_other c.in-Err-NetFault-None.field-0 _ c.in-Err-NetFault-None.field-0-is)

pub returns-in-Err-Spent-clause-cause : goal.returns-in-Err-Spent-clause-cause
returns-in-Err-Spent-clause-cause g c = c.in-Err-Spent.ensures.spent.0 (ap Err c.in-Err-Spent.field-0-is)
