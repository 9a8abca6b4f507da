use Rattle.std.proofs.Common.{Some, ap, ◌∙◌}
use Rattle.batch_run.proofs.SlotLemmas.{idle_of}
use Rattle.batch_run.proofs.TellingLemmas.{job_got, slot_got}
use Rattle.batch_run.proofs.slot.Slot.on_piece.Goals as goal

pub returns-in-Running : goal.returns-in-Running
returns-in-Running g c = λ asks start from slots k found s.
    job_got asks start from slots (g.W.Journal.journal c.args.w.now) (g.W.Journal.journal c.on_piece.new.w) (g.W.Journal.counts c.args.w.now) (g.W.Journal.counts c.on_piece.new.w)
    k c.in-Running.job c.on_piece.new.self c.on_piece.ensures.goes.course c.on_piece.ensures.goes.calls c.on_piece.ensures.goes.keeps c.on_piece.ensures.goes.clock (found ∙ ap Some c.in-Running.is) c.args.chan c.args.piece.now c.on_piece.ensures.stands s

pub returns-in-Waiting : goal.returns-in-Waiting
returns-in-Waiting g c = λ asks start from slots k found s.
    slot_got asks start from slots (g.W.Journal.journal c.args.w.now) (g.W.Journal.counts c.args.w.now) k c.args.self.now (idle_of c.args.self.now c.in-Waiting.is) found c.args.chan c.args.piece.now s

pub returns-in-Waiting-2 : goal.returns-in-Waiting-2
returns-in-Waiting-2 g c = λ asks start from slots k found s.
    slot_got asks start from slots (g.W.Journal.journal c.args.w.now) (g.W.Journal.counts c.args.w.now) k c.args.self.now (idle_of c.args.self.now c.in-Waiting.is) found c.args.chan c.args.piece.now s
