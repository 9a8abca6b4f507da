use Rattle.std.proofs.Common.{take, refl, ◌∙◌, arith}
use Rattle.batch_run.specs.Owed.{none}
use Rattle.batch_run.specs.Stands.{served_by}
use Rattle.batch_run.proofs.KeptLemmas.{kept_start}
use Rattle.batch_run.proofs.OweLemmas.{exits, forgets_lines, piece_as, piece_bytes}
use Rattle.batch_run.proofs.running.Running.hear.Goals as goal

pub returns-in_err-on_piece-clause-stands : goal.returns-in_err-on_piece-clause-stands
returns-in_err-on_piece-clause-stands g c = λ asks start from s.
    exits _ asks start from none c.args.self.now.lines.connections c.from_residual.result c.from_residual.ensures.1
    (forgets_lines asks start from none c.args.self.now.lines.connections
    (c.on_piece.ensures.stands asks start (served_by none c.args.self.now.lines.connections from)
    (piece_as asks start from c.args.self.now.lines.connections c.args.conn (take c.args.n c.args.self.now.buf.items) (take c.min.result c.deref.result.now)
    (piece_bytes c.args.n c.min.result c.len.result c.deref.result.now c.args.self.now.buf.items c.deref.ensures.value c.min.ensures (omega (arith, c.len.ensures, c.args.self.now.buf.ok.0))) s)))

pub returns-in_err-on_piece-clause-left : goal.returns-in_err-on_piece-clause-left
returns-in_err-on_piece-clause-left g c = kept_start c.args.self.now.lines.connections

pub returns-in_err-on_piece-clause-others : goal.returns-in_err-on_piece-clause-others
returns-in_err-on_piece-clause-others g c = c.on_piece.ensures.others

pub returns-clause-stands : goal.returns-clause-stands
returns-clause-stands g c = λ asks start from s.
    c.leave_where.ensures.stands none refl refl asks start from
    (c.on_piece.ensures.stands asks start (served_by none c.args.self.now.lines.connections from)
    (piece_as asks start from c.args.self.now.lines.connections c.args.conn (take c.args.n c.args.self.now.buf.items) (take c.min.result c.deref.result.now)
    (piece_bytes c.args.n c.min.result c.len.result c.deref.result.now c.args.self.now.buf.items c.deref.ensures.value c.min.ensures (omega (arith, c.len.ensures, c.args.self.now.buf.ok.0))) s))

pub returns-clause-left : goal.returns-clause-left
returns-clause-left g c = c.leave_where.ensures.left

pub returns-clause-others : goal.returns-clause-others
returns-clause-others g c = λ k ne. c.leave_where.ensures.others k ne ∙ c.on_piece.ensures.others k ne

pub returns-clause-over : goal.returns-clause-over
returns-clause-over g c = c.leave_where.ensures.over
