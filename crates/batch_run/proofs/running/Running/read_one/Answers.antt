use Rattle.std.proofs.Common.{ℕ, take, rules, refl, arith, ◌∙◌}
use Rattle.world.proofs.CountsLemmas.{rose_since}
use Rattle.ready_loop.specs.declared.next.Next.TheVariants.{Piece, Ended, Refused, Quiet}
use Rattle.batch_run.specs.Owed.{none}
use Rattle.batch_run.specs.Stands.{served_by}
use Rattle.batch_run.proofs.LineLemmas.{err_other, not_quiet}
use Rattle.batch_run.proofs.OweLemmas.{exits, piece_as, read_as, written_back}
use Rattle.batch_run.proofs.SlotLemmas.{none_one}
use Rattle.batch_run.proofs.running.Running.read_one.Goals as goal

pub lose_one-requires : goal.lose_one-requires
lose_one-requires g c = c.in-Err.ensures.broken.few

pub returns-in_err-hear-in-Ok-Piece-clause-stands : goal.returns-in_err-hear-in-Ok-Piece-clause-stands
returns-in_err-hear-in-Ok-Piece-clause-stands g c = λ n asks start from s.
    exits _ asks start from none c.hear.new.self.lines.connections c.from_residual.result c.from_residual.ensures.1
    (c.in_err-hear-in-Ok-Piece.ensures.stands asks start from
    (piece_as asks start from c.next.new.self.connections c.in-Ok-Piece.conn (take c.in-Ok-Piece.n c.next.new.buf) _
    (written_back c.in-Ok-Piece.n c.args.self.now.buf.len c.next.new.buf c.args.self.now.buf.items (search rules) (omega (arith, c.args.self.now.buf.ok.0)))
    (read_as ℕ asks start from c.next.new.self.connections c.next.new.buf c.in-Ok-Piece.field-0 (Piece c.in-Ok-Piece.conn c.in-Ok-Piece.n) c.in-Ok-Piece.field-0-is (c.in-Ok-Piece.ensures.stands asks start from c.args.self.now.jobs.slots.items n s))))

pub returns-in_err-hear-in-Ok-Piece-clause-left : goal.returns-in_err-hear-in-Ok-Piece-clause-left
returns-in_err-hear-in-Ok-Piece-clause-left g c = c.hear.ensures.left.waits ∙ c.next.ensures.left

pub returns-in_err-hear-in-Ok-Piece-clause-linked : goal.returns-in_err-hear-in-Ok-Piece-clause-linked
returns-in_err-hear-in-Ok-Piece-clause-linked g c = omega (arith, c.hear.ensures.left.linked, c.next.ensures.linked)

pub returns-in_ok-hear-in-Ok-Piece-clause-stands : goal.returns-in_ok-hear-in-Ok-Piece-clause-stands
returns-in_ok-hear-in-Ok-Piece-clause-stands g c = λ n asks start from s.
    c.in_ok-hear-in-Ok-Piece.ensures.stands asks start from
    (piece_as asks start from c.next.new.self.connections c.in-Ok-Piece.conn (take c.in-Ok-Piece.n c.next.new.buf) _
    (written_back c.in-Ok-Piece.n c.args.self.now.buf.len c.next.new.buf c.args.self.now.buf.items (omega (arith, c.next.auto.buf, c.as_mut_slice.ensures.len)) (omega (arith, c.args.self.now.buf.ok.0)))
    (read_as ℕ asks start from c.next.new.self.connections c.next.new.buf c.in-Ok-Piece.field-0 (Piece c.in-Ok-Piece.conn c.in-Ok-Piece.n) c.in-Ok-Piece.field-0-is (c.in-Ok-Piece.ensures.stands asks start from c.args.self.now.jobs.slots.items n s)))

pub returns-in_ok-hear-in-Ok-Piece-clause-left : goal.returns-in_ok-hear-in-Ok-Piece-clause-left
returns-in_ok-hear-in-Ok-Piece-clause-left g c = c.hear.ensures.left.waits ∙ c.next.ensures.left

pub returns-in_ok-hear-in-Ok-Piece-clause-linked : goal.returns-in_ok-hear-in-Ok-Piece-clause-linked
returns-in_ok-hear-in-Ok-Piece-clause-linked g c = omega (arith, c.hear.ensures.left.linked, c.next.ensures.linked)

pub returns-in_err-leave_where-in-Ok-Ended-clause-stands : goal.returns-in_err-leave_where-in-Ok-Ended-clause-stands
returns-in_err-leave_where-in-Ok-Ended-clause-stands g c = λ n asks start from s.
    exits _ asks start from none c.leave_where.new.self.lines.connections c.from_residual-in_err-leave_where-in-Ok-Ended.result c.from_residual-in_err-leave_where-in-Ok-Ended.ensures.1
    (c.in_err-leave_where-in-Ok-Ended.ensures.stands none refl refl asks start from
    (c.on_ended.ensures.stands asks start (served_by none c.next.new.self.connections from) (g.W.Journal.journal c.next.new.w) (g.W.Journal.counts c.next.new.w) refl
    (read_as ℕ asks start from c.next.new.self.connections c.next.new.buf c.in-Ok-Ended.field-0 (Ended c.in-Ok-Ended.conn) c.in-Ok-Ended.field-0-is (c.in-Ok-Ended.ensures.stands asks start from c.args.self.now.jobs.slots.items n s))))

pub returns-in_err-leave_where-in-Ok-Ended-clause-left : goal.returns-in_err-leave_where-in-Ok-Ended-clause-left
returns-in_err-leave_where-in-Ok-Ended-clause-left g c = c.leave_where.ensures.left.waits ∙ c.next.ensures.left

pub returns-in_err-leave_where-in-Ok-Ended-clause-linked : goal.returns-in_err-leave_where-in-Ok-Ended-clause-linked
returns-in_err-leave_where-in-Ok-Ended-clause-linked g c = omega (arith, c.leave_where.ensures.left.linked, c.next.ensures.linked)

pub returns-in_ok-leave_where-in-Ok-Ended-clause-stands : goal.returns-in_ok-leave_where-in-Ok-Ended-clause-stands
returns-in_ok-leave_where-in-Ok-Ended-clause-stands g c = λ n asks start from s.
    c.in_ok-leave_where-in-Ok-Ended.ensures.stands none refl refl asks start from
    (c.on_ended.ensures.stands asks start (served_by none c.next.new.self.connections from) (g.W.Journal.journal c.next.new.w) (g.W.Journal.counts c.next.new.w) refl
    (read_as ℕ asks start from c.next.new.self.connections c.next.new.buf c.in-Ok-Ended.field-0 (Ended c.in-Ok-Ended.conn) c.in-Ok-Ended.field-0-is (c.in-Ok-Ended.ensures.stands asks start from c.args.self.now.jobs.slots.items n s)))

pub returns-in_ok-leave_where-in-Ok-Ended-clause-left : goal.returns-in_ok-leave_where-in-Ok-Ended-clause-left
returns-in_ok-leave_where-in-Ok-Ended-clause-left g c = c.leave_where.ensures.left.waits ∙ c.next.ensures.left

pub returns-in_ok-leave_where-in-Ok-Ended-clause-linked : goal.returns-in_ok-leave_where-in-Ok-Ended-clause-linked
returns-in_ok-leave_where-in-Ok-Ended-clause-linked g c = omega (arith, c.leave_where.ensures.left.linked, c.next.ensures.linked)

pub returns-in_err-lose_one-in-Err-clause-stands : goal.returns-in_err-lose_one-in-Err-clause-stands
returns-in_err-lose_one-in-Err-clause-stands g c = λ n asks start from s.
    exits _ asks start from none c.lose_one.new.self.lines.connections c.from_residual-in_err-lose_one-in-Err.result c.from_residual-in_err-lose_one-in-Err.ensures.1
    (c.in_err-lose_one-in-Err.ensures.stands none refl refl asks start from
    (rose_since from.counts.net (g.W.Journal.counts c.args.w.now).net (g.W.Journal.counts c.next.new.w).net s.grow.net c.in-Err.ensures.cause)
    (c.in-Err.ensures.stands asks start from c.args.self.now.jobs.slots.items n s))

pub returns-in_err-lose_one-in-Err-clause-left : goal.returns-in_err-lose_one-in-Err-clause-left
returns-in_err-lose_one-in-Err-clause-left g c = c.lose_one.ensures.left.waits ∙ c.next.ensures.left

pub returns-in_err-lose_one-in-Err-clause-linked : goal.returns-in_err-lose_one-in-Err-clause-linked
returns-in_err-lose_one-in-Err-clause-linked g c = omega (arith, c.lose_one.ensures.left.linked, c.next.ensures.linked)

pub returns-in_ok-lose_one-in-Err-clause-stands : goal.returns-in_ok-lose_one-in-Err-clause-stands
returns-in_ok-lose_one-in-Err-clause-stands g c = λ n asks start from s.
    c.in_ok-lose_one-in-Err.ensures.stands none refl refl asks start from
    (rose_since from.counts.net (g.W.Journal.counts c.args.w.now).net (g.W.Journal.counts c.next.new.w).net s.grow.net c.in-Err.ensures.cause)
    (c.in-Err.ensures.stands asks start from c.args.self.now.jobs.slots.items n s)

pub returns-in_ok-lose_one-in-Err-clause-left : goal.returns-in_ok-lose_one-in-Err-clause-left
returns-in_ok-lose_one-in-Err-clause-left g c = c.lose_one.ensures.left.waits ∙ c.next.ensures.left

pub returns-in_ok-lose_one-in-Err-clause-linked : goal.returns-in_ok-lose_one-in-Err-clause-linked
returns-in_ok-lose_one-in-Err-clause-linked g c = omega (arith, c.lose_one.ensures.left.linked, c.next.ensures.linked)

pub returns-in-Ok-Refused-clause-stands : goal.returns-in-Ok-Refused-clause-stands
returns-in-Ok-Refused-clause-stands g c = λ n asks start from s.
    read_as ℕ asks start from c.next.new.self.connections c.next.new.buf c.in-Ok-Refused.field-0 (Refused _) c.in-Ok-Refused.field-0-is (c.in-Ok-Refused.ensures.stands asks start from c.args.self.now.jobs.slots.items n s)

pub returns-in-Ok-Refused-clause-linked : goal.returns-in-Ok-Refused-clause-linked
returns-in-Ok-Refused-clause-linked g c = omega (arith, c.next.ensures.linked)

pub returns-in-Ok-Refused-clause-one : goal.returns-in-Ok-Refused-clause-one
returns-in-Ok-Refused-clause-one g c = (0, λ k ne. refl)

pub returns-in-Ok-Refused-clause-over : goal.returns-in-Ok-Refused-clause-over
returns-in-Ok-Refused-clause-over g c = λ n. n

pub returns-in-Ok-Quiet-clause-stands : goal.returns-in-Ok-Quiet-clause-stands
returns-in-Ok-Quiet-clause-stands g c = λ n asks start from s.
    read_as ℕ asks start from c.next.new.self.connections c.next.new.buf c.in-Ok-Quiet.field-0 (Quiet) c.in-Ok-Quiet.field-0-is (c.in-Ok-Quiet.ensures.stands asks start from c.args.self.now.jobs.slots.items n s)

pub returns-in-Ok-Quiet-clause-linked : goal.returns-in-Ok-Quiet-clause-linked
returns-in-Ok-Quiet-clause-linked g c = omega (arith, c.next.ensures.linked)

pub returns-in-Ok-Quiet-clause-one : goal.returns-in-Ok-Quiet-clause-one
returns-in-Ok-Quiet-clause-one g c = (0, λ k ne. refl)

pub returns-in-Ok-Quiet-clause-over : goal.returns-in-Ok-Quiet-clause-over
returns-in-Ok-Quiet-clause-over g c = λ n. n

pub returns-in_ok-hear-in-Ok-Piece-clause-sound : goal.returns-in_ok-hear-in-Ok-Piece-clause-sound
returns-in_ok-hear-in-Ok-Piece-clause-sound g c = c.hear.ensures.left.sound c.in-Ok-Piece.ensures.sound

pub returns-in_ok-hear-in-Ok-Piece-clause-one : goal.returns-in_ok-hear-in-Ok-Piece-clause-one
returns-in_ok-hear-in-Ok-Piece-clause-one g c = (_, c.hear.ensures.others)

pub returns-in_ok-hear-in-Ok-Piece-clause-over : goal.returns-in_ok-hear-in-Ok-Piece-clause-over
returns-in_ok-hear-in-Ok-Piece-clause-over g c = λ n. none_one c.hear.ensures.others c.in_ok-hear-in-Ok-Piece.ensures.over n

pub returns-in_ok-hear-in-Ok-Piece-clause-reads : goal.returns-in_ok-hear-in-Ok-Piece-clause-reads
returns-in_ok-hear-in-Ok-Piece-clause-reads g c = λ e.
    let less = c.in-Ok-Piece.ensures.reads (not_quiet c.in-Ok-Piece.field-0 (Piece c.in-Ok-Piece.conn c.in-Ok-Piece.n) c.in-Ok-Piece.field-0-is refl) in
    omega (arith, less, c.hear.ensures.left.reads)

pub returns-in_ok-leave_where-in-Ok-Ended-clause-sound : goal.returns-in_ok-leave_where-in-Ok-Ended-clause-sound
returns-in_ok-leave_where-in-Ok-Ended-clause-sound g c = c.leave_where.ensures.left.sound c.in-Ok-Ended.ensures.sound

pub returns-in_ok-leave_where-in-Ok-Ended-clause-one : goal.returns-in_ok-leave_where-in-Ok-Ended-clause-one
returns-in_ok-leave_where-in-Ok-Ended-clause-one g c = (c.in-Ok-Ended.conn.job, λ k ne. c.leave_where.ensures.others k ne ∙ c.on_ended.ensures.others k ne)

pub returns-in_ok-leave_where-in-Ok-Ended-clause-over : goal.returns-in_ok-leave_where-in-Ok-Ended-clause-over
returns-in_ok-leave_where-in-Ok-Ended-clause-over g c = λ n. none_one {n = c.in-Ok-Ended.conn.job} (λ k ne. c.leave_where.ensures.others k ne ∙ c.on_ended.ensures.others k ne) c.in_ok-leave_where-in-Ok-Ended.ensures.over n

pub returns-in_ok-leave_where-in-Ok-Ended-clause-reads : goal.returns-in_ok-leave_where-in-Ok-Ended-clause-reads
returns-in_ok-leave_where-in-Ok-Ended-clause-reads g c = λ e.
    let less = c.in-Ok-Ended.ensures.reads (not_quiet c.in-Ok-Ended.field-0 (Ended c.in-Ok-Ended.conn) c.in-Ok-Ended.field-0-is refl) in
    omega (arith, less, c.leave_where.ensures.left.reads)

pub returns-in-Ok-Refused-clause-reads : goal.returns-in-Ok-Refused-clause-reads
returns-in-Ok-Refused-clause-reads g c = λ e. c.in-Ok-Refused.ensures.reads (not_quiet c.in-Ok-Refused.field-0 (Refused _) c.in-Ok-Refused.field-0-is refl)

pub returns-in_ok-lose_one-in-Err-clause-sound : goal.returns-in_ok-lose_one-in-Err-clause-sound
returns-in_ok-lose_one-in-Err-clause-sound g c = c.in_ok-lose_one-in-Err.ensures.sound c.in-Err.ensures.broken.but

pub returns-in_ok-lose_one-in-Err-clause-one : goal.returns-in_ok-lose_one-in-Err-clause-one
returns-in_ok-lose_one-in-Err-clause-one g c = (_, c.lose_one.ensures.others)

pub returns-in_ok-lose_one-in-Err-clause-over : goal.returns-in_ok-lose_one-in-Err-clause-over
returns-in_ok-lose_one-in-Err-clause-over g c = λ n. none_one c.lose_one.ensures.others c.in_ok-lose_one-in-Err.ensures.over n

pub returns-in_ok-lose_one-in-Err-clause-reads : goal.returns-in_ok-lose_one-in-Err-clause-reads
returns-in_ok-lose_one-in-Err-clause-reads g c = λ e.
    let less = c.in-Err.ensures.reads (err_other c.in-Err.job Quiet) in
    omega (arith, less, c.lose_one.ensures.left.reads)
