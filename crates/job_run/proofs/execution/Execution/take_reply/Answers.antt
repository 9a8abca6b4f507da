use Rattle.std.proofs.Common.{true, sym, subst}
use Rattle.std.proofs.lemmas.Bool.{and_left, and_right}
use Rattle.job_saves.specs.Course.{HasPart}
use Rattle.job_saves.proofs.CourseLemmas.{keeps_part}
use Rattle.job_run.specs.Used.{NotesReply}
use Rattle.job_run.proofs.ListenLemmas.{notes_still, same_request}
use Rattle.job_run.proofs.execution.Execution.take_reply.Goals as goal

pub returns-in_err-reply-clause-calls : goal.returns-in_err-reply-clause-calls
returns-in_err-reply-clause-calls c cast since from j counts s = keeps_part c.args.self.now.book c.reply.new.self cast since from j counts c.reply.ensures.same c.reply.ensures.read s

pub returns-then-fatal-clause-calls : goal.returns-then-fatal-clause-calls
returns-then-fatal-clause-calls c cast since from j counts s =
    subst (λ b. HasPart cast since from b j counts) (sym c.note_error.ensures.book)
    (keeps_part c.args.self.now.book c.reply.new.self cast since from j counts c.reply.ensures.same c.reply.ensures.read s)

pub returns-else-fatal-clause-calls : goal.returns-else-fatal-clause-calls
returns-else-fatal-clause-calls c cast since from j counts s = keeps_part c.args.self.now.book c.reply.new.self cast since from j counts c.reply.ensures.same c.reply.ensures.read s

pub returns-then-not-takes-clause-request : goal.returns-then-not-takes-clause-request
returns-then-not-takes-clause-request c = same_request c.args.self.now.request

pub returns-in_err-reply-clause-request : goal.returns-in_err-reply-clause-request
returns-in_err-reply-clause-request c = same_request c.args.self.now.request

pub returns-else-fatal-clause-request : goal.returns-else-fatal-clause-request
returns-else-fatal-clause-request c = same_request c.args.self.now.request

pub returns-then-not-takes-clause-notes : goal.returns-then-not-takes-clause-notes
returns-then-not-takes-clause-notes c =
    notes_still c.args.takes c.args.fatal c.args.reply c.args.self.now.request (and_left c.args.takes c.args.fatal c.if-not-takes.true)

pub returns-else-fatal-clause-notes : goal.returns-else-fatal-clause-notes
returns-else-fatal-clause-notes c =
    notes_still c.args.takes c.args.fatal c.args.reply c.args.self.now.request (and_right c.args.takes c.args.fatal c.if-fatal.false)

pub returns-then-fatal-clause-notes : goal.returns-then-fatal-clause-notes
returns-then-fatal-clause-notes c =
    subst (λ b. NotesReply b c.args.fatal c.args.reply c.args.self.now.request c.note_error.new.self.request) (sym c.if-not-takes.false)
    (subst (λ b. NotesReply true b c.args.reply c.args.self.now.request c.note_error.new.self.request) (sym c.if-fatal.true) c.note_error.ensures.notes)
