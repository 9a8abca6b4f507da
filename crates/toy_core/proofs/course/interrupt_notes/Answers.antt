use Rattle.std.proofs.Common.{refl}
use Rattle.toy_core.proofs.course.interrupt_notes.Goals as goal

pub returns : goal.returns
returns c =
    rw (
      c.in_ok-push-3.ensures.ok,
      c.publish-2.ensures,
      c.in_ok-status.ensures,
      c.in_ok-push-2.ensures.ok,
      c.reply.ensures,
      c.in_ok-error_reply.ensures,
      c.in_ok-push.ensures.ok,
      c.publish.ensures,
      c.in_ok-error.ensures,
      c.new-course.ensures,
      c.in_ok-ename.ensures,
      c.new-evalue.ensures,
    )
    refl
