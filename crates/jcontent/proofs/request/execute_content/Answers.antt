use Rattle.std.proofs.Common.{refl}
use Rattle.jcontent.proofs.request.execute_content.Goals as goal

pub returns : goal.returns
returns c =
    rw (
      c.in_ok-put_flag-4.ensures,
      c.in_ok-put_flag-3.ensures,
      c.in_ok-push-2.ensures.ok,
      c.in_ok-pair-2.ensures,
      c.empty_content.ensures,
      c.in_ok-put_flag-2.ensures,
      c.in_ok-put_flag.ensures,
      c.in_ok-push.ensures.ok,
      c.in_ok-pair.ensures,
      c.in_ok-text.ensures,
      c.as_str.ensures,
      c.new-fields.ensures,
    )
    refl
