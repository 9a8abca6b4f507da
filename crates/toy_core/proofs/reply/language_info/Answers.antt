use Rattle.std.proofs.Common.{refl}
use Rattle.toy_core.proofs.reply.language_info.Goals as goal

pub returns : goal.returns
returns c =
    rw (
      c.in_ok-put_text-4.ensures.ok,
      c.in_ok-put_text-3.ensures.ok,
      c.in_ok-put_text-2.ensures.ok,
      c.in_ok-put_text.ensures.ok,
      c.new-fields.ensures,
    )
    refl
