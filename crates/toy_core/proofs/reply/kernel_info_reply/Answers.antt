use Rattle.toy_core.proofs.reply.kernel_info_reply.Goals as goal

pub returns : goal.returns
returns c =
    rw (
      c.in_ok-put_text-5.ensures.ok,
      c.in_ok-push.ensures.ok,
      c.in_ok-pair.ensures,
      c.in_ok-language_info.ensures,
      c.in_ok-put_text-4.ensures.ok,
      c.in_ok-put_text-3.ensures.ok,
      c.in_ok-put_text-2.ensures.ok,
      c.in_ok-put_text.ensures.ok,
      c.new-fields.ensures,
    )
    at c.pair-2.ensures
