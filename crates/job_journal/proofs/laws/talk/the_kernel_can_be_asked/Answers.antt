use Rattle.std.proofs.Common.{sym, ◌∙◌}
use Rattle.std.proofs.Math.Bool.{true≢false}
use Rattle.zmtp_wire.specs.Meaning.{messages_in, contexts_in, answer_to}
use Rattle.job_journal.proofs.Subscribing.{asks_by_lines}
use Rattle.job_journal.proofs.laws.talk.the_kernel_can_be_asked.Goals as goal

pub returns : goal.returns
returns c = asks_by_lines (record {
  grows = c.owed_is_given.ensures.grows;
  none = c.owed_is_given.ensures.none;
  first = λ r b e. (c.ready_comes_first.ensures b r (messages_in r b) (contexts_in r b) (answer_to r b) (c.octets_give.ensures.gives r b)
      (λ s. true≢false (sym ((c.octets_give.ensures.shaken r b).1 s) ∙ e))).1;
  shaken = λ r b e. (c.octets_give.ensures.shaken r b).0 e;
  stays = c.octets_grow.ensures.shaken;
  newer = c.octets_grow.ensures.newer;
})
