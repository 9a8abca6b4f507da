use Rattle.toy_core.proofs.Reaching.{reached_front}
use Rattle.toy_core.proofs.agenda.Agenda.acts_by.Goals as goal

pub returns : goal.returns
returns c =
    let a = c.args.self.now in
    rw (c.reach-reach.ensures.len, c.as_slice.ensures) (reached_front c.args.now a.since a.acts)
