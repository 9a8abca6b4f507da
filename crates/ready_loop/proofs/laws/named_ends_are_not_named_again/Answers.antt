use Rattle.ready_loop.proofs.LookLemmas.{named_once}
use Rattle.ready_loop.proofs.laws.named_ends_are_not_named_again.Goals as goal

pub returns : goal.returns
returns c = named_once
