use Rattle.nb_params.proofs.FreshLaws.{fresh_id-fresh}
use Rattle.nb_params.proofs.laws.fresh_id_is_least.Goals as goal

pub returns : goal.returns
returns c taken h = fresh_id-fresh taken h
