use Rattle.nb_params.proofs.FreshLaws.{inserted}
use Rattle.nb_params.proofs.laws.parameters_are_inserted.Goals as goal

pub returns : goal.returns
returns c ps cells h = inserted ps cells h
