use Rattle.std.proofs.Common.{rules}
use Rattle.nb_model.proofs.FaultLaws.{valid_of}
use Rattle.nb_model.proofs.accept.of_json.Goals as goal

pub returns-clause-valid : goal.returns-clause-valid
returns-clause-valid c = search (rules, valid_of)
