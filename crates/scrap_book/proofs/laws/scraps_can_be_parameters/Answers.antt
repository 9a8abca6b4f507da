use Rattle.scrap_book.proofs.ParameterLemmas.{scraps_fine}
use Rattle.scrap_book.proofs.laws.scraps_can_be_parameters.Goals as goal

pub returns : goal.returns
returns c = scraps_fine
