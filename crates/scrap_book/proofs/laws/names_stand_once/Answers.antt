use Rattle.std.proofs.Common.{flat_map}
use Rattle.scrap_book.specs.Scraps.{cell_scraps}
use Rattle.scrap_book.proofs.OnceLemmas.{merged_once}
use Rattle.scrap_book.proofs.laws.names_stand_once.Goals as goal

pub returns : goal.returns
returns c = λ n. merged_once (flat_map cell_scraps n.cells)
