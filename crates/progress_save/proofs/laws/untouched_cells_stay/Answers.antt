use Rattle.progress_save.proofs.PrefixLemmas.{untouched_cell}
use Rattle.progress_save.proofs.laws.untouched_cells_stay.Goals as goal

pub returns : goal.returns
returns c merge was us p q stop i old same lt le on = untouched_cell merge was us i old same p q stop lt le on
