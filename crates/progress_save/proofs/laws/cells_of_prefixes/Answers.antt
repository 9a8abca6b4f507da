use Rattle.progress_save.proofs.PrefixLemmas.{cell_of_prefix, waiting_cell, empty_prefix}
use Rattle.progress_save.proofs.laws.cells_of_prefixes.Goals as goal

pub returns-clause-each : goal.returns-clause-each
returns-clause-each c merge us p stop n i = cell_of_prefix merge us p stop n i

pub returns-clause-waiting : goal.returns-clause-waiting
returns-clause-waiting c merge us p stop i old le = waiting_cell merge us p stop i old le

pub returns-clause-none : goal.returns-clause-none
returns-clause-none c merge us n = empty_prefix merge us n
