use Rattle.nbrun_top.proofs.NumberLemmas.{absent_so}
use Rattle.nbrun_top.proofs.exercise_numbers.numbers_in_file.Goals as goal

pub returns-in-None : goal.returns-in-None
returns-in-None c = absent_so _ _ c.in-None.is
