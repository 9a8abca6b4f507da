use Rattle.nb_text.proofs.Texts.{printed}
use Rattle.nb_text.proofs.laws.text_of_cell_texts.Goals as goal

pub returns : goal.returns
returns c n = printed n
