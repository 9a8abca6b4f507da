use Rattle.progress_save.proofs.KeptLemmas.{all_fit, fewer_fit, others_fit}
use Rattle.progress_save.proofs.laws.kept_texts_fit.Goals as goal

pub returns-clause-saved : goal.returns-clause-saved
returns-clause-saved c p cs all = all_fit p.kept cs all

pub returns-clause-fewer : goal.returns-clause-fewer
returns-clause-fewer c p q cs fewer fits = fewer_fit p.kept q.kept cs fewer fits

pub returns-clause-others : goal.returns-clause-others
returns-clause-others c p old new others fits = others_fit p.kept old new others fits
