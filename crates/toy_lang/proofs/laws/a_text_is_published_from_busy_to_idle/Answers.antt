use Rattle.toy_lang.proofs.Published.{from_busy_to_idle}
use Rattle.toy_lang.proofs.laws.a_text_is_published_from_busy_to_idle.Goals as goal

pub returns : goal.returns
returns c = λ code count es. from_busy_to_idle code count es
