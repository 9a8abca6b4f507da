use Rattle.toy_lang.specs.Runs.{lines}
use Rattle.toy_lang.proofs.LastEffects.{closed_effects}
use Rattle.toy_lang.proofs.laws.nothing_follows_the_last.Goals as goal

pub returns : goal.returns
returns c = λ vars text before after e eq last. closed_effects vars (lines text) before after e eq last
