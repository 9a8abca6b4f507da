use Rattle.std.proofs.Common.{arith}
use Rattle.std.proofs.lemmas.Map.Text.{text_keys}
use Rattle.out_fold.proofs.latest.Latest.put.Goals as goal

pub returns-in-Some : goal.returns-in-Some
returns-in-Some c = λ other. grind (arith, text_keys)
