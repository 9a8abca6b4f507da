use Rattle.std.proofs.Common.{arith}
use Rattle.world.proofs.MomentsLemmas.{told_start}
use Rattle.said_lines.specs.Speech.{none, cut}
use Rattle.said_lines.proofs.voice.say.Goals as goal

pub returns-else-say_faults-eq0-clause-tells : goal.returns-else-say_faults-eq0-clause-tells
returns-else-say_faults-eq0-clause-tells g c = told_start (λ past. cut (omega (arith, c.if-say_faults-eq0.false, c.say_faults.ensures.is)) none)
