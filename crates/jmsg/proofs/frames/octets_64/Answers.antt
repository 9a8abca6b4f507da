use Rattle.jmsg.proofs.FrameLemmas.{array_some, array_only}
use Rattle.jmsg.proofs.frames.octets_64.Goals as goal

pub returns-clause-some : goal.returns-clause-some
returns-clause-some c = array_some _ _ _ _ c.ok.ensures.value c.try_into.ensures.1

pub returns-clause-only : goal.returns-clause-only
returns-clause-only c long = array_only _ _ _ _ c.ok.ensures.value c.try_into.ensures.1 long
