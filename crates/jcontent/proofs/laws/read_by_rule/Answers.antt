use Rattle.jcontent.proofs.ReadContents.{content_read}
use Rattle.jcontent.proofs.laws.read_by_rule.Goals as goal

pub returns : goal.returns
returns c kind t k s w = content_read kind t k s w
