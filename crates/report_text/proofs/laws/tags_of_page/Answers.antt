use Rattle.report_text.proofs.TagLaws.{page_tags}
use Rattle.report_text.proofs.laws.tags_of_page.Goals as goal

pub returns : goal.returns
returns c = page_tags
