use Rattle.run_journal.proofs.Flowing.{course_agrees}
use Rattle.run_journal.proofs.laws.agreement.courses_agree.Goals as goal

pub returns : goal.returns
returns c = course_agrees
