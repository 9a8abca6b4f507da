use Rattle.save_course.proofs.CourseLemmas.{joined}
use Rattle.save_course.proofs.laws.courses_join.Goals as goal

pub returns : goal.returns
returns c output merge first from settled later is_open before past after one other = joined output merge first from before one other
