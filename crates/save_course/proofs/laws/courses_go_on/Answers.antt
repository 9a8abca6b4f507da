use Rattle.std.proofs.Common.{◌<◌}
use Rattle.save_course.proofs.CourseLemmas.{others_go_on, saved_goes_on}
use Rattle.save_course.proofs.laws.courses_go_on.Goals as goal

pub returns-clause-saved : goal.returns-clause-saved
returns-clause-saved c output line merge first from settled says result s before past after course more read did =
    saved_goes_on output merge first from before line (0 < says) settled result s past after course more read did

pub returns-clause-others : goal.returns-clause-others
returns-clause-others c output merge first from settled is_open before past after course since = others_go_on output merge first from before course since
