use Rattle.std.proofs.Common.{◌<◌}
use Rattle.save_course.proofs.RestLemmas.{spared_go_on, spared_rest, saved_rests}
use Rattle.save_course.proofs.laws.courses_pass.Goals as goal

pub returns-clause-spared : goal.returns-clause-spared
returns-clause-spared c output merge first from settled is_open before past after course rested since = spared_go_on output merge first from before course rested since

pub returns-clause-rested : goal.returns-clause-rested
returns-clause-rested c output past after rested since = spared_rest output rested since

pub returns-clause-saved : goal.returns-clause-saved
returns-clause-saved c output text line says result past after rested did = saved_rests output text line (0 < says) result past after rested did
