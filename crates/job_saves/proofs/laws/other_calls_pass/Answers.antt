use Rattle.job_saves.proofs.CourseLemmas.{others_pass, calls_on, calls_part, begins_pass, ends_pass}
use Rattle.job_saves.proofs.laws.other_calls_pass.Goals as goal

pub returns-clause-course : goal.returns-clause-course
returns-clause-course c o b is_open j k before after told grow s = others_pass o b is_open j k before after told grow s

pub returns-clause-called : goal.returns-clause-called
returns-clause-called c cast since from before after j k told quiet work s = calls_on cast since from before after j k told quiet work s

pub returns-clause-calls : goal.returns-clause-calls
returns-clause-calls c b cast since from before after j k told quiet none work s = calls_part cast since from before after b j k told quiet none work s

pub returns-clause-begins : goal.returns-clause-begins
returns-clause-begins c o j k before after told grow s = begins_pass o j k before after told grow s

pub returns-clause-ends : goal.returns-clause-ends
returns-clause-ends c o is_open j k before after told grow s = ends_pass o is_open j k before after told grow s
