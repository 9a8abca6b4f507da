use Rattle.job_saves.proofs.CourseLemmas.{stays, keeps_part}
use Rattle.job_saves.proofs.laws.messages_stay_on_course.Goals as goal

pub returns-clause-course : goal.returns-clause-course
returns-clause-course c was now parts reads o is_open j counts s = stays was now parts reads o is_open j counts s

pub returns-clause-calls : goal.returns-clause-calls
returns-clause-calls c was now parts reads cast since from j counts s = keeps_part was now cast since from j counts parts reads s
