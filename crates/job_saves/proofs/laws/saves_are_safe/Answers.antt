use Rattle.save_course.proofs.CourseLemmas.{course_safe}
use Rattle.job_saves.proofs.laws.saves_are_safe.Goals as goal

pub returns : goal.returns
returns c o is_open settled past untouched none_yet s = course_safe o.output o.merge o.first 0 o.before untouched none_yet is_open settled past s.course
