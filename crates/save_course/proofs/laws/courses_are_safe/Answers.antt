use Rattle.save_course.proofs.CourseLemmas.{course_safe}
use Rattle.save_course.proofs.laws.courses_are_safe.Goals as goal

pub returns : goal.returns
returns c output merge first from settled is_open before after untouched none_yet course =
    course_safe output merge first from before untouched none_yet is_open settled after course
