use Rattle.world.proofs.CountsLemmas.{grow_then}
use Rattle.job_run.proofs.CauseLemmas.{causes_stay}
use Rattle.job_run.proofs.LaunchLemmas.{role_of}
use Rattle.job_run.proofs.job.Job.start_on_ports.Goals as goal
use Rattle.world.proofs.MomentsLemmas.{since_then, told_then}

pub returns-in-Ok-clause-course : goal.returns-in-Ok-clause-course
returns-in-Ok-clause-course g c o r = c.start_child.ensures.course o (c.write_file.ensures.course o r)

pub returns-in-Ok-clause-calls : goal.returns-in-Ok-clause-calls
returns-in-Ok-clause-calls g c cast since from may r =
    let self = c.args.self.now in
    let file = (role_of cast self.number self.paths may.ask may.cast.has r.role).file in
    c.start_child.ensures.calls cast since from (record {
      ask = may.ask;
      cast = may.cast;
      ready = c.in-Ok.ensures.ready may.ask c.args.kernel.now may.pairs file may.kernel_is may.given may.words.key_is may.asked;
      childless = λ e. c.write_file.ensures.left (may.childless e);
    }) (c.write_file.ensures.calls cast since from may.cast.starts may.childless r)

pub returns-in-Err-clause-course : goal.returns-in-Err-clause-course
returns-in-Err-clause-course g c o r = c.write_file.ensures.course o r

pub returns-in-Err-clause-calls : goal.returns-in-Err-clause-calls
returns-in-Err-clause-calls g c cast since from may r = c.write_file.ensures.calls cast since from may.cast.starts may.childless r

pub returns-in-Ok-clause-given : goal.returns-in-Ok-clause-given
returns-in-Ok-clause-given g c number ports h = c.start_child.ensures.given number ports (c.write_file.ensures.given number ports h)

pub returns-in-Err-clause-given : goal.returns-in-Err-clause-given
returns-in-Err-clause-given g c number ports h = c.write_file.ensures.given number ports h

pub returns-in-Ok-clause-ends : goal.returns-in-Ok-clause-ends
returns-in-Ok-clause-ends g c =
    let e = c.start_child.ensures.ends in
    let grow = c.write_file.ensures.ends.grow in
    record {
      saved = e.saved;
      grow = grow_then grow e.grow;
      cause = causes_stay (g.W.Journal.counts c.args.w.now) (g.W.Journal.counts c.write_file.new.w) (g.W.Journal.counts c.start_child.new.w) c.start_child.result grow e.cause;
      own = e.own;
    }

pub returns-in-Err-clause-ends : goal.returns-in-Err-clause-ends
returns-in-Err-clause-ends g c = c.in-Err.ensures.ends

pub returns-in-Ok-clause-quiet : goal.returns-in-Ok-clause-quiet
returns-in-Ok-clause-quiet g c facts = told_then (c.write_file.ensures.quiet facts) (c.start_child.ensures.quiet facts) (λ x y z w v. since_then w v)

pub returns-in-Err-clause-quiet : goal.returns-in-Err-clause-quiet
returns-in-Err-clause-quiet g c facts = c.write_file.ensures.quiet facts

pub returns-in-Ok-clause-later : goal.returns-in-Ok-clause-later
returns-in-Ok-clause-later g c = told_then c.write_file.ensures.later c.start_child.ensures.later (λ x y z w v. since_then w v)

pub returns-in-Err-clause-later : goal.returns-in-Err-clause-later
returns-in-Err-clause-later g c = c.write_file.ensures.later
