use Rattle.std.proofs.Common.{refl}
use Rattle.world.proofs.CountsLemmas.{child_grows}
use Rattle.job_saves.proofs.CourseLemmas.{calls_part}
use Rattle.job_run.proofs.RunLemmas.{passes, passes_role}
use Rattle.job_run.proofs.WorkLemmas.{child_works}
use Rattle.job_saves.proofs.KeptLemmas.{part_quiet, part_keeps_ports}
use Rattle.job_saves.proofs.LaunchLemmas.{launch_called}
use Rattle.job_run.proofs.LaunchLemmas.{role_of}
use Rattle.job_saves.proofs.TellingLemmas.{part_saves_none}
use Rattle.job_run.proofs.PartLemmas.{kids_quiet, kids_portless, kids_diskless}
use Rattle.job_run.proofs.job.Job.start_child.Goals as goal
use Rattle.world.proofs.MomentsLemmas.{since_as, told_as}
use Rattle.job_run.proofs.StartLemmas.{kids_are_quiet}

pub returns-clause-course : goal.returns-clause-course
returns-clause-course g c o r =
    passes o c.args.self.now _ _ _ _ _ refl refl refl
    (c.start.ensures.others o.output) (child_grows c.start.ensures.cause) r

pub returns-clause-calls : goal.returns-clause-calls
returns-clause-calls g c cast since from may r =
    passes_role cast since from c.args.self.now _ _ _ _ _ refl refl refl
    (λ s. calls_part cast since from _ _ _ _ _
    (launch_called cast c.args.self.now.number may.ask may.cast.has may.cast.starts c.args.here.now may.cast.folder c.args.self.now.paths.connection c.args.self.now.paths.cwd
    (role_of cast c.args.self.now.number c.args.self.now.paths may.ask may.cast.has r.role).file (role_of cast c.args.self.now.number c.args.self.now.paths may.ask may.cast.has r.role).folder
    c.args.kernel.now _ _ _ may.ready may.childless c.start.ensures.entries)
    (part_quiet kids_quiet c.start.ensures.part) (part_saves_none kids_diskless c.start.ensures.part) (child_works c.start.ensures.cause) s) r

pub returns-clause-given : goal.returns-clause-given
returns-clause-given g c number ports h = part_keeps_ports number ports (g.W.Journal.journal c.args.w.now) (g.W.Journal.journal c.start.new.w) kids_portless c.start.ensures.part h

pub returns-clause-ends : goal.returns-clause-ends
returns-clause-ends g c =
    let e = c.end_of_start.ensures in
    let s = c.start.ensures.cause in
    record {
      saved = e.saved;
      grow = child_grows s;
      cause = e.cause (g.W.Journal.counts c.args.w.now) (g.W.Journal.counts c.start.new.w) (λ is. s.child.cause is);
      own = e.own;
    }

pub returns-clause-quiet : goal.returns-clause-quiet
returns-clause-quiet g c facts = told_as c.start.ensures.part (λ x y w. kids_are_quiet facts x y w)

pub returns-clause-later : goal.returns-clause-later
returns-clause-later g c = told_as c.start.ensures.part (λ x y w. since_as (λ now h. tt) w)
