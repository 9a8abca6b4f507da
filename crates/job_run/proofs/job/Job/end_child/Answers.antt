use Rattle.std.proofs.Common.{refl}
use Rattle.world.specs.Moments.{more}
use Rattle.world.proofs.MomentsLemmas.{tells_as, told_one}
use Rattle.job_journal.proofs.Quiet.{quiet_kind}
use Rattle.world.specs.Moments.{start}
use Rattle.world.proofs.CountsLemmas.{grow_same, disk_grows, grow_then}
use Rattle.job_run.proofs.RunLemmas.{passes_one, entry_called}
use Rattle.job_run.proofs.WorkLemmas.{same_works, disk_works}
use Rattle.job_saves.proofs.ChildLemmas.{removed_after}
use Rattle.job_run.proofs.PartLemmas.{disk_quiet, kids_quiet}
use Rattle.job_run.proofs.job.Job.end_child.Goals as goal

pub returns-clause-course : goal.returns-clause-course
returns-clause-course g c o r =
    let self = c.args.self.now in
    passes_one o self self _ _ _ _ _ refl refl refl r.apart c.remove.ensures.tells (disk_grows c.remove.ensures.cause)
    (passes_one o self self _ _ _ _ _ refl refl refl refl c.end.ensures.tells (grow_same c.end.ensures.same) r)

pub returns-clause-calls : goal.returns-clause-calls
returns-clause-calls g c cast since from r =
    let number = c.args.self.now.number in
    let ended = entry_called cast since from _ _ _ _ _ _ (λ past. record { number = number; ask = r.role.ask; has = r.role.has; is = refl }) kids_quiet (λ past. tt) c.end.ensures.tells (same_works c.end.ensures.same) r.part in
    record {
      part = entry_called cast since from _ _ _ _ _ _ (λ past. record { number = number; ask = r.role.ask; has = r.role.has; is = r.role.connection }) disk_quiet (λ past. tt) c.remove.ensures.tells (disk_works c.remove.ensures.cause) ended;
      role = r.role;
    }

pub returns-clause-grow : goal.returns-clause-grow
returns-clause-grow g c = grow_then (grow_same c.end.ensures.same) (disk_grows c.remove.ensures.cause)

pub returns-clause-left : goal.returns-clause-left
returns-clause-left g c = removed_after c.args.self.now.number c.end.ensures.tells c.remove.ensures.tells

pub returns-clause-quiet : goal.returns-clause-quiet
returns-clause-quiet g c facts =
    told_one (tells_as c.end.ensures.tells (λ past. more start (quiet_kind facts _ past refl))) c.remove.ensures.tells (λ x y w. more w (quiet_kind facts _ y refl))
