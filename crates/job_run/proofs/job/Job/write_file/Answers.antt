use Rattle.std.proofs.Common.{refl, sym, subst, ◌∙◌}
use Rattle.std.proofs.lemmas.Result.{IfOk-weaker}
use Rattle.std.specs.Prelude.{IsOk}
use Rattle.world.proofs.CountsLemmas.{disk_grows}
use Rattle.job_saves.proofs.CourseLemmas.{calls_part}
use Rattle.job_run.proofs.RunLemmas.{passes, passes_role}
use Rattle.job_run.proofs.WorkLemmas.{disk_works}
use Rattle.job_saves.proofs.KeptLemmas.{part_quiet, part_keeps_end, part_keeps_ports}
use Rattle.job_saves.proofs.LaunchLemmas.{file_called, file_ready}
use Rattle.job_saves.proofs.TellingLemmas.{file_saves_none}
use Rattle.job_run.proofs.PartLemmas.{disk_quiet, disk_childless, disk_portless}
use Rattle.job_run.proofs.job.Job.write_file.Goals as goal
use Rattle.world.proofs.MomentsLemmas.{since_as, told_as}
use Rattle.job_run.proofs.StartLemmas.{file_quiet}

pub returns-clause-course : goal.returns-clause-course
returns-clause-course g c o r =
    passes o c.args.self.now _ _ _ _ _ refl refl refl
    (c.write_connection.ensures.others o.output r.apart) (disk_grows c.write_connection.ensures.cause) r

pub returns-clause-calls : goal.returns-clause-calls
returns-clause-calls g c cast since from starts childless r =
    passes_role cast since from c.args.self.now _ _ _ _ _ refl refl refl
    (λ s. calls_part cast since from _ _ _ _ _ (file_called cast c.args.self.now.number r.role.ask r.role.has starts c.args.self.now.paths.connection _ r.role.connection _ _ _ childless c.write_connection.ensures.entries)
    (part_quiet disk_quiet c.write_connection.ensures.part) (file_saves_none _ _ c.write_connection.result c.write_connection.ensures.entries) (disk_works c.write_connection.ensures.cause) s) r

pub returns-clause-left : goal.returns-clause-left
returns-clause-left g c = part_keeps_end c.args.self.now.number (g.W.Journal.journal c.args.w.now) (g.W.Journal.journal c.write_connection.new.w) disk_childless c.write_connection.ensures.part

pub returns-clause-ready : goal.returns-clause-ready
returns-clause-ready g c =
    let self = c.args.self.now in
    let w = c.write_connection in
    IfOk-weaker c.end_of_file.result _ _ (λ u is a kernel pairs at found given key asked.
    file_ready self.number a kernel self.paths.connection self.ports c.key-key.result.now pairs w.result u at (c.key-key.ensures ∙ key) is
    (g.W.Journal.journal c.args.w.now) (g.W.Journal.journal w.new.w) found given asked w.ensures.part w.ensures.entries (w.ensures.place (subst IsOk (sym is) refl)))
    c.end_of_file.ensures.done

pub returns-clause-given : goal.returns-clause-given
returns-clause-given g c number ports h = part_keeps_ports number ports (g.W.Journal.journal c.args.w.now) (g.W.Journal.journal c.write_connection.new.w) disk_portless c.write_connection.ensures.part h

pub returns-clause-ends : goal.returns-clause-ends
returns-clause-ends g c =
    let e = c.end_of_file.ensures in
    let w = c.write_connection.ensures.cause in
    record {
      saved = e.saved;
      grow = disk_grows w;
      cause = e.cause (g.W.Journal.counts c.args.w.now) (g.W.Journal.counts c.write_connection.new.w) (λ is. w.disk.cause is);
      own = e.own;
    }

pub returns-clause-quiet : goal.returns-clause-quiet
returns-clause-quiet g c facts = told_as c.write_connection.ensures.entries (λ x y w. file_quiet facts _ _ c.write_connection.result x y w)

pub returns-clause-later : goal.returns-clause-later
returns-clause-later g c = told_as c.write_connection.ensures.part (λ x y w. since_as (λ now h. tt) w)
