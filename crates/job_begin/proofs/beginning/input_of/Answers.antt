use Rattle.std.proofs.Common.{◌∷◌, refl, ap}
use Rattle.std.proofs.lemmas.Result.{IfOk-weaker, IfErr-weaker}
use Rattle.world.specs.declared.entry.Entry.TheVariants as made
use Rattle.world.specs.Moments.{start, more}
use Rattle.world.proofs.MomentsLemmas.{tells_as}
use Rattle.job_run.proofs.WorkLemmas.{disk_works}
use Rattle.job_begin.proofs.BeginLemmas.{reads_input}
use Rattle.job_begin.proofs.beginning.input_of.Goals as goal

pub returns-clause-read : goal.returns-clause-read
returns-clause-read g c =
    IfOk-weaker c.notebook_in.result _ _ (λ n h. tells_as c.read_file-read.ensures.tells (λ past.
    record { bytes = h.0; accepted = h.2; is = ap (λ r. made.Read c.args.ask.now.input 33554432 r ∷ past) h.1 })) c.notebook_in.ensures.read

pub returns-clause-others : goal.returns-clause-others
returns-clause-others g c path = tells_as c.read_file-read.ensures.tells (λ past. more start refl)

pub returns-clause-part : goal.returns-clause-part
returns-clause-part g c = tells_as c.read_file-read.ensures.tells (λ past. more start refl)

pub returns-clause-calls : goal.returns-clause-calls
returns-clause-calls g c cast number has = tells_as c.read_file-read.ensures.tells (λ past. more start (reads_input c.args.ask.now cast number has c.read_file-read.result past))

pub returns-clause-work : goal.returns-clause-work
returns-clause-work g c = disk_works c.read_file-read.ensures.cause

pub returns-clause-cause : goal.returns-clause-cause
returns-clause-cause g c =
    c.notebook_in.ensures.cause (g.W.Journal.counts c.args.w.now) (g.W.Journal.counts c.read_file-read.new.self) (λ is. c.read_file-read.ensures.cause.disk.cause is)

pub returns-clause-none : goal.returns-clause-none
returns-clause-none g c = IfErr-weaker c.notebook_in.result _ _ (λ e h. tells_as c.read_file-read.ensures.tells (λ past. h past)) c.notebook_in.ensures.none
