use Rattle.job_run.proofs.WorkLemmas.{rand_works}
use Rattle.std.proofs.Common.{inl, subst}
use Rattle.world.specs.Moments.{Told}
use Rattle.kernel_start.specs.RandomWords.{Draws}
use Rattle.job_run.proofs.starting.draw_pairs.Goals as goal

pub returns-in-Some-clause-work : goal.returns-in-Some-clause-work
returns-in-Some-clause-work g c = rand_works c.random_pairs.ensures.cause

pub returns-in-Some-clause-others : goal.returns-in-Some-clause-others
returns-in-Some-clause-others g c path = c.random_pairs.ensures.others path

pub returns-in-Some-clause-words : goal.returns-in-Some-clause-words
returns-in-Some-clause-words g c =
    subst (λ r. Told (g.W.Journal.journal c.args.w.now) (g.W.Journal.journal c.random_pairs.new.w) (Draws r)) c.in-Some.is c.random_pairs.ensures.entries

pub returns-in-None-clause-work : goal.returns-in-None-clause-work
returns-in-None-clause-work g c = rand_works c.random_pairs.ensures.cause

pub returns-in-None-clause-others : goal.returns-in-None-clause-others
returns-in-None-clause-others g c path = c.random_pairs.ensures.others path

pub returns-in-None-clause-cause : goal.returns-in-None-clause-cause
returns-in-None-clause-cause g c = inl (c.random_pairs.ensures.cause.rand.cause c.in-None.is)

pub returns-in-Some-clause-part : goal.returns-in-Some-clause-part
returns-in-Some-clause-part g c = c.random_pairs.ensures.part

pub returns-in-None-clause-part : goal.returns-in-None-clause-part
returns-in-None-clause-part g c = c.random_pairs.ensures.part
