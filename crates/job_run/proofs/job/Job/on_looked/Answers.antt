use Rattle.std.proofs.Common.{refl, rules, sym, ◌∙◌}
use Rattle.world.specs.Moments.{start}
use Rattle.world.proofs.MomentsLemmas.{told_as, told_both, told_start}
use Rattle.job_journal.specs.Plot.{facts}
use Rattle.job_journal.proofs.Breaking.{whole_same}
use Rattle.job_run.proofs.CauseLemmas.{calls_got_none}
use Rattle.job_run.proofs.JobLemmas.{job_stands}
use Rattle.job_saves.specs.Course.{stays_open}
use Rattle.cell_core.specs.StandsFor.{task_of}
use Rattle.job_run.proofs.StopLemmas.{job_ends}
use Rattle.job_run.proofs.TurnLemmas.{turn_counts}
use Rattle.job_run.proofs.RunLemmas.{ends_told, keeps_on, turns, plays_on}
use Rattle.job_run.proofs.job.Job.on_looked.Goals as goal

pub outcome_of-requires-clause-own : goal.outcome_of-requires-clause-own
outcome_of-requires-clause-own g c = job_ends (task_of c.on_looked-looked.new.self.core) c.on_looked-looked.result c.on_looked-looked.ensures.goes.step.own

pub returns-clause-goes : goal.returns-clause-goes
returns-clause-goes g c =
    let e = c.outcome_of.ensures in
    let t = c.on_looked-looked in
    record {
      course = λ o r.
          turns o c.args.self.now _ t.new.self.book _ _ _ _ (stays_open t.result) (sym c.is_over.ensures ∙ c.if-is_over.false) (t.ensures.goes.step.course o) e.course refl e.shut e.fails
          (λ fresh s h. turn_counts o c.args.self.now.run t.new.self c.outcome_of.new.run t.result c.outcome_of.result
          (g.W.Journal.journal c.args.w.now) (g.W.Journal.journal t.new.w) (t.ensures.goes.step.counts o fresh.watched s) e.counts h) r;
      calls = λ cast since from r.
          plays_on cast since from c.args.self.now _ t.new.self.book _ _ _ _ (t.ensures.goes.step.calls cast since from) e.calls refl refl r;
      clock = t.ensures.goes.clock;
      keeps = keeps_on t.new.self t.result e.task t.ensures.goes.step.task e.terms t.ensures.goes.step.terms refl t.ensures.goes.step.own e.lost e.spent;
      ends = ends_told c.args.self.now.outcome c.outcome_of.result c.unless_starved.result (sym c.is_over.ensures ∙ c.if-is_over.false) c.unless_starved.ensures.starved c.unless_starved.ensures.fed;
    }

pub returns-clause-stands : goal.returns-clause-stands
returns-clause-stands g c p =
    let j = c.args.self.now in
    let e = c.outcome_of in
    let t = c.on_looked-looked in
    let running = sym c.is_over.ensures ∙ c.if-is_over.false in
    told_as
    (told_both (t.ensures.stands p j.number)
    (calls_got_none j.run.book t.new.self.book (g.W.Journal.journal c.args.w.now) (g.W.Journal.journal t.new.w) (g.W.Journal.counts c.args.w.now) (g.W.Journal.counts t.new.w) t.ensures.goes.step.calls (facts p)))
    (λ before after so s.
    job_stands p _ t.new.self t.result after s.number_is s.output_is s.undated e.ensures.goes e.ensures.ends e.ensures.answers
    (λ on. whole_same (facts p) before after so.1 (s.whole running)) (so.0 (s.runs running) (s.whole running)))

pub returns-then-is_over-clause-stands : goal.returns-then-is_over-clause-stands
returns-then-is_over-clause-stands g c p = told_start (λ now s. record { number_is = s.number_is; output_is = s.output_is; undated = s.undated; runs = s.runs; whole = s.whole; ended = s.ended })

pub returns-then-is_over-clause-goes : goal.returns-then-is_over-clause-goes
returns-then-is_over-clause-goes g c = record {
  course = search rules;
  calls = search rules;
  clock = told_start (λ now. start);
  keeps = search rules;
  ends = search rules;
}
