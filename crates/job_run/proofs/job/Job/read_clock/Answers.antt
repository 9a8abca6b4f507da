use Rattle.std.proofs.Common.{refl, rules, sym, ◌∙◌, ap, subst}
use Rattle.std.proofs.Math.Bool.{true≢false}
use Rattle.cell_core.specs.StandsFor.{task_of}
use Rattle.job_saves.specs.Course.{HasPart, Stands}
use Rattle.job_run.specs.declared.terms.Terms.{Terms}
use Rattle.job_run.proofs.JobLemmas.{job_clocked}
use Rattle.job_run.proofs.TurnLemmas.{turned_counts}
use Rattle.job_run.proofs.job.Job.read_clock.Goals as goal

pub returns-clause-course : goal.returns-clause-course
returns-clause-course c o journal counts r =
    let x = c.args.self.now.run in
    let y = c.turn_clock.new.self in
    let e = c.turn_clock.ensures in
    record {
      is_open = r.is_open;
      stands = subst (λ b. Stands o b r.is_open journal counts) (sym e.book) r.stands;
      apart = r.apart;
      shut = r.shut;
      fails = r.fails;
      counted = λ fresh. turned_counts o c.args.self.now.outcome x y journal e.core e.later e.broken (r.counted fresh);
    }

pub returns-clause-calls : goal.returns-clause-calls
returns-clause-calls c cast since from journal counts r = record {
  part = subst (λ b. HasPart cast since from b journal counts) (sym c.turn_clock.ensures.book) r.part;
  role = r.role;
}

pub returns-clause-keeps : goal.returns-clause-keeps
returns-clause-keeps c = record {
  task = ap task_of c.turn_clock.ensures.core;
  pings = ap (λ (t : Terms). t.heartbeat) c.turn_clock.ensures.terms;
  output = refl;
  still = search rules;
}

pub returns-clause-stands : goal.returns-clause-stands
returns-clause-stands c p journal at s = job_clocked p c.args.self.now _ c.args.ms journal refl refl refl c.turn_clock.ensures.rest c.turn_clock.ensures.turns at s

pub returns-then-is_over-clause-stands : goal.returns-then-is_over-clause-stands
returns-then-is_over-clause-stands c p journal at s = record {
  number_is = s.number_is;
  output_is = s.output_is;
  undated = s.undated;
  runs = λ e. absurd (true≢false (sym (sym c.is_over.ensures ∙ c.if-is_over.true) ∙ e));
  whole = λ e. absurd (true≢false (sym (sym c.is_over.ensures ∙ c.if-is_over.true) ∙ e));
  ended = s.ended;
}
