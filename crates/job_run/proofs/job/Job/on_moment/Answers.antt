use Rattle.std.proofs.Common.{true, refl, rules, sym, subst, ◌∙◌}
use Rattle.std.proofs.Math.Bool.{true≢false}
use Rattle.world.specs.declared.entry.Entry.TheVariants.{Looked}
use Rattle.world.specs.Moments.{Since, more, start}
use Rattle.world.specs.Parts.{IsNotOf, OnClock}
use Rattle.world.proofs.MomentsLemmas.{since_then, tells_as, told_both, told_start, told_then}
use Rattle.job_journal.specs.Plot.{facts}
use Rattle.job_run.proofs.CauseLemmas.{calls_got_none}
use Rattle.job_run.specs.Standing.{IsTurned}
use Rattle.job_run.proofs.JobLemmas.{job_stands, turned_run, turned_whole}
use Rattle.world.proofs.CountsLemmas.{grow_same}
use Rattle.job_saves.specs.Course.{stays_open}
use Rattle.cell_core.specs.StandsFor.{task_of}
use Rattle.job_run.proofs.StopLemmas.{job_ends}
use Rattle.job_run.proofs.TurnLemmas.{turn_counts}
use Rattle.job_run.proofs.RunLemmas.{ends_told, keeps_on, turns, plays_on, told_spares, entry_called}
use Rattle.cell_core.specs.declared.act.Act.TheVariants.{Nothing}
use Rattle.job_saves.proofs.CourseLemmas.{others_pass}
use Rattle.job_run.proofs.CountLemmas.{counts_passed}
use Rattle.job_run.proofs.WorkLemmas.{same_works}
use Rattle.job_run.proofs.PartLemmas.{kids_quiet, kids_unclocked}
use Rattle.job_run.proofs.job.Job.on_moment.Goals as goal

pub outcome_of-requires-clause-own : goal.outcome_of-requires-clause-own
outcome_of-requires-clause-own g c = job_ends (task_of c.on_moment-turned.new.self.core) c.on_moment-turned.result c.on_moment-turned.ensures.goes.step.own

pub returns-clause-goes : goal.returns-clause-goes
returns-clause-goes g c =
    let e = c.outcome_of.ensures in
    let t = c.on_moment-turned in
    record {
      course = λ o r.
          turns o c.args.self.now _ t.new.self.book _ _ _ _ (stays_open t.result) (sym c.is_over.ensures ∙ c.if-is_over.false)
          (λ s. t.ensures.goes.step.course o (others_pass o _ true _ _ _ _ (told_spares o.output _ _ _ refl c.look.ensures.tells) (grow_same c.look.ensures.same) s)) e.course refl e.shut e.fails
          (λ fresh s h. turn_counts o c.args.self.now.run t.new.self c.outcome_of.new.run t.result c.outcome_of.result
          (g.W.Journal.journal c.args.w.now) (g.W.Journal.journal t.new.w)
          (λ at. t.ensures.goes.step.counts o fresh.watched (others_pass o _ true _ _ _ _ (told_spares o.output _ _ _ refl c.look.ensures.tells) (grow_same c.look.ensures.same) s)
          (counts_passed o c.args.self.now.run Nothing _ _ _ (λ past. refl) (λ past. refl) c.look.ensures.tells at)) e.counts h) r;
      calls = λ cast since from r.
          plays_on cast since from c.args.self.now _ t.new.self.book _ _ _ _
          (λ s. t.ensures.goes.step.calls cast since from (entry_called cast since from _ _ _ _ _ _ (λ past. record { number = c.args.self.now.number; ask = r.role.ask; has = r.role.has; is = refl }) kids_quiet (λ past. tt) c.look.ensures.tells (same_works c.look.ensures.same) s)) e.calls refl refl r;
      clock = told_then (tells_as {R = Since (IsNotOf OnClock)} c.look.ensures.tells (λ past. more start kids_unclocked)) t.ensures.goes.clock (λ x y z v w. since_then v w);
      keeps = keeps_on t.new.self t.result e.task t.ensures.goes.step.task e.terms t.ensures.goes.step.terms refl t.ensures.goes.step.own e.lost e.spent;
      ends = ends_told c.args.self.now.outcome c.outcome_of.result c.unless_starved.result (sym c.is_over.ensures ∙ c.if-is_over.false) c.unless_starved.ensures.starved c.unless_starved.ensures.fed;
    }

pub returns-clause-stands : goal.returns-clause-stands
returns-clause-stands g c p =
    let j = c.args.self.now in
    let e = c.outcome_of in
    let t = c.on_moment-turned in
    told_then c.look.ensures.tells
    (told_both (t.ensures.stands p j.number)
    (calls_got_none j.run.book t.new.self.book (g.W.Journal.journal c.look.new.self) (g.W.Journal.journal t.new.w) (g.W.Journal.counts c.look.new.self) (g.W.Journal.counts t.new.w) t.ensures.goes.step.calls (facts p)))
    (λ x y z is so turned.
    let run = subst (IsTurned p j.number j.run c.args.ms) (sym is) (turned_run p j c.args.ms (Looked j.number c.look.result) x refl turned) in
    job_stands p _ t.new.self t.result z turned.stands.number_is turned.stands.output_is turned.stands.undated e.ensures.goes e.ensures.ends e.ensures.answers
    (λ on. turned_whole p j c.args.ms (Looked j.number c.look.result) x y z refl is so.1 turned) (so.0 run))

pub returns-then-is_over-clause-stands : goal.returns-then-is_over-clause-stands
returns-then-is_over-clause-stands g c p = told_start (λ now turned. absurd (true≢false (sym (sym c.is_over.ensures ∙ c.if-is_over.true) ∙ turned.running)))

pub returns-then-is_over-clause-goes : goal.returns-then-is_over-clause-goes
returns-then-is_over-clause-goes g c = record {
  course = search rules;
  calls = search rules;
  clock = told_start (λ now. start);
  keeps = search rules;
  ends = search rules;
}
