use Rattle.std.proofs.Common.{refl, sym, ap, subst, ◌∙◌}
use Rattle.cell_core.specs.declared.act.Act.TheVariants.{Nothing}
use Rattle.std.specs.Prelude.{is_some}
use Rattle.cell_core.specs.declared.event.Event.TheVariants.{Saved}
use Rattle.cell_core.specs.Sending.{SendsOn, next_of}
use Rattle.cell_core.specs.Stops.{asked_of, stopping_of}
use Rattle.cell_core.specs.declared.machine.Core.{Core}
use Rattle.job_saves.specs.Left.{IsLeft}
use Rattle.cell_core.specs.StandsFor.{awaits_saved_of}
use Rattle.job_run.proofs.HoldLemmas.{holds_told}
use Rattle.job_run.proofs.ToldLemmas.{Steps, hears_more, stops_more, names_more}
use Rattle.job_run.proofs.CountLemmas.{counts_saved, residual_for, unsaved_for, saved_event, told_counted}
use Rattle.world.proofs.MomentsLemmas.{told_as}
use Rattle.job_journal.specs.Plot.{facts}
use Rattle.job_notebook.specs.State.{notebook_of, output_of}
use Rattle.nb_text.specs.Notebooks.{text_of}
use Rattle.progress_save.specs.Saved.{line_of}
use Rattle.said_lines.specs.Between.{SayFailed}
use Rattle.job_run.specs.declared.execution.Execution.{Execution}
use Rattle.job_run.specs.Standing.{StandsTo}
use Rattle.job_run.specs.Used.{TakesEvent}
use Rattle.job_run.specs.Told.{KnowsBroken}
use Rattle.job_run.proofs.ActLemmas.{kind_saved}
use Rattle.job_run.proofs.BrokenLemmas.{broken_more}
use Rattle.job_run.proofs.ReadLemmas.{saves_read}
use Rattle.job_run.proofs.SaveLemmas.{saved_to, says_quiet, unsaved_ends}
use Rattle.job_run.proofs.StandingLemmas.{ended_to}
use Rattle.job_run.proofs.execution.Execution.save_on.Goals as goal

pub returns-clause-holds : goal.returns-clause-holds
returns-clause-holds g c =
    let x = c.save.new.self in
    let s = c.step in
    let steps : Steps x.core s.new.self Saved s.result.act = record { order = sym (ap awaits_saved_of c.save.ensures.core ∙ c.requires.todo.awaits); stands = s.ensures.stands; act_is = s.ensures.act; same = s.ensures.same; stops_so = s.ensures.stops; starts = s.ensures.starts } in
    holds_told x s.new.self s.result.act c.save.ensures.holds s.ensures.same s.ensures.sends
    (hears_more x.core s.new.self x.clock (is_some x.broken) Saved s.result.act steps tt c.save.ensures.holds.heard)

pub returns-clause-todo : goal.returns-clause-todo
returns-clause-todo g c =
    let x = c.save.new.self in
    let s = c.step in
    let h = c.save.ensures.holds in
    let was = next_of x.core in
    let steps : Steps x.core s.new.self Saved s.result.act = record { order = sym (ap awaits_saved_of c.save.ensures.core ∙ c.requires.todo.awaits); stands = s.ensures.stands; act_is = s.ensures.act; same = s.ensures.same; stops_so = s.ensures.stops; starts = s.ensures.starts } in
    record {
      was = was;
      begun = h.begun;
      settled = h.settled;
      sends = subst (λ t. SendsOn t was (next_of s.new.self) s.result.act) (sym s.ensures.same) (s.ensures.sends h.ordered);
      awaits = s.ensures.next;
      stops = stops_more x.core s.new.self x.clock (is_some x.broken) Saved s.result.act steps tt h.heard;
      named = names_more x.core s.new.self x.clock (is_some x.broken) Saved s.result.act steps tt h.heard;
      settles = s.ensures.asks;
    }

pub returns-clause-saves : goal.returns-clause-saves
returns-clause-saves g c = c.save.ensures.saves

pub returns-in_err-save-clause-saves : goal.returns-in_err-save-clause-saves
returns-in_err-save-clause-saves g c = c.save.ensures.saves

pub returns-clause-reads : goal.returns-clause-reads
returns-clause-reads g c =
    let output = output_of c.args.self.now.book in
    let now = notebook_of c.save.new.self.book in
    told_as c.save.ensures.entries
    (λ before after so. saves_read output (text_of now) (line_of output c.args.settled now) (SayFailed g.W.Journal.counts c.save.new.w) c.save.result before after so)

pub returns-in_err-save-clause-reads : goal.returns-in_err-save-clause-reads
returns-in_err-save-clause-reads g c =
    let output = output_of c.args.self.now.book in
    let now = notebook_of c.save.new.self.book in
    told_as c.save.ensures.entries
    (λ before after so. saves_read output (text_of now) (line_of output c.args.settled now) (SayFailed g.W.Journal.counts c.save.new.w) c.save.result before after so)

pub returns-clause-counts : goal.returns-clause-counts
returns-clause-counts g c o on stands h =
    let x = c.args.self.now in
    let y = c.save.new.self in
    let s = c.step in
    let core = c.save.ensures.core in
    let awaited = ap awaits_saved_of core ∙ c.requires.todo.awaits in
    let steps : Steps y.core s.new.self Saved s.result.act = record { order = sym awaited; stands = s.ensures.stands; act_is = s.ensures.act; same = s.ensures.same; stops_so = s.ensures.stops; starts = s.ensures.starts } in
    let asked = ap asked_of core ∙ c.requires.todo.settles c.args.settled refl in
    counts_saved o x (record y { core = s.new.self }) s.result.act c.args.settled (stopping_of x.core) (g.W.Journal.journal c.args.w.now) (g.W.Journal.journal c.save.new.w) c.in_ok-save.ensures.acked stands.output
    (c.in_ok-save.ensures.left o on stands)
    (λ n m one left i. saved_event y s.new.self s.result.act n m steps awaited one
    (subst (λ p. IsLeft m p (stopping_of y.core)) (sym asked) (subst (λ (k : Core). IsLeft m c.args.settled (stopping_of k)) (sym core) left))
    (told_counted x y Nothing n c.save.ensures.told i)) h

pub returns-in_err-save-clause-counts : goal.returns-in_err-save-clause-counts
returns-in_err-save-clause-counts g c o on stands h =
    let e = c.in_err-save.field-0.0 in
    let k = g.W.Journal.journal c.save.new.w in
    residual_for o c.save.new.self c.from_residual.result e k c.from_residual.ensures.1 (unsaved_for o c.save.new.self e k c.in_err-save.ensures.kind)

pub returns-clause-clock : goal.returns-clause-clock
returns-clause-clock g c = ap (λ (k : Execution). k.clock) c.save.ensures.rest

pub returns-in_err-save-clause-clock : goal.returns-in_err-save-clause-clock
returns-in_err-save-clause-clock g c = ap (λ (k : Execution). k.clock) c.save.ensures.rest

pub returns-clause-stands : goal.returns-clause-stands
returns-clause-stands g c p number =
    let y = c.save.new.self in
    let s = c.step in
    let took : TakesEvent Saved s.result y.core s.new.self = record { stands = s.ensures.stands; act = s.ensures.act; takes = s.ensures.takes; same = s.ensures.same } in
    told_as c.in_ok-save.ensures.entries
    (λ before after so clock t.
    subst (λ (k : Execution). StandsTo p number (record (record k { core = s.new.self }) { clock = clock }) s.result.act after) (sym c.save.ensures.rest)
    (saved_to p number (record c.args.self.now { clock = clock }) c.args.settled before t y.book c.in_ok-save.ensures.prefix s.new.self s.result c.save.ensures.output c.save.ensures.merge c.in_ok-save.ensures.keeps
    c.requires.todo.awaits (subst (λ (k : Core). TakesEvent Saved s.result k s.new.self) c.save.ensures.core took) s.ensures.next (s.ensures.closes refl) so.past after so.saves
    (says_quiet (facts p) _ _ so.past after so.says)))

pub returns-in_err-save-clause-stands : goal.returns-in_err-save-clause-stands
returns-in_err-save-clause-stands g c p number =
    let e = c.in_err-save.field-0.0 in
    told_as c.in_err-save.ensures.entries
    (λ before after so clock t.
    ended_to p number (record c.save.new.self { clock = clock }) c.from_residual.result e after c.from_residual.ensures.1
    (unsaved_ends p number (record c.args.self.now { clock = clock }) c.args.settled before after c.save.new.self.book
    (line_of (output_of c.args.self.now.book) c.args.settled (notebook_of c.save.new.self.book)) (SayFailed g.W.Journal.counts c.save.new.w) e t c.in_err-save.ensures.prefix so c.in_err-save.ensures.kind))

pub returns-clause-kind : goal.returns-clause-kind
returns-clause-kind g c =
    let y = c.save.new.self in
    kind_saved y.core y.clock (is_some y.broken) c.step.result.act (ap awaits_saved_of c.save.ensures.core ∙ c.requires.todo.awaits) c.step.ensures.act c.save.ensures.holds.heard

pub returns-clause-broken : goal.returns-clause-broken
returns-clause-broken g c b =
    let y = c.save.new.self in
    let s = c.step.ensures in
    let was : KnowsBroken y.core = subst KnowsBroken (sym c.save.ensures.core) b in
    broken_more y.core c.step.new.self Saved s.same was (s.stands was.events was.stands tt)
