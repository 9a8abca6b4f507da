use Rattle.std.proofs.Common.{sym, subst, ◌∙◌}
use Rattle.std.specs.Prelude.{is_some}
use Rattle.cell_core.specs.Sending.{SendsOn, next_of}
use Rattle.job_run.proofs.HoldLemmas.{holds_told}
use Rattle.job_run.proofs.ToldLemmas.{Steps, hears_more, stops_more, names_more}
use Rattle.job_run.proofs.CountLemmas.{other_event}
use Rattle.job_run.proofs.execution.Execution.tell.Goals as goal

pub returns-clause-holds : goal.returns-clause-holds
returns-clause-holds c =
    let x = c.args.self.now in
    let s = c.step in
    let steps : Steps x.core s.new.self c.args.e s.result.act = record { order = c.requires.other ∙ sym c.requires.calm; stands = s.ensures.stands; act_is = s.ensures.act; same = s.ensures.same; stops_so = s.ensures.stops; starts = s.ensures.starts } in
    holds_told x s.new.self s.result.act c.requires.holds s.ensures.same s.ensures.sends
    (hears_more x.core s.new.self x.clock (is_some x.broken) c.args.e s.result.act steps c.requires.may c.requires.holds.heard)

pub returns-clause-todo : goal.returns-clause-todo
returns-clause-todo c =
    let x = c.args.self.now in
    let s = c.step in
    let h = c.requires.holds in
    let was = next_of x.core in
    let steps : Steps x.core s.new.self c.args.e s.result.act = record { order = c.requires.other ∙ sym c.requires.calm; stands = s.ensures.stands; act_is = s.ensures.act; same = s.ensures.same; stops_so = s.ensures.stops; starts = s.ensures.starts } in
    record {
      was = was;
      begun = h.begun;
      settled = h.settled;
      sends = subst (λ t. SendsOn t was (next_of s.new.self) s.result.act) (sym s.ensures.same) (s.ensures.sends h.ordered);
      awaits = s.ensures.next;
      stops = stops_more x.core s.new.self x.clock (is_some x.broken) c.args.e s.result.act steps c.requires.may h.heard;
      named = names_more x.core s.new.self x.clock (is_some x.broken) c.args.e s.result.act steps c.requires.may h.heard;
      settles = s.ensures.asks;
    }

pub returns-clause-counts : goal.returns-clause-counts
returns-clause-counts c n i =
    let x = c.args.self.now in
    let s = c.step in
    let steps : Steps x.core s.new.self c.args.e s.result.act = record { order = c.requires.other ∙ sym c.requires.calm; stands = s.ensures.stands; act_is = s.ensures.act; same = s.ensures.same; stops_so = s.ensures.stops; starts = s.ensures.starts } in
    other_event x s.new.self c.args.e s.result.act n steps c.requires.may c.requires.other i

pub returns-clause-takes : goal.returns-clause-takes
returns-clause-takes c =
    let s = c.step.ensures in
    record { stands = s.stands; act = s.act; takes = s.takes; same = s.same }
