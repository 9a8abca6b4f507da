use Rattle.std.proofs.Common.{refl, sym}
use Rattle.std.specs.Prelude.{is_some}
use Rattle.cell_core.specs.declared.event.Event.TheVariants.{Lost}
use Rattle.job_run.proofs.HoldLemmas.{holds_told}
use Rattle.job_run.proofs.ToldLemmas.{Steps, hears_more}
use Rattle.job_run.specs.Used.{TakesEvent}
use Rattle.job_run.proofs.ClockLemmas.{told_goes_by}
use Rattle.job_run.proofs.CountLemmas.{quiet, other_event}
use Rattle.job_run.proofs.execution.Execution.on_ended.Goals as goal

pub returns-clause-holds : goal.returns-clause-holds
returns-clause-holds c =
    let x = c.args.self.now in
    let s = c.step in
    let steps : Steps x.core s.new.self Lost s.result.act = record { order = sym c.requires.calm; stands = s.ensures.stands; act_is = s.ensures.act; same = s.ensures.same; stops_so = s.ensures.stops; starts = s.ensures.starts } in
    holds_told x s.new.self s.result.act c.requires.holds s.ensures.same s.ensures.sends
    (hears_more x.core s.new.self x.clock (is_some x.broken) Lost s.result.act steps tt c.requires.holds.heard)

pub returns-clause-counts : goal.returns-clause-counts
returns-clause-counts c n i =
    let x = c.args.self.now in
    let s = c.step in
    let steps : Steps x.core s.new.self Lost s.result.act = record { order = sym c.requires.calm; stands = s.ensures.stands; act_is = s.ensures.act; same = s.ensures.same; stops_so = s.ensures.stops; starts = s.ensures.starts } in
    quiet (record x { core = s.new.self }) s.result.act n (other_event x s.new.self Lost s.result.act n steps tt refl i)

pub returns-clause-stands : goal.returns-clause-stands
returns-clause-stands c p number clock now s =
    let x = c.args.self.now in
    let t = c.step in
    let took : TakesEvent Lost t.result x.core t.new.self = record { stands = t.ensures.stands; act = t.ensures.act; takes = t.ensures.takes; same = t.ensures.same } in
    told_goes_by p number x (record x { core = t.new.self }) Lost t.result (is_some x.broken) refl took c.requires.holds.heard tt c.requires.calm refl clock now refl s
