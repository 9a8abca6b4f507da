use Rattle.std.proofs.Common.{List, sym, ap, ◌∙◌}
use Rattle.cell_core.specs.declared.event.Event.{Event}
use Rattle.cell_core.specs.Requests.{standing}
use Rattle.cell_core.specs.StandsFor.{task_of}
use Rattle.cell_core.proofs.Answering.{heard_all, runs_on}
use Rattle.cell_core.proofs.laws.running_requests_go_on.Goals as goal

pub returns : goal.returns
returns c =
    let core = c.args.core.now in
    λ told last h idle on stands.
    let all = ap (λ (es : List Event). standing (task_of core) es) (heard_all (task_of core) told on) in
    runs_on (task_of core) core.clock core.lost core.state _ last h.so idle on (all ∙ stands)
