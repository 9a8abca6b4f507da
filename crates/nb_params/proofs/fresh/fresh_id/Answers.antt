use Rattle.std.proofs.Common.{sym, ◌∙◌}
use Rattle.nb_params.specs.Injected.{ids}
use Rattle.nb_params.proofs.Ids.{named_taken, named_free}
use Rattle.nb_params.proofs.fresh.fresh_id.Goals as goal

pub returns-in_ok-id : goal.returns-in_ok-id
returns-in_ok-id c = named_taken c.args.cells.now c.in_ok-id.id (sym c.has_id.ensures ∙ c.if-has_id.true) (c.in_ok-id.ensures (ids c.args.cells.now) c.in_ok-taken.ensures)

pub returns-in_ok-id-2 : goal.returns-in_ok-id-2
returns-in_ok-id-2 c = named_free c.args.cells.now c.in_ok-id-2.id (sym c.has_id.ensures ∙ c.if-has_id.false) c.in_ok-id-2.ensures
