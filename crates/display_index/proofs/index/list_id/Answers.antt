use Rattle.std.proofs.Common.{inr}
use Rattle.std.proofs.lemmas.Result.{on_ok_weaker}
use Rattle.display_index.proofs.ListedLemmas.{listed-new}
use Rattle.display_index.proofs.index.list_id.Goals as goal

pub returns-else-last_is_in-clause-lists : goal.returns-else-last_is_in-clause-lists
returns-else-last_is_in-clause-lists c =
    on_ok_weaker c.add.result (λ e. inr (listed-new c.args.by_cell.now c.add.new.self c.args.cell c.args.id.now e)) c.add.ensures.ok
