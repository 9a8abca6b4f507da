use Rattle.jsign.proofs.ItemLemmas.{signatures_same, item_kept, item_left_out, items_none}
use Rattle.jsign.proofs.laws.fresh_items_are_kept.Goals as goal

pub returns : goal.returns
returns c start = record { signatures = signatures_same; kept = item_kept; left_out = item_left_out; none = items_none }
