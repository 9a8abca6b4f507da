use Rattle.std.proofs.Common.{◌<◌, length, arith}
use Rattle.std.specs.Str.{bytes_eq}
use Rattle.display_index.specs.Listed.{places_at}
use Rattle.display_index.proofs.ListedLemmas.{cleared-next}
use Rattle.display_index.proofs.index.clear_all.Goals as goal

pub loop-id-preserved : goal.loop-id-preserved
loop-id-preserved c = λ other.
    let below : c.loop-id.id-index < length c.as_slice-id-items.result.now = omega arith in
    cleared-next c.args.cell (λ id. bytes_eq id other) c.as_slice-id-items.result.now c.loop-id.id-index c.id-item.result
    (places_at c.args.by_id.now other) (places_at c.loop-id.by_id other) (places_at c.clear.new.self other)
    below c.id-item.is (c.loop-id.invariant other) (c.clear.ensures other)
