use Rattle.std.proofs.Common.{◌≡◌, flat_map, take}
use Rattle.scrap_book.specs.Merging.{with_pairs}
use Rattle.scrap_book.specs.Scraps.{output_scraps}
use Rattle.scrap_book.proofs.finding.put_outputs.Given as goal

abbrev pub invariant-loop-output : goal.invariant-loop-output
invariant-loop-output l =
    l.found ≡ with_pairs l.initial.found (flat_map output_scraps (take l.output-index l.outputs))
