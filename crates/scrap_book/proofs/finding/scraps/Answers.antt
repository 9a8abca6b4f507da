use Rattle.std.proofs.Common.{◌∙◌, ap, [], flat_map}
use Rattle.scrap_book.specs.Merging.{with_pairs}
use Rattle.scrap_book.specs.Scraps.{cell_scraps}
use Rattle.scrap_book.proofs.MergingLemmas.{set_is_merged}
use Rattle.scrap_book.proofs.finding.scraps.Goals as goal

pub returns : goal.returns
returns c =
    c.in_ok-put_cells.ensures
    ∙ ap (λ fields. with_pairs fields (flat_map cell_scraps c.as_slice.result.now)) c.new-found.ensures
    ∙ ap (λ cells. with_pairs [] (flat_map cell_scraps cells)) c.as_slice.ensures
    ∙ set_is_merged (flat_map cell_scraps c.args.n.now.cells)
