use Rattle.std.proofs.Common.{◌≡◌, flat_map, length}
use denote.Shadow.{shadow}
use denote.Text.{Utf8}
use Rattle.report_text.specs.Rows.{rows}
use Rattle.scrap_book.specs.Merging.{with_pairs}
use Rattle.scrap_book.specs.Scraps.{row_scraps}
use Rattle.scrap_book.proofs.output.put_rows.Given as goal

abbrev pub invariant-loop-row : goal.invariant-loop-row
invariant-loop-row l = record {
  text : shadow (Utf8 l.rest);
  put : with_pairs l.found (flat_map row_scraps (rows l.rest))
      ≡ with_pairs l.initial.found (flat_map row_scraps (rows l.fn.text));
}

abbrev pub decreases-loop-row : goal.decreases-loop-row
decreases-loop-row l = length l.rest
