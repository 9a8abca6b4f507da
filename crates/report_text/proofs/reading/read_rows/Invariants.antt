use Rattle.std.proofs.Common.{◌≤◌, ◌+◌, length}
use denote.Shadow.{shadow}
use denote.Text.{Utf8}
use Rattle.report_text.specs.Rows.{rows}
use Rattle.report_text.proofs.Whole.{Progress}
use Rattle.report_text.proofs.reading.read_rows.Given as goal

abbrev pub invariant-loop-row : goal.invariant-loop-row
invariant-loop-row l = record {
  text : shadow (Utf8 l.rest);
  so_far : Progress (rows l.fn.text) (rows l.rest) l.number l.draft;
  small : l.number + length l.rest ≤ length l.fn.text;
}

abbrev pub decreases-loop-row : goal.decreases-loop-row
decreases-loop-row l = length l.rest
