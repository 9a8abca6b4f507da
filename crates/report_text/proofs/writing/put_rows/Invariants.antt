use Rattle.std.proofs.Common.{◌≡◌, ◌++◌, string_bytes, map, length}
use denote.Shadow.{shadow}
use denote.Text.{Utf8}
use Rattle.report_text.specs.Rows.{rows, text_of_rows}
use Rattle.report_text.proofs.writing.put_rows.Given as goal

abbrev pub invariant-loop-row : goal.invariant-loop-row
invariant-loop-row l = record {
  text : shadow (Utf8 l.rest);
  put : string_bytes l.out ++ text_of_rows (map (λ row. l.fn.front ++ row) (rows l.rest))
      ≡ string_bytes l.initial.out ++ text_of_rows (map (λ row. l.fn.front ++ row) (rows l.fn.text));
}

abbrev pub decreases-loop-row : goal.decreases-loop-row
decreases-loop-row l = length l.rest
