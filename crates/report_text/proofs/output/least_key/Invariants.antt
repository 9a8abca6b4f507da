use Rattle.std.proofs.Common.{◌≡◌, ◌<◌, length, take, drop}
use denote.Shadow.{shadow}
use denote.Text.{Utf8}
use Rattle.jtext.specs.Sorting.{by_key}
use Rattle.report_text.specs.Page.{first_key}
use Rattle.report_text.proofs.output.least_key.Given as goal

abbrev pub invariant-loop-pair : goal.invariant-loop-pair
invariant-loop-pair l = record {
  text : shadow (Utf8 l.least);
  below : length l.rest < length l.fn.pairs;
  front : l.rest ≡ take (length l.rest) l.fn.pairs;
  least : l.least ≡ first_key (by_key (drop (length l.rest) l.fn.pairs));
}

abbrev pub decreases-loop-pair : goal.decreases-loop-pair
decreases-loop-pair l = length l.rest
