use Rattle.std.proofs.Common.{◌≡◌, ℕ, List, ◌+◌, ◌*◌, ◌<◌, ◌≤◌, length}
use Rattle.std.specs.Prelude.{codes}
use Rattle.std.specs.BTreeSet.{contains_text}
use denote.Text.{Utf8}
use denote.Shadow.{shadow}
use Rattle.jtext.specs.Reading.{value_at, item_at, field_at, has_key}
use Rattle.jtext.proofs.Turns.{SoFar}
use Rattle.jtext.proofs.reader.+parse.Given as goal

abbrev pub decreases-value : goal.decreases-value
decreases-value l = 2 * l.deep

abbrev pub decreases-items : goal.decreases-items
decreases-items l = 2 * l.deep + 1

abbrev pub decreases-fields : goal.decreases-fields
decreases-fields l = 2 * l.deep + 1

abbrev pub invariant-items-loop-found : goal.invariant-items-loop-found
invariant-items-loop-found l =
    record {
      text : shadow (Utf8 l.rest);
      within : length l.rest ≤ length l.s;
      far : SoFar (codes "]") (item_at (value_at l.deep)) l.found l.s l.rest;
    }

abbrev pub decreases-items-loop-found : goal.decreases-items-loop-found
decreases-items-loop-found l = length l.rest

abbrev pub invariant-fields-loop-many : goal.invariant-fields-loop-many
invariant-fields-loop-many l =
    record {
      text : shadow (Utf8 l.rest);
      within : length l.rest ≤ length l.s;
      kept : 16 < length l.found → (q : List ℕ) → contains_text l.many q ≡ has_key l.found q;
      far : SoFar (codes "}") (field_at (value_at l.deep)) l.found l.s l.rest;
    }

abbrev pub decreases-fields-loop-many : goal.decreases-fields-loop-many
decreases-fields-loop-many l = length l.rest
