use Rattle.std.proofs.Common.{◌≡◌, ℕ, List, take}
use Rattle.std.specs.BTreeSet.{contains_text}
use Rattle.jtext.specs.Reading.{has_key}
use Rattle.jtext.proofs.key_set.keys_of.Given as goal

abbrev pub invariant-loop-pair : goal.invariant-loop-pair
invariant-loop-pair l = (q : List ℕ) → contains_text l.keys q ≡ has_key (take l.pair-index l.pairs) q
