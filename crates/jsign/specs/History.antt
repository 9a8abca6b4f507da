-- Which signatures are fresh, as in the digest history of jupyter_client's Session: those that are not among the last 65,536 that were fresh.
use Rattle.std.specs.Prelude.{◌≡◌, ℕ, ◌≤◌, Bool, false, List, [], ◌∷◌, ◌++◌, length, map, if◌then◌else◌}
use Rattle.std.specs.List.{Contains, list_any, fold}
use Rattle.std.specs.Str.{bytes_eq}
use Rattle.std.specs.Ordering.{nat_cmp}
use Rattle.std.specs.Cmp.Lexicographic.{slice_cmp}
use Rattle.std.specs.BTreeSet.{BTreeSet, contains}
use Rattle.circular_buffer.specs.Buffer.{Buffer, keep_last}

-- the last 65,536
abbrev pub recent : List (List ℕ) → List (List ℕ)
recent sigs = keep_last 65536 sigs

-- whether the signature is one of them
abbrev pub is_among : List ℕ → List (List ℕ) → Bool
is_among sig sigs = list_any (bytes_eq sig) sigs

-- the signatures that were fresh, with one more offered
abbrev pub with_offered : List (List ℕ) → List ℕ → List (List ℕ)
with_offered kept sig = if is_among sig (recent kept) then kept else kept ++ sig ∷ []

-- the signatures that were fresh, of all that were offered in this order
unfoldable pub fresh_of : List (List ℕ) → List (List ℕ)
fresh_of offered = fold with_offered [] offered

-- after those were offered, the signature is fresh
abbrev pub IsFresh : List (List ℕ) → List ℕ → Type 0
IsFresh offered sig = ¬ (Contains (recent (fresh_of offered)) sig)

-- what is held is what has to be kept of those that were offered
abbrev pub StandsFor : List (List ℕ) → List (List ℕ) → Type 0
StandsFor held offered = held ≡ recent (fresh_of offered)

-- ---- messages, by their signatures

-- the signatures of items that stand beside theirs
abbrev pub signatures_of : {A : Type 0} → List (List ℕ × A) → List (List ℕ)
signatures_of items = map (λ item. item.0) items

-- the items that were fresh, with one more offered
abbrev pub with_item : {A : Type 0} → List (List ℕ × A) → List ℕ × A → List (List ℕ × A)
with_item kept item = if is_among item.0 (recent (signatures_of kept)) then kept else kept ++ item ∷ []

-- of all items that were offered in that order, those whose signature wasn't among the last 65,536 kept before them
unfoldable pub fresh_items : {A : Type 0} → List (List ℕ × A) → List (List ℕ × A)
fresh_items offered = fold with_item [] offered

-- ---- how a ring and a set hold them

-- none stands twice
abbrev pub AreDistinct : List (List ℕ) → Type 0
AreDistinct [] = Unit {0}
AreDistinct (sig ∷ sigs) = (is_among sig sigs ≡ false) × AreDistinct sigs

-- the set has the ring's signatures
pub record AreHeld (known : BTreeSet (List ℕ)) (ring : Buffer (List ℕ)) : Type 0 where
  pub capacity : ring.capacity ≡ 65536
  pub within : length ring.items ≤ 65536
  pub same : (sig : List ℕ) → contains (slice_cmp nat_cmp) known sig ≡ is_among sig ring.items
  pub distinct : AreDistinct ring.items
