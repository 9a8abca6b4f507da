-- What an entry of one part leaves as it was.
use Rattle.std.specs.Prelude.{◌≡◌, ◌⊎◌, ℕ, ◌+◌, List, [], ◌∷◌, Bool, true, false, if◌then◌else◌, refl}
use Rattle.std.proofs.Common.{◌≢◌, sym, ◌∙◌, inl, inr}
use Rattle.world.specs.declared.entry.Entry.{Entry}
use Rattle.world.specs.declared.entry.Entry.TheVariants.{
  Created,
  Wrote,
  Synced,
  Renamed,
  DirSynced,
  Removed,
  Connected,
  Closed,
  Got,
  Dry,
  Ended,
  Refused,
  ReadFailed,
  Put,
  Stuck,
  PutFailed,
  Waited,
  Moment,
}
use Rattle.world.specs.Acked.{ack_count, is_acknowledging}
use Rattle.world.specs.Disk.{Place, place, place_after}
use Rattle.world.specs.Moments.{Since, start, more}
use Rattle.world.specs.Parts.{Part, OnDisk, OnWire, OnClock, part_of, IsOf, IsNotOf}
use Rattle.world.specs.Places.{Status, status, status_after, time, time_after}
use Rattle.world.proofs.MomentsLemmas.{since_as}

-- what is of one part is not of another
pub is_not_of : (part other : Part) → part ≢ other → (now : List Entry) → IsOf part now → IsNotOf other now
is_not_of part other apart [] is = absurd is
is_not_of part other apart (entry ∷ past) is = λ e. apart (sym is ∙ e)

-- only a call of the disk changes a file
pub after_other : (entry : Entry) (was : List ℕ → Place) → part_of entry ≢ OnDisk → place_after entry was ≡ was
after_other (Created path did) was other = absurd (other refl)
after_other (Wrote path bytes did) was other = absurd (other refl)
after_other (Synced path did) was other = absurd (other refl)
after_other (Renamed from to did) was other = absurd (other refl)
after_other (DirSynced dir did) was other = absurd (other refl)
after_other (Removed path did) was other = absurd (other refl)
after_other _ was other = refl

-- only a call of the disk acknowledges a save
pub acked_other : (from to : List ℕ) (entry : Entry) (past : List Entry) → part_of entry ≢ OnDisk
    → ack_count from to (entry ∷ past) ≡ ack_count from to past
acked_other from to (DirSynced dir did) past other = absurd (other refl)
acked_other from to _ past other = refl

-- only a call on connections changes how one stands
pub status_other : (p clock : ℕ) (entry : Entry) (was : Status) → part_of entry ≢ OnWire
    → status_after p clock entry was ≡ was
status_other p clock (Connected conn port how) was other = absurd (other refl)
status_other p clock (Closed conn) was other = absurd (other refl)
status_other p clock (Got conn room bytes) was other = absurd (other refl)
status_other p clock (Dry conn) was other = absurd (other refl)
status_other p clock (Ended conn by) was other = absurd (other refl)
status_other p clock (Refused conn by) was other = absurd (other refl)
status_other p clock (ReadFailed conn) was other = absurd (other refl)
status_other p clock (Put conn bytes) was other = absurd (other refl)
status_other p clock (Stuck conn) was other = absurd (other refl)
status_other p clock (PutFailed conn) was other = absurd (other refl)
status_other p clock (Waited ms reports did) was other = absurd (other refl)
status_other p clock _ was other = refl

-- only a call of the clock changes the last moment
pub time_other : (entry : Entry) (was : ℕ) → part_of entry ≢ OnClock → time_after entry was ≡ was
time_other (Moment ms) was other = absurd (other refl)
time_other _ was other = refl

-- each of these through any number of entries of other parts

-- what is known of each path
pub place_kept : {x y : List Entry} → Since (IsNotOf OnDisk) x y → place y ≡ place x
place_kept start = refl
place_kept (more {past} {entry} since not) = after_other entry (place past) not ∙ place_kept since

-- how many saves were acknowledged
pub acked_kept : (from to : List ℕ) {x y : List Entry} → Since (IsNotOf OnDisk) x y
    → ack_count from to y ≡ ack_count from to x
acked_kept from to start = refl
acked_kept from to (more {past} {entry} since not) = acked_other from to entry past not ∙ acked_kept from to since

-- how a connection stands
pub status_kept : (p : ℕ) {x y : List Entry} → Since (IsNotOf OnWire) x y → status p y ≡ status p x
status_kept p start = refl
status_kept p (more {past} {entry} since not) = status_other p (time past) entry (status p past) not ∙ status_kept p since

-- the last moment
pub time_kept : {x y : List Entry} → Since (IsNotOf OnClock) x y → time y ≡ time x
time_kept start = refl
time_kept (more {past} {entry} since not) = time_other entry (time past) not ∙ time_kept since

-- each of these through any number of entries of one other part

pub place_since : {part : Part} {x y : List Entry} → part ≢ OnDisk → Since (IsOf part) x y → place y ≡ place x
place_since {part} other since = place_kept (since_as (is_not_of part OnDisk other) since)

pub acked_since : {part : Part} (from to : List ℕ) {x y : List Entry} → part ≢ OnDisk → Since (IsOf part) x y
    → ack_count from to y ≡ ack_count from to x
acked_since {part} from to other since = acked_kept from to (since_as (is_not_of part OnDisk other) since)

pub status_since : {part : Part} (p : ℕ) {x y : List Entry} → part ≢ OnWire → Since (IsOf part) x y
    → status p y ≡ status p x
status_since {part} p other since = status_kept p (since_as (is_not_of part OnWire other) since)

pub time_since : {part : Part} {x y : List Entry} → part ≢ OnClock → Since (IsOf part) x y → time y ≡ time x
time_since {part} other since = time_kept (since_as (is_not_of part OnClock other) since)

one_more : (b : Bool) (n : ℕ) → ((if b then n + 1 else n) ≡ n) ⊎ ((if b then n + 1 else n) ≡ n + 1)
one_more true n = inr refl
one_more false n = inl refl

-- an entry acknowledges at most one save of a path
pub acked_grows : (from to : List ℕ) (entry : Entry) (past : List Entry)
    → (ack_count from to (entry ∷ past) ≡ ack_count from to past) ⊎ (ack_count from to (entry ∷ past) ≡ ack_count from to past + 1)
acked_grows from to entry past = one_more (is_acknowledging from to (entry ∷ past)) (ack_count from to past)
