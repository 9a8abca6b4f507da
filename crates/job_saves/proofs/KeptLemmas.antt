-- What calls of other parts of the world leave as it was: what is heard, the children and their ports.
use Rattle.std.proofs.Common.{◌≡◌, ◌≢◌, ℕ, List, ◌∷◌, Bool, true, false, Option, Some, None, refl, ◌∙◌}
use Rattle.std.specs.Prelude.{IfSome, if◌then◌else◌}
use Rattle.world.specs.declared.entry.Entry.{Entry}
use Rattle.world.specs.declared.entry.Entry.TheVariants as made
use Rattle.world.specs.Moments.{Since, start, more as later, Told, Tells}
use Rattle.world.specs.Parts.{Part, OnKids, OnWire, OnSay, part_of, IsOf, IsNotOf}
use Rattle.world.proofs.MomentsLemmas.{told_as, tells_as, since_as}
use Rattle.world.proofs.PartsLemmas.{is_not_of}
use Rattle.said_lines.specs.Speech.{heard}
use Rattle.job_saves.specs.Children.{ends_child, has_child, ports_of, KeepsEnd, AsksNone}

-- ---- one entry

-- only what is said is heard
pub heard_other : (entry : Entry) (past : List Entry) → part_of entry ≢ OnSay → heard (entry ∷ past) ≡ heard past
heard_other (made.Said bytes did) past other = absurd (other refl)
heard_other _ past other = refl

-- only a call of the wire gives ports
pub ports_other : (number : ℕ) (entry : Entry) (past : List Entry) → part_of entry ≢ OnWire → ports_of number (entry ∷ past) ≡ ports_of number past
ports_other number (made.Ports job ports) past other = absurd (other refl)
ports_other number _ past other = refl

pub ended_still : (b : Bool) (rest : Bool) → rest ≡ false → (if b then false else rest) ≡ false
ended_still true rest e = refl
ended_still false rest e = e

-- only a call of the children starts one
pub child_other : (number : ℕ) (entry : Entry) (past : List Entry) → part_of entry ≢ OnKids → has_child number past ≡ false → has_child number (entry ∷ past) ≡ false
child_other number (made.Started job argv env dir did) past other h = absurd (other refl)
child_other number (made.Removed path did) past other h = ended_still (ends_child number past) (has_child number past) h
child_other number _ past other h = h

-- ---- each of these through any number of entries

heard_kept : {x y : List Entry} → Since (IsNotOf OnSay) x y → heard y ≡ heard x
heard_kept start = refl
heard_kept (later {past} {entry} since not) = heard_other entry past not ∙ heard_kept since

ports_kept : (number : ℕ) {x y : List Entry} → Since (IsNotOf OnWire) x y → ports_of number y ≡ ports_of number x
ports_kept number start = refl
ports_kept number (later {past} {entry} since not) = ports_other number entry past not ∙ ports_kept number since

child_kept : (number : ℕ) {x y : List Entry} → Since (IsNotOf OnKids) x y → has_child number x ≡ false → has_child number y ≡ false
child_kept number start h = h
child_kept number (later {past} {entry} since not) h = child_other number entry past not (child_kept number since h)

-- of one other part
pub heard_since : {part : Part} {x y : List Entry} → part ≢ OnSay → Since (IsOf part) x y → heard y ≡ heard x
heard_since {part} other since = heard_kept (since_as (is_not_of part OnSay other) since)

pub ports_since : {part : Part} (number : ℕ) {x y : List Entry} → part ≢ OnWire → Since (IsOf part) x y → ports_of number y ≡ ports_of number x
ports_since {part} number other since = ports_kept number (since_as (is_not_of part OnWire other) since)

pub child_since : {part : Part} (number : ℕ) {x y : List Entry} → part ≢ OnKids → Since (IsOf part) x y → has_child number x ≡ false → has_child number y ≡ false
child_since {part} number other since = child_kept number (since_as (is_not_of part OnKids other) since)

-- ---- where it is told

-- calls of one part that says nothing
pub part_quiet : {part : Part} {j k : Option (List Entry)} → part ≢ OnSay → Told j k (Since (IsOf part)) → Told j k (λ before after. heard after ≡ heard before)
part_quiet other told = told_as told (λ x y s. heard_since other s)

-- one call that says nothing
pub entry_quiet : {j k : Option (List Entry)} (entry : Entry) → part_of entry ≢ OnSay → Tells j k entry → Told j k (λ before after. heard after ≡ heard before)
entry_quiet entry other tells = tells_as tells (λ past. heard_other entry past other)

-- calls of one part that starts no child
pub part_keeps_end : {part : Part} (number : ℕ) (j k : Option (List Entry)) → part ≢ OnKids → Told j k (Since (IsOf part)) → KeepsEnd number j k
part_keeps_end number j None other told h = tt
part_keeps_end number None (Some y) other told h = absurd told.so
part_keeps_end number (Some x) (Some y) other told h = child_since number other told.so h

-- calls of one part that gives no ports
pub part_asks_none : {part : Part} (number : ℕ) (j k : Option (List Entry)) → part ≢ OnWire → Told j k (Since (IsOf part)) → AsksNone number j → AsksNone number k
part_asks_none number j None other told h = tt
part_asks_none number None (Some y) other told h = absurd told.so
part_asks_none number (Some x) (Some y) other told h = ports_since number other told.so ∙ h

-- and the ports that were given stay
pub part_keeps_ports : {part : Part} (number : ℕ) (ports : List ℕ) (j k : Option (List Entry)) → part ≢ OnWire → Told j k (Since (IsOf part))
    → IfSome j (λ past. ports_of number past ≡ Some ports) → IfSome k (λ past. ports_of number past ≡ Some ports)
part_keeps_ports number ports j None other told h = tt
part_keeps_ports number ports None (Some y) other told h = absurd told.so
part_keeps_ports number ports (Some x) (Some y) other told h = ports_since number other told.so ∙ h
