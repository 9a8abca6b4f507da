-- What one call does to what is to be done before the next wait.
use Rattle.std.proofs.Common.{◌≡◌, ◌≢◌, inl, inr, ◌+◌, ◌-◌, ◌<◌, ◌≤◌, ◌||◌, ◌∷◌, drop, length-drop, sum_by, get_or, ℕ, Bool, true, false, List, [], length, set, Option, Some, None, IsSomeAnd, Result, Ok, Err, OnOk, slice_get, arith, refl, sym, ◌∙◌, ap, subst}
use Rattle.std.proofs.lemmas.List.Sums.{sum_by-set}
use Rattle.std.proofs.lemmas.Option.{get_or_from_slice_get, same_Some, slice_get_within}
use Rattle.std.proofs.lemmas.Bool.{cases_eq, cases_lt, eq-eqb, ne_eqb, false≢true}
use Rattle.world.specs.declared.conn.Conn.{Conn}
use Rattle.world.specs.declared.got.Got.{Got}
use Rattle.world.specs.declared.got.Got.TheVariants as got
use Rattle.world.specs.declared.connected.Connected.{Connected}
use Rattle.world.specs.declared.connected.Connected.TheVariants as connected
use Rattle.world.specs.declared.put.Put.{Put}
use Rattle.world.specs.declared.put.Put.TheVariants as put
use Rattle.world.specs.Places.{place_of}
use Rattle.world.specs.Told.{PutSome}
use Rattle.ready_loop.specs.declared.link.Link.{Link}
use Rattle.ready_loop.specs.declared.readiness.Loop.{Loop}
use Rattle.ready_loop.specs.Link.{MayRead, MayWrite, IsToBegin, read_link, connect_link, write_link, closed_link, is_known, is_begun, IsSteady}
use Rattle.ready_loop.specs.Queues.{Held, held_in, rest_at, put_count}
use Rattle.ready_loop.specs.Reads.{failed_got}
use Rattle.ready_loop.specs.States.{EachBelow, Each, IsDrained, IsOffered, IsSound, NotRead, failed_in, failed_at, failed_connect, failed_put, IsCalmAt, IsOfferedAt, AllOfferedBelow, OnlyAt, FailsOnly, SameKnown, known_in, known_at, begun_in, begun_at, IsWell, flag, writable_in, load, IsCalm, reads_where, link_reads}
use Rattle.ready_loop.specs.declared.fault.LoopFault.{LoopFault}
use Rattle.ready_loop.proofs.BegunLemmas.{calm_sound, clock_last, well_read, well_write}
use Rattle.ready_loop.proofs.CallLemmas.{held_write}
use Rattle.ready_loop.proofs.OfferLemmas.{held_set}
use Rattle.jtext.proofs.Lists.{slice_get-set_same, slice_get-set_other}

-- ---- a table with one link replaced

pub each_set : {P : ℕ → Link → Type 0} (n q : ℕ) (links : List Link) (new : Link) → q < length links → P q new
    → EachBelow n links P → EachBelow n (set links q new) P
each_set {P} n q links new lt here all p link low is = elim (cases_eq p q) [
  | inl e ↦
      let at : slice_get (set links q new) q ≡ Some link = subst (λ i. slice_get (set links q new) i ≡ Some link) e is in
      let link_is : new ≡ link = same_Some _ _ (sym (slice_get-set_same links q new lt) ∙ at) in
      subst (λ i. P i link) (sym e) (subst (λ l. P q l) link_is here)
  | inr ne ↦ all p link low (sym (slice_get-set_other links q p new ne) ∙ is)
]

-- one place more
pub each_more : {P : ℕ → Link → Type 0} (q : ℕ) (links : List Link) (new : Link) → q < length links → P q new
    → EachBelow q links P → EachBelow (q + 1) (set links q new) P
each_more {P} q links new lt here all p link low is = elim (cases_eq p q) [
  | inl e ↦
      let at : slice_get (set links q new) q ≡ Some link = subst (λ i. slice_get (set links q new) i ≡ Some link) e is in
      let link_is : new ≡ link = same_Some _ _ (sym (slice_get-set_same links q new lt) ∙ at) in
      subst (λ i. P i link) (sym e) (subst (λ l. P q l) link_is here)
  | inr ne ↦ all p link (omega arith) (sym (slice_get-set_other links q p new ne) ∙ is)
]

-- one place more that was passed
pub each_next : {P : ℕ → Link → Type 0} (q : ℕ) (links : List Link) (link : Link) → slice_get links q ≡ Some link
    → P q link → EachBelow q links P → EachBelow (q + 1) links P
each_next {P} q links link found here all p l low is = elim (cases_eq p q) [
  | inl e ↦
      let at : slice_get links q ≡ Some l = subst (λ i. slice_get links i ≡ Some l) e is in
      let link_is : link ≡ l = same_Some _ _ (sym found ∙ at) in
      subst (λ i. P i l) (sym e) (subst (λ x. P q x) link_is here)
  | inr ne ↦ all p l (omega arith) is
]

pub failed_set_own : (links : List Link) (q : ℕ) (new : Link) → q < length links
    → failed_in (slice_get (set links q new) q) ≡ new.failed
failed_set_own links q new lt = ap failed_in (slice_get-set_same links q new lt)

pub failed_set_other : (links : List Link) (q p : ℕ) (new : Link) → p ≢ q
    → failed_in (slice_get (set links q new) p) ≡ failed_in (slice_get links p)
failed_set_other links q p new ne = ap failed_in (slice_get-set_other links q p new ne)

-- what is kept of each connection, where one link was replaced that keeps it
pub kept_set : (g : Option Link → Bool) (links now : List Link) (q : ℕ) (new link : Link) → slice_get links q ≡ Some link
    → now ≡ set links q new
    → g (Some new) ≡ g (Some link) → (p : ℕ) → g (slice_get now p) ≡ g (slice_get links p)
kept_set g links now q new link found is same p = elim (cases_eq p q) [
  | inl e ↦
      let own = ap (λ ls. g (slice_get ls q)) is ∙ ap g (slice_get-set_same links q new (slice_get_within links q _ found)) ∙ same ∙ ap g (sym found) in
      subst (λ i. g (slice_get now i) ≡ g (slice_get links i)) (sym e) own
  | inr ne ↦ ap (λ ls. g (slice_get ls p)) is ∙ ap g (slice_get-set_other links q p new ne)
]

-- where bytes are added at no place that has none, and none is begun
pub known_by : (l new : Loop) → ((p : ℕ) → known_at new p ≡ known_at l p) → ((p : ℕ) → begun_at new p ≡ begun_at l p)
    → ((p : ℕ) → rest_at l.queues p ≡ [] → rest_at new.queues p ≡ []) → SameKnown l new
known_by l new same begun empty = record {
  each = same;
  begun = begun;
  holds = λ h. record { each = λ p fresh. empty p (h.each p (sym (same p) ∙ fresh)) };
}

-- a link replaced by one of the same stage
pub known_set : (l new : Loop) (q : ℕ) (then link : Link) → slice_get l.links q ≡ Some link
    → new.links ≡ set l.links q then → then.stage ≡ link.stage
    → ((p : ℕ) → rest_at l.queues p ≡ [] → rest_at new.queues p ≡ []) → SameKnown l new
known_set l new q then link found is same empty = known_by l new (kept_set known_in l.links new.links q then link found is (ap is_known same)) (kept_set begun_in l.links new.links q then link found is (ap is_begun same)) empty

pub known_start : (l : Loop) → SameKnown l l
known_start l = record { each = λ p. refl; begun = λ p. refl; holds = λ h. h }

pub known_then : {a b c : Loop} → SameKnown a b → SameKnown b c → SameKnown a c
known_then m n = record { each = λ p. n.each p ∙ m.each p; begun = λ p. n.begun p ∙ m.begun p; holds = λ h. n.holds (m.holds h) }

-- where one queue was replaced that held bytes, one that holds none is as it was
pub empty_set : (queues now : List Held) (q : ℕ) (held : Held) → 0 < length (rest_at queues q) → now ≡ set queues q held
    → (p : ℕ) → rest_at queues p ≡ [] → rest_at now p ≡ []
empty_set queues now q held some is p empty = elim (cases_eq p q) [
  | inl e ↦
      let none : length (rest_at queues q) ≡ 0 = ap length (subst (λ i. rest_at queues i ≡ []) e empty) in
      absurd (omega (arith, some, none))
  | inr ne ↦ ap (λ qs. rest_at qs p) is ∙ ap (λ o. (held_in o).rest) (slice_get-set_other queues q p held ne) ∙ empty
]

pub read_stage : (answer : Got) (last : ℕ) (link : Link) → (read_link answer last link).stage ≡ link.stage
read_stage (got.Piece n) last link = refl
read_stage got.Dry last link = refl
read_stage got.Ended last link = refl
read_stage got.Refused last link = refl
read_stage got.Failed last link = refl

-- what has failed, where one link was replaced
pub failed_set : (f : ℕ → Bool → Bool) (links now : List Link) (q : ℕ) (new link : Link) → slice_get links q ≡ Some link
    → now ≡ set links q new
    → new.failed ≡ f q link.failed → ((p : ℕ) (b : Bool) → p ≢ q → f p b ≡ b)
    → (p : ℕ) → failed_in (slice_get now p) ≡ f p (failed_in (slice_get links p))
failed_set f links now q new link found is own other p = elim (cases_eq p q) [
  | inl e ↦
      let own_at = ap (λ ls. failed_in (slice_get ls q)) is ∙ failed_set_own links q new (slice_get_within links q _ found) ∙ own ∙ ap (λ o. f q (failed_in o)) (sym found) in
      subst (λ i. failed_in (slice_get now i) ≡ f i (failed_in (slice_get links i))) (sym e) own_at
  | inr ne ↦ ap (λ ls. failed_in (slice_get ls p)) is ∙ failed_set_other links q p new ne ∙ sym (other p (failed_in (slice_get links p)) ne)
]

-- ---- a read

read_may_write : (answer : Got) (last : ℕ) (link : Link) → MayWrite (read_link answer last link) → MayWrite link
read_may_write (got.Piece n) last link m = record { writable = m.writable; sound = m.sound }
read_may_write got.Dry last link m = record { writable = m.writable; sound = m.sound }
read_may_write got.Ended last link m = absurd (false≢true m.writable)
read_may_write got.Refused last link m = absurd (false≢true m.writable)
read_may_write got.Failed last link m = absurd (false≢true (sym m.sound))

pub read_offered : (answer : Got) (last q : ℕ) (l : Loop) (links : List Link) (link : Link)
    → slice_get l.links q ≡ Some link → q < 64
    → links ≡ set l.links q (read_link answer last link) → IsOffered l → IsOffered (record l { links = links })
read_offered answer last q l links link found low is o = record {
  each = subst (λ (ls : List Link). Each ls (λ p x. MayWrite x → rest_at l.queues p ≡ [])) (sym is)
      (each_set {P = λ p x. MayWrite x → rest_at l.queues p ≡ []} 64 q l.links (read_link answer last link) (slice_get_within l.links q _ found)
      (λ m. o.each q link low found (read_may_write answer last link m)) o.each);
}

read_failed : (answer : Got) (last : ℕ) (link : Link) (conn : Conn) → link.failed ≡ false
    → (read_link answer last link).failed ≡ failed_got answer conn (place_of conn) link.failed
read_failed (got.Piece n) last link conn e = refl
read_failed got.Dry last link conn e = refl
read_failed got.Ended last link conn e = refl
read_failed got.Refused last link conn e = refl
read_failed got.Failed last link conn e = ap (λ b. b || link.failed) (sym (eq-eqb (place_of conn) (place_of conn) refl))

failed_got_other : (answer : Got) (conn : Conn) (p : ℕ) (b : Bool) → p ≢ place_of conn → failed_got answer conn p b ≡ b
failed_got_other (got.Piece n) conn p b ne = refl
failed_got_other got.Dry conn p b ne = refl
failed_got_other got.Ended conn p b ne = refl
failed_got_other got.Refused conn p b ne = refl
failed_got_other got.Failed conn p b ne = ap (λ x. x || b) (ne_eqb p (place_of conn) ne)

pub read_fails : (answer : Got) (conn : Conn) (last q : ℕ) (links now : List Link) (link : Link) → place_of conn ≡ q
    → slice_get links q ≡ Some link → link.failed ≡ false
    → now ≡ set links q (read_link answer last link) → (p : ℕ)
    → failed_in (slice_get now p) ≡ failed_got answer conn p (failed_in (slice_get links p))
read_fails answer conn last q links now link place found sound is p =
    failed_set (λ i b. failed_got answer conn i b) links now (place_of conn) (read_link answer last link) link (subst (λ i. slice_get links i ≡ Some link) (sym place) found)
    (is ∙ ap (λ i. set links i (read_link answer last link)) (sym place)) (read_failed answer last link conn sound) (λ i b ne. failed_got_other answer conn i b ne) p

dry_reads : (last : ℕ) (link : Link) → MayRead (read_link got.Dry last link) → ⊥
dry_reads last link m = false≢true m.awake

pub read_below : (answer : Got) (last q : ℕ) (links now : List Link) (link : Link) → slice_get links q ≡ Some link
    → now ≡ set links q (read_link answer last link)
    → answer ≡ got.Dry → EachBelow q links NotRead → EachBelow (q + 1) now NotRead
read_below answer last q links now link found is dry all =
    subst (λ (ls : List Link). EachBelow (q + 1) ls NotRead) (sym is)
    (each_more {P = NotRead} q links (read_link answer last link) (slice_get_within links q _ found)
    (subst (λ a. MayRead (read_link a last link) → ⊥) (sym dry) (dry_reads last link)) all)

link_read_as : (answer : Got) (last : ℕ) (link : Link) → MayRead link → link_reads (read_link answer last link) < 64 - link.reads
link_read_as (got.Piece n) last link may =
    let now : link_reads (read_link (got.Piece n) last link) ≡ 64 - (link.reads + 1) = ap (λ b. reads_where b link.failed (link.reads + 1)) may.awake ∙ ap (λ b. reads_where true b (link.reads + 1)) may.sound in
    omega (arith, now, may.reads)
link_read_as got.Dry last link may = let few = may.reads in omega (arith, few)
link_read_as got.Ended last link may = let few = may.reads in omega (arith, few)
link_read_as got.Refused last link may = let few = may.reads in omega (arith, few)
link_read_as got.Failed last link may = let few = may.reads in omega (arith, few)

-- a read lowers what may still be read of its connection
pub link_read : (answer : Got) (last : ℕ) (link : Link) → MayRead link → link_reads (read_link answer last link) < link_reads link
link_read answer last link may =
    let was : link_reads link ≡ 64 - link.reads = ap (λ b. reads_where b link.failed link.reads) may.awake ∙ ap (λ b. reads_where true b link.reads) may.sound in
    let now = link_read_as answer last link may in
    omega (arith, was, now, may.reads)

-- and of all
pub read_lowers : (answer : Got) (last q : ℕ) (links now : List Link) (link : Link) → slice_get links q ≡ Some link
    → now ≡ set links q (read_link answer last link) → MayRead link → sum_by link_reads now < sum_by link_reads links
read_lowers answer last q links now link found is may =
    let sums = sum_by-set link_reads links q (read_link answer last link) link (slice_get_within links q _ found) in
    let here : link_reads (get_or links q link) ≡ link_reads link = ap link_reads (get_or_from_slice_get links q link link found) in
    let same : sum_by link_reads now ≡ sum_by link_reads (set links q (read_link answer last link)) = ap (sum_by link_reads) is in
    let falls = link_read answer last link may in
    omega (arith, sums, here, same, falls)

-- where one link was replaced of which no more may be read
pub reads_set : (links now : List Link) (q : ℕ) (new link : Link) → slice_get links q ≡ Some link → now ≡ set links q new
    → link_reads new ≤ link_reads link → sum_by link_reads now ≤ sum_by link_reads links
reads_set links now q new link found is less =
    let sums = sum_by-set link_reads links q new link (slice_get_within links q _ found) in
    let here : link_reads (get_or links q link) ≡ link_reads link = ap link_reads (get_or_from_slice_get links q link link found) in
    let same : sum_by link_reads now ≡ sum_by link_reads (set links q new) = ap (sum_by link_reads) is in
    omega (arith, sums, here, same, less)

none_failed : (awake : Bool) (reads most : ℕ) → reads_where awake true reads ≤ most
none_failed true reads most = omega arith
none_failed false reads most = omega arith

pub connect_lowers : (how : Connected) (last : ℕ) (link : Link) → link_reads (connect_link how last link) ≤ link_reads link
connect_lowers connected.Begun last link = omega arith
connect_lowers connected.Refused last link = omega arith
connect_lowers connected.Failed last link = none_failed link.awake link.reads (link_reads link)

pub write_lowers : (answer : Put) (last : ℕ) (link : Link) → link_reads (write_link answer last link) ≤ link_reads link
write_lowers (put.Took n) last link = omega arith
write_lowers put.Stuck last link = omega arith
write_lowers put.Ended last link = omega arith
write_lowers put.Refused last link = omega arith
write_lowers put.Failed last link = none_failed link.awake link.reads (link_reads link)

pub closed_lowers : (link : Link) → link_reads (closed_link link) ≤ link_reads link
closed_lowers link = omega arith

-- ---- connections of which a call may be made

well_by : (l : Loop) (conn : Conn) (q : ℕ) (link : Link) → place_of conn ≡ q → conn.job < 16 → slice_get l.links q ≡ Some link
    → is_begun link.stage ≡ true → link.failed ≡ false → IsWell l conn
well_by l conn q link place low found begun sound = record {
  job = low;
  begun = ap (λ i. begun_in (slice_get l.links i)) place ∙ ap begun_in found ∙ begun;
  sound = ap (λ i. failed_in (slice_get l.links i)) place ∙ ap failed_in found ∙ sound;
}

pub well_connect : (l : Loop) (conn : Conn) (q : ℕ) (link : Link) → place_of conn ≡ q → conn.job < 16 → slice_get l.links q ≡ Some link
    → IsSteady link → {forced : Bool} {last : ℕ} → IsToBegin forced last link → IsWell l conn
well_connect l conn q link place low found s to = well_by l conn q link place low found (s.begun to.at to.refused) (calm_sound link s to.at to.refused)

pub well_written : (l : Loop) (conn : Conn) (q : ℕ) (link : Link) → place_of conn ≡ q → conn.job < 16 → slice_get l.links q ≡ Some link
    → IsSteady link → MayWrite link → IsWell l conn
well_written l conn q link place low found s may = well_by l conn q link place low found (well_write link s may) may.sound

pub well_got : (l : Loop) (conn : Conn) (q : ℕ) (link : Link) → place_of conn ≡ q → conn.job < 16 → slice_get l.links q ≡ Some link
    → IsSteady link → MayRead link → IsWell l conn
well_got l conn q link place low found s may = well_by l conn q link place low found (well_read link s may) may.sound

-- one that is so after calls that failed of none was so before them
pub well_before : {a b : Loop} {conn : Conn} → SameKnown a b → ((p : ℕ) → failed_at b p ≡ failed_at a p) → IsWell b conn → IsWell a conn
well_before {a} {b} {conn} known failed w = record {
  job = w.job;
  begun = sym (known.begun (place_of conn)) ∙ w.begun;
  sound = sym (failed (place_of conn)) ∙ w.sound;
}

-- a connection that is to be read is left
pub not_drained : {l now : Loop} {q : ℕ} {link : Link} → q < 64 → now ≡ l
    → slice_get now.links q ≡ Some link → MayRead link → IsDrained l → ⊥
not_drained {q = q} {link} low same found may d =
    d.each q link low (subst (λ (k : Loop). slice_get k.links q ≡ Some link) same found) may

-- what is known of the connection at a place, and back
pub may_here : (P : Link → Type 0) (links : List Link) (q : ℕ) (link : Link) → slice_get links q ≡ Some link
    → IsSomeAnd (slice_get links q) P → P link
may_here P links q link found may = subst (λ o. IsSomeAnd o P) found may

pub and_here : (P : Link → Type 0) (links : List Link) (q : ℕ) (link : Link) → slice_get links q ≡ Some link → P link
    → IsSomeAnd (slice_get links q) P
and_here P links q link found may = subst (λ o. IsSomeAnd o P) (sym found) may

-- ---- a connect and a write

-- where a link was replaced that may be read only where the old one may
pub drained_set : (l new : Loop) (q : ℕ) (link then : Link) → slice_get l.links q ≡ Some link → q < 64
    → new.links ≡ set l.links q then
    → (MayRead then → MayRead link) → IsDrained l → IsDrained new
drained_set l new q link then found low is only d = record {
  each = subst (λ (ls : List Link). Each ls NotRead) (sym is)
      (each_set {P = NotRead} 64 q l.links then (slice_get_within l.links q _ found) (λ m. d.each q link low found (only m)) d.each);
}

pub only_set : (l new : Loop) (q : ℕ) (link : Link) → new.links ≡ set l.links q link → new.queues ≡ l.queues
    → new.left ≡ l.left → OnlyAt q l new
only_set l new q link is queues left = record {
  links = λ p ne. ap (λ ls. slice_get ls p) is ∙ slice_get-set_other l.links q p link ne;
  held = λ p ne. ap (λ qs. held_in (slice_get qs p)) queues;
  left = left;
}

pub connect_reads : (how : Connected) (last : ℕ) (link : Link) → MayRead (connect_link how last link) → MayRead link
connect_reads connected.Begun last link m = record { awake = m.awake; sound = m.sound; reads = m.reads }
connect_reads connected.Refused last link m = record { awake = m.awake; sound = m.sound; reads = m.reads }
connect_reads connected.Failed last link m = absurd (false≢true (sym m.sound))

pub connect_failed : (how : Connected) (last : ℕ) (link : Link) (conn : Conn)
    → (connect_link how last link).failed ≡ failed_connect how conn (place_of conn) link.failed
connect_failed connected.Begun last link conn = refl
connect_failed connected.Refused last link conn = refl
connect_failed connected.Failed last link conn = ap (λ b. b || link.failed) (sym (eq-eqb (place_of conn) (place_of conn) refl))

pub failed_connect_other : (how : Connected) (conn : Conn) (p : ℕ) (b : Bool) → p ≢ place_of conn
    → failed_connect how conn p b ≡ b
failed_connect_other connected.Begun conn p b ne = refl
failed_connect_other connected.Refused conn p b ne = refl
failed_connect_other connected.Failed conn p b ne = ap (λ x. x || b) (ne_eqb p (place_of conn) ne)

pub connect_fails : (how : Connected) (conn : Conn) (last q : ℕ) (links now : List Link) (link : Link) → place_of conn ≡ q
    → slice_get links q ≡ Some link
    → now ≡ set links q (connect_link how last link) → (p : ℕ)
    → failed_in (slice_get now p) ≡ failed_connect how conn p (failed_in (slice_get links p))
connect_fails how conn last q links now link place found is p =
    failed_set (λ i b. failed_connect how conn i b) links now (place_of conn) (connect_link how last link) link (subst (λ i. slice_get links i ≡ Some link) (sym place) found)
    (is ∙ ap (λ i. set links i (connect_link how last link)) (sym place)) (connect_failed how last link conn) (λ i b ne. failed_connect_other how conn i b ne) p

connect_calm : (how : Connected) (last : ℕ) (link : Link) (at : ℕ) → (connect_link how last link).refused ≡ Some at
    → last < at + 200
connect_calm connected.Begun last link at e = cc
connect_calm connected.Refused last link at e = let k = same_Some _ _ e in omega arith
connect_calm connected.Failed last link at e = cc

pub calm_connected : (how : Connected) (last later q : ℕ) (l new : Loop) (link : Link) → slice_get l.links q ≡ Some link
    → new.links ≡ set l.links q (connect_link how last link) → last ≡ later → IsCalmAt q later new
calm_connected how last later q l new link found is clock = record {
  at = λ x at_q at refused.
      let here : slice_get (set l.links q (connect_link how last link)) q ≡ Some x = subst (λ (ls : List Link). slice_get ls q ≡ Some x) is at_q in
      let x_is : connect_link how last link ≡ x = same_Some _ _ (sym (slice_get-set_same l.links q (connect_link how last link) (slice_get_within l.links q _ found)) ∙ here) in
      subst (λ n. n < at + 200) clock (connect_calm how last link at (ap (λ y. y.refused) x_is ∙ refused));
}

pub write_reads : (answer : Put) (last : ℕ) (link : Link) → MayRead (write_link answer last link) → MayRead link
write_reads (put.Took n) last link m = m
write_reads put.Stuck last link m = record { awake = m.awake; sound = m.sound; reads = m.reads }
write_reads put.Ended last link m = absurd (false≢true m.awake)
write_reads put.Refused last link m = absurd (false≢true m.awake)
write_reads put.Failed last link m = absurd (false≢true (sym m.sound))

write_failed : (answer : Put) (last : ℕ) (link : Link) (conn : Conn)
    → (write_link answer last link).failed ≡ failed_put answer conn (place_of conn) link.failed
write_failed (put.Took n) last link conn = refl
write_failed put.Stuck last link conn = refl
write_failed put.Ended last link conn = refl
write_failed put.Refused last link conn = refl
write_failed put.Failed last link conn = ap (λ b. b || link.failed) (sym (eq-eqb (place_of conn) (place_of conn) refl))

failed_put_other : (answer : Put) (conn : Conn) (p : ℕ) (b : Bool) → p ≢ place_of conn → failed_put answer conn p b ≡ b
failed_put_other (put.Took n) conn p b ne = refl
failed_put_other put.Stuck conn p b ne = refl
failed_put_other put.Ended conn p b ne = refl
failed_put_other put.Refused conn p b ne = refl
failed_put_other put.Failed conn p b ne = ap (λ x. x || b) (ne_eqb p (place_of conn) ne)

pub write_fails : (answer : Put) (conn : Conn) (last q : ℕ) (links now : List Link) (link : Link) → place_of conn ≡ q
    → slice_get links q ≡ Some link
    → now ≡ set links q (write_link answer last link) → (p : ℕ)
    → failed_in (slice_get now p) ≡ failed_put answer conn p (failed_in (slice_get links p))
write_fails answer conn last q links now link place found is p =
    failed_set (λ i b. failed_put answer conn i b) links now (place_of conn) (write_link answer last link) link (subst (λ i. slice_get links i ≡ Some link) (sym place) found)
    (is ∙ ap (λ i. set links i (write_link answer last link)) (sym place)) (write_failed answer last link conn) (λ i b ne. failed_put_other answer conn i b ne) p

write_calm : (answer : Put) (last was : ℕ) (link : Link) → ((at : ℕ) → link.refused ≡ Some at → was < at + 200)
    → last ≡ was
    → (at : ℕ) → (write_link answer last link).refused ≡ Some at → last < at + 200
write_calm (put.Took n) last was link calm clock at e = let k = calm at e in omega arith
write_calm put.Stuck last was link calm clock at e = let k = calm at e in omega arith
write_calm put.Ended last was link calm clock at e = let k = calm at e in omega arith
write_calm put.Refused last was link calm clock at e = let k = clock_last link.stage last at e in omega arith
write_calm put.Failed last was link calm clock at e = let k = calm at e in omega arith

pub calm_written : (answer : Put) (last was later q : ℕ) (l new : Loop) (link : Link) → slice_get l.links q ≡ Some link
    → new.links ≡ set l.links q (write_link answer last link)
    → last ≡ later → later ≡ was → IsCalmAt q was l → IsCalmAt q later new
calm_written answer last was later q l new link found is clock same calm = record {
  at = λ x at_q at refused.
      let here : slice_get (set l.links q (write_link answer last link)) q ≡ Some x = subst (λ (ls : List Link). slice_get ls q ≡ Some x) is at_q in
      let x_is : write_link answer last link ≡ x = same_Some _ _ (sym (slice_get-set_same l.links q (write_link answer last link) (slice_get_within l.links q _ found)) ∙ here) in
      subst (λ n. n < at + 200) clock (write_calm answer last was link (calm.at link found) (clock ∙ same) at (ap (λ y. y.refused) x_is ∙ refused));
}

pub only_written : (l new : Loop) (q : ℕ) (link : Link) (held : Held) → new.links ≡ set l.links q link
    → new.queues ≡ set l.queues q held → new.left ≡ l.left → OnlyAt q l new
only_written l new q link held is queues left = record {
  links = λ p ne. ap (λ ls. slice_get ls p) is ∙ slice_get-set_other l.links q p link ne;
  held = λ p ne. ap (λ qs. held_in (slice_get qs p)) queues ∙ ap held_in (slice_get-set_other l.queues q p held ne);
  left = left;
}

pub connect_stage : (how : Connected) (last : ℕ) (link : Link) → (connect_link how last link).stage ≡ link.stage
connect_stage connected.Begun last link = refl
connect_stage connected.Refused last link = refl
connect_stage connected.Failed last link = refl

pub write_stage : (answer : Put) (last : ℕ) (link : Link) → (write_link answer last link).stage ≡ link.stage
write_stage (put.Took n) last link = refl
write_stage put.Stuck last link = refl
write_stage put.Ended last link = refl
write_stage put.Refused last link = refl
write_stage put.Failed last link = refl

-- ---- soundness

pub sound_at : (l : Loop) → IsSound l → (p : ℕ) → p < 64 → failed_at l p ≡ false
sound_at l sound p low = one (slice_get l.links p) refl
  where
    one : (o : Option Link) → slice_get l.links p ≡ o → failed_in (slice_get l.links p) ≡ false
    one None e = ap failed_in e
    one (Some link) e = ap failed_in e ∙ sound.each p link low e

-- where no more has failed than before
pub sound_by : (l new : Loop) → ((p : ℕ) → failed_at l p ≡ false → failed_at new p ≡ false) → IsSound l → IsSound new
sound_by l new same sound = record { each = λ p link low found. sym (ap failed_in found) ∙ same p (sound_at l sound p low) }

pub sound_as : (l new : Loop) → ((p : ℕ) → failed_at new p ≡ failed_at l p) → IsSound l → IsSound new
sound_as l new same sound = sound_by l new (λ p e. same p ∙ e) sound

pub sound_ok : {T : Type 0} (r : Result T LoopFault) (l new : Loop) → FailsOnly r l new → OnOk r (IsSound l → IsSound new)
sound_ok (Ok x) l new f = λ s. sound_as l new f.each s
sound_ok (Err e) l new f = tt

-- each write leaves less to be done
less_here : (answer : Put) (last : ℕ) (link : Link) (rest : List ℕ) → link.writable ≡ true → PutSome answer (length rest)
    → length (drop (put_count answer) rest) + flag ((write_link answer last link).writable) < length rest + flag link.writable
less_here (put.Took n) last link rest w some = omega (arith, length-drop n rest, some.0, some.1)
less_here put.Stuck last link rest w some = let k = ap flag w in omega arith
less_here put.Ended last link rest w some = let k = ap flag w in omega arith
less_here put.Refused last link rest w some = let k = ap flag w in omega arith
less_here put.Failed last link rest w some = let k = ap flag w in omega arith

pub load_less : (answer : Put) (last q : ℕ) (l new : Loop) (link : Link) → slice_get l.links q ≡ Some link
    → link.writable ≡ true → 0 < length (rest_at l.queues q)
    → PutSome answer (length (rest_at l.queues q)) → new.links ≡ set l.links q (write_link answer last link)
    → new.queues ≡ set l.queues q (held_write answer (held_in (slice_get l.queues q))) → load q new < load q l
load_less answer last q l new link found w some took is queues =
    let rest_is : rest_at new.queues q ≡ drop (put_count answer) (rest_at l.queues q) = ap (λ qs. (held_in (slice_get qs q)).rest) queues
    ∙ ap (λ h. h.rest) (held_set l.queues q (held_write answer (held_in (slice_get l.queues q))) some) in
    let flag_is : writable_in (slice_get new.links q) ≡ flag ((write_link answer last link).writable) = ap (λ ls. writable_in (slice_get ls q)) is
    ∙ ap writable_in (slice_get-set_same l.links q (write_link answer last link) (slice_get_within l.links q _ found)) in
    let was_is : writable_in (slice_get l.links q) ≡ flag link.writable = ap writable_in found in
    let length_is = ap length rest_is in
    let less = less_here answer last link (rest_at l.queues q) w took in
    omega arith

-- ---- places one after another

-- nothing is left at a place that has neither
pub offered_then : (place last : ℕ) (l : Loop) → IsCalmAt place last l
    → (IsSomeAnd (slice_get l.links place) MayWrite × (0 < length (rest_at l.queues place)) → ⊥)
    → IsOfferedAt place last l
offered_then place last l calm none = record {
  calm = calm;
  sent = λ link found may. empty (rest_at l.queues place) (λ lt. none (subst (λ o. IsSomeAnd o MayWrite) (sym found) may, lt));
}
  where
    empty : (xs : List ℕ) → (0 < length xs → ⊥) → xs ≡ []
    empty [] h = refl
    empty (x ∷ xs) h = absurd (h (omega arith))

-- one that is not to be begun again is calm
pub calm_none : (place last : ℕ) (forced : Bool) (l : Loop) (link : Link) → slice_get l.links place ≡ Some link
    → (IsToBegin forced last link → ⊥) → IsCalmAt place last l
calm_none place last forced l link found none = record {
  at = λ x at_x at refused.
      let x_is : link ≡ x = same_Some _ _ (sym found ∙ at_x) in
      elim (cases_lt last (at + 200)) [
        | inl lt ↦ lt
        | inr le ↦ absurd (none (record { at = at; refused = ap (λ y. y.refused) x_is ∙ refused; due = inr le }))
      ];
}

pub only_start : (place : ℕ) (l : Loop) → OnlyAt place l l
only_start place l = record { links = λ p ne. refl; held = λ p ne. refl; left = refl }

pub only_then : {place : ℕ} {a b c : Loop} → OnlyAt place a b → OnlyAt place b c → OnlyAt place a c
only_then m n = record {
  links = λ p ne. n.links p ne ∙ m.links p ne;
  held = λ p ne. n.held p ne ∙ m.held p ne;
  left = n.left ∙ m.left;
}

-- one place more
pub offered_more : (n last later : ℕ) (old new : Loop) → later ≡ last → OnlyAt n old new → IsOfferedAt n later new
    → AllOfferedBelow n last old → AllOfferedBelow (n + 1) later new
offered_more n last later old new clock only here below = record {
  each = λ p low. elim (cases_eq p n) [
    | inl e ↦ subst (λ i. IsOfferedAt i later new) (sym e) here
    | inr ne ↦
        let was = below.each p (omega arith) in
        record {
          calm = record { at = λ link found at refused. subst (λ k. k < at + 200) (sym clock) (was.calm.at link (sym (only.links p ne) ∙ found) at refused) };
          sent = λ link found may. ap (λ h. h.rest) (only.held p ne) ∙ was.sent link (sym (only.links p ne) ∙ found) may;
        }
  ];
}

pub not_failed : (answer : Put) (conn : Conn) (p : ℕ) (was : Bool) → (answer ≡ put.Failed → ⊥)
    → failed_put answer conn p was ≡ was
not_failed (put.Took n) conn p was ne = refl
not_failed put.Stuck conn p was ne = refl
not_failed put.Ended conn p was ne = refl
not_failed put.Refused conn p was ne = refl
not_failed put.Failed conn p was ne = absurd (ne refl)

-- a place that is calm joins the others
pub calm_joins : (q last later : ℕ) (l new : Loop) → later ≡ last → OnlyAt q l new → IsCalmAt q later new → IsCalm last l
    → IsCalm later new
calm_joins q last later l new clock only here calm = record {
  each = λ p link low found at refused. elim (cases_eq p q) [
    | inl e ↦ here.at link (subst (λ i. slice_get new.links i ≡ Some link) e found) at refused
    | inr ne ↦ subst (λ n. n < at + 200) (sym clock) (calm.each p link low (sym (only.links p ne) ∙ found) at refused)
  ];
}
