-- What a last look adds to the journal.
use Rattle.ready_loop.proofs.StandLemmas.{not_at}
use Rattle.world.proofs.StatusLemmas.{status_elsewhere, chan_below, same_job}
use Rattle.std.proofs.Common.{◌≡◌, inl, inr, ◌+◌, ◌/◌, ◌<◌, ℕ, Bool, true, false, List, [], ◌∷◌, Some, None, Ok, Err, slice_get, arith, refl, sym, ◌∙◌, ap, subst, ◌≢◌, ◌&&◌, ◌||◌, not}
use Rattle.std.proofs.lemmas.Bool.{cases_eq, false≢true}
use Rattle.world.specs.declared.conn.Conn.{Conn}
use Rattle.world.specs.declared.did.Did.{Did}
use Rattle.world.specs.declared.did.Did.TheVariants as did
use Rattle.world.specs.declared.entry.Entry.{Entry}
use Rattle.world.specs.Counts.{Counts, NetCause}
use Rattle.world.specs.Moments.{Since, start, more}
use Rattle.world.proofs.MomentsLemmas.{since_then, since_as}
use Rattle.world.specs.Places.{place_of, time, concerns, is_reported, status}
use Rattle.ready_loop.specs.declared.fault.LoopFault.{LoopFault}
use Rattle.ready_loop.specs.declared.fault.LoopFault.TheVariants.{NetFault, Spent}
use Rattle.ready_loop.specs.declared.link.Link.{Link}
use Rattle.ready_loop.specs.declared.readiness.Loop.{Loop}
use Rattle.ready_loop.specs.Link.{IsToBegin}
use Rattle.ready_loop.specs.History.{History, no_change, with_all_named}
use Rattle.ready_loop.specs.Offers.{OfferAt, LookMoment, FaultCame, IsOfConn, Names, Extends, Connects, connects, later, BeginsAt, BeginsBelow, is_looked, Offers, again, writes, is_to_name}
use Rattle.ready_loop.specs.Queues.{rest_at}
use Rattle.ready_loop.specs.Standing.{StandsFor, Goes, write_ended}
use Rattle.ready_loop.specs.States.{MayWait, IsDrained, IsOffered, IsOfferedAt, OnlyAt, NamesAll, failed_at, found_at, refused_in, IsCalm}
use Rattle.ready_loop.specs.Waits.{WaitCame, Looked, LooksThenWaits, LookCounts, left_after}
use Rattle.ready_loop.proofs.OfferLemmas.{untimed_write, concerns_not}
use Rattle.ready_loop.proofs.NameLemmas.{named_stands, names_are}
use Rattle.ready_loop.proofs.StateLemmas.{sound_as}
use Rattle.ready_loop.proofs.WaitLemmas.{all_served, none_due}
use Rattle.jtext.proofs.Lists.{some_at}

-- ---- connects

pub extends_of : {P : List Entry → Type 0} {x y : List Entry} → Since P x y → Extends x y
extends_of s = since_as (λ now p. tt) s

pub connects_later : {p : ℕ} {x y z : List Entry} → Connects p x y → Extends y z → Connects p x z
connects_later k start = k
connects_later k (more {past} {entry} s u) = later entry past (connects_later k s)

pub connects_before : {p : ℕ} {x y z : List Entry} → Extends x y → Connects p y z → Connects p x z
connects_before s (connects conn port how past t e) = connects conn port how past (since_then s t) e
connects_before s (later entry past k) = later entry past (connects_before s k)

pub begins_none : (forced : Bool) (place last : ℕ) (l : Loop) (link : Link) → slice_get l.links place ≡ Some link
    → (IsToBegin forced last link → false ≡ true) → (x : List Entry)
    → BeginsAt forced place l x x
begins_none forced place last l link found none x = record {
  so = λ h s f at is. absurd (false≢true (none (record { at = at; refused = sym (ap refused_in found) ∙ is; due = inl f })));
}

pub begins_one : {forced : Bool} {place : ℕ} {l : Loop} {x y : List Entry} → Connects place x y
    → BeginsAt forced place l x y
begins_one k = record { so = λ h s f at is. k }

pub begins_then : {P Q : History → List Entry → Type 0} {forced : Bool} {place : ℕ} {l mid new : Loop} {x y z : List Entry}
    → BeginsAt forced place l x y
    → Goes P no_change l mid x y → Goes Q no_change mid new y z → BeginsAt forced place l x z
begins_then b m n = record { so = λ h s f at is. connects_later (b.so h s f at is) (extends_of (n.so h (m.so h s).0).1) }

-- ---- the places of the jobs, one after another

pub below_none : (jobs : List Bool) (l : Loop) (x : List Entry) → BeginsBelow 0 jobs l x x
below_none jobs l x = record { so = λ h s p at low. absurd (omega arith) }

pub below_skip : {n : ℕ} {jobs : List Bool} {l : Loop} {x y : List Entry} → is_looked jobs (n / 4) ≡ false
    → BeginsBelow n jobs l x y → BeginsBelow (n + 1) jobs l x y
below_skip {n} {jobs} skip b = record {
  so = λ h s p at low looked is. elim (cases_eq p n) [
    | inl e ↦ absurd (false≢true (sym skip ∙ ap (λ i. is_looked jobs (i / 4)) (sym e) ∙ looked))
    | inr ne ↦ b.so h s p at (omega arith) looked is
  ];
}

pub below_more : {P Q : History → List Entry → Type 0} {n : ℕ} {jobs : List Bool} {l mid new : Loop} {x y z : List Entry}
    → slice_get mid.links n ≡ slice_get l.links n
    → BeginsBelow n jobs l x y → Goes P no_change l mid x y → BeginsAt true n mid y z → Goes Q no_change mid new y z
    → BeginsBelow (n + 1) jobs l x z
below_more {n = n} {jobs} {l} {mid} {x = x} {z = z} untouched b m k q = record {
  so = λ h s p at low looked is.
      let r = m.so h s in
      elim (cases_eq p n) [
        | inl e ↦
            let here : refused_in (slice_get mid.links n) ≡ Some at = ap refused_in untouched ∙ subst (λ i. refused_in (slice_get l.links i) ≡ Some at) e is in
            subst (λ i. Connects i x z) (sym e) (connects_before (extends_of r.1) (k.so h r.0 refl at here))
        | inr ne ↦ connects_later (b.so h s p at (omega arith) looked is) (extends_of (q.so h r.0).1)
      ];
}

pub job_at : (conn : Conn) (place : ℕ) → place_of conn ≡ place → place / 4 ≡ conn.job
job_at conn place e = let low = chan_below conn.chan in omega arith

-- what is offered at a place of one of these jobs
pub look_moment : (place : ℕ) (jobs : List Bool) → is_looked jobs (place / 4) ≡ true → (h : History) (now : List Entry)
    → OfferAt true place h now → LookMoment jobs h now
look_moment place jobs looked h [] o = absurd o
look_moment place jobs looked h (entry ∷ past) o = (o.0, ap (is_looked jobs) (sym (job_at o.0 place o.1)) ∙ looked, o.2)

-- a place at which nothing is left joins the others
pub offered_at : {q last : ℕ} {l new : Loop} → OnlyAt q l new → IsOfferedAt q last new → IsOffered l → IsOffered new
offered_at {q} {last} {l} {new} only here o = record {
  each = λ p link low found may. elim (cases_eq p q) [
    | inl e ↦ subst (λ i. rest_at new.queues i ≡ []) (sym e) (here.sent link (subst (λ i. slice_get new.links i ≡ Some link) e found) may)
    | inr ne ↦ ap (λ h. h.rest) (only.held p ne) ∙ o.each p link low (sym (only.links p ne) ∙ found) may
  ];
}

-- ---- the whole look

-- connects and writes tell no moment
offer_time : (forced : Bool) (h : History) (past : List Entry) (conn : Conn) (entry : Entry)
    → Offers forced h past conn entry → time (entry ∷ past) ≡ time past
offer_time forced h past conn entry (again port how r) = refl
offer_time forced h past conn entry (writes answer piece r unused) = untimed_write conn answer piece past

look_time : (jobs : List Bool) (h : History) {x y : List Entry} → Since (LookMoment jobs h) x y → time y ≡ time x
look_time jobs h start = refl
look_time jobs h (more {past} {entry} s m) = offer_time true h past m.0 entry m.2 ∙ look_time jobs h s

module _ (jobs : List Bool) (was later : ℕ) (l mid : Loop) (may : MayWait mid) (calm : IsCalm was l → IsCalm later mid) (same_clock : later ≡ was)
    (x y : List Entry) (clock : was ≡ time x) (goes : Goes (LookMoment jobs) no_change l mid x y) (begins : BeginsBelow 64 jobs l x y) where
  looks_wait : (answer : Did) (new : Loop) (z : List Entry) → WaitCame 0 answer mid new y z → (h : History)
      → StandsFor l h x → LooksThenWaits jobs (IsCalm was l) h answer x z
  looks_wait answer new z came h stand =
      let r = goes.so h stand in
      record {
        past = y;
        looks = r.1;
        begins = λ p at low looked is.
            let (link, found) = some_at l.links p (omega (arith, stand.size)) in
            begins.so h stand p at low looked (ap refused_in found ∙ (stand.each p link found).refused ∙ is);
        served = all_served mid h y may r.0;
        none_due = λ c. none_due mid h y later (same_clock ∙ clock ∙ sym (look_time jobs h r.1)) r.0 (calm c);
        reports = came.reports;
        is = came.is;
      }

  pub looked_failed : (new : Loop) (z : List Entry) → WaitCame 0 did.Failed mid new y z
      → Looked jobs (Err (NetFault None)) was l new x z
  looked_failed new z came = record { so = λ h stand. (came.stands h (goes.so h stand).0, looks_wait did.Failed new z came h stand) }

  pub looked_done : (then new : Loop) (names : List Bool) (z : List Entry) → WaitCame 0 did.Done mid then y z
      → NamesAll then.links new.links → new.queues ≡ then.queues → new.left ≡ then.left
      → ((p : ℕ) → p < 64 → slice_get names p ≡ Some (found_at then p)) → Looked jobs (Ok names) was l new x z
  looked_done then new names z came all queues left named = record {
    so = λ h stand. (
      named_stands then new names all queues left named h z (came.stands h (goes.so h stand).0),
      looks_wait did.Done then z came h stand,
    );
  }

pub looked_until : (jobs : List Bool) (was : ℕ) (l new : Loop) (fault : LoopFault) (x y : List Entry)
    → FaultCame {T = Unit {0}} (Err fault) y → Goes (LookMoment jobs) no_change l new x y
    → Looked jobs (Err fault) was l new x y
looked_until jobs was l new (NetFault (Some conn)) x y came goes = record { so = λ h stand. let r = goes.so h stand in (r.0, record { looks = r.1; failure = came }) }
looked_until jobs was l new (NetFault None) x y came goes = absurd came
looked_until jobs was l new Spent x y came goes = absurd came

pub looked_spent : (jobs : List Bool) (was : ℕ) (l : Loop) (x : List Entry) → Looked jobs (Err Spent) was l l x x
looked_spent jobs was l x = record { so = λ h stand. (stand, refl) }

-- ---- what is not in the journal

pub left_of : (fault : LoopFault) (n : ℕ) → IsOfConn fault → left_after (Err fault) n ≡ n
left_of (NetFault (Some conn)) n e = refl
left_of (NetFault None) n e = absurd e
left_of Spent n e = absurd e

pub counts_of : {F : Type 0} (fault : LoopFault) (a b : Counts) → IsOfConn fault → F → NetCause a b F
    → LookCounts (Err fault) a b
counts_of (NetFault (Some conn)) a b e f c = record { others = c.others; net = record { later = c.net.later; cause = λ u. c.net.cause f } }
counts_of (NetFault None) a b e f c = absurd e
counts_of Spent a b e f c = absurd e

-- the names of a look
pub looked_names : {P : History → List Entry → Type 0} (l mid then new : Loop) (names : List Bool) (x y z : List Entry)
    → Goes P no_change l mid x y → WaitCame 0 did.Done mid then y z
    → NamesAll then.links new.links → new.queues ≡ then.queues → new.left ≡ then.left
    → ((p : ℕ) → p < 64 → slice_get names p ≡ Some (found_at then p)) → Names {E = LoopFault} (Ok names) l x z
looked_names l mid then new names x y z goes came all queues left named = record {
  so = λ h s p low. names_are then new names all queues left named h z (came.stands h (goes.so h s).0) p low;
}

-- a loop that may still wait after the offers of a look
pub may_then : (l mid : Loop) → MayWait l → (IsDrained l → IsDrained mid) → (IsOffered l → IsOffered mid)
    → ((p : ℕ) → failed_at mid p ≡ failed_at l p) → MayWait mid
may_then l mid may drained offered failed = record { drained = drained may.drained; offered = offered may.offered; sound = sound_as l mid failed may.sound }

-- ---- other jobs

offer_elsewhere : (p : ℕ) (forced : Bool) (h : History) (past : List Entry) (conn : Conn) (entry : Entry) → p ≢ place_of conn
    → Offers forced h past conn entry → concerns p entry ≡ false
offer_elsewhere p forced h past conn entry ne (again port how r) = not_at p conn ne
offer_elsewhere p forced h past conn entry ne (writes answer piece r unused) = concerns_not conn answer piece p ne

pub others_looked : (jobs : List Bool) (h : History) {x y : List Entry} → Since (LookMoment jobs h) x y → (conn : Conn) → is_looked jobs conn.job ≡ false
    → status (place_of conn) y ≡ status (place_of conn) x
others_looked jobs h start conn none = refl
others_looked jobs h (more {past} {entry} s m) conn none =
    let ne : place_of conn ≢ place_of m.0 = λ e. false≢true (sym none ∙ ap (is_looked jobs) (same_job conn m.0 e) ∙ m.1) in
    status_elsewhere (place_of conn) entry past (offer_elsewhere (place_of conn) true h past m.0 entry ne m.2)
    ∙ others_looked jobs h s conn none

not_again : (a b r n : Bool) → r ≡ true → a && (b && not (r || n)) ≡ false
not_again a b r n e = subst (λ x. a && (b && not (x || n)) ≡ false) (sym e) (one a b)
  where
    one : (a b : Bool) → a && (b && false) ≡ false
    one true true = refl
    one true false = refl
    one false b = refl

-- an end that was named is not to be named again
pub named_once : (h : History) (names : List Bool) (journal : List Entry) (p : ℕ) → is_reported p names ≡ true → is_to_name (with_all_named names h) journal p ≡ false
named_once h names journal p e = not_again (h.begun p) (write_ended p journal) (is_reported p names) (h.named p) e
