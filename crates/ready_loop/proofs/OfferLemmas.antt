-- What a connect of a refused connection and a write do to a loop.
use Rattle.std.proofs.Common.{◌≡◌, ◌≢◌, inl, inr, ◌+◌, ◌<◌, ◌≤◌, ◌++◌, ℕ, Bool, true, false, List, [], ◌∷◌, length, set, Option, Some, None, slice_get, arith, refl, sym, ◌∙◌, ap, subst}
use Rattle.std.proofs.lemmas.Bool.{cond-true}
use Rattle.std.proofs.lemmas.Option.{slice_get_within}
use Rattle.world.specs.declared.conn.Conn.{Conn}
use Rattle.world.specs.declared.connected.Connected.{Connected}
use Rattle.world.specs.declared.entry.Entry.{Entry}
use Rattle.world.specs.declared.entry.Entry.TheVariants as made
use Rattle.world.specs.declared.put.Put.{Put}
use Rattle.world.specs.declared.put.Put.TheVariants as put
use Rattle.world.specs.declared.side.Side.TheVariants as side
use Rattle.world.specs.Moments.{start, more}
use Rattle.world.specs.Told.{write_entry, PutSome}
use Rattle.world.specs.Places.{status, time, place_of, is_at, IsUnused, concerns}
use Rattle.world.specs.Waits.{is_wait}
use Rattle.world.proofs.StatusLemmas.{at_own, connected_own, put_own, stuck_own, ended_own, refused_own, put_failed_own}
use Rattle.ready_loop.specs.declared.link.Link.{Link}
use Rattle.ready_loop.specs.declared.readiness.Loop.{Loop}
use Rattle.ready_loop.specs.Link.{MayWrite, IsToBegin, connect_link, write_link}
use Rattle.ready_loop.specs.History.{History, no_change}
use Rattle.ready_loop.specs.Refusals.{RefusesUnused}
use Rattle.ready_loop.specs.Offers.{IsOfferedTo, Offers, again, writes, OfferMoment, OfferAt}
use Rattle.ready_loop.specs.Queues.{Held, held_in, rest_at}
use Rattle.ready_loop.specs.Standing.{write_ended, Stand, StandsFor, Goes}
use Rattle.ready_loop.proofs.CallLemmas.{stands_write, status_write, held_write, ended_write, put_known, known_up, stage_of_begun}
use Rattle.ready_loop.proofs.ConnectLemmas.{stands_again}
use Rattle.ready_loop.proofs.StandLemmas.{stand_at, stands_as, same_but, not_at}
use Rattle.jtext.proofs.Lists.{slice_get-set_same, slice_get-set_other}

-- ---- a connect

pub ended_connect : (conn : Conn) (number : ℕ) (how : Connected) (past : List Entry)
    → write_ended (place_of conn) (made.Connected conn number how ∷ past) ≡ false
ended_connect conn number how past = cond-true (is_at (place_of conn) conn) _ _ (at_own conn)

pub again_goes : (forced : Bool) (conn : Conn) (p : ℕ) (how : Connected) (l : Loop) (links : List Link) (link : Link) (was last : ℕ) (past : List Entry)
    → place_of conn ≡ p → slice_get l.links p ≡ Some link → IsToBegin forced was link → last ≡ was
    → links ≡ set l.links p (connect_link how last link) → last ≡ time past
    → Goes (OfferAt forced p) no_change l (record l { links = links }) past (made.Connected conn link.port how ∷ past)
again_goes forced conn p how l links link was last past place found to then is clock =
    let entry : Entry = made.Connected conn link.port how in
    let here : slice_get l.links (place_of conn) ≡ Some link = subst (λ i. slice_get l.links i ≡ Some link) (sym place) found in
    record {
      so = λ h stand.
          let m = stand.each (place_of conn) link here in
          let refused : (status (place_of conn) past).refused ≡ Some to.at = sym m.refused ∙ to.refused in
          let own = stands_as refl refl refl refl (connected_own conn link.port how past) (ended_connect conn link.port how past)
          (stands_again link _ _ _ _ _ _ how last (time past) to.at clock to.refused m) in
          let r = stand_at entry (place_of conn) (connect_link how last link) (slice_get_within l.links (place_of conn) _ here) refl
          (λ q ne. not_at q conn ne) (λ q ne. refl) (same_but (place_of conn) h) own stand in (
            subst (λ ls. Stand ls l.queues l.left h (entry ∷ past)) (sym is)
                (subst (λ i. Stand (set l.links i (connect_link how last link)) l.queues l.left h (entry ∷ past)) place r),
            more start (
              conn,
              place,
              again link.port how (record {
                at = to.at;
                refused = refused;
                due = elim to.due [ inl f ↦ inl f | inr d ↦ inr (subst (λ n. to.at + 200 ≤ n) (sym then ∙ clock) d) ];
                same_port = m.port (stage_of_begun link.stage (m.stage ∙ m.refused_begun to.at refused));
              }),
            ),
          );
    }

-- ---- a write

status_own : (conn : Conn) (answer : Put) (piece : List ℕ) (past : List Entry)
    → status (place_of conn) (write_entry conn answer piece ∷ past) ≡ status_write answer piece (time past) (status (place_of conn) past)
status_own conn (put.Took n) piece past = put_own conn _ past
status_own conn put.Stuck piece past = stuck_own conn past
status_own conn put.Ended piece past = ended_own conn side.Write past
status_own conn put.Refused piece past = refused_own conn side.Write past
status_own conn put.Failed piece past = put_failed_own conn past

pub concerns_not : (conn : Conn) (answer : Put) (piece : List ℕ) (p : ℕ) → p ≢ place_of conn
    → concerns p (write_entry conn answer piece) ≡ false
concerns_not conn (put.Took n) piece p ne = not_at p conn ne
concerns_not conn put.Stuck piece p ne = not_at p conn ne
concerns_not conn put.Ended piece p ne = not_at p conn ne
concerns_not conn put.Refused piece p ne = not_at p conn ne
concerns_not conn put.Failed piece p ne = not_at p conn ne

no_wait : (conn : Conn) (answer : Put) (piece : List ℕ) → is_wait (write_entry conn answer piece) ≡ false
no_wait conn (put.Took n) piece = refl
no_wait conn put.Stuck piece = refl
no_wait conn put.Ended piece = refl
no_wait conn put.Refused piece = refl
no_wait conn put.Failed piece = refl

ended_own_write : (conn : Conn) (answer : Put) (piece : List ℕ) (past : List Entry)
    → write_ended (place_of conn) (write_entry conn answer piece ∷ past) ≡ ended_write answer (write_ended (place_of conn) past)
ended_own_write conn (put.Took n) piece past = refl
ended_own_write conn put.Stuck piece past = refl
ended_own_write conn put.Ended piece past = cond-true (is_at (place_of conn) conn) _ _ (at_own conn)
ended_own_write conn put.Refused piece past = refl
ended_own_write conn put.Failed piece past = refl

pub untimed_write : (conn : Conn) (answer : Put) (piece : List ℕ) (past : List Entry)
    → time (write_entry conn answer piece ∷ past) ≡ time past
untimed_write conn (put.Took n) piece past = refl
untimed_write conn put.Stuck piece past = refl
untimed_write conn put.Ended piece past = refl
untimed_write conn put.Refused piece past = refl
untimed_write conn put.Failed piece past = refl

-- a place where bytes are held is there
pub held_within : (queues : List Held) (q : ℕ) → 0 < length (rest_at queues q) → q < length queues
held_within queues q some = at (slice_get queues q) refl some
  where
    at : (o : Option Held) → slice_get queues q ≡ o → 0 < length ((held_in o).rest) → q < length queues
    at None e lt = absurd (omega arith)
    at (Some held) e lt = slice_get_within queues q _ e

pub held_set : (queues : List Held) (q : ℕ) (new : Held) → 0 < length (rest_at queues q)
    → held_in (slice_get (set queues q new) q) ≡ new
held_set queues q new some = ap held_in (slice_get-set_same queues q new (held_within queues q some))

pub held_other : (queues : List Held) (q p : ℕ) (new : Held) → p ≢ q
    → held_in (slice_get (set queues q new) p) ≡ held_in (slice_get queues p)
held_other queues q p new ne = ap held_in (slice_get-set_other queues q p new ne)

module _ (conn : Conn) (answer : Put) (l : Loop) (link : Link) (last : ℕ) (past : List Entry)
    (found : slice_get l.links (place_of conn) ≡ Some link) (may : MayWrite link) (some : 0 < length (rest_at l.queues (place_of conn)))
    (took : PutSome answer (length (rest_at l.queues (place_of conn)))) (clock : last ≡ time past)
    (unused : answer ≡ put.Refused → IsUnused (place_of conn) past) where
  held_then : Held
  held_then = held_write answer (held_in (slice_get l.queues (place_of conn)))

  write_stands : (h : History) → StandsFor l h past
      → Stand (set l.links (place_of conn) (write_link answer last link)) (set l.queues (place_of conn) (held_write answer (held_in (slice_get l.queues (place_of conn)))))
      l.left h (write_entry conn answer (rest_at l.queues (place_of conn)) ∷ past)
  write_stands h stand =
      let q = place_of conn in
      let piece = rest_at l.queues q in
      let m = stand.each q link found in
      let own = stands_as (held_set l.queues q (held_write answer (held_in (slice_get l.queues q))) some) refl refl refl (status_own conn answer piece past) (ended_own_write conn answer piece past)
      (stands_write link _ _ _ _ _ _ answer last (time past) clock may.writable took (λ e. (unused e).0) m) in
      stand_at (write_entry conn answer piece) q (write_link answer last link) (slice_get_within l.links q _ found) (no_wait conn answer piece)
      (λ p ne. concerns_not conn answer piece p ne) (λ p ne. held_other l.queues q p (held_write answer (held_in (slice_get l.queues q))) ne) (same_but q h) own stand

  write_rule : (h : History) → StandsFor l h past
      → IsOfferedTo (h.queued (place_of conn)) conn (rest_at l.queues (place_of conn)) past
  write_rule h stand =
      let q = place_of conn in
      let m = stand.each q link found in
      let known = known_up m (m.open_up (sym m.writable ∙ may.writable)) in
      record {
        writable = sym m.writable ∙ may.writable;
        sound = sym m.failed ∙ may.sound;
        some = some;
        rest = sym (m.sends.whole ∙ ap (λ xs. xs ++ rest_at l.queues q) (put_known known));
      }

-- it is turned away only before a byte has passed
write_unused : (conn : Conn) (answer : Put) (piece : List ℕ) (past : List Entry) → (answer ≡ put.Refused → IsUnused (place_of conn) past)
    → RefusesUnused (write_entry conn answer piece ∷ past)
write_unused conn (put.Took n) piece past unused = tt
write_unused conn put.Stuck piece past unused = tt
write_unused conn put.Ended piece past unused = tt
write_unused conn put.Refused piece past unused = unused refl
write_unused conn put.Failed piece past unused = tt

pub write_goes : (conn : Conn) (p : ℕ) (answer : Put) (piece : List ℕ) (l : Loop) (links : List Link) (queues : List Held) (link : Link) (last : ℕ) (past : List Entry)
    → place_of conn ≡ p → slice_get l.links p ≡ Some link → MayWrite link → 0 < length (rest_at l.queues p)
    → piece ≡ rest_at l.queues p
    → PutSome answer (length piece) → links ≡ set l.links p (write_link answer last link)
    → queues ≡ set l.queues p (held_write answer (held_in (slice_get l.queues p))) → last ≡ time past
    → (answer ≡ put.Refused → IsUnused (place_of conn) past)
    → Goes (OfferAt false p) no_change l (record l { links = links; queues = queues }) past (write_entry conn answer piece ∷ past)
write_goes conn p answer piece l links queues link last past place found may some piece_is took is queues_are clock unused =
    let found' : slice_get l.links (place_of conn) ≡ Some link = subst (λ i. slice_get l.links i ≡ Some link) (sym place) found in
    let some' : 0 < length (rest_at l.queues (place_of conn)) = subst (λ i. 0 < length (rest_at l.queues i)) (sym place) some in
    let piece' : piece ≡ rest_at l.queues (place_of conn) = subst (λ i. piece ≡ rest_at l.queues i) (sym place) piece_is in
    let took' : PutSome answer (length (rest_at l.queues (place_of conn))) = subst (λ xs. PutSome answer (length xs)) piece' took in
    record {
      so = λ h stand.
          let r = write_stands conn answer l link last past found' may some' took' clock unused h stand in
          let w = write_rule conn answer l link last past found' may some' took' clock unused h stand in (
            subst (λ xs. Stand links queues l.left h (write_entry conn answer xs ∷ past)) (sym piece')
                (subst (λ ls. Stand ls queues l.left h (write_entry conn answer (rest_at l.queues (place_of conn)) ∷ past)) (sym is)
                (subst (λ qs. Stand (set l.links p (write_link answer last link)) qs l.left h (write_entry conn answer (rest_at l.queues (place_of conn)) ∷ past)) (sym queues_are)
                (subst (λ i. Stand (set l.links i (write_link answer last link)) (set l.queues i (held_write answer (held_in (slice_get l.queues i)))) l.left h (write_entry conn answer (rest_at l.queues (place_of conn)) ∷ past)) place r))),
            more start (conn, place, writes answer piece (subst (λ xs. IsOfferedTo (h.queued (place_of conn)) conn xs past) (sym piece') w) (write_unused conn answer piece past unused)),
          );
    }

-- ---- the rules of offers

-- what is offered at a place
pub offer_moment : (forced : Bool) (place : ℕ) (h : History) (now : List Entry) → OfferAt forced place h now
    → OfferMoment forced h now
offer_moment forced place h [] o = absurd o
offer_moment forced place h (entry ∷ past) o = (o.0, o.2)

-- offers are by the weaker rule too
forced_offer : (forced : Bool) (h : History) (past : List Entry) (conn : Conn) (entry : Entry)
    → Offers false h past conn entry → Offers forced h past conn entry
forced_offer forced h past conn entry (again port how r) = again port how (record {
  at = r.at;
  refused = r.refused;
  due = elim r.due [ inl f ↦ absurd (not_so f) | inr d ↦ inr d ];
  same_port = r.same_port;
})
  where
    not_so : false ≡ true → ⊥
    not_so e = cc
forced_offer forced h past conn entry (writes answer piece r unused) = writes answer piece r unused

pub forced_at : (forced : Bool) (place : ℕ) (h : History) (now : List Entry) → OfferAt false place h now
    → OfferAt forced place h now
forced_at forced place h [] o = absurd o
forced_at forced place h (entry ∷ past) o = (o.0, o.1, forced_offer forced h past o.0 entry o.2)
