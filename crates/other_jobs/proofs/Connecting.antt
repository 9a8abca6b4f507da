-- First connects, and what the loop offers.
use Rattle.std.proofs.Common.{◌≡◌, ◌⊎◌, inl, inr, ℕ, ◌+◌, ◌≤◌, ◌<◌, List, [], ◌∷◌, ◌==◌, Bool, true, false, not, cond, Some, Result, refl, sym, ◌∙◌, ap, subst, arith}
use Rattle.std.specs.Prelude.{take}
use Rattle.std.proofs.lemmas.Bool.{eqb-true}
use Rattle.std.proofs.lemmas.Option.{same_Some}
use Rattle.world.specs.declared.chan.Chan.{Chan}
use Rattle.world.specs.declared.conn.Conn.{Conn}
use Rattle.world.specs.declared.connected.Connected.{Connected}
use Rattle.world.specs.declared.connected.Connected.TheVariants as connected
use Rattle.world.specs.declared.entry.Entry.{Entry}
use Rattle.world.specs.declared.entry.Entry.TheVariants as made
use Rattle.world.specs.declared.put.Put.{Put}
use Rattle.world.specs.declared.put.Put.TheVariants as put
use Rattle.world.specs.declared.side.Side.TheVariants as side
use Rattle.world.specs.Moments.{Since, start, more}
use Rattle.world.specs.Places.{Status, connected_after, ended_after, is_at, refused_after, status, time}
use Rattle.world.specs.Told.{write_entry}
use Rattle.world.proofs.MomentsLemmas.{since_as, since_then}
use Rattle.ready_loop.specs.declared.fault.LoopFault.{LoopFault}
use Rattle.ready_loop.specs.Begins.{Begins, done, more as later, failed, port_of}
use Rattle.ready_loop.specs.History.{History, conn_on}
use Rattle.ready_loop.specs.Offers.{IsBegunAgain, JobMoment, LookMoment, OfferMoment, Offers, again, writes}
use Rattle.run_journal.specs.Job.{Job}
use Rattle.run_journal.specs.Order.{is_nothing}
use Rattle.run_journal.specs.Parts.{bytes_got, connection, place}
use Rattle.job_journal.specs.Quiet.{IsQuiet, IsQuietNow, is_unread}
use Rattle.job_journal.proofs.Quiet.{quiet_connect, quiet_kind}
use Rattle.job_journal.proofs.Unread.{unread_bytes}
use Rattle.other_jobs.specs.Refused.{RefusedUnread}
use Rattle.other_jobs.proofs.Places.{chosen, named, place_low}
use Rattle.other_jobs.proofs.Refusals.{job_offer, offer_rightly, unread_next}

-- a connection with no bytes may be begun
begins_where : (b : Bool) (bytes : List ℕ) → (b ≡ true → bytes ≡ []) → cond b (is_nothing bytes) true ≡ true
begins_where true bytes none = ap is_nothing (none refl)
begins_where false bytes none = refl

-- what is offered is written
pub write_quiet : (j : Job) (conn : Conn) (answer : Put) (piece : List ℕ) (past : List Entry) → IsQuiet j (write_entry conn answer piece) past
write_quiet j conn (put.Took n) piece past = quiet_kind j (made.Put conn (take n piece)) past refl
write_quiet j conn put.Stuck piece past = quiet_kind j (made.Stuck conn) past refl
write_quiet j conn put.Ended piece past = quiet_kind j (made.Ended conn side.Write) past refl
write_quiet j conn put.Refused piece past = quiet_kind j (made.Refused conn side.Write) past refl
write_quiet j conn put.Failed piece past = quiet_kind j (made.PutFailed conn) past refl

-- Nothing was got on a connection where it is refused, or it was refused by this moment.
record LatelyAt (t : ℕ) (s : Status) : Type 0 where
  each : (at : ℕ) → s.refused ≡ Some at → (s.got ≡ []) ⊎ (at ≡ t)

connected_lately : (t : ℕ) (how : Connected) (number clock : ℕ) (s : Status) → LatelyAt t (connected_after how number clock s)
connected_lately t connected.Begun number clock s = record { each = λ at e. inl refl }
connected_lately t connected.Refused number clock s = record { each = λ at e. inl refl }
connected_lately t connected.Failed number clock s = record { each = λ at e. inl refl }

-- it is begun again only later
too_soon : (at now t : ℕ) → (false ≡ true) ⊎ (at + 200 ≤ now) → now ≡ t → at ≡ t → ⊥
too_soon at now t (inl e) same late = absurd (cc)
too_soon at now t (inr due) same late = absurd (omega (arith, due, same, late))

module _ (j : Job) where
  -- a connect where nothing was got on the connection before
  connect_quiet : (conn : Conn) (port : ℕ) (how : Connected) (past : List Entry) → ((c : Chan) → is_at (place j c) conn ≡ true → bytes_got j c past ≡ [])
      → IsQuiet j (made.Connected conn port how) past
  connect_quiet conn port how past none =
      quiet_connect j conn port how past (λ c. begins_where (is_at (place j c) conn) (bytes_got j c past) (none c))

  -- ---- first connects

  first_quiet : (conn : Conn) (port : ℕ) (how : Connected) (past : List Entry) → (conn.job ≡ j.number → is_unread j past ≡ true)
      → IsQuiet j (made.Connected conn port how) past
  first_quiet conn port how past unread = by (conn.job == j.number) refl
    where
      by : (b : Bool) → (conn.job == j.number) ≡ b → IsQuiet j (made.Connected conn port how) past
      by true e = connect_quiet conn port how past (λ c at. unread_bytes j past (unread (eqb-true conn.job j.number e)) c)
      by false e = quiet_kind j (made.Connected conn port how) past (ap not e)

  pub begins_quiet : {U : Type 0} (job : ℕ) (ports : List ℕ) {chans : List Chan} {result : Result U LoopFault} {before after : List Entry}
      → Begins job ports chans result before after → (job ≡ j.number → is_unread j before ≡ true) → Since (IsQuietNow j) before after
  begins_quiet job ports (done u past) unread = start
  begins_quiet job ports (later chan rest how result before after ok b) unread =
      since_then (more start (first_quiet (conn_on job chan) (port_of ports chan) how before unread)) (begins_quiet job ports b unread)
  begins_quiet job ports (failed chan rest before) unread = more start (first_quiet (conn_on job chan) (port_of ports chan) connected.Failed before unread)

  -- ---- offers at their time

  record Lately (t : ℕ) (past : List Entry) : Type 0 where
    now : time past ≡ t
    each : (c : Chan) → LatelyAt t (connection j c past)

  -- a connection of the job that is begun again was refused
  was_refused : {forced : Bool} (conn : Conn) (port : ℕ) (past : List Entry) (r : IsBegunAgain forced conn port past) (c : Chan) → is_at (place j c) conn ≡ true
      → (connection j c past).refused ≡ Some r.at
  was_refused conn port past r c at = subst (λ p. (status p past).refused ≡ Some r.at) (sym (named (place j c) conn at)) r.refused

  again_unread : (t : ℕ) (conn : Conn) (port : ℕ) (past : List Entry) → IsBegunAgain false conn port past → Lately t past → (c : Chan)
      → is_at (place j c) conn ≡ true → bytes_got j c past ≡ []
  again_unread t conn port past r lately c at =
      elim ((lately.each c).each r.at (was_refused conn port past r c at)) [
        | inl none ↦ none
        | inr late ↦ absurd (too_soon r.at (time past) t r.due lately.now late)
      ]

  again_lately : (t : ℕ) (conn : Conn) (port : ℕ) (how : Connected) (past : List Entry) → Lately t past → Lately t (made.Connected conn port how ∷ past)
  again_lately t conn port how past was = record {
    now = was.now;
    each = λ c.
        chosen (LatelyAt t) (is_at (place j c) conn) (connection j c past) (connected_after how port (time past) (connection j c past))
        (λ at. connected_lately t how port (time past) (connection j c past)) (was.each c);
  }

  write_lately : (t : ℕ) (conn : Conn) (answer : Put) (piece : List ℕ) (past : List Entry) → Lately t past → Lately t (write_entry conn answer piece ∷ past)
  write_lately t conn (put.Took n) piece past was = record {
    now = was.now;
    each = λ c. chosen (LatelyAt t) (is_at (place j c) conn) (connection j c past) _ (λ at. record { each = (was.each c).each }) (was.each c);
  }
  write_lately t conn put.Stuck piece past was = record {
    now = was.now;
    each = λ c. chosen (LatelyAt t) (is_at (place j c) conn) (connection j c past) _ (λ at. record { each = (was.each c).each }) (was.each c);
  }
  write_lately t conn put.Ended piece past was = record {
    now = was.now;
    each = λ c. chosen (LatelyAt t) (is_at (place j c) conn) (connection j c past) (ended_after (connection j c past)) (λ at. record { each = (was.each c).each }) (was.each c);
  }
  write_lately t conn put.Refused piece past was = record {
    now = was.now;
    each = λ c.
        chosen (LatelyAt t) (is_at (place j c) conn) (connection j c past) (refused_after (time past) (connection j c past))
        (λ at. record { each = λ ms e. inr (sym (same_Some (time past) ms e) ∙ was.now) }) (was.each c);
  }
  write_lately t conn put.Failed piece past was = record {
    now = was.now;
    each = λ c. chosen (LatelyAt t) (is_at (place j c) conn) (connection j c past) _ (λ at. record { each = (was.each c).each }) (was.each c);
  }

  offer_lately : (t : ℕ) (h : History) (past : List Entry) (conn : Conn) (entry : Entry) → Offers false h past conn entry → Lately t past
      → IsQuiet j entry past × Lately t (entry ∷ past)
  offer_lately t h past conn entry (again port how r) was =
      (connect_quiet conn port how past (again_unread t conn port past r was), again_lately t conn port how past was)
  offer_lately t h past conn entry (writes answer piece r unused) was = (write_quiet j conn answer piece past, write_lately t conn answer piece past was)

  offers_lately : (h : History) {before after : List Entry} → Since (OfferMoment false h) before after → Lately (time before) before
      → Since (IsQuietNow j) before after × Lately (time before) after
  offers_lately h start was = (start, was)
  offers_lately h {before} (more {past} {entry} since o) was =
      let then = offers_lately h since was in
      let now = offer_lately (time before) h past o.0 entry o.1 then.1 in
      (more then.0 now.0, now.1)

  pub offers_quiet : (h : History) (before after : List Entry) → j.number < 16 → RefusedUnread before → Since (OfferMoment false h) before after
      → Since (IsQuietNow j) before after
  offers_quiet h before after low unread since =
      (offers_lately h since (record { now = refl; each = λ c. record { each = λ at e. inl (unread.each (place j c) at (place_low j c low) e) } })).0

  pub job_offers_quiet : (job : ℕ) (h : History) (before after : List Entry) → j.number < 16 → RefusedUnread before → Since (JobMoment job h) before after
      → Since (IsQuietNow j) before after
  job_offers_quiet job h before after low unread since = offers_quiet h before after low unread (since_as (job_offer job h) since)

  -- ---- offers in a last look

  look_quiet : (h : History) (past : List Entry) (conn : Conn) (entry : Entry) → j.number < 16 → Offers true h past conn entry → RefusedUnread past
      → IsQuiet j entry past
  look_quiet h past conn entry low (again port how r) was =
      connect_quiet conn port how past (λ c at. was.each (place j c) r.at (place_low j c low) (was_refused conn port past r c at))
  look_quiet h past conn entry low (writes answer piece r unused) was = write_quiet j conn answer piece past

  looks_on : (jobs : List Bool) (h : History) {before after : List Entry} → j.number < 16 → Since (LookMoment jobs h) before after → RefusedUnread before
      → Since (IsQuietNow j) before after × RefusedUnread after
  looks_on jobs h low start was = (start, was)
  looks_on jobs h low (more {past} {entry} since o) was =
      let then = looks_on jobs h low since was in
      (more then.0 (look_quiet h past o.0 entry low o.2 then.1), unread_next entry past (offer_rightly true h past o.0 entry o.2) then.1)

  pub looks_quiet : (jobs : List Bool) (h : History) (before after : List Entry) → j.number < 16 → RefusedUnread before → Since (LookMoment jobs h) before after
      → Since (IsQuietNow j) before after
  looks_quiet jobs h before after low unread since = (looks_on jobs h low since unread).0
