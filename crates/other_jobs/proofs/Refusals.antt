-- Nothing is got on a connection that is refused.
use Rattle.std.proofs.Common.{◌≡◌, ◌<◌, ℕ, List, [], ◌∷◌, Bool, true, false, Some, None, Result, refl, sym, ◌∙◌, subst, arith}
use Rattle.std.proofs.lemmas.Bool.{eqb-true, false≢true}
use Rattle.std.proofs.lemmas.Option.{none-some}
use Rattle.jtext.proofs.Lists.{some_at}
use Rattle.words.specs.declared.ask.Ask.{Ask}
use Rattle.world.specs.declared.chan.Chan.{Chan}
use Rattle.world.specs.declared.conn.Conn.{Conn}
use Rattle.world.specs.declared.connected.Connected.{Connected}
use Rattle.world.specs.declared.connected.Connected.TheVariants as connected
use Rattle.world.specs.declared.did.Did.TheVariants as did
use Rattle.world.specs.declared.entry.Entry.{Entry}
use Rattle.world.specs.declared.entry.Entry.TheVariants as made
use Rattle.world.specs.declared.put.Put.{Put}
use Rattle.world.specs.declared.put.Put.TheVariants as put
use Rattle.world.specs.Moments.{Since, start, more}
use Rattle.world.specs.Places.{Status, IsUnused, closed_after, connected_after, ended_after, got_after, is_at, place_of, refused_after, status, time}
use Rattle.world.specs.Told.{write_entry}
use Rattle.world.proofs.MomentsLemmas.{since_as, since_then}
use Rattle.job_saves.specs.Calls.{Cast, IsCall, IsCallOf}
use Rattle.ready_loop.specs.declared.fault.LoopFault.{LoopFault}
use Rattle.ready_loop.specs.declared.readiness.Loop.{Loop}
use Rattle.ready_loop.specs.Begins.{Begins, CloseMoment, done, more as later, failed}
use Rattle.ready_loop.specs.History.{History}
use Rattle.ready_loop.specs.Offers.{JobMoment, LookMoment, OfferMoment, Offers, again, writes}
use Rattle.ready_loop.specs.Reads.{IsReadOf, ReadMoment}
use Rattle.ready_loop.specs.Refusals.{RefusesUnused}
use Rattle.ready_loop.specs.Standing.{AllShut, StandsFor}
use Rattle.other_jobs.specs.Refused.{RefusedUnread}
use Rattle.other_jobs.proofs.Places.{chosen, named}

-- ---- one entry

-- bytes are got only on a connection that isn't refused, and one is turned away only before a byte has passed on it
abbrev pub RefusesRightly : List Entry → Type 0
RefusesRightly [] = ⊥
RefusesRightly (made.Got conn room bytes ∷ past) = place_of conn < 64 → (status (place_of conn) past).refused ≡ None
RefusesRightly (made.Refused conn by ∷ past) = IsUnused (place_of conn) past
RefusesRightly (_ ∷ past) = Unit {0}

-- nothing was got on it where it is refused
record UnreadAt (s : Status) : Type 0 where
  each : (at : ℕ) → s.refused ≡ Some at → s.got ≡ []

connected_unread : (how : Connected) (number clock : ℕ) (s : Status) → UnreadAt (connected_after how number clock s)
connected_unread connected.Begun number clock s = record { each = λ at e. refl }
connected_unread connected.Refused number clock s = record { each = λ at e. refl }
connected_unread connected.Failed number clock s = record { each = λ at e. refl }

module _ (p : ℕ) (low : p < 64) where
  one_entry : (entry : Entry) (past : List Entry) → RefusesRightly (entry ∷ past) → UnreadAt (status p past) → UnreadAt (status p (entry ∷ past))
  one_entry (made.Connected conn port how) past r was =
      chosen UnreadAt (is_at p conn) (status p past) (connected_after how port (time past) (status p past))
      (λ at. connected_unread how port (time past) (status p past)) was
  one_entry (made.Closed conn) past r was =
      chosen UnreadAt (is_at p conn) (status p past) (closed_after (status p past)) (λ at. record { each = λ ms e. absurd (none-some _ e) }) was
  one_entry (made.Got conn room bytes) past r was =
      chosen UnreadAt (is_at p conn) (status p past) (got_after bytes (status p past))
      (λ at. record { each = λ ms e. absurd (none-some _ (sym (calm at) ∙ e)) }) was
    where
      calm : is_at p conn ≡ true → (status p past).refused ≡ None
      calm at =
          let here : p ≡ place_of conn = named p conn at in
          subst (λ q. (status q past).refused ≡ None) (sym here) (r (subst (λ q. q < 64) here low))
  one_entry (made.Dry conn) past r was = chosen UnreadAt (is_at p conn) (status p past) _ (λ at. record { each = was.each }) was
  one_entry (made.Ended conn by) past r was =
      chosen UnreadAt (is_at p conn) (status p past) (ended_after (status p past)) (λ at. record { each = was.each }) was
  one_entry (made.Refused conn by) past r was =
      chosen UnreadAt (is_at p conn) (status p past) (refused_after (time past) (status p past))
      (λ at. record { each = λ ms e. subst (λ q. (status q past).got ≡ []) (sym (named p conn at)) r.1 }) was
  one_entry (made.ReadFailed conn) past r was = chosen UnreadAt (is_at p conn) (status p past) _ (λ at. record { each = was.each }) was
  one_entry (made.Put conn bytes) past r was = chosen UnreadAt (is_at p conn) (status p past) _ (λ at. record { each = was.each }) was
  one_entry (made.Stuck conn) past r was = chosen UnreadAt (is_at p conn) (status p past) _ (λ at. record { each = was.each }) was
  one_entry (made.PutFailed conn) past r was = chosen UnreadAt (is_at p conn) (status p past) _ (λ at. record { each = was.each }) was
  one_entry (made.Waited ms places did.Done) past r was = record { each = was.each }
  one_entry (made.Waited ms places did.Failed) past r was = record { each = was.each }
  one_entry _ past r was = was

pub unread_next : (entry : Entry) (past : List Entry) → RefusesRightly (entry ∷ past) → RefusedUnread past → RefusedUnread (entry ∷ past)
unread_next entry past r was = record { each = λ p at low e. (one_entry p low entry past r (record { each = λ ms f. was.each p ms low f })).each at e }

pub unread_stays : {before now : List Entry} → Since RefusesRightly before now → RefusedUnread before → RefusedUnread now
unread_stays start was = was
unread_stays (more {past} {entry} since r) was = unread_next entry past r (unread_stays since was)

pub shut_unread : (past : List Entry) → AllShut past → RefusedUnread past
shut_unread past shut = record { each = λ p at low e. absurd (none-some _ (sym ((shut p low).refused) ∙ e)) }

-- ---- calls of jobs, first connects and closes

call_rightly : (here : List ℕ) (starts clean : Bool) (number : ℕ) (a : Ask) (entry : Entry) (past : List Entry) → IsCallOf here starts clean number a past entry
    → RefusesRightly (entry ∷ past)
call_rightly here starts clean number a (made.Got conn room bytes) past is = absurd is
call_rightly here starts clean number a (made.Refused conn by) past is = absurd is
call_rightly here starts clean number a _ past is = tt

calls_rightly : (c : Cast) (now : List Entry) → IsCall c now → RefusesRightly now
calls_rightly c [] is = absurd is
calls_rightly c (entry ∷ past) is = call_rightly c.here c.starts c.clean is.number is.ask entry past is.is

pub calls_unread : (c : Cast) (before now : List Entry) → Since (IsCall c) before now → RefusedUnread before → RefusedUnread now
calls_unread c before now since was = unread_stays (since_as (calls_rightly c) since) was

begins_rightly : {U : Type 0} {job : ℕ} {ports : List ℕ} {chans : List Chan} {result : Result U LoopFault} {before now : List Entry}
    → Begins job ports chans result before now → Since RefusesRightly before now
begins_rightly (done u past) = start
begins_rightly (later chan rest how result before after ok b) = since_then (more start tt) (begins_rightly b)
begins_rightly (failed chan rest before) = more start tt

pub begins_unread : {U : Type 0} (job : ℕ) (ports : List ℕ) (chans : List Chan) (result : Result U LoopFault) (before now : List Entry)
    → Begins job ports chans result before now → RefusedUnread before → RefusedUnread now
begins_unread job ports chans result before now b was = unread_stays (begins_rightly b) was

closes_rightly : (h : History) (now : List Entry) → CloseMoment h now → RefusesRightly now
closes_rightly h [] is = absurd is
closes_rightly h (made.Closed conn ∷ past) is = tt
closes_rightly h (_ ∷ past) is = absurd is

pub closes_unread : (h : History) (before now : List Entry) → Since (CloseMoment h) before now → RefusedUnread before → RefusedUnread now
closes_unread h before now since was = unread_stays (since_as (closes_rightly h) since) was

-- ---- offers

write_rightly : (conn : Conn) (answer : Put) (piece : List ℕ) (past : List Entry) → RefusesUnused (write_entry conn answer piece ∷ past)
    → RefusesRightly (write_entry conn answer piece ∷ past)
write_rightly conn (put.Took n) piece past unused = tt
write_rightly conn put.Stuck piece past unused = tt
write_rightly conn put.Ended piece past unused = tt
write_rightly conn put.Refused piece past unused = unused
write_rightly conn put.Failed piece past unused = tt

pub offer_rightly : (forced : Bool) (h : History) (past : List Entry) (conn : Conn) (entry : Entry) → Offers forced h past conn entry → RefusesRightly (entry ∷ past)
offer_rightly forced h past conn entry (again port how r) = tt
offer_rightly forced h past conn entry (writes answer piece r unused) = write_rightly conn answer piece past unused

offers_rightly : (forced : Bool) (h : History) (now : List Entry) → OfferMoment forced h now → RefusesRightly now
offers_rightly forced h [] o = absurd o
offers_rightly forced h (entry ∷ past) o = offer_rightly forced h past o.0 entry o.1

-- what is offered to one job, or in a last look, is offered
pub job_offer : (job : ℕ) (h : History) (now : List Entry) → JobMoment job h now → OfferMoment false h now
job_offer job h [] o = absurd o
job_offer job h (entry ∷ past) o = (o.0, o.2)

pub look_offer : (jobs : List Bool) (h : History) (now : List Entry) → LookMoment jobs h now → OfferMoment true h now
look_offer jobs h [] o = absurd o
look_offer jobs h (entry ∷ past) o = (o.0, o.2)

pub offers_unread : (forced : Bool) (h : History) (before now : List Entry) → Since (OfferMoment forced h) before now
    → RefusedUnread before → RefusedUnread now
offers_unread forced h before now since was = unread_stays (since_as (offers_rightly forced h) since) was

pub job_offers_unread : (job : ℕ) (h : History) (before now : List Entry) → Since (JobMoment job h) before now
    → RefusedUnread before → RefusedUnread now
job_offers_unread job h before now since was = offers_unread false h before now (since_as (job_offer job h) since) was

-- ---- reads

-- a connection that is awake isn't refused
record AwakeAt (s : Status) : Type 0 where
  calm : s.awake ≡ true → s.refused ≡ None

-- each is so
abbrev AllAwake : List Entry → Type 0
AllAwake past = (p : ℕ) → p < 64 → AwakeAt (status p past)

one_read : (p : ℕ) (conn : Conn) (entry : Entry) (past : List Entry) → IsReadOf conn past entry → AwakeAt (status p past) → AwakeAt (status p (entry ∷ past))
one_read p conn (made.Got other room bytes) past is was =
    chosen AwakeAt (is_at p other) (status p past) (got_after bytes (status p past)) (λ at. record { calm = was.calm }) was
one_read p conn (made.Dry other) past is was = chosen AwakeAt (is_at p other) (status p past) _ (λ at. record { calm = λ e. absurd (false≢true e) }) was
one_read p conn (made.Ended other by) past is was =
    chosen AwakeAt (is_at p other) (status p past) (ended_after (status p past)) (λ at. record { calm = λ e. absurd (false≢true e) }) was
one_read p conn (made.Refused other by) past is was =
    chosen AwakeAt (is_at p other) (status p past) (refused_after (time past) (status p past)) (λ at. record { calm = λ e. absurd (false≢true e) }) was
one_read p conn (made.ReadFailed other) past is was = chosen AwakeAt (is_at p other) (status p past) _ (λ at. record { calm = λ e. absurd (false≢true e) }) was
one_read p conn _ past is was = absurd (false≢true is.read)

read_rightly : (conn : Conn) (entry : Entry) (past : List Entry) → IsReadOf conn past entry → AllAwake past → RefusesRightly (entry ∷ past)
read_rightly conn (made.Got other room bytes) past is all = λ low.
    (all (place_of other) low).calm (subst (λ q. (status q past).awake ≡ true) (eqb-true (place_of conn) (place_of other) is.read) is.awake)
read_rightly conn (made.Refused other by) past is all = is.unused
read_rightly conn _ past is all = tt

reads_rightly : (h : History) {before now : List Entry} → Since (ReadMoment h) before now → AllAwake before → Since RefusesRightly before now × AllAwake now
reads_rightly h start all = (start, all)
reads_rightly h (more {past} {entry} since is) all =
    let then = reads_rightly h since all in
    (more then.0 (read_rightly is.0 entry past is.1 then.1), λ p low. one_read p is.0 entry past is.1 (then.1 p low))

-- where the loop stands for the journal, a connection that is awake is up
stands_awake : (l : Loop) (h : History) (past : List Entry) → StandsFor l h past → AllAwake past
stands_awake l h past stand p low =
    let (link, found) = some_at l.links p (omega (arith, stand.size, low)) in
    let m = stand.each p link found in
    record { calm = λ e. m.up_calm (m.reported e) }

pub reads_unread : (l : Loop) (h : History) (before now : List Entry) → StandsFor l h before → Since (ReadMoment h) before now
    → RefusedUnread before → RefusedUnread now
reads_unread l h before now stand reads was = unread_stays (reads_rightly h reads (stands_awake l h before stand)).0 was
