-- Jobs none of whose connections is begun.
use Rattle.std.proofs.Common.{◌≡◌, ◌<◌, ℕ, ◌==◌, List, ◌∷◌, Bool, true, false, not, Option, Some, None, refl, sym, ◌∙◌, ap, subst, arith}
use Rattle.std.proofs.lemmas.Bool.{eqb-true, false_from_ne_true, false≢true}
use Rattle.std.proofs.lemmas.Option.{none-some}
use Rattle.jtext.proofs.Lists.{some_at}
use Rattle.world.specs.declared.chan.Chan.{Chan}
use Rattle.world.specs.declared.conn.Conn.{Conn}
use Rattle.world.specs.declared.entry.Entry.{Entry}
use Rattle.world.specs.declared.entry.Entry.TheVariants as made
use Rattle.world.specs.declared.put.Put.{Put}
use Rattle.world.specs.declared.put.Put.TheVariants as put
use Rattle.world.specs.declared.side.Side.TheVariants as side
use Rattle.world.specs.Moments.{Since, start, more}
use Rattle.world.specs.Places.{Status, concerns, is_at, place_of, status}
use Rattle.world.specs.Told.{write_entry}
use Rattle.world.proofs.MomentsLemmas.{since_as}
use Rattle.world.proofs.StatusLemmas.{status_elsewhere}
use Rattle.ready_loop.specs.declared.readiness.Loop.{Loop}
use Rattle.ready_loop.specs.History.{History}
use Rattle.ready_loop.specs.Offers.{JobMoment, LookMoment, OfferMoment, Offers, again, writes}
use Rattle.ready_loop.specs.Reads.{IsReadOf, ReadMoment}
use Rattle.ready_loop.specs.Standing.{StandsFor}
use Rattle.ready_loop.specs.States.{begun_at, begun_in}
use Rattle.run_journal.specs.Job.{Job}
use Rattle.run_journal.specs.Parts.{connection, place}
use Rattle.run_journal.proofs.Truths.{not_both}
use Rattle.job_journal.specs.Quiet.{IsQuiet, IsQuietNow}
use Rattle.job_journal.proofs.Quiet.{quiet_kind}
use Rattle.other_jobs.proofs.Connecting.{write_quiet}
use Rattle.other_jobs.proofs.Places.{named, own_place, place_low}
use Rattle.other_jobs.proofs.Refusals.{job_offer, look_offer}

-- a connection that can't be read, written or begun again
record ShutAt (s : Status) : Type 0 where
  awake : s.awake ≡ false
  writable : s.writable ≡ false
  refused : s.refused ≡ None

-- what needs something that isn't so isn't so
unless : (b x : Bool) → (b ≡ true → x ≡ true) → x ≡ false → b ≡ false
unless b x needs none = false_from_ne_true b (λ e. not_both x (needs e) none)

never_refused : (o : Option ℕ) (x : Bool) → ((at : ℕ) → o ≡ Some at → x ≡ true) → x ≡ false → o ≡ None
never_refused None x needs none = refl
never_refused (Some at) x needs none = absurd (not_both x (needs at refl) none)

-- what the loop keeps of one that isn't begun
stands_shut : (l : Loop) (h : History) (past : List Entry) (p : ℕ) → p < 64 → StandsFor l h past → begun_at l p ≡ false → ShutAt (status p past)
stands_shut l h past p low stand none =
    let (link, found) = some_at l.links p (omega (arith, stand.size, low)) in
    let m = stand.each p link found in
    let unbegun : (status p past).begun ≡ false = sym m.stage ∙ subst (λ o. begun_in o ≡ false) found none in
    let down : (status p past).up ≡ false = unless (status p past).up (status p past).begun m.up_begun unbegun in
    record {
      awake = unless (status p past).awake (status p past).up m.reported down;
      writable = unless (status p past).writable (status p past).up m.open_up down;
      refused = never_refused (status p past).refused (status p past).begun m.refused_begun unbegun;
    }

module _ (j : Job) where
  -- each of the job's connections is so
  abbrev AllShutOf : List Entry → Type 0
  AllShutOf past = (c : Chan) → ShutAt (connection j c past)

  -- an entry of none of its connections leaves them so
  still_shut : (entry : Entry) (past : List Entry) → ((c : Chan) → concerns (place j c) entry ≡ false) → AllShutOf past → AllShutOf (entry ∷ past)
  still_shut entry past none was c = subst ShutAt (sym (status_elsewhere (place j c) entry past (none c))) (was c)

  -- a connection at none of its places is of another job
  other_job : (conn : Conn) → ((c : Chan) → is_at (place j c) conn ≡ false) → (conn.job == j.number) ≡ false
  other_job conn none =
      false_from_ne_true (conn.job == j.number)
      (λ e. not_both (is_at (place j conn.chan) conn) (own_place j conn (eqb-true conn.job j.number e)) (none conn.chan))

  -- ---- reads

  -- a connection that is read is awake
  read_elsewhere : (conn other : Conn) (past : List Entry) → is_at (place_of conn) other ≡ true → (status (place_of conn) past).awake ≡ true → AllShutOf past
      → (c : Chan) → is_at (place j c) other ≡ false
  read_elsewhere conn other past at awake shut c =
      false_from_ne_true (is_at (place j c) other)
      (λ here.
      let same : place_of conn ≡ place j c = eqb-true (place_of conn) (place_of other) at ∙ sym (named (place j c) other here) in
      not_both (connection j c past).awake (subst (λ p. (status p past).awake ≡ true) same awake) (shut c).awake)

  one_read : (conn : Conn) (entry : Entry) (past : List Entry) → IsReadOf conn past entry → AllShutOf past
      → IsQuiet j entry past × ((c : Chan) → concerns (place j c) entry ≡ false)
  one_read conn (made.Got other room bytes) past is shut =
      let none = read_elsewhere conn other past is.read is.awake shut in
      (quiet_kind j (made.Got other room bytes) past (ap not (other_job other none)), none)
  one_read conn (made.Dry other) past is shut = (quiet_kind j (made.Dry other) past refl, read_elsewhere conn other past is.read is.awake shut)
  one_read conn (made.Ended other side.Read) past is shut =
      (quiet_kind j (made.Ended other side.Read) past refl, read_elsewhere conn other past is.read is.awake shut)
  one_read conn (made.Refused other side.Read) past is shut =
      (quiet_kind j (made.Refused other side.Read) past refl, read_elsewhere conn other past is.read is.awake shut)
  one_read conn (made.ReadFailed other) past is shut = (quiet_kind j (made.ReadFailed other) past refl, read_elsewhere conn other past is.read is.awake shut)
  one_read conn _ past is shut = absurd (false≢true is.read)

  reads_on : (h : History) {before now : List Entry} → Since (ReadMoment h) before now → AllShutOf before → Since (IsQuietNow j) before now × AllShutOf now
  reads_on h start shut = (start, shut)
  reads_on h (more {past} {entry} since is) shut =
      let then = reads_on h since shut in
      let one = one_read is.0 entry past is.1 then.1 in
      (more then.0 one.0, still_shut entry past one.1 then.1)

  -- ---- offers

  written_elsewhere : (conn : Conn) (answer : Put) (piece : List ℕ) (p : ℕ) → is_at p conn ≡ false → concerns p (write_entry conn answer piece) ≡ false
  written_elsewhere conn (put.Took n) piece p e = e
  written_elsewhere conn put.Stuck piece p e = e
  written_elsewhere conn put.Ended piece p e = e
  written_elsewhere conn put.Refused piece p e = e
  written_elsewhere conn put.Failed piece p e = e

  one_offer : (forced : Bool) (h : History) (past : List Entry) (conn : Conn) (entry : Entry) → Offers forced h past conn entry → AllShutOf past
      → IsQuiet j entry past × ((c : Chan) → concerns (place j c) entry ≡ false)
  one_offer forced h past conn entry (again port how r) shut =
      (quiet_kind j (made.Connected conn port how) past (ap not (other_job conn none)), none)
    where
      none : (c : Chan) → is_at (place j c) conn ≡ false
      none c = false_from_ne_true (is_at (place j c) conn)
          (λ here. none-some _ (sym (shut c).refused ∙ subst (λ p. (status p past).refused ≡ Some r.at) (sym (named (place j c) conn here)) r.refused))
  one_offer forced h past conn entry (writes answer piece r unused) shut =
      (write_quiet j conn answer piece past, λ c. written_elsewhere conn answer piece (place j c) (none c))
    where
      none : (c : Chan) → is_at (place j c) conn ≡ false
      none c = false_from_ne_true (is_at (place j c) conn)
          (λ here. not_both (connection j c past).writable (subst (λ p. (status p past).writable ≡ true) (sym (named (place j c) conn here)) r.writable) (shut c).writable)

  offers_on : (forced : Bool) (h : History) {before now : List Entry} → Since (OfferMoment forced h) before now → AllShutOf before
      → Since (IsQuietNow j) before now × AllShutOf now
  offers_on forced h start shut = (start, shut)
  offers_on forced h (more {past} {entry} since o) shut =
      let then = offers_on forced h since shut in
      let one = one_offer forced h past o.0 entry o.1 then.1 in
      (more then.0 one.0, still_shut entry past one.1 then.1)

  module _ (l : Loop) (h : History) (before now : List Entry) (low : j.number < 16) (stand : StandsFor l h before) (none : (c : Chan) → begun_at l (place j c) ≡ false) where
    at_first : AllShutOf before
    at_first c = stands_shut l h before (place j c) (place_low j c low) stand (none c)

    pub reads_quiet : Since (ReadMoment h) before now → Since (IsQuietNow j) before now
    reads_quiet since = (reads_on h since at_first).0

    pub offers_alone : (forced : Bool) → Since (OfferMoment forced h) before now → Since (IsQuietNow j) before now
    offers_alone forced since = (offers_on forced h since at_first).0

    pub job_offers_alone : (job : ℕ) → Since (JobMoment job h) before now → Since (IsQuietNow j) before now
    job_offers_alone job since = offers_alone false (since_as (job_offer job h) since)

    pub looks_alone : (jobs : List Bool) → Since (LookMoment jobs h) before now → Since (IsQuietNow j) before now
    looks_alone jobs since = offers_alone true (since_as (look_offer jobs h) since)
