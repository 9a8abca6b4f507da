-- What a read does to a loop.
use Rattle.std.proofs.Common.{◌≡◌, ◌≢◌, ◌<◌, ℕ, Bool, true, false, List, ◌∷◌, set, Some, slice_get, refl, sym, ◌∙◌, subst}
use Rattle.std.proofs.lemmas.Option.{slice_get_within}
use Rattle.world.specs.declared.conn.Conn.{Conn}
use Rattle.world.specs.declared.entry.Entry.{Entry}
use Rattle.world.specs.declared.got.Got.{Got}
use Rattle.world.specs.declared.got.Got.TheVariants as got
use Rattle.world.specs.declared.side.Side.TheVariants as side
use Rattle.world.specs.Moments.{start, more}
use Rattle.world.specs.Told.{read_entry}
use Rattle.world.specs.Places.{Status, status, time, place_of, is_read, IsUnused, concerns}
use Rattle.world.specs.Waits.{is_wait}
use Rattle.world.proofs.StatusLemmas.{at_own, got_own, dry_own, ended_own, refused_own, read_failed_own}
use Rattle.ready_loop.specs.declared.link.Link.{Link}
use Rattle.ready_loop.specs.declared.readiness.Loop.{Loop}
use Rattle.ready_loop.specs.Link.{MayRead, read_link}
use Rattle.ready_loop.specs.History.{History}
use Rattle.ready_loop.specs.Queues.{Held}
use Rattle.ready_loop.specs.Refusals.{RefusesUnused}
use Rattle.ready_loop.specs.Reads.{ReadMoment, after_got}
use Rattle.ready_loop.specs.Standing.{write_ended, StandsAt, Stand, Goes}
use Rattle.ready_loop.proofs.CallLemmas.{status_read, named_read, stands_read}
use Rattle.ready_loop.proofs.StandLemmas.{stand_at, stands_as, SameBut, same_but, named_but, not_at, or_own}

-- the entry of a read, of its own place and of the others
status_own : (conn : Conn) (room : ℕ) (answer : Got) (buffer : List ℕ) (past : List Entry)
    → status (place_of conn) (read_entry conn room answer buffer ∷ past) ≡ status_read answer buffer (time past) (status (place_of conn) past)
status_own conn room (got.Piece n) buffer past = got_own conn room _ past
status_own conn room got.Dry buffer past = dry_own conn past
status_own conn room got.Ended buffer past = ended_own conn side.Read past
status_own conn room got.Refused buffer past = refused_own conn side.Read past
status_own conn room got.Failed buffer past = read_failed_own conn past

concerns_not : (conn : Conn) (room : ℕ) (answer : Got) (buffer : List ℕ) (p : ℕ) → p ≢ place_of conn
    → concerns p (read_entry conn room answer buffer) ≡ false
concerns_not conn room (got.Piece n) buffer p ne = not_at p conn ne
concerns_not conn room got.Dry buffer p ne = not_at p conn ne
concerns_not conn room got.Ended buffer p ne = not_at p conn ne
concerns_not conn room got.Refused buffer p ne = not_at p conn ne
concerns_not conn room got.Failed buffer p ne = not_at p conn ne

no_wait : (conn : Conn) (room : ℕ) (answer : Got) (buffer : List ℕ) → is_wait (read_entry conn room answer buffer) ≡ false
no_wait conn room (got.Piece n) buffer = refl
no_wait conn room got.Dry buffer = refl
no_wait conn room got.Ended buffer = refl
no_wait conn room got.Refused buffer = refl
no_wait conn room got.Failed buffer = refl

ended_own_read : (conn : Conn) (room : ℕ) (answer : Got) (buffer : List ℕ) (past : List Entry)
    → write_ended (place_of conn) (read_entry conn room answer buffer ∷ past) ≡ write_ended (place_of conn) past
ended_own_read conn room (got.Piece n) buffer past = refl
ended_own_read conn room got.Dry buffer past = refl
ended_own_read conn room got.Ended buffer past = refl
ended_own_read conn room got.Refused buffer past = refl
ended_own_read conn room got.Failed buffer past = refl

pub untimed : (conn : Conn) (room : ℕ) (answer : Got) (buffer : List ℕ) (past : List Entry)
    → time (read_entry conn room answer buffer ∷ past) ≡ time past
untimed conn room (got.Piece n) buffer past = refl
untimed conn room got.Dry buffer past = refl
untimed conn room got.Ended buffer past = refl
untimed conn room got.Refused buffer past = refl
untimed conn room got.Failed buffer past = refl

is_one : (conn : Conn) (room : ℕ) (answer : Got) (buffer : List ℕ)
    → is_read (place_of conn) (read_entry conn room answer buffer) ≡ true
is_one conn room (got.Piece n) buffer = at_own conn
is_one conn room got.Dry buffer = at_own conn
is_one conn room got.Ended buffer = at_own conn
is_one conn room got.Refused buffer = at_own conn
is_one conn room got.Failed buffer = at_own conn

same_but_got : (answer : Got) (conn : Conn) (h : History) → SameBut (place_of conn) h (after_got answer conn h)
same_but_got (got.Piece n) conn h = same_but (place_of conn) h
same_but_got got.Dry conn h = same_but (place_of conn) h
same_but_got got.Ended conn h = named_but (place_of conn) h
same_but_got got.Refused conn h = same_but (place_of conn) h
same_but_got got.Failed conn h = same_but (place_of conn) h

-- its own place after it
own_history : {link : Link} {held : Held} {s : Status} {e : Bool} (answer : Got) (conn : Conn) (h : History) → let q = place_of conn in
    StandsAt link held (h.begun q) (h.queued q) (named_read answer (h.named q)) s e
    → let k = after_got answer conn h in StandsAt link held (k.begun q) (k.queued q) (k.named q) s e
own_history (got.Piece n) conn h m = m
own_history got.Dry conn h m = m
own_history got.Ended conn h m = stands_as refl refl refl (or_own (place_of conn) (h.named (place_of conn))) refl refl m
own_history got.Refused conn h m = m
own_history got.Failed conn h m = m

-- it is turned away only before a byte has passed
read_unused : (conn : Conn) (room : ℕ) (answer : Got) (buffer : List ℕ) (past : List Entry) → (answer ≡ got.Refused → IsUnused (place_of conn) past)
    → RefusesUnused (read_entry conn room answer buffer ∷ past)
read_unused conn room (got.Piece n) buffer past unused = tt
read_unused conn room got.Dry buffer past unused = tt
read_unused conn room got.Ended buffer past unused = tt
read_unused conn room got.Refused buffer past unused = unused refl
read_unused conn room got.Failed buffer past unused = tt

-- a read of a connection that may be read
pub read_goes : (conn : Conn) (p room : ℕ) (answer : Got) (buffer : List ℕ) (l : Loop) (links : List Link) (link : Link) (last : ℕ) (past : List Entry)
    → place_of conn ≡ p → slice_get l.links p ≡ Some link → MayRead link
    → links ≡ set l.links p (read_link answer last link) → last ≡ time past
    → (answer ≡ got.Refused → IsUnused (place_of conn) past)
    → Goes ReadMoment (after_got answer conn) l (record l { links = links }) past (read_entry conn room answer buffer ∷ past)
read_goes conn p room answer buffer l links link last past place found may is clock unused =
    let entry : Entry = read_entry conn room answer buffer in
    let here : slice_get l.links (place_of conn) ≡ Some link = subst (λ i. slice_get l.links i ≡ Some link) (sym place) found in
    record {
      so = λ h stand.
          let m = stand.each (place_of conn) link here in
          let own = own_history answer conn h
          (stands_as refl refl refl refl (status_own conn room answer buffer past) (ended_own_read conn room answer buffer past)
          (stands_read link _ _ _ _ _ _ answer buffer last (time past) clock may.awake (λ e. (unused e).0) m)) in
          let r = stand_at entry (place_of conn) (read_link answer last link) (slice_get_within l.links (place_of conn) _ here) (no_wait conn room answer buffer)
          (λ q ne. concerns_not conn room answer buffer q ne) (λ q ne. refl) (same_but_got answer conn h) own stand in (
            subst (λ ls. Stand ls l.queues l.left (after_got answer conn h) (entry ∷ past)) (sym is)
                (subst (λ i. Stand (set l.links i (read_link answer last link)) l.queues l.left (after_got answer conn h) (entry ∷ past)) place r),
            more start (
              conn,
              record {
                read = is_one conn room answer buffer;
                awake = sym m.awake ∙ may.awake;
                sound = sym m.failed ∙ may.sound;
                few = subst (λ n. n < 64) (m.reads may.awake) may.reads;
                unused = read_unused conn room answer buffer past unused;
              },
            ),
          );
    }
