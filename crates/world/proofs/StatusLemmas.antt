-- How an entry changes a connection: the one that it names, and every other.
use Rattle.std.specs.Prelude.{◌≡◌, ℕ, ◌<◌, List, ◌∷◌, ◌++◌, true, false, Some, refl}
use Rattle.std.proofs.Common.{◌≢◌, ◌∙◌, ap, arith}
use Rattle.std.proofs.lemmas.Bool.{cond-true, cond-false, eq-eqb, eqb-true, false_from_ne_true}
use Rattle.std.proofs.lemmas.Option.{same_Some}
use Rattle.world.specs.declared.chan.Chan.{Chan}
use Rattle.world.specs.declared.chan.Chan.TheVariants.{Shell, Control, Iopub, Heart}
use Rattle.world.specs.declared.conn.Conn.{Conn}
use Rattle.world.specs.declared.connected.Connected.{Connected}
use Rattle.world.specs.declared.connected.Connected.TheVariants.{Begun, Refused, Failed}
use Rattle.world.specs.declared.side.Side.{Side}
use Rattle.world.specs.declared.entry.Entry.{Entry}
use Rattle.world.specs.declared.entry.Entry.TheVariants as made
use Rattle.world.specs.Jobs.{job_of, IsOfJob}
use Rattle.world.specs.Moments.{Since, start, more}
use Rattle.world.specs.Places.{
  chan_number,
  place_of,
  is_at,
  concerns,
  Status,
  status,
  time,
  connected_after,
  closed_after,
  got_after,
  ended_after,
  refused_after,
}

-- ---- the connection that an entry names

-- a connection is at its place
pub at_own : (conn : Conn) → is_at (place_of conn) conn ≡ true
at_own conn = eq-eqb (place_of conn) (place_of conn) refl

pub connected_own : (conn : Conn) (number : ℕ) (how : Connected) (past : List Entry)
    → status (place_of conn) (made.Connected conn number how ∷ past)
    ≡ connected_after how number (time past) (status (place_of conn) past)
connected_own conn number how past = cond-true (is_at (place_of conn) conn) _ _ (at_own conn)

-- whatever the connect answers, it was begun to this port
pub connected_begun : (conn : Conn) (number : ℕ) (how : Connected) (past : List Entry)
    → ((status (place_of conn) (made.Connected conn number how ∷ past)).begun ≡ true)
    × ((status (place_of conn) (made.Connected conn number how ∷ past)).port ≡ Some number)
connected_begun conn number Begun past = (
  ap (λ s. Status.begun s) (connected_own conn number Begun past),
  ap (λ s. Status.port s) (connected_own conn number Begun past),
)
connected_begun conn number Refused past = (
  ap (λ s. Status.begun s) (connected_own conn number Refused past),
  ap (λ s. Status.port s) (connected_own conn number Refused past),
)
connected_begun conn number Failed past = (
  ap (λ s. Status.begun s) (connected_own conn number Failed past),
  ap (λ s. Status.port s) (connected_own conn number Failed past),
)

pub closed_own : (conn : Conn) (past : List Entry)
    → status (place_of conn) (made.Closed conn ∷ past) ≡ closed_after (status (place_of conn) past)
closed_own conn past = cond-true (is_at (place_of conn) conn) _ _ (at_own conn)

pub got_own : (conn : Conn) (room : ℕ) (bytes : List ℕ) (past : List Entry)
    → status (place_of conn) (made.Got conn room bytes ∷ past) ≡ got_after bytes (status (place_of conn) past)
got_own conn room bytes past = cond-true (is_at (place_of conn) conn) _ _ (at_own conn)

pub dry_own : (conn : Conn) (past : List Entry)
    → status (place_of conn) (made.Dry conn ∷ past) ≡ record (status (place_of conn) past) { awake = false }
dry_own conn past = cond-true (is_at (place_of conn) conn) _ _ (at_own conn)

pub ended_own : (conn : Conn) (by : Side) (past : List Entry)
    → status (place_of conn) (made.Ended conn by ∷ past) ≡ ended_after (status (place_of conn) past)
ended_own conn by past = cond-true (is_at (place_of conn) conn) _ _ (at_own conn)

pub refused_own : (conn : Conn) (by : Side) (past : List Entry)
    → status (place_of conn) (made.Refused conn by ∷ past) ≡ refused_after (time past) (status (place_of conn) past)
refused_own conn by past = cond-true (is_at (place_of conn) conn) _ _ (at_own conn)

pub read_failed_own : (conn : Conn) (past : List Entry)
    → status (place_of conn) (made.ReadFailed conn ∷ past)
    ≡ record (status (place_of conn) past) { awake = false; failed = true }
read_failed_own conn past = cond-true (is_at (place_of conn) conn) _ _ (at_own conn)

pub put_own : (conn : Conn) (bytes : List ℕ) (past : List Entry)
    → status (place_of conn) (made.Put conn bytes ∷ past)
    ≡ (let s = status (place_of conn) past in record s { put = s.put ++ bytes })
put_own conn bytes past = cond-true (is_at (place_of conn) conn) _ _ (at_own conn)

pub stuck_own : (conn : Conn) (past : List Entry)
    → status (place_of conn) (made.Stuck conn ∷ past) ≡ record (status (place_of conn) past) { writable = false }
stuck_own conn past = cond-true (is_at (place_of conn) conn) _ _ (at_own conn)

pub put_failed_own : (conn : Conn) (past : List Entry)
    → status (place_of conn) (made.PutFailed conn ∷ past)
    ≡ record (status (place_of conn) past) { writable = false; failed = true }
put_failed_own conn past = cond-true (is_at (place_of conn) conn) _ _ (at_own conn)

-- ---- every other connection

-- an entry that is neither a wait nor of the connection at a place changes nothing there
pub status_elsewhere : (p : ℕ) (entry : Entry) (past : List Entry) → concerns p entry ≡ false
    → status p (entry ∷ past) ≡ status p past
status_elsewhere p (made.Connected conn number how) past e = cond-false (is_at p conn) _ _ e
status_elsewhere p (made.Closed conn) past e = cond-false (is_at p conn) _ _ e
status_elsewhere p (made.Got conn room bytes) past e = cond-false (is_at p conn) _ _ e
status_elsewhere p (made.Dry conn) past e = cond-false (is_at p conn) _ _ e
status_elsewhere p (made.Ended conn by) past e = cond-false (is_at p conn) _ _ e
status_elsewhere p (made.Refused conn by) past e = cond-false (is_at p conn) _ _ e
status_elsewhere p (made.ReadFailed conn) past e = cond-false (is_at p conn) _ _ e
status_elsewhere p (made.Put conn bytes) past e = cond-false (is_at p conn) _ _ e
status_elsewhere p (made.Stuck conn) past e = cond-false (is_at p conn) _ _ e
status_elsewhere p (made.PutFailed conn) past e = cond-false (is_at p conn) _ _ e
status_elsewhere p (made.Waited ms reports did) past e = cc
status_elsewhere p _ past e = refl

-- ---- other jobs

pub chan_below : (chan : Chan) → chan_number chan < 4
chan_below Shell = omega arith
chan_below Control = omega arith
chan_below Iopub = omega arith
chan_below Heart = omega arith

-- one place is of one job
pub same_job : (a b : Conn) → place_of a ≡ place_of b → a.job ≡ b.job
same_job a b e = omega (arith, e, chan_below a.chan, chan_below b.chan)

-- a connection of another job is at another place
not_at : (own other : Conn) (job : ℕ) → own.job ≢ job → Some other.job ≡ Some job → is_at (place_of own) other ≡ false
not_at own other job apart is =
    false_from_ne_true _ (λ e. apart (same_job own other (eqb-true (place_of own) (place_of other) e) ∙ same_Some other.job job is))

-- an entry of one job is not of a connection of another
pub not_concerned : (conn : Conn) (job : ℕ) (entry : Entry) → conn.job ≢ job → job_of entry ≡ Some job
    → concerns (place_of conn) entry ≡ false
not_concerned conn job (made.Connected other number how) apart is = not_at conn other job apart is
not_concerned conn job (made.Closed other) apart is = not_at conn other job apart is
not_concerned conn job (made.Got other room bytes) apart is = not_at conn other job apart is
not_concerned conn job (made.Dry other) apart is = not_at conn other job apart is
not_concerned conn job (made.Ended other by) apart is = not_at conn other job apart is
not_concerned conn job (made.Refused other by) apart is = not_at conn other job apart is
not_concerned conn job (made.ReadFailed other) apart is = not_at conn other job apart is
not_concerned conn job (made.Put other bytes) apart is = not_at conn other job apart is
not_concerned conn job (made.Stuck other) apart is = not_at conn other job apart is
not_concerned conn job (made.PutFailed other) apart is = not_at conn other job apart is
not_concerned conn job (made.Waited ms reports did) apart is = cc
not_concerned conn job _ apart is = refl

-- calls of one job leave the connections of every other
pub status_of_others : {job : ℕ} {x y : List Entry} (conn : Conn) → conn.job ≢ job → Since (IsOfJob job) x y
    → status (place_of conn) y ≡ status (place_of conn) x
status_of_others conn apart start = refl
status_of_others {job} conn apart (more {past} {entry} since is) =
    status_elsewhere (place_of conn) entry past (not_concerned conn job entry apart is)
    ∙ status_of_others conn apart since
