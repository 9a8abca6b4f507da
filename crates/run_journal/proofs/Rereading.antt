-- By the loop's rules no connection is begun again after it was read.
use Rattle.std.proofs.Common.{◌≡◌, inl, inr, ℕ, List, [], ◌∷◌, Bool, true, false, ◌&&◌, ◌||◌, not, cond, Option, Some, None, refl, ap}
use Rattle.std.specs.Prelude.{is_some}
use Rattle.std.specs.List.{list_any, list_all}
use Rattle.std.proofs.lemmas.Bool.{and_parts, and_from, or_cases}
use Rattle.world.specs.declared.chan.Chan.{Chan}
use Rattle.world.specs.declared.chan.Chan.TheVariants.{Shell, Control, Iopub, Heart}
use Rattle.world.specs.declared.conn.Conn.{Conn}
use Rattle.world.specs.declared.connected.Connected.{Connected}
use Rattle.world.specs.declared.connected.Connected.TheVariants as connected
use Rattle.world.specs.declared.did.Did.{Did}
use Rattle.world.specs.declared.did.Did.TheVariants as did
use Rattle.world.specs.declared.entry.Entry.{Entry}
use Rattle.world.specs.declared.entry.Entry.TheVariants as made
use Rattle.world.specs.Places.{Status, is_at, is_read, is_write, is_reported, connected_after, closed_after, got_after, ended_after, refused_after, waited_after, time}
use Rattle.run_journal.specs.Job.{Job}
use Rattle.run_journal.specs.Parts.{channels, place, connection, bytes_got}
use Rattle.run_journal.specs.Due.{all_along}
use Rattle.run_journal.specs.Order.{is_nothing, begins_unread}
use Rattle.run_journal.specs.Awake.{Awake, implies, is_its, is_connect, may_begin_again, in_order, begins_refused}
use Rattle.run_journal.specs.Agreement.{IsAmong, BeginsUnread, tells_rightly, TellsRightly}
use Rattle.run_journal.proofs.Running.{all_of, or_off, by_both}
use Rattle.run_journal.proofs.Truths.{not_both}
use Rattle.run_journal.proofs.Ordering.{nothing_is}

-- a test holds of each channel
each_channel : (test : Chan → Bool) → list_all test channels ≡ true → (c : Chan) → test c ≡ true
each_channel test e Shell = (and_parts (test Shell) _ e).0
each_channel test e Control = (and_parts (test Control) _ (and_parts (test Shell) _ e).1).0
each_channel test e Iopub = (and_parts (test Iopub) _ (and_parts (test Control) _ (and_parts (test Shell) _ e).1).1).0
each_channel test e Heart = (and_parts (test Heart) true (and_parts (test Iopub) _ (and_parts (test Control) _ (and_parts (test Shell) _ e).1).1).1).0

pub each_one : (test : Job → Chan → Bool) (jobs : List Job) (j : Job) → IsAmong j jobs → list_all (λ i. list_all (test i) channels) jobs ≡ true → (c : Chan) → test j c ≡ true
each_one test jobs j m e c = each_channel (test j) (all_of (λ i. list_all (test i) channels) jobs j m e) c

-- a connection that bytes are read from was awake
pub read_awake : (jobs : List Job) (j : Job) (c : Chan) → IsAmong j jobs → (conn : Conn) (room : ℕ) (bytes : List ℕ) (past : List Entry) → in_order jobs (made.Got conn room bytes ∷ past) ≡ true → is_at (place j c) conn ≡ true → (connection j c past).awake ≡ true
read_awake jobs j c m conn room bytes past o =
    off (is_at (place j c) conn) (connection j c past).awake
    (each_one (λ i d. implies (is_read (place i d) (made.Got conn room bytes)) (connection i d past).awake && implies (is_write (place i d) (made.Got conn room bytes)) (connection i d past).writable) jobs j m o c)
  where
    off : (x y : Bool) → (implies x y && true) ≡ true → x ≡ true → y ≡ true
    off true true e f = refl
    off true false e f = cc
    off false y e f = cc

-- Of a connection: it is awake only while it is up; once refused, or before it was tried, it isn't up and nothing was got on it.
record Sound (s : Status) (tried : Bool) : Type 0 where
  awake : s.awake ≡ true → s.up ≡ true
  refused : is_some s.refused ≡ true → (s.up ≡ false) × (s.got ≡ [])
  untried : tried ≡ false → (s.up ≡ false) × (s.got ≡ [])

asleep : (s : Status) (tried : Bool) → Sound s tried → s.up ≡ false → s.awake ≡ false
asleep s tried i e = by s.awake refl
  where
    by : (b : Bool) → s.awake ≡ b → s.awake ≡ false
    by true f = absurd (not_both s.up (i.awake f) e)
    by false f = f

at_connect : (s : Status) (tried : Bool) (how : Connected) (port clock : ℕ) → Sound s tried → s.up ≡ false → Sound (connected_after how port clock s) true
at_connect s tried connected.Begun port clock i e = record { awake = λ f. refl; refused = λ f. cc; untried = λ f. cc }
at_connect s tried connected.Refused port clock i e = record { awake = λ f. absurd (not_both s.awake f (asleep s tried i e)); refused = λ f. (refl, refl); untried = λ f. cc }
at_connect s tried connected.Failed port clock i e = record { awake = i.awake; refused = λ f. cc; untried = λ f. cc }

at_got : (s : Status) (tried : Bool) (bytes : List ℕ) → Sound s tried → s.awake ≡ true → Sound (got_after bytes s) tried
at_got s tried bytes i e = record {
  awake = i.awake;
  refused = λ f. absurd (not_both s.up (i.awake e) (i.refused f).0);
  untried = λ f. absurd (not_both s.up (i.awake e) (i.untried f).0);
}

at_wait : (p : ℕ) (ready : List Bool) (how : Did) (s : Status) (tried : Bool) → Sound s tried → (not (is_reported p ready) || s.up) ≡ true → Sound (waited_after p ready how s) tried
at_wait p ready did.Done s tried i e = record { awake = up; refused = i.refused; untried = i.untried }
  where
    up : (is_reported p ready || s.awake) ≡ true → s.up ≡ true
    up f = elim (or_cases (is_reported p ready) s.awake f) [
      | inl g ↦ or_off (is_reported p ready) s.up e g
      | inr g ↦ i.awake g
    ]
at_wait p ready did.Failed s tried i e = record { awake = i.awake; refused = i.refused; untried = i.untried }

module _ (j : Job) (c : Chan) where
  abbrev tried : List Entry → Bool
  tried past = list_any (is_connect j c) past

  -- one that is its own, or another
  at_its : (b : Bool) (s t : Status) (x : Bool) → (b ≡ true → Sound s x) → Sound t x → Sound (cond b s t) x
  at_its true s t x f g = f refl
  at_its false s t x f g = g

  more_tried : (b : Bool) (s : Status) (x : Bool) → Sound s x → Sound s (b || x)
  more_tried true s x i = record { awake = i.awake; refused = i.refused; untried = λ f. cc }
  more_tried false s x i = i

  connect_next : (b x : Bool) (how : Connected) (port clock : ℕ) (s : Status) → Sound s x → (b ≡ true → s.up ≡ false) → Sound (cond b (connected_after how port clock s) s) (b || x)
  connect_next true x how port clock s i f = at_connect s x how port clock i (f refl)
  connect_next false x how port clock s i f = i

  module _ (jobs : List Job) (m : IsAmong j jobs) where
    -- a connection that was tried is begun again after it was refused
    was_refused : (conn : Conn) (port : ℕ) (how : Connected) (past : List Entry) → begins_refused jobs (made.Connected conn port how ∷ past) ≡ true → is_at (place j c) conn ≡ true → tried past ≡ true
        → is_some (connection j c past).refused ≡ true
    was_refused conn port how past r f e =
        some_refused (connection j c past).refused
        (by_both (is_at (place j c) conn) (tried past) (may_begin_again j past (connection j c past).refused)
        (each_one (λ i d. implies (is_its i d conn && list_any (is_connect i d) past) (may_begin_again i past (connection i d past).refused)) jobs j m r c) f e)
      where
        some_refused : (v : Option ℕ) → may_begin_again j past v ≡ true → is_some v ≡ true
        some_refused None g = cc
        some_refused (Some ms) g = refl

    next : (entry : Entry) (past : List Entry) → Sound (connection j c past) (tried past) → in_order jobs (entry ∷ past) ≡ true → begins_refused jobs (entry ∷ past) ≡ true → tells_rightly j c (entry ∷ past) ≡ true
        → Sound (connection j c (entry ∷ past)) (tried (entry ∷ past))
    next (made.Connected conn port how) past i o r t = connect_next (is_at (place j c) conn) (tried past) how port (time past) (connection j c past) i by
      where
        may : (b : Bool) → tried past ≡ b → is_at (place j c) conn ≡ true → (connection j c past).up ≡ false
        may true e f = (i.refused (was_refused conn port how past r f e)).0
        may false e f = (i.untried e).0

        by : is_at (place j c) conn ≡ true → (connection j c past).up ≡ false
        by f = may (tried past) refl f
    next (made.Closed conn) past i o r t = at_its (is_at (place j c) conn) (closed_after (connection j c past)) (connection j c past) (tried past) (λ f. record { awake = λ g. cc; refused = λ g. cc; untried = λ g. (refl, (i.untried g).1) }) i
    next (made.Got conn room bytes) past i o r t =
        at_its (is_at (place j c) conn) (got_after bytes (connection j c past)) (connection j c past) (tried past) (λ f. at_got (connection j c past) (tried past) bytes i (read_awake jobs j c m conn room bytes past o f)) i
    next (made.Dry conn) past i o r t = at_its (is_at (place j c) conn) _ (connection j c past) (tried past) (λ f. record { awake = λ g. cc; refused = i.refused; untried = i.untried }) i
    next (made.Ended conn by) past i o r t =
        at_its (is_at (place j c) conn) (ended_after (connection j c past)) (connection j c past) (tried past) (λ f. record { awake = λ g. cc; refused = λ g. (refl, (i.refused g).1); untried = λ g. (refl, (i.untried g).1) }) i
    next (made.Refused conn by) past i o r t =
        at_its (is_at (place j c) conn) (refused_after (time past) (connection j c past)) (connection j c past) (tried past)
        (λ f. let g = nothing_is (bytes_got j c past) (or_off (is_at (place j c) conn) (is_nothing (bytes_got j c past)) t f) in record { awake = λ x. cc; refused = λ x. (refl, g); untried = λ x. (refl, g) }) i
    next (made.ReadFailed conn) past i o r t = at_its (is_at (place j c) conn) _ (connection j c past) (tried past) (λ f. record { awake = λ g. cc; refused = i.refused; untried = i.untried }) i
    next (made.Put conn bytes) past i o r t = at_its (is_at (place j c) conn) _ (connection j c past) (tried past) (λ f. record { awake = i.awake; refused = i.refused; untried = i.untried }) i
    next (made.Stuck conn) past i o r t = at_its (is_at (place j c) conn) _ (connection j c past) (tried past) (λ f. record { awake = i.awake; refused = i.refused; untried = i.untried }) i
    next (made.PutFailed conn) past i o r t = at_its (is_at (place j c) conn) _ (connection j c past) (tried past) (λ f. record { awake = i.awake; refused = i.refused; untried = i.untried }) i
    next (made.Waited ms places how) past i o r t = at_wait (place j c) places.ready how (connection j c past) (tried past) i t
    next _ past i o r t = i

    sound : (past : List Entry) → all_along (in_order jobs) past ≡ true → all_along (begins_refused jobs) past ≡ true → all_along (tells_rightly j c) past ≡ true → Sound (connection j c past) (tried past)
    sound [] o r t = record { awake = λ e. cc; refused = λ e. cc; untried = λ e. (refl, refl) }
    sound (entry ∷ past) o r t =
        let p = and_parts (in_order jobs (entry ∷ past)) (all_along (in_order jobs) past) o in
        let q = and_parts (begins_refused jobs (entry ∷ past)) (all_along (begins_refused jobs) past) r in
        let s = and_parts (tells_rightly j c (entry ∷ past)) (all_along (tells_rightly j c) past) t in
        next entry past (sound past p.1 q.1 s.1) p.0 q.0 s.0

    unread : (entry : Entry) (past : List Entry) → Sound (connection j c past) (tried past) → begins_refused jobs (entry ∷ past) ≡ true → begins_unread j c (entry ∷ past) ≡ true
    unread (made.Connected conn port how) past i r = by (is_at (place j c) conn) refl
      where
        got : is_at (place j c) conn ≡ true → (b : Bool) → tried past ≡ b → bytes_got j c past ≡ []
        got f true e = (i.refused (was_refused conn port how past r f e)).1
        got f false e = (i.untried e).1

        by : (b : Bool) → is_at (place j c) conn ≡ b → cond b (is_nothing (bytes_got j c past)) true ≡ true
        by true f = ap is_nothing (got f (tried past) refl)
        by false f = refl
    unread _ past i r = refl

    all_unread : (past : List Entry) → all_along (in_order jobs) past ≡ true → all_along (begins_refused jobs) past ≡ true → all_along (tells_rightly j c) past ≡ true → all_along (begins_unread j c) past ≡ true
    all_unread [] o r t = refl
    all_unread (entry ∷ past) o r t =
        let p = and_parts (in_order jobs (entry ∷ past)) (all_along (in_order jobs) past) o in
        let q = and_parts (begins_refused jobs (entry ∷ past)) (all_along (begins_refused jobs) past) r in
        let s = and_parts (tells_rightly j c (entry ∷ past)) (all_along (tells_rightly j c) past) t in
        and_from (begins_unread j c (entry ∷ past)) (all_along (begins_unread j c) past) (unread entry past (sound past p.1 q.1 s.1) q.0) (all_unread past p.1 q.1 s.1)

pub begins_unread_by : (jobs : List Job) (j : Job) (past : List Entry) → IsAmong j jobs → Awake jobs past → TellsRightly j past → BeginsUnread j past
begins_unread_by jobs j past m a t c = all_unread j c jobs m past a.only_awake a.only_refused (t c)
