-- Before the first wait nothing is put out or got for a job by what others do.
use Rattle.std.proofs.Common.{◌≡◌, ◌≢◌, ℕ, ◌==◌, ◌&&◌, List, [], ◌∷◌, Bool, true, false, not, Result, refl, sym, ◌∙◌, ap, subst}
use Rattle.std.specs.List.{list_all}
use Rattle.std.proofs.lemmas.Bool.{and_parts, eqb-true, false_from_ne_true, ne_eqb, not-true}
use Rattle.words.specs.declared.ask.Ask.{Ask}
use Rattle.world.specs.declared.chan.Chan.{Chan}
use Rattle.world.specs.declared.conn.Conn.{Conn}
use Rattle.world.specs.declared.connected.Connected.{Connected}
use Rattle.world.specs.declared.connected.Connected.TheVariants as connected
use Rattle.world.specs.declared.did.Did.TheVariants as did
use Rattle.world.specs.declared.entry.Entry.{Entry}
use Rattle.world.specs.declared.entry.Entry.TheVariants as made
use Rattle.world.specs.declared.put.Put.{Put}
use Rattle.world.specs.declared.put.Put.TheVariants as put
use Rattle.world.specs.Moments.{Since, start, more}
use Rattle.world.specs.Places.{connected_after, is_at, time}
use Rattle.world.specs.Told.{write_entry}
use Rattle.world.proofs.MomentsLemmas.{since_as, since_then}
use Rattle.job_saves.specs.Calls.{Cast, IsCall, IsCallOf}
use Rattle.ready_loop.specs.declared.fault.LoopFault.{LoopFault}
use Rattle.ready_loop.specs.Begins.{Begins, CloseMoment, done, more as later, failed}
use Rattle.ready_loop.specs.History.{History}
use Rattle.ready_loop.specs.Offers.{JobMoment, Offers, again, writes}
use Rattle.run_journal.specs.Job.{Job}
use Rattle.run_journal.specs.Agreement.{is_got}
use Rattle.run_journal.specs.Parts.{bytes_put, connection, place}
use Rattle.run_journal.proofs.Alike.{away}
use Rattle.run_journal.proofs.Truths.{not_both}
use Rattle.job_journal.specs.Quiet.{IsQuietNow, is_unread}
use Rattle.other_jobs.specs.Unput.{is_put, is_unput}
use Rattle.other_jobs.proofs.Places.{chosen, own_place}

-- ---- a test that fails of each new entry

abbrev Fails : (Entry → Bool) → List Entry → Type 0
Fails test [] = ⊥
Fails test (entry ∷ past) = test entry ≡ false

none_more : (test : Entry → Bool) {before now : List Entry} → Since (Fails test) before now
    → list_all (λ entry. not (test entry)) now ≡ list_all (λ entry. not (test entry)) before
none_more test start = refl
none_more test (more {past} since e) = ap (λ b. not b && list_all (λ entry. not (test entry)) past) e ∙ none_more test since

begins_fail : (test : Entry → Bool) → ((conn : Conn) (port : ℕ) (how : Connected) → test (made.Connected conn port how) ≡ false) → {U : Type 0} {job : ℕ}
    {ports : List ℕ} {chans : List Chan} {result : Result U LoopFault} {before now : List Entry} → Begins job ports chans result before now
    → Since (Fails test) before now
begins_fail test none (done u past) = start
begins_fail test none (later chan rest how result before after ok b) = since_then (more start (none _ _ how)) (begins_fail test none b)
begins_fail test none (failed chan rest before) = more start (none _ _ connected.Failed)

module _ (j : Job) where
  -- ---- bytes that are put

  one_unput : (c : Chan) (entry : Entry) (past : List Entry) → is_put j entry ≡ false → bytes_put j c past ≡ [] → bytes_put j c (entry ∷ past) ≡ []
  one_unput c (made.Connected conn port how) past e none =
      chosen (λ s. s.put ≡ []) (is_at (place j c) conn) (connection j c past) (connected_after how port (time past) (connection j c past)) (λ at. by how) none
    where
      by : (how : Connected) → (connected_after how port (time past) (connection j c past)).put ≡ []
      by connected.Begun = refl
      by connected.Refused = refl
      by connected.Failed = refl
  one_unput c (made.Closed conn) past e none = chosen (λ s. s.put ≡ []) (is_at (place j c) conn) (connection j c past) _ (λ at. none) none
  one_unput c (made.Got conn room bytes) past e none = chosen (λ s. s.put ≡ []) (is_at (place j c) conn) (connection j c past) _ (λ at. none) none
  one_unput c (made.Dry conn) past e none = chosen (λ s. s.put ≡ []) (is_at (place j c) conn) (connection j c past) _ (λ at. none) none
  one_unput c (made.Ended conn by) past e none = chosen (λ s. s.put ≡ []) (is_at (place j c) conn) (connection j c past) _ (λ at. none) none
  one_unput c (made.Refused conn by) past e none = chosen (λ s. s.put ≡ []) (is_at (place j c) conn) (connection j c past) _ (λ at. none) none
  one_unput c (made.ReadFailed conn) past e none = chosen (λ s. s.put ≡ []) (is_at (place j c) conn) (connection j c past) _ (λ at. none) none
  one_unput c (made.Put conn bytes) past e none =
      chosen (λ s. s.put ≡ []) (is_at (place j c) conn) (connection j c past) _ (λ at. absurd (not_both (is_at (place j c) conn) at (away j c conn e))) none
  one_unput c (made.Stuck conn) past e none = chosen (λ s. s.put ≡ []) (is_at (place j c) conn) (connection j c past) _ (λ at. none) none
  one_unput c (made.PutFailed conn) past e none = chosen (λ s. s.put ≡ []) (is_at (place j c) conn) (connection j c past) _ (λ at. none) none
  one_unput c (made.Waited ms places did.Done) past e none = none
  one_unput c (made.Waited ms places did.Failed) past e none = none
  one_unput c _ past e none = none

  pub unput_bytes : (now : List Entry) → is_unput j now ≡ true → (c : Chan) → bytes_put j c now ≡ []
  unput_bytes [] e c = refl
  unput_bytes (entry ∷ past) e c =
      let both = and_parts (not (is_put j entry)) (is_unput j past) e in
      one_unput c entry past (not-true (is_put j entry) both.0) (unput_bytes past both.1 c)

  call_puts_none : (here : List ℕ) (starts clean : Bool) (number : ℕ) (a : Ask) (entry : Entry) (past : List Entry) → IsCallOf here starts clean number a past entry
      → is_put j entry ≡ false
  call_puts_none here starts clean number a (made.Put conn bytes) past is = absurd is
  call_puts_none here starts clean number a _ past is = refl

  calls_put_none : (c : Cast) (now : List Entry) → IsCall c now → Fails (is_put j) now
  calls_put_none c [] is = absurd is
  calls_put_none c (entry ∷ past) is = call_puts_none c.here c.starts c.clean is.number is.ask entry past is.is

  close_puts_none : (h : History) (now : List Entry) → CloseMoment h now → Fails (is_put j) now
  close_puts_none h [] is = absurd is
  close_puts_none h (made.Closed conn ∷ past) is = refl
  close_puts_none h (_ ∷ past) is = absurd is

  write_elsewhere : (conn : Conn) (answer : Put) (piece : List ℕ) → (conn.job == j.number) ≡ false → is_put j (write_entry conn answer piece) ≡ false
  write_elsewhere conn (put.Took n) piece e = e
  write_elsewhere conn put.Stuck piece e = refl
  write_elsewhere conn put.Ended piece e = refl
  write_elsewhere conn put.Refused piece e = refl
  write_elsewhere conn put.Failed piece e = refl

  offer_elsewhere : (h : History) (past : List Entry) (conn : Conn) (entry : Entry) → (conn.job == j.number) ≡ false → Offers false h past conn entry
      → is_put j entry ≡ false
  offer_elsewhere h past conn entry e (again port how r) = refl
  offer_elsewhere h past conn entry e (writes answer piece r unused) = write_elsewhere conn answer piece e

  offers_elsewhere : (job : ℕ) (h : History) → (job == j.number) ≡ false → (now : List Entry) → JobMoment job h now → Fails (is_put j) now
  offers_elsewhere job h e [] o = absurd o
  offers_elsewhere job h e (entry ∷ past) o = offer_elsewhere h past o.0 entry (subst (λ n. (n == j.number) ≡ false) (sym o.1) e) o.2

  pub unput_calls : (c : Cast) (before now : List Entry) → Since (IsCall c) before now → is_unput j now ≡ is_unput j before
  unput_calls c before now since = none_more (is_put j) (since_as (calls_put_none c) since)

  pub unput_begins : {U : Type 0} (job : ℕ) (ports : List ℕ) (chans : List Chan) (result : Result U LoopFault) (before now : List Entry)
      → Begins job ports chans result before now → is_unput j now ≡ is_unput j before
  unput_begins job ports chans result before now b = none_more (is_put j) (begins_fail (is_put j) (λ conn port how. refl) b)

  pub unput_closes : (h : History) (before now : List Entry) → Since (CloseMoment h) before now → is_unput j now ≡ is_unput j before
  unput_closes h before now since = none_more (is_put j) (since_as (close_puts_none h) since)

  pub unput_offers : (job : ℕ) (h : History) (before now : List Entry) → job ≢ j.number → Since (JobMoment job h) before now → is_unput j now ≡ is_unput j before
  unput_offers job h before now other since =
      none_more (is_put j) (since_as (offers_elsewhere job h (ne_eqb job j.number other)) since)

  -- ---- bytes that are got

  call_gets_none : (here : List ℕ) (starts clean : Bool) (number : ℕ) (a : Ask) (entry : Entry) (past : List Entry) → IsCallOf here starts clean number a past entry
      → is_got j entry ≡ false
  call_gets_none here starts clean number a (made.Got conn room bytes) past is = absurd is
  call_gets_none here starts clean number a _ past is = refl

  calls_get_none : (c : Cast) (now : List Entry) → IsCall c now → Fails (is_got j) now
  calls_get_none c [] is = absurd is
  calls_get_none c (entry ∷ past) is = call_gets_none c.here c.starts c.clean is.number is.ask entry past is.is

  quiet_gets_none : (now : List Entry) → IsQuietNow j now → Fails (is_got j) now
  quiet_gets_none [] q = absurd q
  quiet_gets_none (made.Got conn room bytes ∷ past) q =
      false_from_ne_true (conn.job == j.number)
      (λ e. not_both (is_at (place j conn.chan) conn) (own_place j conn (eqb-true conn.job j.number e)) (q.still.got conn.chan))
  quiet_gets_none (_ ∷ past) q = refl

  pub unread_calls : (c : Cast) (before now : List Entry) → Since (IsCall c) before now → is_unread j now ≡ is_unread j before
  unread_calls c before now since = none_more (is_got j) (since_as (calls_get_none c) since)

  pub unread_begins : {U : Type 0} (job : ℕ) (ports : List ℕ) (chans : List Chan) (result : Result U LoopFault) (before now : List Entry)
      → Begins job ports chans result before now → is_unread j now ≡ is_unread j before
  unread_begins job ports chans result before now b = none_more (is_got j) (begins_fail (is_got j) (λ conn port how. refl) b)

  pub unread_quiet : (before now : List Entry) → Since (IsQuietNow j) before now → is_unread j now ≡ is_unread j before
  unread_quiet before now since = none_more (is_got j) (since_as quiet_gets_none since)
