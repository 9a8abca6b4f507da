-- By the loop's rules the core's clock is the journal's wherever it counts.
use Rattle.std.proofs.Common.{◌≡◌, ◌⊎◌, inl, inr, ℕ, ◌+◌, ◌*◌, List, [], ◌∷◌, ◌++◌, length, Bool, true, false, ◌&&◌, ◌||◌, not, cond, Option, refl, sym, ◌∙◌, ap, arith}
use Rattle.std.specs.Prelude.{is_some, ◌==◌}
use Rattle.std.proofs.lemmas.Bool.{and_parts, or_parts, and_from, or_right, cond-true, cond-false, cases_Bool, eqb-true, eq-eqb, ltb-true, false_from_ne_true}
use Rattle.world.specs.declared.chan.Chan.{Chan}
use Rattle.world.specs.declared.connected.Connected.{Connected}
use Rattle.world.specs.declared.connected.Connected.TheVariants as connected
use Rattle.world.specs.declared.did.Did.TheVariants as did
use Rattle.world.specs.declared.entry.Entry.{Entry}
use Rattle.world.specs.declared.entry.Entry.TheVariants as made
use Rattle.world.specs.Places.{Status, chan_number, is_at, connected_after, closed_after, ended_after, refused_after, time}
use Rattle.world.proofs.StatusLemmas.{chan_below}
use Rattle.cell_core.specs.declared.event.Event.{Event}
use Rattle.cell_core.specs.declared.event.Event.TheVariants as event
use Rattle.cell_core.specs.Acts.{is_empty_list}
use Rattle.cell_core.specs.Events as events
use Rattle.run_journal.specs.Job.{Job}
use Rattle.run_journal.specs.Parts.{place, connection, bytes_got, is_acknowledging}
use Rattle.run_journal.specs.Arrivals.{is_ready}
use Rattle.run_journal.specs.Requests.{Request, first_clock, requests, last_request}
use Rattle.run_journal.specs.Due.{all_along}
use Rattle.run_journal.specs.Order.{begins_unread}
use Rattle.run_journal.specs.Course.{came_for, when_so, course}
use Rattle.run_journal.specs.Agreement.{BringsNothing, BeginsUnread, told_on, brings, stands_anew, keeps_time, KeepsTime, hears_looks, HearsLooks, KeepsRules, TellsRightly, is_got, reads_late, holds_no_clock}
use Rattle.run_journal.proofs.Truths.{not_both}
use Rattle.run_journal.proofs.Agreeing.{ready_unheard}
use Rattle.run_journal.proofs.Hearing.{none_unready}
use Rattle.run_journal.proofs.Flowing.{core_nothing, sync_brings_nothing}
use Rattle.run_journal.proofs.Telling.{unread_before, unheld}
use Rattle.run_journal.proofs.Dating.{Seen, seen_on, now_is, whole}
use Rattle.run_journal.proofs.Dropping.{looks_kept, whole_held}
use Rattle.run_journal.proofs.Running.{or_off, rules_before, RanAtWait, ran_before}
use Rattle.run_journal.proofs.Turning.{dates}
use Rattle.run_journal.proofs.Lapse.{here, earlier, first_before}
use Rattle.run_journal.proofs.Rereading.{begins_unread_by}
use Rattle.run_journal.proofs.Ordering.{nothing_is}

-- ---- entries by which no byte comes

its_job : (j : Job) (c : Chan) (entry : Entry) (past : List Entry) → is_got j entry ≡ false → begins_unread j c (entry ∷ past) ≡ true → bytes_got j c (entry ∷ past) ≡ bytes_got j c past
its_job j c (made.Connected conn port how) past e u = by (is_at (place j c) conn) (λ f. sym (nothing_is (bytes_got j c past) (sym (cond-true (is_at (place j c) conn) _ true f) ∙ u))) refl
  where
    begun : (how : Connected) (clock : ℕ) (s : Status) → (connected_after how port clock s).got ≡ []
    begun connected.Begun clock s = refl
    begun connected.Refused clock s = refl
    begun connected.Failed clock s = refl

    by : (b : Bool) → (b ≡ true → [] ≡ bytes_got j c past) → is_at (place j c) conn ≡ b → (cond b (connected_after how port (time past) (connection j c past)) (connection j c past)).got ≡ bytes_got j c past
    by true f g = begun how (time past) (connection j c past) ∙ f refl
    by false f g = refl
its_job j c (made.Got conn room bytes) past e u = ap (λ (s : Status). s.got) (cond-false (is_at (place j c) conn) _ (connection j c past) (false_from_ne_true (is_at (place j c) conn) elsewhere))
  where
    elsewhere : is_at (place j c) conn ≡ true → ⊥
    elsewhere f =
        let n = chan_below c in
        let m = chan_below conn.chan in
        let g = eqb-true (place j c) (4 * conn.job + chan_number conn.chan) f in
        not_both (conn.job == j.number) (eq-eqb conn.job j.number (omega (arith, n, m, g))) e
its_job j c (made.Closed conn) past e u = same (is_at (place j c) conn)
  where
    same : (b : Bool) → (cond b (closed_after (connection j c past)) (connection j c past)).got ≡ bytes_got j c past
    same true = refl
    same false = refl
its_job j c (made.Dry conn) past e u = same (is_at (place j c) conn)
  where
    same : (b : Bool) → (cond b (record (connection j c past) { awake = false }) (connection j c past)).got ≡ bytes_got j c past
    same true = refl
    same false = refl
its_job j c (made.Ended conn by) past e u = same (is_at (place j c) conn)
  where
    same : (b : Bool) → (cond b (ended_after (connection j c past)) (connection j c past)).got ≡ bytes_got j c past
    same true = refl
    same false = refl
its_job j c (made.Refused conn by) past e u = same (is_at (place j c) conn)
  where
    same : (b : Bool) → (cond b (refused_after (time past) (connection j c past)) (connection j c past)).got ≡ bytes_got j c past
    same true = refl
    same false = refl
its_job j c (made.ReadFailed conn) past e u = same (is_at (place j c) conn)
  where
    same : (b : Bool) → (cond b (record (connection j c past) { awake = false; failed = true }) (connection j c past)).got ≡ bytes_got j c past
    same true = refl
    same false = refl
its_job j c (made.Put conn bytes) past e u = same (is_at (place j c) conn)
  where
    same : (b : Bool) → (cond b (record (connection j c past) { put = (connection j c past).put ++ bytes }) (connection j c past)).got ≡ bytes_got j c past
    same true = refl
    same false = refl
its_job j c (made.Stuck conn) past e u = same (is_at (place j c) conn)
  where
    same : (b : Bool) → (cond b (record (connection j c past) { writable = false }) (connection j c past)).got ≡ bytes_got j c past
    same true = refl
    same false = refl
its_job j c (made.PutFailed conn) past e u = same (is_at (place j c) conn)
  where
    same : (b : Bool) → (cond b (record (connection j c past) { writable = false; failed = true }) (connection j c past)).got ≡ bytes_got j c past
    same true = refl
    same false = refl
its_job j c (made.Waited ms places did.Done) past e u = refl
its_job j c (made.Waited ms places did.Failed) past e u = refl
its_job j c _ past e u = refl

none_brought : (j : Job) (entry : Entry) (past : List Entry) → BringsNothing j entry past → brings j entry past ≡ false
none_brought j entry past n = by (came_for j (last_request 0 (requests j past)) entry past) (is_ready j (entry ∷ past) && not (is_ready j past)) (core_nothing j entry past n)
  where
    by : (es : List Event) (b : Bool) → es ++ when_so b event.Ready ≡ [] → (not (is_empty_list es) || b) ≡ false
    by [] true e = cc
    by [] false e = refl
    by (x ∷ es) b e = cc

-- ---- the clock

module _ (jobs : List Job) (j : Job) where
  -- where something is brought, a turn's clock entry came before
  pub late : (entry : Entry) (past : List Entry) → ((c : Chan) → begins_unread j c (entry ∷ past) ≡ true) → reads_late j (entry ∷ past) ≡ true → brings j entry past ≡ true → is_some (first_clock 0 past) ≡ true
  late entry past u r b = by (cases_Bool (is_got j entry))
    where
      by : (is_got j entry ≡ true) ⊎ (is_got j entry ≡ false) → is_some (first_clock 0 past) ≡ true
      by (inl f) = or_off (is_got j entry) (is_some (first_clock 0 past)) r f
      by (inr f) = absurd (not_both (brings j entry past) b (none_brought j entry past (λ c. its_job j c entry past f (u c))))

  -- so before the kernel is ready
  pub ready_late : (past : List Entry) → BeginsUnread j past → all_along (reads_late j) past ≡ true → is_ready j past ≡ true → is_some (first_clock 0 past) ≡ true
  ready_late [] u r e = cc
  ready_late (entry ∷ past) u r e =
      let v = unread_before j entry past u in
      let p = and_parts (reads_late j (entry ∷ past)) (all_along (reads_late j) past) r in
      let was : is_some (first_clock 0 past) ≡ true = elim (cases_Bool (is_ready j past)) [
        | inl f ↦ ready_late past v.1 p.1 f
        | inr f ↦ late entry past v.0 p.0 (or_right (not (is_empty_list (came_for j (last_request 0 (requests j past)) entry past))) (is_ready j (entry ∷ past) && not (is_ready j past))
            (and_from (is_ready j (entry ∷ past)) (not (is_ready j past)) e (ap not f)))
      ] in
      ap (λ (o : Option ℕ). is_some o) (first_before 0 {q = past} {past = entry ∷ past} (earlier entry here) was) ∙ was

  -- a request comes to stand with an acknowledged save only once the kernel is ready
  pub anew_ready : (entry : Entry) (past : List Entry) → is_acknowledging j (entry ∷ past) ≡ true → stands_anew j entry past ≡ true → is_ready j past ≡ true
  anew_ready entry past a s = by (cases_Bool (is_ready j past))
    where
      by : (is_ready j past ≡ true) ⊎ (is_ready j past ≡ false) → is_ready j past ≡ true
      by (inl f) = f
      by (inr f) =
          let none : requests j (entry ∷ past) ≡ [] = none_unready j (entry ∷ past) (ready_unheard j entry past (sync_brings_nothing j entry past a) ∙ f) in
          let l = ltb-true (length (requests j past)) (length (requests j (entry ∷ past))) s in
          let n : length (requests j (entry ∷ past)) ≡ 0 = ap (λ (rs : List Request). length rs) none in
          absurd (omega (arith, l, n))

  whole_time : (past : List Entry) → HearsLooks j past → events.time (told_on (course j past).held (course j past).told) ≡ (whole 0 j past).now
  whole_time past l =
      now_is 0 (told_on (course j past).held (course j past).told)
      ∙ ap (λ (s : Seen). s.now) (seen_on 0 (course j past).held (course j past).told ∙ sym (whole_held j 0 past (looks_kept j past l)))

  pub time_on : (es told : List Event) → events.came events.is_moment es ≡ false → events.time (told_on es told) ≡ events.time told
  time_on [] told e = refl
  time_on (x ∷ es) told e = let p = or_parts (events.is_moment x) (events.came events.is_moment es) e in time_on es (x ∷ told) p.1 ∙ one x p.0
    where
      one : (x : Event) → events.is_moment x ≡ false → events.time (x ∷ told) ≡ events.time told
      one (event.Moment ms) f = cc
      one event.Saved f = refl
      one event.Ready f = refl
      one (event.Io b) f = refl
      one (event.Reply b) f = refl
      one event.Looked f = refl
      one event.Lost f = refl
      one event.Broken f = refl

  pub implied : (b c : Bool) → (b ≡ true → c ≡ true) → (not b || c) ≡ true
  implied true c f = f refl
  implied false c f = refl

  kept : (past : List Entry) → KeepsRules jobs j past → HearsLooks j past → RanAtWait j past → BeginsUnread j past → all_along (reads_late j) past ≡ true → all_along (holds_no_clock j) past ≡ true → KeepsTime j past
  kept [] k l h u r n = refl
  kept (entry ∷ past) k l h u r n =
      let m = (and_parts (hears_looks j (entry ∷ past)) (all_along (hears_looks j) past) l).1 in
      let v = unread_before j entry past u in
      let p = and_parts (reads_late j (entry ∷ past)) (all_along (reads_late j) past) r in
      let q = and_parts (holds_no_clock j (entry ∷ past)) (all_along (holds_no_clock j) past) n in
      let i = dates 0 jobs j past (rules_before jobs j entry past k) (ran_before jobs j entry past k h) in
      and_from (keeps_time j (entry ∷ past)) (all_along (keeps_time j) past)
      (and_from _ _
      (implied (is_acknowledging j (entry ∷ past) && stands_anew j entry past) _ (λ e.
      let a = and_parts (is_acknowledging j (entry ∷ past)) (stands_anew j entry past) e in
      eq-eqb _ _ (sym (time_on (course j past).held (course j past).told (unheld j past q.1)) ∙ whole_time past m ∙ i.now (ready_late past v.1 p.1 (anew_ready entry past a.0 a.1)))))
      (implied (brings j entry past) _ (λ e. eq-eqb _ _ (whole_time past m ∙ i.now (late entry past v.0 p.0 e)))))
      (kept past (rules_before jobs j entry past k) m (ran_before jobs j entry past k h) v.1 p.1 q.1)

pub time_is_kept : (jobs : List Job) (j : Job) (past : List Entry) → KeepsRules jobs j past → HearsLooks j past → RanAtWait j past → TellsRightly j past → all_along (reads_late j) past ≡ true → all_along (holds_no_clock j) past ≡ true → KeepsTime j past
time_is_kept jobs j past k l h t r n = kept jobs j past k l h (begins_unread_by jobs j past k.among k.awake t) r n
