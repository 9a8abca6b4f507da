-- By the loop's rules no clock entry comes after the stop, so the core's clock is the journal's wherever it counts.
use Rattle.std.proofs.Common.{◌≡◌, inl, inr, ℕ, ◌<◌, List, [], ◌∷◌, ◌++◌, length, Bool, true, false, ◌&&◌, ◌||◌, not, cond, Option, Some, None, refl, sym, ◌∙◌, ap, arith}
use Rattle.std.specs.Prelude.{is_some, if◌then◌else◌, nat_lt, ◌==◌}
use Rattle.std.proofs.lemmas.Bool.{and_parts, or_parts, cases_Bool, cond-true, cond-false, cond_both, eqb-true, false_from_ne_true, not-true}
use Rattle.std.proofs.Math.Bool.{and-not_self, and-false}
use Rattle.world.specs.declared.chan.Chan.{Chan}
use Rattle.world.specs.declared.connected.Connected.{Connected}
use Rattle.world.specs.declared.connected.Connected.TheVariants as connected
use Rattle.world.specs.declared.did.Did.TheVariants as did
use Rattle.world.specs.declared.entry.Entry.{Entry}
use Rattle.world.specs.declared.entry.Entry.TheVariants as made
use Rattle.world.specs.Places.{Status, is_at, connected_after, closed_after, got_after, ended_after, refused_after, time}
use Rattle.world.specs.Waits.{is_wait, has_wait, is_after_wait, moment_of}
use Rattle.cell_core.specs.declared.event.Event.{Event}
use Rattle.cell_core.specs.declared.event.Event.TheVariants as event
use Rattle.cell_core.specs.Acts.{awaits_saved, has_stopped, heard}
use Rattle.cell_core.specs.Events as events
use Rattle.cell_core.specs.declared.why.Why.{Why}
use Rattle.run_journal.specs.Job.{Job}
use Rattle.run_journal.specs.Parts.{channels, place, connection, bytes_got, turn_clock, saves_of, is_acknowledging, is_running}
use Rattle.run_journal.specs.Arrivals.{is_ready}
use Rattle.run_journal.specs.Requests.{is_broken, requests, last_request}
use Rattle.run_journal.specs.Why.{is_done, is_error, why}
use Rattle.run_journal.specs.Due.{all_along}
use Rattle.run_journal.specs.Decoding.{IsDecoding}
use Rattle.run_journal.specs.Awake.{in_order, reads_clock}
use Rattle.run_journal.specs.Course.{begins_at, clock_event, when_so, ends_look, is_late, events_at, Course, tell, late_then, told_saved, course}
use Rattle.run_journal.specs.Agreement.{IsAmong, BringsNothing, Flows, told_on, is_dated, at_once, draws, drawn_clock, starts_in_turn, holds_no_clock}
use Rattle.run_journal.proofs.Agreeing.{agree_unheard, ready_unheard}
use Rattle.run_journal.proofs.Hearing.{none_unready}
use Rattle.run_journal.proofs.Flowing.{Tells, front, tell_front, rest_at, core_at, events_are, core_nothing, course_agrees, lost_at, look_at, broken_at, turn_at}
use Rattle.run_journal.proofs.Asking.{done_same, error_same}
use Rattle.run_journal.proofs.Telling.{came_append, add_none, none_when, none_core, any_none, unheld}
use Rattle.run_journal.proofs.Dating.{Seen, seen, see, run, run_append, seen_on, now_is, whole, clocks_at, late_undated}
use Rattle.run_journal.proofs.Dropping.{stops, tell_mute, stop_saved, held_none, dropped, whole_told}
use Rattle.run_journal.proofs.Lasting.{once_rows}
use Rattle.run_journal.proofs.Running.{or_off, start_parts}
use Rattle.run_journal.proofs.Turning.{quiet_entry, turn_none, drawn_then, clocks_none}
use Rattle.run_journal.proofs.Turns.{turn_is}
use Rattle.run_journal.proofs.Lapse.{short_look}
use Rattle.run_journal.proofs.Rereading.{read_awake}
use Rattle.run_journal.proofs.Showing.{Shown, at, look, shown}
use Rattle.run_journal.proofs.Keeping.{stopped_cause}
use Rattle.run_journal.proofs.Settling.{Given, given_before, unstopped_at}
use Rattle.run_journal.proofs.Truths.{not_both, if_some}
use Rattle.run_journal.proofs.AlikeLooks.{any_agree}

-- ---- before the first wait nothing is read

record Unread (s : Status) : Type 0 where
  asleep : s.awake ≡ false
  empty : s.got ≡ []

at_its : (b : Bool) (s t : Status) → (b ≡ true → Unread s) → Unread t → Unread (cond b s t)
at_its true s t f g = f refl
at_its false s t f g = g

begun_unread : (how : Connected) (port clock : ℕ) (s : Status) → Unread s → Unread (connected_after how port clock s)
begun_unread connected.Begun port clock s i = record { asleep = i.asleep; empty = refl }
begun_unread connected.Refused port clock s i = record { asleep = i.asleep; empty = refl }
begun_unread connected.Failed port clock s i = record { asleep = i.asleep; empty = refl }

module _ (jobs : List Job) (j : Job) (c : Chan) (m : IsAmong j jobs) where
  unread_next : (entry : Entry) (past : List Entry) → Unread (connection j c past) → in_order jobs (entry ∷ past) ≡ true → is_wait entry ≡ false → Unread (connection j c (entry ∷ past))
  unread_next (made.Connected conn port how) past i o w = at_its (is_at (place j c) conn) _ (connection j c past) (λ f. begun_unread how port (time past) (connection j c past) i) i
  unread_next (made.Closed conn) past i o w = at_its (is_at (place j c) conn) (closed_after (connection j c past)) (connection j c past) (λ f. record { asleep = refl; empty = i.empty }) i
  unread_next (made.Got conn room bytes) past i o w =
      at_its (is_at (place j c) conn) (got_after bytes (connection j c past)) (connection j c past) (λ f. absurd (not_both (connection j c past).awake (read_awake jobs j c m conn room bytes past o f) i.asleep)) i
  unread_next (made.Dry conn) past i o w = at_its (is_at (place j c) conn) _ (connection j c past) (λ f. record { asleep = refl; empty = i.empty }) i
  unread_next (made.Ended conn by) past i o w = at_its (is_at (place j c) conn) (ended_after (connection j c past)) (connection j c past) (λ f. record { asleep = refl; empty = i.empty }) i
  unread_next (made.Refused conn by) past i o w = at_its (is_at (place j c) conn) (refused_after (time past) (connection j c past)) (connection j c past) (λ f. record { asleep = refl; empty = i.empty }) i
  unread_next (made.ReadFailed conn) past i o w = at_its (is_at (place j c) conn) _ (connection j c past) (λ f. record { asleep = refl; empty = i.empty }) i
  unread_next (made.Put conn bytes) past i o w = at_its (is_at (place j c) conn) _ (connection j c past) (λ f. record { asleep = i.asleep; empty = i.empty }) i
  unread_next (made.Stuck conn) past i o w = at_its (is_at (place j c) conn) _ (connection j c past) (λ f. record { asleep = i.asleep; empty = i.empty }) i
  unread_next (made.PutFailed conn) past i o w = at_its (is_at (place j c) conn) _ (connection j c past) (λ f. record { asleep = i.asleep; empty = i.empty }) i
  unread_next (made.Waited ms places how) past i o w = cc
  unread_next _ past i o w = i

  unread_all : (past : List Entry) → all_along (in_order jobs) past ≡ true → has_wait past ≡ false → Unread (connection j c past)
  unread_all [] o w = record { asleep = refl; empty = refl }
  unread_all (entry ∷ past) o w =
      let p = and_parts (in_order jobs (entry ∷ past)) (all_along (in_order jobs) past) o in
      let v = or_parts (is_wait entry) (has_wait past) w in
      unread_next entry past (unread_all past p.1 v.1) p.0 v.0

module _ (jobs : List Job) (j : Job) (m : IsAmong j jobs) where
  pub no_bytes : (past : List Entry) → all_along (in_order jobs) past ≡ true → has_wait past ≡ false → (c : Chan) → bytes_got j c past ≡ []
  no_bytes past o w c = (unread_all jobs j c m past o w).empty

  pub not_ready : (past : List Entry) → all_along (in_order jobs) past ≡ true → has_wait past ≡ false → is_ready j past ≡ false
  not_ready [] o w = refl
  not_ready (entry ∷ past) o w =
      let p = and_parts (in_order jobs (entry ∷ past)) (all_along (in_order jobs) past) o in
      let v = or_parts (is_wait entry) (has_wait past) w in
      ready_unheard j entry past (λ c. no_bytes (entry ∷ past) o w c ∙ sym (no_bytes past p.1 v.1 c)) ∙ not_ready past p.1 v.1

  not_broken : IsDecoding j.codec → (past : List Entry) → all_along (in_order jobs) past ≡ true → has_wait past ≡ false → is_broken j past ≡ false
  unfolding is_broken
  not_broken d past o w = any_none _ (λ c. ap (λ bs. is_some (j.codec.fault c bs)) (no_bytes past o w c) ∙ ap (λ (v : Option (ℕ × ℕ)). is_some v) (d.no_fault c)) channels

  pub not_at_once : IsDecoding j.codec → 0 < length j.task.plan → (past : List Entry) → all_along (in_order jobs) past ≡ true → has_wait past ≡ false → is_some (at_once (why j past)) ≡ false
  not_at_once d plan past o w =
      let none = none_unready j past (not_ready past o w) in
      once_rows j past
      ∙ ap (λ rs. is_done j (saves_of j past) rs || (is_error j (last_request 0 rs) || is_broken j past)) none
      ∙ ap (λ b. b || (false || is_broken j past)) (not_done (saves_of j past))
      ∙ not_broken d past o w
    where
      not_done : (n : ℕ) → is_done j n [] ≡ false
      not_done n =
          let some : (length j.task.plan == 0) ≡ false = false_from_ne_true (length j.task.plan == 0) (λ f. let z = eqb-true (length j.task.plan) 0 f in absurd (omega (arith, z, plan))) in
          cond-false (length j.task.plan == 0) _ _ some ∙ and-false (0 == length j.task.plan)

-- a wait brings nothing
pub wait_brings : (j : Job) (entry : Entry) (past : List Entry) → is_wait entry ≡ true → BringsNothing j entry past
wait_brings j (made.Waited ms places did.Done) past w = λ c. refl
wait_brings j (made.Waited ms places did.Failed) past w = λ c. refl
wait_brings j _ past w = cc

pub wait_unacked : (j : Job) (entry : Entry) (past : List Entry) → is_wait entry ≡ true → is_acknowledging j (entry ∷ past) ≡ false
wait_unacked j (made.Waited ms places how) past w = refl
wait_unacked j _ past w = cc

pub broken_as : (j : Job) (entry : Entry) (past : List Entry) → BringsNothing j entry past → is_broken j (entry ∷ past) ≡ is_broken j past
unfolding is_broken
broken_as j entry past b = any_agree (λ c. is_some (j.codec.fault c (bytes_got j c (entry ∷ past)))) (λ c. is_some (j.codec.fault c (bytes_got j c past))) (λ c. ap (λ bs. is_some (j.codec.fault c bs)) (b c)) channels

-- so it stops nothing at once
wait_once : (j : Job) (entry : Entry) (past : List Entry) → 0 < length j.task.plan → Flows j past → is_wait entry ≡ true → is_some (at_once (why j (entry ∷ past))) ≡ is_some (at_once (why j past))
wait_once j entry past plan f w =
    let a = course_agrees j past f in
    let b = agree_unheard j entry (course j past).told past (wait_brings j entry past w) (wait_unacked j entry past w) a in
    once_rows j (entry ∷ past)
    ∙ ap (λ v. v || (is_error j (last_request 0 (requests j (entry ∷ past))) || is_broken j (entry ∷ past))) (sym (done_same j (course j past).told (entry ∷ past) b plan) ∙ done_same j (course j past).told past a plan)
    ∙ ap (λ v. is_done j (saves_of j past) (requests j past) || (v || is_broken j (entry ∷ past))) (sym (error_same j (course j past).told (entry ∷ past) b) ∙ error_same j (course j past).told past a)
    ∙ ap (λ v. is_done j (saves_of j past) (requests j past) || (is_error j (last_request 0 (requests j past)) || v)) (broken_as j entry past (wait_brings j entry past w))
    ∙ sym (once_rows j past)

-- ---- no clock entry comes after the stop

undated_unclocked : (es : List Event) → events.came is_dated es ≡ false → events.came events.is_moment es ≡ false
undated_unclocked [] e = refl
undated_unclocked (x ∷ es) e = let p = or_parts (is_dated x) (events.came is_dated es) e in ap (λ b. b || events.came events.is_moment es) (by x p.0) ∙ undated_unclocked es p.1
  where
    by : (x : Event) → is_dated x ≡ false → events.is_moment x ≡ false
    by (event.Moment ms) h = cc
    by event.Looked h = refl
    by event.Saved h = refl
    by event.Ready h = refl
    by (event.Io b) h = refl
    by (event.Reply f) h = refl
    by event.Lost h = refl
    by event.Broken h = refl

-- what an entry gives besides the clock
pub events_clock : (j : Job) (entry : Entry) (past : List Entry) → events.came events.is_moment (clocks_at j entry past) ≡ false → events.came events.is_moment (events_at j entry past (course j past).late) ≡ false
events_clock j entry past none =
    ap (events.came events.is_moment) (events_are j entry past (course j past).late)
    ∙ add_none events.is_moment (core_at j entry past) (rest_at j entry past (course j past).late) false (none_core events.is_moment j entry past (λ b. refl) (λ f. refl) refl)
    (add_none events.is_moment (((broken_at j entry past ++ begins_at j entry past) ++ turn_at j entry past) ++ lost_at j entry past) (look_at j entry past (course j past).late) false
    (add_none events.is_moment ((broken_at j entry past ++ begins_at j entry past) ++ turn_at j entry past) (lost_at j entry past) false
    (add_none events.is_moment (broken_at j entry past ++ begins_at j entry past) (turn_at j entry past) false
    (add_none events.is_moment (broken_at j entry past) (begins_at j entry past) false (none_when events.is_moment _ event.Broken refl) parts.0) parts.1)
    (none_when events.is_moment _ event.Lost refl))
    (cond_both (ends_look j entry past) (event.Looked ∷ (course j past).late ++ when_so (is_late j entry past) event.Lost) [] (λ es. events.came events.is_moment es ≡ false)
    (λ h. add_none events.is_moment (course j past).late _ false (undated_unclocked (course j past).late (late_undated j past)) (none_when events.is_moment (is_late j entry past) event.Lost refl)) (λ h. refl)))
  where
    parts : (events.came events.is_moment (begins_at j entry past) ≡ false) × (events.came events.is_moment (turn_at j entry past) ≡ false)
    parts = or_parts (events.came events.is_moment (begins_at j entry past)) (events.came events.is_moment (turn_at j entry past)) (sym (came_append events.is_moment (begins_at j entry past) (turn_at j entry past)) ∙ none)

-- ---- what is told

module _ (j : Job) (t : Event → Bool) where
  -- where there is none of a kind, none waits then, and none comes after the stop
  tell_neither : (told late es : List Event) → events.came t es ≡ false → (events.came t (tell j told late es).held ≡ false) × (events.came t (tell j told late es).unheard ≡ false)
  tell_neither told late es e = by (tell_front j told late es)
    where
      now : Course
      now = tell j told late es

      by : Tells j told es now → (events.came t now.held ≡ false) × (events.came t now.unheard ≡ false)
      by (front xs f g) =
          or_parts (events.came t now.held) (events.came t now.unheard)
          (sym (came_append t now.held now.unheard)
          ∙ (or_parts (events.came t xs) (events.came t (now.held ++ now.unheard)) (sym (came_append t xs (now.held ++ now.unheard)) ∙ ap (events.came t) f ∙ e)).1)

  tell_none : (told late es : List Event) → events.came t es ≡ false → events.came t (tell j told late es).unheard ≡ false
  tell_none told late es e = (tell_neither told late es e).1

  pub tell_none_held : (told late es : List Event) → events.came t es ≡ false → events.came t (tell j told late es).held ≡ false
  tell_none_held told late es e = (tell_neither told late es e).0

module _ (j : Job) where
  -- what waits does so while a save is awaited
  tell_awaits : (told late es : List Event) (x : Event) (xs : List Event) → (tell j told late es).held ≡ x ∷ xs → awaits_saved j.task (tell j told late es).told ≡ true
  tell_awaits told late [] x xs = λ e. cc
  tell_awaits told late (y ∷ es) x xs =
      cond_both (has_stopped j.task (heard j.task told)) (record { told = told; held = []; late = []; unheard = y ∷ es })
      (cond (awaits_saved j.task told) (record { told = told; held = y ∷ es; late = late; unheard = [] }) (tell j (y ∷ told) late es)) (λ (c : Course). c.held ≡ x ∷ xs → awaits_saved j.task c.told ≡ true) (λ h e. cc)
      (λ h. cond_both (awaits_saved j.task told) (record { told = told; held = y ∷ es; late = late; unheard = [] }) (tell j (y ∷ told) late es) (λ (c : Course). c.held ≡ x ∷ xs → awaits_saved j.task c.told ≡ true)
      (λ w e. w) (λ w. tell_awaits (y ∷ told) late es x xs))

  pub held_awaits : (past : List Entry) (x : Event) (xs : List Event) → (course j past).held ≡ x ∷ xs → awaits_saved j.task (course j past).told ≡ true
  held_awaits [] x xs e = cc
  held_awaits (entry ∷ past) x xs e = tell_awaits (told_saved j entry past (course j past).told) (late_then j entry past (course j past).late) ((course j past).held ++ events_at j entry past (course j past).late) x xs e

  -- then nothing comes after the stop
  tell_waits : (told late es : List Event) → stops j told ≡ false → awaits_saved j.task told ≡ true → (tell j told late es).unheard ≡ []
  tell_waits told late [] s w = refl
  tell_waits told late (y ∷ es) s w =
      cond_both (has_stopped j.task (heard j.task told)) (record { told = told; held = []; late = []; unheard = y ∷ es })
      (cond (awaits_saved j.task told) (record { told = told; held = y ∷ es; late = late; unheard = [] }) (tell j (y ∷ told) late es)) (λ (c : Course). c.unheard ≡ []) (λ h. absurd (not_both (stops j told) h s))
      (λ h. cond_both (awaits_saved j.task told) (record { told = told; held = y ∷ es; late = late; unheard = [] }) (tell j (y ∷ told) late es) (λ (c : Course). c.unheard ≡ []) (λ v. refl) (λ v. absurd (not_both (awaits_saved j.task told) w v)))

  -- a clock entry first, and then none
  tell_moment : (told late es : List Event) (ms : ℕ) → stops j told ≡ false → events.came events.is_moment es ≡ false → events.came events.is_moment (tell j told late (event.Moment ms ∷ es)).unheard ≡ false
  tell_moment told late es ms s n =
      cond_both (has_stopped j.task (heard j.task told)) (record { told = told; held = []; late = []; unheard = event.Moment ms ∷ es })
      (cond (awaits_saved j.task told) (record { told = told; held = event.Moment ms ∷ es; late = late; unheard = [] }) (tell j (event.Moment ms ∷ told) late es)) (λ (c : Course). events.came events.is_moment c.unheard ≡ false)
      (λ h. absurd (not_both (stops j told) h s))
      (λ h. cond_both (awaits_saved j.task told) (record { told = told; held = event.Moment ms ∷ es; late = late; unheard = [] }) (tell j (event.Moment ms ∷ told) late es) (λ (c : Course). events.came events.is_moment c.unheard ≡ false)
      (λ v. refl) (λ v. tell_none j events.is_moment (event.Moment ms ∷ told) late es n))

  -- after what waits
  tell_behind : (past : List Entry) (held late es : List Event) (ms : ℕ) → (course j past).held ≡ held → stops j (course j past).told ≡ false → events.came events.is_moment es ≡ false
      → events.came events.is_moment (tell j (course j past).told late (held ++ event.Moment ms ∷ es)).unheard ≡ false
  tell_behind past [] late es ms h s n = tell_moment (course j past).told late es ms s n
  tell_behind past (x ∷ xs) late es ms h s n = ap (events.came events.is_moment) (tell_waits (course j past).told late ((x ∷ xs) ++ event.Moment ms ∷ es) s (held_awaits past x xs h))

-- An entry that gives a clock entry gives it first, and brings nothing.
pub record GivesClock (j : Job) (entry : Entry) (past : List Entry) : Type 0 where
  pub nothing : BringsNothing j entry past
  pub unacked : is_acknowledging j (entry ∷ past) ≡ false
  pub ms : ℕ
  pub clocks : clocks_at j entry past ≡ event.Moment ms ∷ []

only_begins : (j : Job) (running : Bool) (o : Option ℕ) (b : Bool) (ms : ℕ) → o ≡ None → events.came events.is_moment ((if b then event.Moment ms ∷ [] else []) ++ (if running then clock_event o else [])) ≡ true
    → (if b then event.Moment ms ∷ [] else []) ++ (if running then clock_event o else []) ≡ event.Moment ms ∷ []
only_begins j true None true ms e f = refl
only_begins j false None true ms e f = refl
only_begins j true None false ms e f = cc
only_begins j false None false ms e f = cc
only_begins j running (Some x) b ms e f = cc

only_turn : (running : Bool) (o : Option ℕ) → events.came events.is_moment (if running then clock_event o else []) ≡ true → (ms : ℕ) × ((if running then clock_event o else []) ≡ event.Moment ms ∷ [])
only_turn true (Some ms) e = (ms, refl)
only_turn true None e = cc
only_turn false o e = cc

no_turn : (running waited : Bool) → events.came events.is_moment (if running then clock_event (if waited then None else None) else []) ≡ true → ⊥
no_turn true true e = cc
no_turn true false e = cc
no_turn false waited e = cc

pub gives_clock : (j : Job) (entry : Entry) (past : List Entry) → events.came events.is_moment (clocks_at j entry past) ≡ true → GivesClock j entry past
gives_clock j (made.Ports job ports) past e = record {
  nothing = λ c. refl;
  unacked = refl;
  ms = time past;
  clocks = only_begins j (is_running j past) (turn_clock (made.Ports job ports ∷ past)) (job == j.number) (time past) (turn_none (made.Ports job ports) past refl) e;
}
gives_clock j (made.Moment t) past e = let p = only_turn (is_running j past) (turn_clock (made.Moment t ∷ past)) e in record { nothing = λ c. refl; unacked = refl; ms = p.0; clocks = p.1 }
gives_clock j _ past e = absurd (no_turn (is_running j past) (has_wait past) e)

module _ (j : Job) (entry : Entry) (past : List Entry) (g : GivesClock j entry past) where
  abbrev pub behind : List Event
  behind = lost_at j entry past ++ look_at j entry past (course j past).late

  pub gives_first : events_at j entry past (course j past).late ≡ event.Moment g.ms ∷ behind
  gives_first =
      events_are j entry past (course j past).late
      ∙ ap (λ v. v ++ rest_at j entry past (course j past).late) (core_nothing j entry past g.nothing)
      ∙ ap (λ b. when_so (b && not (is_broken j past)) event.Broken ++ begins_at j entry past ++ turn_at j entry past ++ lost_at j entry past ++ look_at j entry past (course j past).late) (broken_as j entry past g.nothing)
      ∙ ap (λ b. when_so b event.Broken ++ begins_at j entry past ++ turn_at j entry past ++ lost_at j entry past ++ look_at j entry past (course j past).late) (and-not_self (is_broken j past))
      ∙ ap (λ v. (v ++ lost_at j entry past) ++ look_at j entry past (course j past).late) g.clocks

  pub behind_none : events.came events.is_moment behind ≡ false
  behind_none =
      add_none events.is_moment (lost_at j entry past) _ false (none_when events.is_moment _ event.Lost refl)
      (cond_both (ends_look j entry past) (event.Looked ∷ (course j past).late ++ when_so (is_late j entry past) event.Lost) [] (λ es. events.came events.is_moment es ≡ false)
      (λ h. add_none events.is_moment (course j past).late _ false (undated_unclocked (course j past).late (late_undated j past)) (none_when events.is_moment (is_late j entry past) event.Lost refl)) (λ h. refl))

-- ---- along a journal

module _ (jobs : List Job) (j : Job) (dec : IsDecoding j.codec) (plan : 0 < length j.task.plan) (limits : (ms : ℕ) → j.task.times.limit_ms ≡ Some ms → 0 < ms) where
  after_wait : (past : List Entry) → Given jobs j past → is_after_wait past ≡ true → is_some (at_once (why j past)) ≡ true → ⊥
  after_wait [] g w e = cc
  after_wait (entry ∷ past) g w e =
      by (why j past) (unstopped_at jobs j dec plan limits entry past g w) (sym (wait_once j entry past plan (given_before jobs j entry past g).flows w) ∙ e)
    where
      by : (o : Option Why) → o ≡ None → is_some (at_once o) ≡ true → ⊥
      by None f h = cc
      by (Some x) f h = cc

  -- after the stop no clock is given
  stopped_clock : (entry : Entry) (past : List Entry) → Given jobs j (entry ∷ past) → stops j (course j past).told ≡ true → events.came events.is_moment (clocks_at j entry past) ≡ false
  stopped_clock entry past g s = by (shown jobs j past b.rules b.ran b.flows b.time plan dec b.unread limits (stopped_cause j plan past b.flows s))
    where
      b : Given jobs j past
      b = given_before jobs j entry past g

      reads : reads_clock jobs (entry ∷ past) ≡ true
      reads = (and_parts (reads_clock jobs (entry ∷ past)) (all_along (reads_clock jobs) past) g.rules.awake.clock).0

      was_not : draws j entry ≡ true → is_some (drawn_clock j past) ≡ false
      was_not e =
          not-true (is_some (drawn_clock j past))
          (and_parts (not (is_some (drawn_clock j past))) (nat_lt 0 (saves_of j past))
          (or_off (draws j entry) _ (start_parts j entry past (and_parts (starts_in_turn j (entry ∷ past)) (all_along (starts_in_turn j) past) g.rules.start).0).0 e)).0

      undrawn : has_wait past ≡ true → draws j entry ≡ false
      undrawn w = false_from_ne_true (draws j entry) (λ e. not_both (is_some (drawn_clock j past)) (drawn_then 0 jobs j entry past g.rules g.ran w) (was_not e))

      still : has_wait past ≡ true → moment_of entry ≡ None → events.came events.is_moment (clocks_at j entry past) ≡ false
      still w e = ap (events.came events.is_moment) (clocks_none 0 jobs j entry past g.rules g.ran (undrawn w) (turn_none entry past e))

      at_clock : has_wait past ≡ true → (o : Option ℕ) → moment_of entry ≡ o → is_some (at_once (why j past)) ≡ true → events.came events.is_moment (clocks_at j entry past) ≡ false
      at_clock w None e y = still w e
      at_clock w (Some ms) e y =
          absurd (after_wait past b (if_some (is_after_wait past) (moment_of entry) ms (sym (turn_is jobs entry past reads) ∙ cond-true (has_wait past) (moment_of entry) None w ∙ e)) y)

      by : Shown jobs j past b.rules b.ran b.flows b.time plan dec b.unread limits → events.came events.is_moment (clocks_at j entry past) ≡ false
      by (look w c l y) = still w (quiet_entry jobs j entry past g.rules.among reads w c (short_look j past l))
      by (at y) = elim (cases_Bool (has_wait past)) [
        | inl w ↦ at_clock w (moment_of entry) refl y
        | inr w ↦ absurd (not_both (is_some (at_once (why j past))) y (not_at_once jobs j b.rules.among dec plan past b.rules.awake.only_awake w))
      ]

  -- so none came after it
  pub unclocked : (past : List Entry) → Given jobs j past → all_along (holds_no_clock j) past ≡ true → events.came events.is_moment (dropped j past) ≡ false
  unclocked [] g n = refl
  unclocked (entry ∷ past) g n =
      came_append events.is_moment (dropped j past) (course j (entry ∷ past)).unheard
      ∙ ap (λ v. v || events.came events.is_moment (course j (entry ∷ past)).unheard) (unclocked past b p.1)
      ∙ elim (cases_Bool (stops j (course j past).told)) [
        | inl s ↦
            ap (events.came events.is_moment)
            ((tell_mute j told0 late0 (c.held ++ es) (stop_saved j c.told (is_acknowledging j (entry ∷ past)) s)).all_dropped ∙ ap (λ hs. hs ++ es) (held_none j past s))
            ∙ events_clock j entry past (stopped_clock entry past g s)
        | inr s ↦ elim (cases_Bool (events.came events.is_moment (clocks_at j entry past))) [
          | inl e ↦ first s (gives_clock j entry past e)
          | inr e ↦ tell_none j events.is_moment told0 late0 (c.held ++ es) (add_none events.is_moment c.held es false (unheld j past p.1) (events_clock j entry past e))
        ]
      ]
    where
      b : Given jobs j past
      b = given_before jobs j entry past g

      p : (holds_no_clock j (entry ∷ past) ≡ true) × (all_along (holds_no_clock j) past ≡ true)
      p = and_parts (holds_no_clock j (entry ∷ past)) (all_along (holds_no_clock j) past) n

      c : Course
      c = course j past

      es : List Event
      es = events_at j entry past c.late

      told0 : List Event
      told0 = told_saved j entry past c.told

      late0 : List Event
      late0 = late_then j entry past c.late

      first : stops j c.told ≡ false → GivesClock j entry past → events.came events.is_moment (course j (entry ∷ past)).unheard ≡ false
      first s v =
          ap (λ t. events.came events.is_moment (tell j t late0 (c.held ++ es)).unheard) (cond-false (is_acknowledging j (entry ∷ past)) (event.Saved ∷ c.told) c.told v.unacked)
          ∙ ap (λ xs. events.came events.is_moment (tell j c.told late0 (c.held ++ xs)).unheard) (gives_first j entry past v)
          ∙ tell_behind j past c.held late0 (behind j entry past v) v.ms refl s (behind_none j entry past v)

-- ---- the core's clock

see_now : (d : ℕ) (e : Event) (s : Seen) → events.is_moment e ≡ false → (see d e s).now ≡ s.now
see_now d (event.Moment ms) s h = cc
see_now d event.Looked s h = refl
see_now d event.Saved s h = refl
see_now d event.Ready s h = refl
see_now d (event.Io b) s h = refl
see_now d (event.Reply f) s h = refl
see_now d event.Lost s h = refl
see_now d event.Broken s h = refl

run_now : (d : ℕ) (es : List Event) (s : Seen) → events.came events.is_moment es ≡ false → (run d es s).now ≡ s.now
run_now d [] s h = refl
run_now d (e ∷ es) s h = let p = or_parts (events.is_moment e) (events.came events.is_moment es) h in run_now d es (see d e s) p.1 ∙ see_now d e s p.0

pub whole_now : (j : Job) (past : List Entry) → events.came events.is_moment (dropped j past) ≡ false → events.time (told_on (course j past).held (course j past).told) ≡ (whole 0 j past).now
whole_now j past e =
    now_is 0 (told_on (course j past).held (course j past).told)
    ∙ ap (λ (s : Seen). s.now) (seen_on 0 (course j past).held (course j past).told)
    ∙ sym (ap (λ (s : Seen). s.now) (whole_told j 0 past ∙ run_append 0 (course j past).held (dropped j past) (seen 0 (course j past).told))
    ∙ run_now 0 (dropped j past) (run 0 (course j past).held (seen 0 (course j past).told)) e)
