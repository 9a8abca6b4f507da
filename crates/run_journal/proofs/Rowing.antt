-- Each row of the causes holds for the core where it holds by the journal.
use Rattle.std.proofs.Common.{◌≡◌, ◌⊎◌, inl, inr, ℕ, zero, suc, ◌+◌, ◌<◌, ◌≤◌, List, [], ◌∷◌, length, Bool, true, false, ◌&&◌, not, Option, Some, None, refl, sym, ◌∙◌, ap, subst, arith}
use Rattle.std.specs.Prelude.{is_some, is_none, option_map, option_to_list, slice_get, if◌then◌else◌, IsSomeAnd}
use Rattle.std.proofs.lemmas.Bool.{and_from, cond-true, cond-false, false_from_ne_true, not_from_false}
use Rattle.world.specs.declared.entry.Entry.{Entry}
use Rattle.world.specs.Places.{time}
use Rattle.world.specs.Waits.{has_wait, before_wait}
use Rattle.cell_core.specs.declared.event.Event.{Event}
use Rattle.cell_core.specs.Task.{Task}
use Rattle.cell_core.specs.Deadlines.{idle_ms, interrupt_ms, replied_at, second_deadline, entry_and_more, start_from, start_deadline as core_start, is_unanswered, is_queued, looked_by}
use Rattle.cell_core.specs.Events as events
use Rattle.cell_core.specs.Requests as core
use Rattle.cell_core.specs.Saves as core_saves
use Rattle.run_journal.specs.Codec.{Arrival}
use Rattle.run_journal.specs.Job.{Job}
use Rattle.run_journal.specs.Parts.{saves_of, is_running}
use Rattle.run_journal.specs.Arrivals.{is_ready}
use Rattle.run_journal.specs.Looks.{ever, is_lost, is_past, ran_out}
use Rattle.run_journal.specs.Requests.{Request, has_idle, reply, is_over, first_clock, before_clock, deadline, is_broken, requests, last_request}
use Rattle.run_journal.specs.Why.{child_clock, is_out, is_not_ready, is_no_idle, is_timed_out, last_deadline}
use Rattle.run_journal.specs.Decoding.{IsDecoding}
use Rattle.run_journal.specs.Awake.{request_deadline, wait_deadline, reply_deadline, is_called_for}
use Rattle.run_journal.specs.Course.{course}
use Rattle.run_journal.specs.Agreement.{AgreesOn, Agrees, ClocksOn, Clocks, BeginsUnread, Flows, KeepsTime, is_dated, drawn_clock, KeepsRules}
use Rattle.run_journal.proofs.Growth.{reply_stays, over_stays}
use Rattle.run_journal.proofs.Flowing.{course_agrees}
use Rattle.run_journal.proofs.Asking.{Stands, nothing, last, stands, last_numbered}
use Rattle.run_journal.proofs.Clocks.{clocks_agree}
use Rattle.run_journal.proofs.Dating.{Seen, seen, start_is, first_is, found_is, queued_is, whole, clock_in}
use Rattle.run_journal.proofs.Dropping.{dropped, told_whole}
use Rattle.run_journal.proofs.Running.{running_parts, any_before, RanAtWait, child_drawn, begun_child, drawn_acked}
use Rattle.run_journal.proofs.Turning.{first_waited, dates}
use Rattle.run_journal.proofs.Lapse.{Before, wait_was, ever_before, rules_at, clock_from, first_ever, first_before, ran_parts, Left, found_ran, ran_found}
use Rattle.run_journal.proofs.Earlier.{Was, stood_before, replied_before, last_before, ready_stands, go_before, none_on}
use Rattle.run_journal.proofs.Interrupting.{none_holds, called_start, called_request, no_reply_before, interrupted_queued, queued_interrupted}
use Rattle.run_journal.proofs.Truths.{not_both}
use Rattle.std.proofs.Math.Bool.{and-false}
use Rattle.std.proofs.lemmas.List.{nil_from_length}
use Rattle.std.proofs.Math.Nat.{lt_of_lt_of_le}
use Rattle.std.proofs.lemmas.Option.{same_Some}
use Rattle.kernel_lines.proofs.LineLemmas.{same_tests}
use Rattle.run_journal.proofs.Seconds.{first_least, first_last, child_before, ever_past, flagged_before, ready_before, uninterrupted}

-- ---- the core's last request

pub standing_after : (task : Task) (n : ℕ) (told : List Event) (s : core.Standing) → core.last_below task n told ≡ Some s → core.after task s.request told ≡ Some s.later
standing_after task zero told s e = cc
standing_after task (suc n) told s e = by (λ x. standing_after task n told s x) (core.after task n told) refl
  where
    by : (core.last_below task n told ≡ Some s → core.after task s.request told ≡ Some s.later) → (o : Option (List Event)) → core.after task n told ≡ o → core.after task s.request told ≡ Some s.later
    by ih (Some later) f =
        let same : record { request = n; later = later } ≡ s = same_Some _ _ (sym (ap (λ v. core.or_before n v (core.last_below task n told)) f) ∙ e) in
        ap (λ (v : core.Standing). core.after task v.request told) (sym same) ∙ f ∙ ap (λ (v : core.Standing). Some v.later) same
    by ih None f = ih (sym (ap (λ v. core.or_before n v (core.last_below task n told)) f) ∙ e)

some_and_at : (P : List Event → Type 0) (o : Option (List Event)) (later : List Event) → o ≡ Some later → IsSomeAnd o P → P later
some_and_at P None later e h = cc
some_and_at P (Some v) later e h = subst P (same_Some _ _ e) h

pub over_same : (j : Job) (k : ℕ) (later : List Event) (r : Request) → AgreesOn j k later r → core.is_over later ≡ is_over r
over_same j k later r a =
    ap (λ b. is_some (core.reply later) && b) a.idle
    ∙ ap (λ (o : Option Bool). is_some o && has_idle r.io) a.reply
    ∙ by (has_idle r.io) (reply r)
  where
    by : (i : Bool) (o : Option (Arrival × ℕ)) → (is_some (option_map (λ m. j.fatal k m.0.content) o) && i) ≡ (i && is_some o)
    by true None = refl
    by true (Some m) = refl
    by false None = refl
    by false (Some m) = refl

-- the second deadline of an interrupt
pub second_by : (c : ℕ) (told : List Event) → second_deadline c told ≡ option_map (λ n. n + interrupt_ms) (seen c told).first
second_by c told = as_map (events.since (events.is_turn_at c) told) ∙ ap (option_map (λ n. n + interrupt_ms)) (first_is c told)
  where
    as_map : (o : Option (List Event)) → entry_and_more told o ≡ option_map (λ n. n + interrupt_ms) (option_map (clock_in told) o)
    as_map None = refl
    as_map (Some v) = refl

pub plus_more : (x n : ℕ) → 0 < n → x < x + n
plus_more x n h = omega (arith, h)

-- ---- what calls for a look by a deadline that the core has

-- a moment past it by nothing is it
pub plus_none : (j : Job) (d : ℕ) (p : List Entry) → ran_out j (d + 0) p ≡ ran_out j d p
plus_none j d p = let z : d + 0 ≡ d = omega arith in ap (λ n. ran_out j n p) z

module _ (jobs : List Job) (j : Job) (past : List Entry) (k : KeepsRules jobs j past) (h : RanAtWait j past) (f : Flows j past) (t : KeepsTime j past) (plan : 0 < length j.task.plan) where
  agrees : Agrees j (course j past).told past
  agrees = course_agrees j past f

  clocks : Clocks j (course j past).told past
  clocks = clocks_agree j past f t

  -- where a look after such a clock entry was found by one of them, there was such an entry at some moment
  pub found_past : (d : ℕ) → (whole d j past).found ≡ true → ever (is_past d) past ≡ true
  found_past d e = elim (found_ran d jobs j past k h e) [
    | inl r ↦ ever_before (is_past d) (wait_was past) (ran_parts j d past r).1
    | inr l ↦ ever_before (is_past d) l.before (ever_before (is_past d) (wait_was l.at) (ran_parts j d l.at l.held).1)
  ]

  left_past : (d : ℕ) (l : Left (ran_out j d) j past) → ever (is_past d) l.at ≡ true
  left_past d l = ever_before (is_past d) (wait_was l.at) (ran_parts j d l.at l.held).1

  ran_waited : (d : ℕ) → ran_out j d past ≡ true → has_wait past ≡ true
  ran_waited d e = first_waited d past (first_ever d past ∙ ever_before (is_past d) (wait_was past) (ran_parts j d past e).1)

  -- A look after a clock entry at or past the deadline was called for, and there was none at an earlier wait.
  pub record Calls (d : ℕ) : Type 0 where
    pub called : ran_out j d past ≡ true → is_called_for j (before_wait past) ≡ true
    pub left : Left (ran_out j d) j past → ⊥

  child_at : {q : List Entry} → Before q past → is_running j q ≡ true → child_clock j q ≡ child_clock j past
  child_at {q} b r = sym (child_before j b (begun_child j q (rules_at jobs j b k h).0.start (running_parts j q r).0))

  -- that of readiness
  pub not_ready_calls : requests j past ≡ [] → (c : ℕ) → child_clock j past ≡ Some c → Calls (c + j.task.times.start_ms)
  not_ready_calls e c g = record {
    called = λ r. let runs = h (ran_waited d r) in
        called_start j d (before_wait past) runs
        (cond-false (is_ready j (before_wait past)) [] _ unready
        ∙ ap (λ o. option_to_list (option_map (λ ms. ms + j.task.times.start_ms) o)) (child_at (wait_was past) runs ∙ g)) (ran_parts j d past r).1;
    left = λ l. not_both (is_not_ready j (requests j l.at) l.at)
        (ap (λ rs. is_not_ready j rs l.at) (none_on (go_before j l.before) e)
        ∙ ap (λ o. is_out j j.task.times.start_ms o l.at) (child_at l.before l.runs ∙ g) ∙ l.held) (none_holds j l.at l.unstopped).1;
  }
    where
      d : ℕ
      d = c + j.task.times.start_ms

      acks : 0 < saves_of j past
      acks = drawn_acked j past k.start (ap (λ (o : Option ℕ). is_some o) (child_drawn j past k.start c g))

      unready : is_ready j (before_wait past) ≡ false
      unready = false_from_ne_true (is_ready j (before_wait past)) (λ r. ready_stands j past (ready_before j (wait_was past) r) acks plan e)

  pub last_is : (m : ℕ) (q : Request) → length (requests j past) ≡ suc m → slice_get (requests j past) m ≡ Some q → last_request 0 (requests j past) ≡ Some (m, q)
  last_is m q l e = let z : 0 + m ≡ m = omega arith in last_numbered 0 m (requests j past) q l e ∙ ap (λ i. Some (i, q)) z

  pub none_last : length (requests j past) ≡ 0 → last_request 0 (requests j past) ≡ None
  none_last l = ap (last_request 0) (nil_from_length (requests j past) l)

  -- where the child was started, a look that is found by either shows it
  pub child_found : (d : ℕ) → (whole d j past).found ≡ true → is_some (child_clock j past) ≡ true
  child_found d y =
      let w = first_waited d past (first_ever d past ∙ found_past d y) in
      begun_child j past k.start (any_before j past (running_parts j (before_wait past) (h w)).0)

  module _ (m : ℕ) (q : Request) (l : length (requests j past) ≡ suc m) (e : slice_get (requests j past) m ≡ Some q) where
    pub on : (later : List Event) → core.after j.task m (course j past).told ≡ Some later → ClocksOn m (course j past).told later q
    on later s = some_and_at (λ v. ClocksOn m (course j past).told v q) (core.after j.task m (course j past).told) later s (clocks m q e)

    -- that of an idle
    pub no_idle_calls : (x : Arrival × ℕ) → reply q ≡ Some x → is_over q ≡ false → Calls (x.1 + idle_ms)
    no_idle_calls x r over = record {
      called = λ y. called_request j d (before_wait past) (h (ran_waited d y)) (deadline_then (wait_was past) (ran_parts j d past y).1) (ran_parts j d past y).1;
      left = λ y. not_both (is_no_idle j (last_request 0 (requests j y.at)) y.at) (row_then y.before (left_past d y) y.held) (none_holds j y.at y.unstopped).2;
    }
      where
        d : ℕ
        d = x.1 + idle_ms

        under : x.1 < d
        under = omega arith

        was : {p : List Entry} → Before p past → ever (is_past d) p ≡ true → (w : Was j p m q) × (reply w.old ≡ Some x)
        was b y = replied_before j d b k.rising y m q x e r under

        not_over : {p : List Entry} (w : Was j p m q) → is_over w.old ≡ false
        not_over w = false_from_ne_true (is_over w.old) (λ y. not_both (is_over q) (over_stays w.old q w.on y) over)

        deadline_then : {p : List Entry} → Before p past → ever (is_past d) p ≡ true → request_deadline j p (last_request 0 (requests j p)) ≡ d ∷ []
        deadline_then {p} b y =
            let w = was b y in
            ap (request_deadline j p) (last_before j b m q l w.0).1
            ∙ ap (λ o. wait_deadline j p w.0.old (option_map (λ v. v.1) o)) w.1
            ∙ cond-false (is_over w.0.old) [] (d ∷ []) (not_over w.0)

        row_then : {p : List Entry} → Before p past → ever (is_past d) p ≡ true → ran_out j d p ≡ true → is_no_idle j (last_request 0 (requests j p)) p ≡ true
        row_then {p} b y z =
            let w = was b y in
            ap (λ o. is_no_idle j o p) (last_before j b m q l w.0).1
            ∙ ap (λ o. not (is_over w.0.old) && is_out j idle_ms (option_map (λ v. v.1) o) p) w.1
            ∙ and_from (not (is_over w.0.old)) (ran_out j d p) (not_from_false (is_over w.0.old) (not_over w.0)) z

    -- those of a reply
    module _ (r : reply q ≡ None) (c : ℕ) (dead : deadline j q ≡ Some c) (under : q.clock < c) where
      -- the request at an earlier moment past a deadline
      pub was : (d : ℕ) → c ≤ d → {p : List Entry} → Before p past → ever (is_past d) p ≡ true → Was j p m q
      was d n x y = stood_before j d x k.rising y m q e (lt_of_lt_of_le under n)

      pub was_none : {p : List Entry} (w : Was j p m q) → reply w.old ≡ None
      was_none w = no_reply_before w.old q (reply_stays w.old q w.on) r

      pub was_dead : {p : List Entry} (w : Was j p m q) → deadline j w.old ≡ Some c
      was_dead w = ap (λ n. option_map (λ limit. n + limit) j.task.times.limit_ms) (sym w.on.clock) ∙ dead

      -- what its row is at such a moment
      row_at : {p : List Entry} → Before p past → (w : Was j p m q) → is_timed_out j (last_request 0 (requests j p)) p ≡ is_out j 0 (last_deadline j w.old p (Some c)) p
      row_at {p} x w =
          ap (λ o. is_timed_out j o p) (last_before j x m q l w).1
          ∙ ap (λ (o : Option (Arrival × ℕ)). not (is_some o) && is_out j 0 (last_deadline j w.old p (deadline j w.old)) p) (was_none w)
          ∙ ap (λ o. is_out j 0 (last_deadline j w.old p o) p) (was_dead w)

      deadline_at : {p : List Entry} → Before p past → (w : Was j p m q) → request_deadline j p (last_request 0 (requests j p)) ≡ reply_deadline j p w.old (Some c)
      deadline_at {p} x w =
          ap (request_deadline j p) (last_before j x m q l w).1
          ∙ ap (λ o. wait_deadline j p w.old (option_map (λ v. v.1) o)) (was_none w)
          ∙ ap (reply_deadline j p w.old) (was_dead w)

      -- without an interrupt
      pub plain_calls : j.task.times.interrupt ≡ false → Calls c
      plain_calls i = record {
        called = λ y. let p = (ran_parts j c past y).1 in let w = was c (omega arith) (wait_was past) p in
            called_request j c (before_wait past) (h (ran_waited c y))
            (deadline_at (wait_was past) w ∙ cond-false w.old.interrupted _ (c ∷ []) (uninterrupted j i (before_wait past) m w.old w.stands)) p;
        left = λ y. let w = was c (omega arith) y.before (left_past c y) in
            not_both (is_timed_out j (last_request 0 (requests j y.at)) y.at)
            (row_at y.before w ∙ ap (λ v. is_out j 0 v y.at) (cond-false j.task.times.interrupt _ (Some c) i) ∙ plus_none j c y.at ∙ y.held) (none_holds j y.at y.unstopped).3;
      }

      -- with one, which is queued
      pub second_calls : j.task.times.interrupt ≡ true → q.interrupted ≡ true → (ms : ℕ) → first_clock c past ≡ Some ms → Calls (ms + interrupt_ms)
      second_calls i flag ms first = record {
        called = λ y. let p = (ran_parts j d past y).1 in let w = then_is (wait_was past) p in
            called_request j d (before_wait past) (h (ran_waited d y))
            (deadline_at (wait_was past) w.0 ∙ cond-true w.0.old.interrupted _ (c ∷ []) w.1 ∙ ap (λ o. option_to_list (option_map (λ n. n + interrupt_ms) o)) (first_then (wait_was past) p)) p;
        left = λ y. let w = then_is y.before (left_past d y) in
            not_both (is_timed_out j (last_request 0 (requests j y.at)) y.at)
            (row_at y.before w.0
            ∙ ap (λ v. is_out j 0 v y.at) (cond-true j.task.times.interrupt _ (Some c) i ∙ cond-true w.0.old.interrupted _ None w.1 ∙ ap (option_map (λ n. n + interrupt_ms)) (first_then y.before (left_past d y)))
            ∙ plus_none j d y.at ∙ y.held) (none_holds j y.at y.unstopped).3;
      }
        where
          d : ℕ
          d = ms + interrupt_ms

          least : c ≤ ms
          least = first_least c past ms first

          more : c ≤ d
          more = let g = least in omega (arith, g)

          first_then : {p : List Entry} → Before p past → ever (is_past d) p ≡ true → first_clock c p ≡ Some ms
          first_then {p} x y = sym (first_before c x (first_ever c p ∙ ever_past c d more p y)) ∙ first

          then_is : {p : List Entry} → Before p past → ever (is_past d) p ≡ true → (w : Was j p m q) × (w.old.interrupted ≡ true)
          then_is {p} x y = flagged_before j c d x k.rising y (two (first_last c p ms (first_then x y))) m q e (lt_of_lt_of_le under more) dead flag
            where
              late : (t n : ℕ) → n + 10000 ≤ t → t ≡ n → ⊥
              late t n f g = absurd (omega (arith, f, g))

              two : (is_some (first_clock c (before_clock p)) ≡ true) ⊎ (time p ≡ ms) → is_some (first_clock c (before_clock p)) ≡ true
              two (inl g) = g
              two (inr g) = absurd (late (time p) ms (clock_from d p (rules_at jobs j x k h).0.rising y) g)

-- ---- the rows, where nothing waits and nothing of the clock or of a look came after the stop

module _ (jobs : List Job) (j : Job) (past : List Entry) (k : KeepsRules jobs j past) (h : RanAtWait j past) (f : Flows j past) (t : KeepsTime j past) (plan : 0 < length j.task.plan) (none : (course j past).held ≡ []) (un : events.came is_dated (dropped j past) ≡ false) where
  abbrev told : List Event
  told = (course j past).told

  -- what was found
  found_told : (d : ℕ) → events.look_since (events.is_turn_at d) told ≡ (whole d j past).found
  found_told d = found_is d told ∙ ap (λ (s : Seen). s.found) (sym (told_whole j d past none un))

  -- a look is found by both, where it was called for, and where it held at no wait
  found_same : (d : ℕ) → Calls jobs j past k h f t plan d → events.look_since (events.is_turn_at d) told ≡ ran_out j d past
  found_same d c =
      found_told d
      ∙ same_tests (whole d j past).found (ran_out j d past)
      (λ e. elim (found_ran d jobs j past k h e) [
        | inl r ↦ r
        | inr l ↦ absurd (c.left l)
      ])
      (λ e. ran_found d jobs j past k h e (c.called e))

  -- ---- no readiness

  start_told : events.start_time told ≡ drawn_clock j past
  start_told = start_is 0 told ∙ ap (λ (s : Seen). s.start) (sym (told_whole j 0 past none un)) ∙ (dates 0 jobs j past k h).start

  not_ready_open : requests j past ≡ [] → looked_by (core_start j.task told) told ≡ is_out j j.task.times.start_ms (child_clock j past) past
  not_ready_open e =
      ap (λ o. looked_by (start_from j.task o) told) start_told
      ∙ by (child_clock j past) refl
    where
      undrawn : child_clock j past ≡ None → (o : Option ℕ) → looked_by (start_from j.task o) told ≡ false
      undrawn g None = refl
      undrawn g (Some c) =
          let d = c + j.task.times.start_ms in
          false_from_ne_true (events.look_since (events.is_turn_at d) told) (λ y.
          not_both (is_some (child_clock j past)) (child_found jobs j past k h f t plan d (sym (found_told d) ∙ y)) (ap (λ (o : Option ℕ). is_some o) g))

      by : (o : Option ℕ) → child_clock j past ≡ o → looked_by (start_from j.task (drawn_clock j past)) told ≡ is_out j j.task.times.start_ms o past
      by None g = undrawn g (drawn_clock j past)
      by (Some c) g =
          ap (λ o. looked_by (start_from j.task o) told) (child_drawn j past k.start c g)
          ∙ found_same (c + j.task.times.start_ms) (not_ready_calls jobs j past k h f t plan e c g)

  pub not_ready_same : core_saves.is_not_ready j.task (core.standing j.task told) told ≡ is_not_ready j (requests j past) past
  not_ready_same = by (core.standing j.task told) (stands j told past (course_agrees j past f))
    where
      some_items : (rs : List Request) (m : ℕ) → length rs ≡ suc m → false ≡ is_not_ready j rs past
      some_items [] m e = cc
      some_items (r ∷ rs) m e = refl

      by : (o : Option core.Standing) → Stands j told past o → core_saves.is_not_ready j.task o told ≡ is_not_ready j (requests j past) past
      by None (nothing l) = let e = nil_from_length (requests j past) l in not_ready_open e ∙ sym (ap (λ rs. is_not_ready j rs past) e)
      by (Some _) (last m q later l e a) = some_items (requests j past) m l

  -- ---- the last request

  module _ (m : ℕ) (q : Request) (later : List Event) (l : length (requests j past) ≡ suc m) (e : slice_get (requests j past) m ≡ Some q) (a : AgreesOn j m later q) (s : core.after j.task m told ≡ Some later) where
    pub no_idle_last : core_saves.is_no_idle (Some (record { request = m; later = later })) told ≡ is_no_idle j (Some (m, q)) past
    no_idle_last =
        ap (λ o. (is_some o && not (core.is_over later)) && looked_at) a.reply
        ∙ ap (λ b. (is_some (option_map (λ v. j.fatal m v.0.content) (reply q)) && not b) && looked_at) (over_same j m later q a)
        ∙ by (reply q) refl (is_over q) refl
      where
        looked_at : Bool
        looked_at = events.look_since (events.is_turn_at (replied_at (record { request = m; later = later }) told + idle_ms)) told

        by : (o : Option (Arrival × ℕ)) → reply q ≡ o → (b : Bool) → is_over q ≡ b
            → ((is_some (option_map (λ v. j.fatal m v.0.content) o) && not b) && looked_at) ≡ (not b && is_out j idle_ms (option_map (λ v. v.1) o) past)
        by None r b c = sym (and-false (not b))
        by (Some x) r true c = refl
        by (Some x) r false c =
            ap (λ n. events.look_since (events.is_turn_at (n + idle_ms)) told) ((on jobs j past k h f t plan m q l e later s).replied x r)
            ∙ found_same (x.1 + idle_ms) (no_idle_calls jobs j past k h f t plan m q l e x r c)

    -- ---- no reply

    module _ (dec : IsDecoding j.codec) (u : BeginsUnread j past) (b : is_broken j past ≡ false) (lost : is_lost j past ≡ false) (bc : events.came events.is_broken told ≡ false) (lc : events.look_since events.is_lost told ≡ false)
        (r : reply q ≡ None) (c : ℕ) (dead : deadline j q ≡ Some c) (under : q.clock < c) where
      -- without an interrupt
      plain_out : j.task.times.interrupt ≡ false → events.look_since (events.is_turn_at c) told ≡ ran_out j c past
      plain_out i = found_same c (plain_calls jobs j past k h f t plan m q l e r c dead under i)

      -- with one, which is queued
      second_out : j.task.times.interrupt ≡ true → q.interrupted ≡ true → (ms : ℕ) → first_clock c past ≡ Some ms → events.look_since (events.is_turn_at (ms + interrupt_ms)) told ≡ ran_out j (ms + interrupt_ms) past
      second_out i flag ms first = found_same (ms + interrupt_ms) (second_calls jobs j past k h f t plan m q l e r c dead under i flag ms first)

      second_is : second_deadline c told ≡ option_map (λ n. n + interrupt_ms) (first_clock c past)
      second_is =
          second_by c told
          ∙ ap (option_map (λ n. n + interrupt_ms)) (ap (λ (v : Seen). v.first) (sym (told_whole j c past none un)) ∙ (dates c jobs j past k h).first)

      -- the interrupt is queued for both
      pub interrupt_same : j.task.times.interrupt ≡ true → is_queued j.task m c told ≡ q.interrupted
      interrupt_same i =
          queued_is c j.task m told open_ bc lc
          ∙ ap (λ (v : Seen). v.queued) (sym (told_whole j c past none un))
          ∙ same_tests (whole c j past).queued q.interrupted
          (queued_interrupted c jobs j dec i past k h u b lost m q e r dead under)
          (interrupted_queued c jobs j past k h m q e l r dead under)
        where
          open_ : is_unanswered (core.after j.task m told) ≡ true
          open_ = ap is_unanswered s ∙ ap (λ (o : Option Bool). is_none o) (a.reply ∙ ap (option_map (λ v. j.fatal m v.0.content)) r)

      pub out_same : core_saves.is_out_of_time j.task m (Some c) told ≡ is_out j 0 (last_deadline j q past (Some c)) past
      out_same = by j.task.times.interrupt refl
        where
          second : j.task.times.interrupt ≡ true → (v : Bool) → q.interrupted ≡ v → (o : Option ℕ) → first_clock c past ≡ o
              → (v && looked_by (option_map (λ n. n + interrupt_ms) o) told) ≡ is_out j 0 (if v then option_map (λ n. n + interrupt_ms) o else None) past
          second i true g None f = refl
          second i true g (Some ms) f = second_out i g ms f ∙ sym (plus_none j (ms + interrupt_ms) past)
          second i false g o f = refl

          by : (i : Bool) → j.task.times.interrupt ≡ i
              → (if i then is_queued j.task m c told && looked_by (second_deadline c told) told else events.look_since (events.is_turn_at c) told)
              ≡ is_out j 0 (if i then (if q.interrupted then option_map (λ ms. ms + interrupt_ms) (first_clock c past) else None) else Some c) past
          by true g =
              ap (λ v. v && looked_by (second_deadline c told) told) (interrupt_same g)
              ∙ ap (λ v. q.interrupted && looked_by v told) second_is
              ∙ second g q.interrupted refl (first_clock c past) refl
          by false g = plain_out g ∙ sym (plus_none j c past)
