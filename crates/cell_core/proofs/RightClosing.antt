-- Each move in the other states keeps the relation, and its answer is the definitions'; and so does every move.
use Rattle.std.proofs.Common.{◌≡◌, ℕ, suc, ◌+◌, ◌<◌, ◌≤◌, List, [], ◌∷◌, ◌++◌, length, Bool, true, false, not, ◌&&◌, if◌then◌else◌, nat_lt, Option, Some, None, is_some, is_none, refl, sym, ap, subst, ◌∙◌, true≢false, arith, inl, inr, append-nil, length-append}
use Rattle.std.specs.Option.{ForSome}
use Rattle.std.proofs.lemmas.Bool.{and_from, cases_lt, le-ltb, lt-ltb, eq-eqb, or_right}
use Rattle.cell_core.specs.declared.event.Event.{Event}
use Rattle.cell_core.specs.declared.event.Event.TheVariants.{Saved, Ready, Io, Reply, Moment, Looked, Lost, Broken}
use Rattle.cell_core.specs.declared.why.Why.{Why}
use Rattle.cell_core.specs.declared.why.Why.TheVariants.{Done, CellError, KernelLost, TimedOut, NoIdle, BadPeer}
use Rattle.cell_core.specs.declared.act.Act.TheVariants.{Start, Save, Stop}
use Rattle.cell_core.specs.declared.state.State.{State}
use Rattle.cell_core.specs.declared.state.State.TheVariants.{Preparing, Starting, Running, Passing, Closing, Failing, Stopped}
use Rattle.cell_core.specs.Task.{Task, cell_of}
use Rattle.cell_core.specs.Events.{is_turn_at, since, is_saved, is_broken, is_lost, came, look_since, ack_count}
use Rattle.cell_core.specs.Requests.{has_idle, own, reply, is_over, is_fatal, is_passed, Standing, standing}
use Rattle.cell_core.specs.Saves.{late_cause, why_not_done, Prefix, after_preparation, why, pending_saves, is_done, is_whole, plan_saves}
use Rattle.cell_core.specs.Acts.{is_used}
use Rattle.cell_core.specs.declared.clock.Clock.{Clock}
use Rattle.cell_core.specs.declared.clock.Clock.TheVariants.{Unread}
use Rattle.cell_core.specs.Holds.{awaits}
use Rattle.cell_core.specs.Deadlines.{entry_and_more, deadline, first_deadline, second_deadline, by_limit, looked_by, is_queued, replied_at}
use Rattle.cell_core.specs.Moves.{move, sends, stops, in_preparing, on_passed, in_passing, in_closing, in_failing, next_move}
use Rattle.cell_core.specs.StandsFor.{Hears, Reached, Stands, Fails, IsPassing, IsClosing, IsFailing, HasStopped, IsAt}
use Rattle.cell_core.proofs.Requests.{reached_next, standing_none}
use Rattle.cell_core.proofs.SavesLemmas.{at, mark, rest_of_none, unacked_none, saves_none, unacked_failed, unacked_passed, why_fails, why_done, failing_none, failing_fails, failing_more, no_stop_none, left, passes_none, closing_at, marks, length-marks, saves_more}
use Rattle.cell_core.proofs.Moving.{all_done, rest_last, rest_no_more, due_closing, reached_nothing, reached_prepared, reached_closed, rest_whole, rest_empty, is_stopped}
use Rattle.cell_core.proofs.Causes.{queued_by, late_is}
use Rattle.cell_core.proofs.Lists.{passed_stays, since_none}
use Rattle.cell_core.proofs.Clocks.{hears_more, second_stays}
use Rattle.cell_core.proofs.Right.{Right, act_from, act_saves, stands_saved, used_is}
use Rattle.cell_core.proofs.RightRunning.{Keeps, right_running}
use Rattle.cell_core.proofs.RightStarting.{waits_right, stops_none, sent_right, right_starting}

pub more_acks : {task : Task} {k : ℕ} {later events : List Event} → Stands task k later (k + 1 + 1) events → Stands task k later (k + 2) events
more_acks {task} {k} {later} {events} s = let e : k + 1 + 1 ≡ k + 2 = omega arith in subst (λ (n : ℕ). Stands task k later n events) e s

pub cause_by : (x y i q r : Bool) (w : Why) → x ≡ y → q ≡ r → (if x && not (i && not q) then Some w else None) ≡ (if y && not (i && not r) then Some w else None)
cause_by x y i q r w e f = cc

-- an acknowledgement moves no deadline
pub second_saved : (t : ℕ) (past : List Event) (v : Option (List Event)) → since (is_turn_at t) past ≡ v → second_deadline t (Saved ∷ past) ≡ second_deadline t past
second_saved t past (Some between) e = second_stays t Saved past between e
second_saved t past None e = ap (entry_and_more (Saved ∷ past)) (since_none (is_turn_at t) Saved past e refl) ∙ sym (ap (entry_and_more past) e)

pub limit_saved : (task : Task) (k : ℕ) (o : Option ℕ) (past : List Event) → by_limit task k o (Saved ∷ past) ≡ by_limit task k o past
limit_saved task k None past = refl
limit_saved task k (Some first) past = ap (λ (x : Option ℕ). if task.times.interrupt && is_queued task k first past then x else Some first) (second_saved first past (since (is_turn_at first) past) refl)

pub deadline_saved : (task : Task) (k : ℕ) (later past : List Event) → deadline task (at k (Saved ∷ later)) (Saved ∷ past) ≡ deadline task (at k later) past
deadline_saved task k later past =
    ap (λ (x : Option ℕ). if is_some (reply later) then (if has_idle (own later) then None else Some (replied_at (at k later) past + 4000)) else x) (limit_saved task k (first_deadline task (at k later) past) past)

pub looked_saved : (o : Option ℕ) (past : List Event) → looked_by o (Saved ∷ past) ≡ looked_by o past
looked_saved None past = refl
looked_saved (Some t) past = refl

pub interrupt_saved : (task : Task) (k : ℕ) (o : Option ℕ) (past : List Event) → queued_by task k o (Saved ∷ past) ≡ queued_by task k o past
interrupt_saved task k None past = refl
interrupt_saved task k (Some first) past = refl

pub cause_saved : (task : Task) (k : ℕ) (later past : List Event) → why_not_done task (Some (at k (Saved ∷ later))) (Saved ∷ past) ≡ why_not_done task (Some (at k later)) past
cause_saved task k later past =
    let looks : looked_by (deadline task (at k (Saved ∷ later)) (Saved ∷ past)) (Saved ∷ past) ≡ looked_by (deadline task (at k later) past) past =
    looked_saved (deadline task (at k (Saved ∷ later)) (Saved ∷ past)) past ∙ ap (λ (o : Option ℕ). looked_by o past) (deadline_saved task k later past) in
    let asks = interrupt_saved task k (first_deadline task (at k later) past) past in
    let same : late_cause task (Some (at k (Saved ∷ later))) (Saved ∷ past) ≡ late_cause task (Some (at k later)) past =
    late_is task (at k (Saved ∷ later)) (Saved ∷ past) ∙ cause_by _ _ (is_none (reply later) && task.times.interrupt) _ _ (if is_some (reply later) then NoIdle else TimedOut) looks asks ∙ sym (late_is task (at k later) past) in
    ap (λ (d : Option Why). if is_over later && is_fatal later then Some CellError else if came is_broken past then Some BadPeer else if look_since is_lost past then Some KernelLost else d) same

pub fails_saved : {task : Task} {k : ℕ} {later past : List Event} {w : Why} → Fails task k later w past → Fails task k (Saved ∷ later) w (Saved ∷ past)
fails_saved {task} {k} {later} {past} {w} f = record { not_passed = f.not_passed; cause = cause_saved task k later past ∙ f.cause; stops = f.stops }

-- the acknowledgement of the save after a stop
pub right_failing : (task : Task) (clock : Clock) (lost : Bool) (k : ℕ) (w : Why) (past : List Event) → IsFailing task k w past → Right task clock lost (move (Stopped (Some k)) false (Stop w)) Saved past
right_failing task clock lost k w past a =
    let s : Stands task k (Saved ∷ a.later) (k + 2) (Saved ∷ past) = more_acks (stands_saved a.stands (inl a.fails.not_passed)) in
    let f = fails_saved a.fails in
    record {
      stands = record { stopped = all_done task (Saved ∷ past) w (why_fails s f) (unacked_failed s f); names = failing_fails s f (omega arith) };
      act = sym (act_from task (Saved ∷ past) [] (Some w) (unacked_failed s f) (why_fails s f));
      takes = sym (used_is a.stands Saved);
    }

-- the acknowledgement of the last save
pub stops_done : {task : Task} {k a : ℕ} {later events : List Event} → Stands task k later a events → is_passed later ≡ true → k + 1 ≡ length task.plan → pending_saves task events ≡ [] → HasStopped task None events
stops_done {task} {k} {a} {later} {events} s p last u =
    record { stopped = all_done task events Done (why_done s p last) u; names = failing_more s p }

pub next_stands : {task : Task} {k : ℕ} {later past : List Event} → Stands task k later (k + 1) past → is_passed later ≡ true → k + 1 < length task.plan → Stands task (k + 1) [] (k + 1 + 1) (Saved ∷ past)
next_stands {task} {k} {later} {past} s p lt =
    let next : Reached task (suc k) (Some []) (k + 2) (Saved ∷ past) = reached_next s.reached p lt in
    let e : suc k ≡ k + 1 = omega arith in
    let n : k + 2 ≡ k + 1 + 1 = omega arith in
    record {
      planned = lt;
      reached = subst (λ (m : ℕ). Reached task (k + 1) (Some []) m (Saved ∷ past)) n (subst (λ (i : ℕ). Reached task i (Some []) (k + 2) (Saved ∷ past)) e next);
      ready = s.ready;
    }

pub right_next : (task : Task) (clock : Clock) (lost : Bool) (k : ℕ) (past : List Event) → IsPassing task clock lost k past → k + 1 < length task.plan → ForSome task.times.limit_ms (λ limit. 0 < limit) → Right task clock lost (sends task clock (k + 1)) Saved past
right_next task clock lost k past a lt later =
    sent_right Saved (next_stands a.stands a.passed lt) (hears_more a.hears Saved tt (λ e. absurd (true≢false (sym e))) refl) later refl refl refl (sym (used_is a.stands Saved))

pub passed_saved : {task : Task} {clock : Clock} {lost : Bool} {k : ℕ} {past : List Event} (a : IsPassing task clock lost k past) → length task.plan ≤ k + 1 → Stands task k (Saved ∷ a.later) (k + 2) (Saved ∷ past)
passed_saved a le = more_acks (stands_saved a.stands (inr le))

pub right_whole : (task : Task) (clock : Clock) (lost : Bool) (k : ℕ) (past : List Event) → IsPassing task clock lost k past → length task.plan ≤ k + 1 → cell_of task k + 1 < task.cells → Right task clock lost (move Closing false (Save task.cells)) Saved past
right_whole task clock lost k past a le lt =
    let s = passed_saved a le in
    let planned = a.stands.planned in
    let closing : IsClosing task k (Saved ∷ past) = record { later = Saved ∷ a.later; stands = s; last = omega (arith, le, planned); passed = passed_stays Saved a.later a.passed; more = lt } in
    record {
      stands = inr (k, closing);
      act = sym (act_saves task (Saved ∷ past) _ _ (due_closing closing));
      takes = sym (used_is a.stands Saved);
    }

pub right_last : (task : Task) (clock : Clock) (lost : Bool) (k : ℕ) (past : List Event) → IsPassing task clock lost k past → length task.plan ≤ k + 1 → task.cells ≤ cell_of task k + 1 → Right task clock lost (stops Done) Saved past
right_last task clock lost k past a le ge =
    let s = passed_saved a le in
    let p = passed_stays Saved a.later a.passed in
    let planned = a.stands.planned in
    let last : k + 1 ≡ length task.plan = omega (arith, le, planned) in
    let u = unacked_passed s p ∙ rest_no_more task k ge in
    record {
      stands = stops_done s p last u;
      act = sym (act_from task (Saved ∷ past) [] (Some Done) u (why_done s p last));
      takes = sym (used_is a.stands Saved);
    }

pub right_passing : (task : Task) (clock : Clock) (lost : Bool) (k : ℕ) (past : List Event) → IsPassing task clock lost k past → ForSome task.times.limit_ms (λ limit. 0 < limit) → Right task clock lost (on_passed task clock k) Saved past
right_passing task clock lost k past a later =
    elim (cases_lt (k + 1) (length task.plan)) [
      | inl lt ↦ rw (lt-ltb (k + 1) (length task.plan) lt) (right_next task clock lost k past a lt later)
      | inr le ↦ rw (le-ltb (k + 1) (length task.plan) le)
          (elim (cases_lt (cell_of task k + 1) task.cells) [
            | inl less ↦ rw (lt-ltb (cell_of task k + 1) task.cells less) (right_whole task clock lost k past a le less)
            | inr ge ↦ rw (le-ltb (cell_of task k + 1) task.cells ge) (right_last task clock lost k past a le ge)
          ])
    ]

-- the acknowledgement of the save of the whole notebook
pub due_closed : {task : Task} {k : ℕ} {later events : List Event} → Stands task k later (k + 3) events → is_passed later ≡ true → k + 1 ≡ length task.plan → cell_of task k + 1 < task.cells → pending_saves task events ≡ []
due_closed {task} {k} {later} {events} s p last lt =
    let whole : Prefix = record { settled = task.cells; stopping_cell = None } in
    left task events ((after_preparation ∷ marks task k) ++ (mark task k ∷ whole ∷ [])) [] s.reached.acknowledged
    (saves_more s p ∙ ap (λ (xs : List Prefix). (after_preparation ∷ marks task k) ++ (mark task k ∷ xs)) (rest_last task k last lt) ∙ sym (append-nil _))
    (length-append (after_preparation ∷ marks task k) (mark task k ∷ whole ∷ []) ∙ (let e = length-marks task k in omega (arith, e)))

pub right_closed : (task : Task) (clock : Clock) (lost : Bool) (k : ℕ) (past : List Event) → IsClosing task k past → Right task clock lost (in_closing Saved) Saved past
right_closed task clock lost k past a =
    let last = a.last in
    let s : Stands task k (Saved ∷ a.later) (k + 3) (Saved ∷ past) =
    (let e : k + 2 + 1 ≡ k + 3 = omega arith in subst (λ (n : ℕ). Stands task k (Saved ∷ a.later) n (Saved ∷ past)) e (stands_saved a.stands (inr (omega (arith, last))))) in
    let p = passed_stays Saved a.later a.passed in
    let u = due_closed s p a.last a.more in
    record {
      stands = stops_done s p a.last u;
      act = sym (act_from task (Saved ∷ past) [] (Some Done) u (why_done s p a.last));
      takes = sym (used_is a.stands Saved);
    }

-- an empty plan
pub planned_by : (p q c d : List Prefix) → p ≡ q → c ≡ d → (after_preparation ∷ p) ++ c ≡ (after_preparation ∷ q) ++ d
planned_by p q c d a b = cc

pub planned_none : {task : Task} {a : ℕ} {events : List Event} → Reached task 0 None a events → plan_saves task events ≡ after_preparation ∷ rest_of_none task
planned_none {task} {a} {events} r = planned_by _ _ _ _ (passes_none r (length task.plan)) (closing_at task _ _ _ _ (standing_none r) (passes_none r (length task.plan)))

pub why_empty : {task : Task} {a : ℕ} {events : List Event} → Reached task 0 None a events → length task.plan ≡ 0 → length (after_preparation ∷ rest_of_none task) ≡ a → why task events ≡ Some Done
why_empty {task} {a} {events} r e l =
    let n = r.acknowledged in
    let all : length (plan_saves task events) ≡ ack_count events = ap (λ (xs : List Prefix). length xs) (planned_none r) ∙ l ∙ sym n in
    let done : is_done task events ≡ true =
    and_from (is_whole task (standing task events)) _ (ap (λ (v : Option Standing). is_whole task v) (standing_none r) ∙ eq-eqb (length task.plan) 0 e)
    (or_right (nat_lt 0 (length task.plan)) _ (eq-eqb (length (plan_saves task events)) (ack_count events) all)) in
    ap (λ (b : Bool). if b then Some Done else why_not_done task (standing task events) events) done

pub right_empty_closed : (task : Task) (clock : Clock) (lost : Bool) → length task.plan ≡ 0 → 0 < task.cells → Right task clock lost (in_closing Saved) Saved (Saved ∷ [])
right_empty_closed task clock lost e lt =
    let r = reached_closed task in
    let rest = rest_whole task e lt in
    let c = why_empty r e (ap (λ (xs : List Prefix). length (after_preparation ∷ xs)) rest) in
    let u : pending_saves task (Saved ∷ Saved ∷ []) ≡ [] = left task (Saved ∷ Saved ∷ []) (after_preparation ∷ rest_of_none task) [] refl (saves_none r ∙ sym (append-nil _)) (ap (λ (xs : List Prefix). length (after_preparation ∷ xs)) rest) in
    record {
      stands = record { stopped = all_done task (Saved ∷ Saved ∷ []) Done c u; names = failing_none task (Saved ∷ Saved ∷ []) _ (saves_none r) (no_stop_none task) };
      act = sym (act_from task (Saved ∷ Saved ∷ []) [] (Some Done) u c);
      takes = sym (ap (λ (v : Option Standing). is_used Saved v) (standing_none (reached_prepared task)));
    }

pub right_closing : (task : Task) (clock : Clock) (lost : Bool) (past : List Event) → IsAt task clock lost Closing past → Right task clock lost (in_closing Saved) Saved past
right_closing task clock lost past (inr a) = right_closed task clock lost a.0 past a.1
right_closing task clock lost past (inl a) = subst (λ (es : List Event). Right task clock lost (in_closing Saved) Saved es) (sym a.2) (right_empty_closed task clock lost a.0 a.1)

-- the first acknowledgement
pub hears_nothing : Hears Unread false []
hears_nothing = record { now = refl; read = refl; turned = refl; lost_is = refl; unseen = refl; rising = tt; unbroken = refl }

pub start_first : (task : Task) → 0 < length task.plan → Right task Unread false (move (Starting None) false Start) Saved []
start_first task lt =
    let r = reached_prepared task in
    waits_right Saved Start (reached_nothing task) (record { planned = lt; reached = r; ready = refl; hears = hears_more hears_nothing Saved tt (λ e. absurd (true≢false (sym e))) refl; until = refl; calm = refl }) refl refl

pub close_first : (task : Task) → length task.plan ≡ 0 → 0 < task.cells → Right task Unread false (move Closing false (Save task.cells)) Saved []
close_first task e lt =
    record {
      stands = inl (e, lt, refl);
      act = sym (act_saves task (Saved ∷ []) _ _ (unacked_none (reached_prepared task) ∙ rest_whole task e lt));
      takes = sym (ap (λ (v : Option Standing). is_used Saved v) (standing_none (reached_nothing task)));
    }

pub stop_first : (task : Task) → length task.plan ≡ 0 → task.cells ≤ 0 → Right task Unread false (stops Done) Saved []
stop_first task e le =
    let r = reached_prepared task in
    let u = unacked_none r ∙ rest_empty task le in
    let c = why_empty r e (ap (λ (xs : List Prefix). length (after_preparation ∷ xs)) (rest_empty task le)) in
    record {
      stands = stops_none task (Saved ∷ []) Done r (rest_empty task le) c;
      act = sym (act_from task (Saved ∷ []) [] (Some Done) u c);
      takes = sym (ap (λ (v : Option Standing). is_used Saved v) (standing_none (reached_nothing task)));
    }

pub right_first : (task : Task) → Right task Unread false (in_preparing task Saved) Saved []
right_first task =
    elim (cases_lt 0 (length task.plan)) [
      | inl lt ↦ rw (lt-ltb 0 (length task.plan) lt) (start_first task lt)
      | inr le ↦ rw (le-ltb 0 (length task.plan) le)
          (elim (cases_lt 0 task.cells) [
            | inl less ↦ rw (lt-ltb 0 task.cells less) (close_first task (omega (arith, le)) less)
            | inr ge ↦ rw (le-ltb 0 task.cells ge) (stop_first task (omega (arith, le)) ge)
          ])
    ]

pub saved_is : (event : Event) → is_saved event ≡ true → event ≡ Saved
saved_is Saved h = refl
saved_is Ready h = absurd (true≢false (sym h))
saved_is (Io m) h = absurd (true≢false (sym h))
saved_is (Reply f) h = absurd (true≢false (sym h))
saved_is (Moment t) h = absurd (true≢false (sym h))
saved_is Looked h = absurd (true≢false (sym h))
saved_is Lost h = absurd (true≢false (sym h))
saved_is Broken h = absurd (true≢false (sym h))

-- any move
pub right : (task : Task) (clock : Clock) (lost : Bool) (state : State) (event : Event) (past : List Event) → IsAt task clock lost state past → is_stopped state ≡ false → is_saved event ≡ awaits state → Keeps task event past
    → ForSome task.times.limit_ms (λ limit. 0 < limit) → Right task clock lost (next_move task clock lost state event) event past
right task clock lost Preparing event past a live h keeps later =
    subst (λ (e : Event). Right task clock lost (in_preparing task e) e past) (sym (saved_is event h))
    (subst (λ (es : List Event). Right task clock lost (in_preparing task Saved) Saved es) (sym a.0)
    (subst (λ (c : Clock). Right task c lost (in_preparing task Saved) Saved []) (sym a.1) (subst (λ (b : Bool). Right task Unread b (in_preparing task Saved) Saved []) (sym a.2) (right_first task))))
right task clock lost (Starting due) event past a live h keeps later = right_starting task clock lost due event past a h keeps later
right task clock lost (Running r) event past a live h keeps later = right_running task clock lost r.at r.fatal r.idle r.due r.interrupted event past a h keeps
right task clock lost (Passing k) event past a live h keeps later = subst (λ (e : Event). Right task clock lost (in_passing task clock k e) e past) (sym (saved_is event h)) (right_passing task clock lost k past a later)
right task clock lost Closing event past a live h keeps later = subst (λ (e : Event). Right task clock lost (in_closing e) e past) (sym (saved_is event h)) (right_closing task clock lost past a)
right task clock lost (Failing k w) event past a live h keeps later = subst (λ (e : Event). Right task clock lost (in_failing k w e) e past) (sym (saved_is event h)) (right_failing task clock lost k w past a)
right task clock lost (Stopped failing) event past a live h keeps later = absurd (true≢false live)
