-- The saves that are asked for are those that are due, in order.
use Rattle.std.proofs.Common.{◌≡◌, ℕ, suc, ◌+◌, ◌<◌, ◌≤◌, List, [], ◌∷◌, ◌++◌, length, Bool, true, false, not, ◌&&◌, if◌then◌else◌, Option, Some, None, refl, sym, ap, subst, ◌∙◌, true≢false, arith, inl, inr, append-nil, append_assoc}
use Rattle.std.specs.Option.{ForSome}
use Rattle.std.proofs.lemmas.List.{map-append}
use Rattle.std.proofs.lemmas.Bool.{cases_lt, le-ltb, lt-ltb, cases_Bool}
use Rattle.cell_core.specs.declared.event.Event.{Event}
use Rattle.cell_core.specs.declared.event.Event.TheVariants.{Saved, Ready, Io, Reply, Moment, Looked, Lost, Broken}
use Rattle.cell_core.specs.declared.brief.Brief.TheVariants.{Idle, Else}
use Rattle.cell_core.specs.declared.why.Why.{Why}
use Rattle.cell_core.specs.declared.why.Why.TheVariants.{NotReady, KernelLost, TimedOut, BadPeer}
use Rattle.cell_core.specs.declared.act.Act.{Act}
use Rattle.cell_core.specs.declared.act.Act.TheVariants.{Nothing, Interrupt}
use Rattle.cell_core.specs.declared.state.State.{State}
use Rattle.cell_core.specs.declared.state.State.TheVariants.{Preparing, Starting, Running, Passing, Closing, Failing, Stopped}
use Rattle.cell_core.specs.declared.moved.Moved.{Moved}
use Rattle.cell_core.specs.Task.{Task, cell_of}
use Rattle.cell_core.specs.Events.{is_saved, is_ready}
use Rattle.cell_core.specs.Saves.{Prefix, after_preparation, saves}
use Rattle.cell_core.specs.Acts.{has_stopped, heard, act_at}
use Rattle.cell_core.specs.declared.clock.Clock.{Clock}
use Rattle.cell_core.specs.declared.clock.Clock.TheVariants.{Unread}
use Rattle.cell_core.specs.Holds.{running_state, awaits, now_of, is_past, read_again, clock_after, lost_after}
use Rattle.cell_core.specs.Moves.{move, stays, ends, fails, stops, in_preparing, start_due, look_or, in_starting, late, in_running, on_passed, in_passing, in_closing, in_failing, next_move}
use Rattle.cell_core.specs.StandsFor.{IsStarting, IsPassing, IsFailing, HasStopped, IsAt}
use Rattle.cell_core.proofs.Requests.{reached_waits}
use Rattle.cell_core.proofs.SavesLemmas.{over_not_passed, mark, rest_after, rest_of_none, saves_none, stop_mark, marks, saves_more}
use Rattle.cell_core.specs.Acts.{Meets, IsTimely}
use Rattle.cell_core.proofs.Moving.{rest_none, rest_last, rest_no_more, rest_whole, rest_empty, reached_closed, is_stopped, shows, no_cause_on, reached_nothing, reached_prepared}
use Rattle.cell_core.proofs.RightClosing.{passed_saved, fails_saved, saved_is}
use Rattle.cell_core.proofs.Right.{stands_saved}
use Rattle.cell_core.specs.Laws.{settled_by, asked_for, settles, AsksInOrder}
use Rattle.cell_core.proofs.Lists.{passed_stays}
use Rattle.cell_core.proofs.SavesLemmas.{saves_fails, saves_quiet}
use Rattle.cell_core.proofs.Runs.{follows, awaits_is}

-- what was asked for, in each state
abbrev pub SoFar : Task → State → List Event → List ℕ → Type 0
SoFar task Preparing events asked = asked ≡ []
SoFar task (Starting due) events asked = asked ≡ []
SoFar task (Running r) events asked = asked ≡ settles (marks task r.at)
SoFar task (Passing k) events asked = asked ≡ settles (marks task k ++ mark task k ∷ [])
SoFar task (Failing k w) events asked = asked ≡ settles (marks task k ++ stop_mark task k ∷ [])
SoFar task Closing events asked = 0 ∷ asked ≡ settles (saves task events)
SoFar task (Stopped failing) events asked = 0 ∷ asked ≡ settles (saves task events)

settles_more : (xs : List Prefix) (x : Prefix) → settles (xs ++ x ∷ []) ≡ settles xs ++ x.settled ∷ []
settles_more [] x = refl
settles_more (y ∷ ys) x = ap (λ (zs : List ℕ). y.settled ∷ zs) (settles_more ys x)

quietly : (asked due : List ℕ) → asked ≡ due → asked ++ [] ≡ due
quietly asked due e = append-nil asked ∙ e

passing_far : (task : Task) (k : ℕ) (asked : List ℕ) → asked ≡ settles (marks task k) → asked ++ (cell_of task k + 1) ∷ [] ≡ settles (marks task k ++ mark task k ∷ [])
passing_far task k asked e = ap (λ (xs : List ℕ). xs ++ (cell_of task k + 1) ∷ []) e ∙ sym (settles_more (marks task k) (mark task k))

failing_far : (task : Task) (k : ℕ) (asked : List ℕ) → asked ≡ settles (marks task k) → asked ++ (cell_of task k + 1) ∷ [] ≡ settles (marks task k ++ stop_mark task k ∷ [])
failing_far task k asked e = ap (λ (xs : List ℕ). xs ++ (cell_of task k + 1) ∷ []) e ∙ sym (settles_more (marks task k) (stop_mark task k))

one_by_one : (xs : List Prefix) (x : Prefix) (ys : List Prefix) → (xs ++ x ∷ []) ++ ys ≡ xs ++ (x ∷ ys)
one_by_one xs x ys = simp append_assoc

-- what a move asks for besides
abbrev pub Far : Task → Moved → List Event → List ℕ → Type 0
Far task to events asked = SoFar task to.state events (asked ++ settled_by to.step.act)

far_if : (task : Task) (events : List Event) (asked : List ℕ) (b : Bool) (x y : Moved) → Far task x events asked → Far task y events asked → Far task (if b then x else y) events asked
far_if task events asked true x y p q = p
far_if task events asked false x y p q = q

ends_far : (task : Task) (k : ℕ) (fatal : Bool) (events : List Event) (asked : List ℕ) → asked ≡ settles (marks task k) → Far task (ends task k fatal) events asked
ends_far task k true events asked e = failing_far task k asked e
ends_far task k false events asked e = passing_far task k asked e

look_far : (task : Task) (k : ℕ) (fatal : Option Bool) (idle : Bool) (due : Option ℕ) (interrupted late : Bool) (events : List Event) (asked : List ℕ) → asked ≡ settles (marks task k) → Far task (look_or (running_state k fatal idle due interrupted) late) events asked
look_far task k fatal idle due interrupted true events asked e = quietly asked _ e
look_far task k fatal idle due interrupted false events asked e = quietly asked _ e

late_far : (task : Task) (clock : Clock) (k : ℕ) (fatal : Option Bool) (idle interrupted : Bool) (events : List Event) (asked : List ℕ) → asked ≡ settles (marks task k) → Far task (late task clock k fatal idle interrupted) events asked
late_far task clock k (Some f) idle interrupted events asked e = failing_far task k asked e
late_far task clock k None idle interrupted events asked e =
    far_if task events asked (task.times.interrupt && not interrupted) (move (running_state k None idle (Some (now_of clock + 10000)) true) false Interrupt) (fails task k TimedOut) (quietly asked _ e) (failing_far task k asked e)

running_far : (task : Task) (clock : Clock) (lost : Bool) (k : ℕ) (fatal : Option Bool) (idle : Bool) (due : Option ℕ) (interrupted : Bool) (event : Event) (events : List Event) (asked : List ℕ)
    → asked ≡ settles (marks task k) → Far task (in_running task clock lost k fatal idle due interrupted event) events asked
running_far task clock lost k fatal true due interrupted (Io m) events asked e = quietly asked _ e
running_far task clock lost k (Some f) false due interrupted (Io Idle) events asked e = ends_far task k f events asked e
running_far task clock lost k None false due interrupted (Io Idle) events asked e = quietly asked _ e
running_far task clock lost k fatal false due interrupted (Io Else) events asked e = quietly asked _ e
running_far task clock lost k (Some old) idle due interrupted (Reply f) events asked e = quietly asked _ e
running_far task clock lost k None true due interrupted (Reply f) events asked e = ends_far task k f events asked e
running_far task clock lost k None false due interrupted (Reply f) events asked e = quietly asked _ e
running_far task clock lost k fatal idle due interrupted Looked events asked e =
    far_if task events asked lost (fails task k KernelLost) (if is_past clock due then late task clock k fatal idle interrupted else stays (running_state k fatal idle due interrupted)) (failing_far task k asked e)
    (far_if task events asked (is_past clock due) (late task clock k fatal idle interrupted) (stays (running_state k fatal idle due interrupted)) (late_far task clock k fatal idle interrupted events asked e) (quietly asked _ e))
running_far task clock lost k fatal idle due interrupted (Moment t) events asked e = look_far task k fatal idle due interrupted (is_past (read_again clock t) due) events asked e
running_far task clock lost k fatal idle due interrupted Broken events asked e = failing_far task k asked e
running_far task clock lost k fatal idle due interrupted Saved events asked e = quietly asked _ e
running_far task clock lost k fatal idle due interrupted Ready events asked e = quietly asked _ e
running_far task clock lost k fatal idle due interrupted Lost events asked e = quietly asked _ e

-- before readiness
stops_far : {task : Task} {clock : Clock} {lost : Bool} {due : Option ℕ} {past : List Event} (w : Why) (event : Event) (asked : List ℕ) → IsStarting task clock lost due past → is_saved event ≡ false → is_ready event ≡ false → asked ≡ []
    → Far task (stops w) (event ∷ past) asked
stops_far {task} {clock} {lost} {due} {past} w event asked a h g e =
    ap (λ (xs : List ℕ). 0 ∷ xs) (quietly asked [] e) ∙ sym (ap settles (saves_none (reached_waits a.reached event h g a.ready) ∙ ap (λ (xs : List Prefix). after_preparation ∷ xs) (rest_none task a.planned)))

starting_far : (task : Task) (clock : Clock) (lost : Bool) (due : Option ℕ) (event : Event) (past : List Event) (asked : List ℕ) → IsStarting task clock lost due past → asked ≡ [] → Far task (in_starting task clock lost due event) (event ∷ past) asked
starting_far task clock lost due Saved past asked a e = quietly asked [] e
starting_far task clock lost due Ready past asked a e = quietly asked [] e
starting_far task clock lost due (Io m) past asked a e = quietly asked [] e
starting_far task clock lost due (Reply f) past asked a e = quietly asked [] e
starting_far task clock lost due Lost past asked a e = quietly asked [] e
starting_far task clock lost due (Moment t) past asked a e =
    elim (cases_Bool (is_past (read_again clock t) (start_due task clock due t))) [ inl yet ↦ rw yet (quietly asked [] e) | inr not_yet ↦ rw not_yet (quietly asked [] e) ]
starting_far task clock lost due Looked past asked a e =
    far_if task (Looked ∷ past) asked lost (stops KernelLost) (if is_past clock due then stops NotReady else stays (Starting due)) (stops_far KernelLost Looked asked a refl refl e)
    (far_if task (Looked ∷ past) asked (is_past clock due) (stops NotReady) (stays (Starting due)) (stops_far NotReady Looked asked a refl refl e) (quietly asked [] e))
starting_far task clock lost due Broken past asked a e = stops_far BadPeer Broken asked a refl refl e

-- the acknowledgement of a save
passed_all : {task : Task} {clock : Clock} {lost : Bool} {k : ℕ} {past : List Event} (a : IsPassing task clock lost k past) (rest : List Prefix) → length task.plan ≤ k + 1 → rest_after task k ≡ rest
    → settles (saves task (Saved ∷ past)) ≡ 0 ∷ (settles (marks task k ++ mark task k ∷ []) ++ settles rest)
passed_all {task} {clock} {lost} {k} {past} a rest le e =
    ap settles (saves_more (passed_saved a le) (passed_stays Saved a.later a.passed) ∙ ap (λ (xs : List Prefix). (after_preparation ∷ marks task k) ++ (mark task k ∷ xs)) e ∙ sym (one_by_one (after_preparation ∷ marks task k) (mark task k) rest))
    ∙ ap (λ (xs : List ℕ). 0 ∷ xs) (map-append (λ (p : Prefix). p.settled) (marks task k ++ mark task k ∷ []) rest)

passed_far : (task : Task) (clock : Clock) (lost : Bool) (k : ℕ) (past : List Event) (asked : List ℕ) → IsPassing task clock lost k past → asked ≡ settles (marks task k ++ mark task k ∷ []) → Far task (on_passed task clock k) (Saved ∷ past) asked
passed_far task clock lost k past asked a e =
    elim (cases_lt (k + 1) (length task.plan)) [
      | inl lt ↦ rw (lt-ltb (k + 1) (length task.plan) lt) (quietly asked _ (e ∙ (let n : suc k ≡ k + 1 = omega arith in ap (λ (i : ℕ). settles (marks task i)) n)))
      | inr le ↦ rw (le-ltb (k + 1) (length task.plan) le)
          (elim (cases_lt (cell_of task k + 1) task.cells) [
            | inl less ↦
                let planned = a.stands.planned in
                let last : k + 1 ≡ length task.plan = omega (arith, le, planned) in
                rw (lt-ltb (cell_of task k + 1) task.cells less) (ap (λ (xs : List ℕ). 0 ∷ (xs ++ task.cells ∷ [])) e ∙ sym (passed_all a _ le (rest_last task k last less)))
            | inr more ↦
                rw (le-ltb (cell_of task k + 1) task.cells more)
                (ap (λ (xs : List ℕ). 0 ∷ (xs ++ [])) e ∙ sym (passed_all a [] le (rest_no_more task k more)))
          ])
    ]

failed_far : (task : Task) (k : ℕ) (w : Why) (past : List Event) (asked : List ℕ) → IsFailing task k w past → asked ≡ settles (marks task k ++ stop_mark task k ∷ []) → 0 ∷ (asked ++ []) ≡ settles (saves task (Saved ∷ past))
failed_far task k w past asked a e =
    ap (λ (xs : List ℕ). 0 ∷ xs) (quietly asked _ e) ∙ sym (ap settles (saves_fails (stands_saved a.stands (inl a.fails.not_passed)) (fails_saved a.fails)))

closed_far : (task : Task) (clock : Clock) (lost : Bool) (past : List Event) (asked : List ℕ) → IsAt task clock lost Closing past → 0 ∷ asked ≡ settles (saves task past) → 0 ∷ (asked ++ []) ≡ settles (saves task (Saved ∷ past))
closed_far task clock lost past asked (inl a) e =
    let e' = subst (λ (es : List Event). 0 ∷ asked ≡ settles (saves task es)) a.2 e in
    ap (λ (xs : List ℕ). 0 ∷ xs) (append-nil asked) ∙ e' ∙ ap settles (saves_none (reached_prepared task) ∙ sym (saves_none (reached_closed task)))
    ∙ ap (λ (es : List Event). settles (saves task (Saved ∷ es))) (sym a.2)
closed_far task clock lost past asked (inr a) e =
    let last = a.1.last in
    let s = stands_saved a.1.stands (inr (omega (arith, last))) in
    ap (λ (xs : List ℕ). 0 ∷ xs) (append-nil asked) ∙ e ∙ ap settles (saves_more a.1.stands a.1.passed ∙ sym (saves_more s (passed_stays Saved a.1.later a.1.passed)))

first_far : (task : Task) → Far task (in_preparing task Saved) (Saved ∷ []) []
first_far task =
    elim (cases_lt 0 (length task.plan)) [
      | inl lt ↦ rw (lt-ltb 0 (length task.plan) lt) refl
      | inr le ↦ rw (le-ltb 0 (length task.plan) le)
          (elim (cases_lt 0 task.cells) [
            | inl less ↦ rw (lt-ltb 0 task.cells less) (sym (ap settles (saves_none (reached_prepared task) ∙ ap (λ (xs : List Prefix). after_preparation ∷ xs) (rest_whole task (omega (arith, le)) less))))
            | inr more ↦ rw (le-ltb 0 task.cells more) (sym (ap settles (saves_none (reached_prepared task) ∙ ap (λ (xs : List Prefix). after_preparation ∷ xs) (rest_empty task more))))
          ])
    ]

move_far : (task : Task) (clock : Clock) (lost : Bool) (state : State) (event : Event) (past : List Event) (asked : List ℕ) → IsAt task clock lost state past → is_stopped state ≡ false → is_saved event ≡ awaits state → SoFar task state past asked
    → Far task (next_move task clock lost state event) (event ∷ past) asked
move_far task clock lost Preparing event past asked a live h e =
    subst (λ (x : Event). Far task (in_preparing task x) (x ∷ past) asked) (sym (saved_is event h))
    (subst (λ (es : List Event). Far task (in_preparing task Saved) (Saved ∷ es) asked) (sym a.0) (subst (λ (xs : List ℕ). Far task (in_preparing task Saved) (Saved ∷ []) xs) (sym e) (first_far task)))
move_far task clock lost (Starting due) event past asked a live h e = starting_far task clock lost due event past asked a e
move_far task clock lost (Running r) event past asked a live h e = running_far task clock lost r.at r.fatal r.idle r.due r.interrupted event (event ∷ past) asked e
move_far task clock lost (Passing k) event past asked a live h e = subst (λ (x : Event). Far task (in_passing task clock k x) (x ∷ past) asked) (sym (saved_is event h)) (passed_far task clock lost k past asked a e)
move_far task clock lost Closing event past asked a live h e = subst (λ (x : Event). Far task (in_closing x) (x ∷ past) asked) (sym (saved_is event h)) (closed_far task clock lost past asked a e)
move_far task clock lost (Failing k w) event past asked a live h e = subst (λ (x : Event). Far task (in_failing k w x) (x ∷ past) asked) (sym (saved_is event h)) (failed_far task k w past asked a e)
move_far task clock lost (Stopped failing) event past asked a live h e = absurd (true≢false live)

-- a list of events that meets the order, with what was asked for
pub record Tallied (task : Task) (events : List Event) : Type 0 where
  pub clock : Clock
  pub lost : Bool
  pub state : State
  pub stands : IsAt task clock lost state (heard task events)
  pub so_far : SoFar task state (heard task events) (asked_for task events)

tally_live : (task : Task) (event : Event) (past : List Event) (clock : Clock) (lost : Bool) (state : State) → IsAt task clock lost state (heard task past) → SoFar task state (heard task past) (asked_for task past) → is_stopped state ≡ false
    → is_saved event ≡ awaits state → IsTimely task event past → ForSome task.times.limit_ms (λ limit. 0 < limit) → Tallied task (event ∷ past)
tally_live task event past clock lost state a e live h timely later =
    let f = follows task clock lost state event past a h timely later in
    let g = (shows task clock lost state (heard task past) a live).goes_on in
    let far = move_far task clock lost state event (heard task past) (asked_for task past) a live h e in
    let asked : asked_for task (event ∷ past) ≡ asked_for task past ++ settled_by (next_move task clock lost state event).step.act = ap (λ (act : Act). asked_for task past ++ settled_by act) (sym f.act) in
    record {
      clock = clock_after clock event;
      lost = lost_after lost event;
      state = (next_move task clock lost state event).state;
      stands = f.stands;
      so_far = subst (λ (xs : List ℕ). SoFar task (next_move task clock lost state event).state (heard task (event ∷ past)) xs) (sym asked)
          (subst (λ (es : List Event). SoFar task (next_move task clock lost state event).state es (asked_for task past ++ settled_by (next_move task clock lost state event).step.act)) (sym (ap (λ (b : Bool). if b then heard task past else event ∷ heard task past) g)) far);
    }

tally_step : (task : Task) (event : Event) (past : List Event) (clock : Clock) (lost : Bool) (state : State) → IsAt task clock lost state (heard task past) → SoFar task state (heard task past) (asked_for task past)
    → is_saved event ≡ awaits state → IsTimely task event past → ForSome task.times.limit_ms (λ limit. 0 < limit) → Tallied task (event ∷ past)
tally_step task event past clock lost (Stopped failing) a e h timely later =
    let same : heard task (event ∷ past) ≡ heard task past = ap (λ (b : Bool). if b then heard task past else event ∷ heard task past) a.stopped in
    let asked : asked_for task (event ∷ past) ≡ asked_for task past =
    ap (λ (b : Bool). asked_for task past ++ settled_by (if b then Nothing else act_at task (event ∷ heard task past))) a.stopped ∙ append-nil (asked_for task past) in
    record {
      clock = clock;
      lost = lost;
      state = Stopped failing;
      stands = subst (λ (es : List Event). HasStopped task failing es) (sym same) a;
      so_far = ap (λ (xs : List ℕ). 0 ∷ xs) asked ∙ e ∙ ap (λ (es : List Event). settles (saves task es)) (sym same);
    }
tally_step task event past clock lost Preparing a e h timely later = tally_live task event past clock lost Preparing a e refl h timely later
tally_step task event past clock lost (Starting due) a e h timely later = tally_live task event past clock lost (Starting due) a e refl h timely later
tally_step task event past clock lost (Running r) a e h timely later = tally_live task event past clock lost (Running r) a e refl h timely later
tally_step task event past clock lost (Passing k) a e h timely later = tally_live task event past clock lost (Passing k) a e refl h timely later
tally_step task event past clock lost Closing a e h timely later = tally_live task event past clock lost Closing a e refl h timely later
tally_step task event past clock lost (Failing k w) a e h timely later = tally_live task event past clock lost (Failing k w) a e refl h timely later

tally : (task : Task) (events : List Event) → Meets task events → ForSome task.times.limit_ms (λ limit. 0 < limit) → Tallied task events
tally task [] meets later = record { clock = Unread; lost = false; state = Preparing; stands = (refl, refl, refl); so_far = refl }
tally task (event ∷ past) meets later =
    let t = tally task past meets.2 later in
    tally_step task event past t.clock t.lost t.state t.stands t.so_far (meets.0 ∙ awaits_is task t.clock t.lost t.state past t.stands) meets.1 later

not_yet : (task : Task) (events : List Event) (rest : List ℕ) → has_stopped task events ≡ false → has_stopped task events ≡ true → rest ≡ []
not_yet task events rest on stopped = absurd (true≢false (sym stopped ∙ on))

order_by : (task : Task) (clock : Clock) (lost : Bool) (state : State) (events : List Event) → IsAt task clock lost state (heard task events) → SoFar task state (heard task events) (asked_for task events) → AsksInOrder task events
order_by task clock lost Preparing events a e =
    record {
      rest = settles (rest_of_none task);
      all = ap (λ (es : List Event). settles (saves task es)) a.0 ∙ ap settles (saves_none (reached_nothing task)) ∙ ap (λ (xs : List ℕ). 0 ∷ (xs ++ settles (rest_of_none task))) (sym e);
      whole = not_yet task (heard task events) _ (shows task clock lost Preparing (heard task events) a refl).goes_on;
    }
order_by task clock lost (Starting due) events a e =
    record {
      rest = [];
      all = ap settles (saves_none a.reached ∙ ap (λ (xs : List Prefix). after_preparation ∷ xs) (rest_none task a.planned)) ∙ ap (λ (xs : List ℕ). 0 ∷ (xs ++ [])) (sym e);
      whole = λ stopped. refl;
    }
order_by task clock lost (Running r) events a e =
    record {
      rest = [];
      all = ap settles (saves_quiet a.stands (over_not_passed a.later a.on) (no_cause_on a) ∙ append-nil (after_preparation ∷ marks task r.at)) ∙ ap (λ (xs : List ℕ). 0 ∷ xs) (sym (quietly _ _ e));
      whole = λ stopped. refl;
    }
order_by task clock lost (Passing k) events a e =
    record {
      rest = settles (rest_after task k);
      all = ap settles (saves_more a.stands a.passed ∙ sym (one_by_one (after_preparation ∷ marks task k) (mark task k) (rest_after task k)))
          ∙ ap (λ (xs : List ℕ). 0 ∷ xs) (map-append (λ (p : Prefix). p.settled) (marks task k ++ mark task k ∷ []) (rest_after task k) ∙ ap (λ (xs : List ℕ). xs ++ settles (rest_after task k)) (sym e));
      whole = not_yet task (heard task events) _ (shows task clock lost (Passing k) (heard task events) a refl).goes_on;
    }
order_by task clock lost (Failing k w) events a e =
    record { rest = []; all = ap settles (saves_fails a.stands a.fails) ∙ ap (λ (xs : List ℕ). 0 ∷ xs) (sym (quietly _ _ e)); whole = λ stopped. refl }
order_by task clock lost Closing events a e = record { rest = []; all = sym e ∙ sym (append-nil _); whole = λ stopped. refl }
order_by task clock lost (Stopped failing) events a e = record { rest = []; all = sym e ∙ sym (append-nil _); whole = λ stopped. refl }

pub in_order : (task : Task) (events : List Event) → Meets task events → ForSome task.times.limit_ms (λ limit. 0 < limit) → AsksInOrder task events
in_order task events meets later = (let t = tally task events meets later in order_by task t.clock t.lost t.state events t.stands t.so_far)
