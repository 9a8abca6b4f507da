-- What one call of the core does to each list of events that it stands for.
use Rattle.std.proofs.Common.{◌≡◌, ℕ, ◌+◌, ◌<◌, ◌^◌, ◌≤◌, List, [], ◌∷◌, length, Bool, true, false, not, ◌&&◌, if◌then◌else◌, nat_lt, Option, Some, None, is_some, refl, sym, ap, subst, ◌∙◌, arith, inl, inr}
use Rattle.std.specs.Option.{ForSome}
use Rattle.std.proofs.lemmas.Bool.{and_parts, cases_lt, le-ltb, lt-ltb, cases_Bool}
use Rattle.cell_core.specs.declared.event.Event.{Event}
use Rattle.cell_core.specs.declared.event.Event.TheVariants.{Saved, Ready, Io, Reply, Moment, Looked, Lost, Broken}
use Rattle.cell_core.specs.declared.brief.Brief.TheVariants.{Idle, Else}
use Rattle.cell_core.specs.declared.why.Why.{Why}
use Rattle.cell_core.specs.declared.why.Why.TheVariants.{Done, NotReady, KernelLost, TimedOut}
use Rattle.cell_core.specs.declared.act.Act.TheVariants.{Nothing, Start, Interrupt, Save}
use Rattle.cell_core.specs.declared.state.State.{State}
use Rattle.cell_core.specs.declared.state.State.TheVariants.{Preparing, Starting, Running, Passing, Closing, Failing, Stopped}
use Rattle.cell_core.specs.declared.moved.Moved.{Moved}
use Rattle.cell_core.specs.Task.{Task, cell_of}
use Rattle.cell_core.specs.Events.{is_saved}
use Rattle.cell_core.specs.Requests.{has_idle, own, reply, is_over, is_fatal, is_passed, Standing, standing}
use Rattle.cell_core.specs.Saves.{why, pending_saves}
use Rattle.cell_core.specs.Acts.{is_empty, has_stopped, heard, act_at, due_at, is_used, awaits_saved}
use Rattle.cell_core.specs.declared.clock.Clock.{Clock}
use Rattle.cell_core.specs.declared.clock.Clock.TheVariants.{Unread, Started, Turned}
use Rattle.cell_core.specs.Holds.{running_state, awaits, now_of, is_past, read_again, clock_after, lost_after}
use Rattle.cell_core.specs.Moves.{move, stays, sends, ends, fails, stops, in_preparing, start_due, look_or, in_starting, late, in_running, on_passed, in_passing, in_closing, in_failing, next_move}
use Rattle.cell_core.specs.StandsFor.{Stands, HasStopped, IsAt, failing_in}
use Rattle.cell_core.proofs.Requests.{standing_is, standing_none}
use Rattle.cell_core.proofs.SavesLemmas.{over_not_passed, why_none_on, why_fails}
use Rattle.cell_core.specs.Acts.{act_of, takes_of, Meets, IsTimely, failing_of, due_of}
use Rattle.cell_core.specs.Holds.{reach, is_save, due_in, IsSmall}
use Rattle.cell_core.proofs.Moving.{is_stopped, shows, why_waits, no_cause_none, no_cause_on, reached_nothing, reached_prepared}
use Rattle.cell_core.proofs.RightClosing.{right, saved_is}
use Rattle.cell_core.proofs.RightRunning.{Keeps}

-- a clock entry that comes in time
keeps_by : (task : Task) (event : Event) (past : List Event) → IsTimely task event past → has_stopped task (heard task past) ≡ false → Keeps task event (heard task past)
keeps_by task (Moment t) past timely g = timely g
keeps_by task Saved past timely g = tt
keeps_by task Ready past timely g = tt
keeps_by task (Io m) past timely g = tt
keeps_by task (Reply f) past timely g = tt
keeps_by task Looked past timely g = tt
keeps_by task Lost past timely g = tt
keeps_by task Broken past timely g = tt

-- What a move gives over all events, those after a stop among them.
pub record Follows (task : Task) (clock : Clock) (lost : Bool) (to : Moved) (event : Event) (past : List Event) : Type 0 where
  pub stands : IsAt task (clock_after clock event) (lost_after lost event) to.state (heard task (event ∷ past))
  pub act : to.step.act ≡ act_of task event past
  pub takes : to.step.takes ≡ takes_of task event past

live : (task : Task) (clock : Clock) (lost : Bool) (state : State) (event : Event) (past : List Event) → IsAt task clock lost state (heard task past) → is_stopped state ≡ false → is_saved event ≡ awaits state → IsTimely task event past
    → ForSome task.times.limit_ms (λ limit. 0 < limit) → Follows task clock lost (next_move task clock lost state event) event past
live task clock lost state event past a l h timely later =
    let g = (shows task clock lost state (heard task past) a l).goes_on in
    let r = right task clock lost state event (heard task past) a l h (keeps_by task event past timely g) later in
    record {
      stands = subst (λ (es : List Event). IsAt task (clock_after clock event) (lost_after lost event) (next_move task clock lost state event).state es) (sym (ap (λ (b : Bool). if b then heard task past else event ∷ heard task past) g)) r.stands;
      act = r.act ∙ sym (ap (λ (b : Bool). if b then Nothing else act_at task (event ∷ heard task past)) g);
      takes = r.takes ∙ sym (ap (λ (b : Bool). if b then false else is_used event (standing task (heard task past))) g);
    }

pub follows : (task : Task) (clock : Clock) (lost : Bool) (state : State) (event : Event) (past : List Event) → IsAt task clock lost state (heard task past) → is_saved event ≡ awaits state → IsTimely task event past
    → ForSome task.times.limit_ms (λ limit. 0 < limit) → Follows task clock lost (next_move task clock lost state event) event past
follows task clock lost (Stopped failing) event past a h timely later =
    record {
      stands = subst (λ (es : List Event). HasStopped task failing es) (sym (ap (λ (b : Bool). if b then heard task past else event ∷ heard task past) a.stopped)) a;
      act = sym (ap (λ (b : Bool). if b then Nothing else act_at task (event ∷ heard task past)) a.stopped);
      takes = sym (ap (λ (b : Bool). if b then false else is_used event (standing task (heard task past))) a.stopped);
    }
follows task clock lost Preparing event past a h timely later = live task clock lost Preparing event past a refl h timely later
follows task clock lost (Starting due) event past a h timely later = live task clock lost (Starting due) event past a refl h timely later
follows task clock lost (Running r) event past a h timely later = live task clock lost (Running r) event past a refl h timely later
follows task clock lost (Passing k) event past a h timely later = live task clock lost (Passing k) event past a refl h timely later
follows task clock lost Closing event past a h timely later = live task clock lost Closing event past a refl h timely later
follows task clock lost (Failing k w) event past a h timely later = live task clock lost (Failing k w) event past a refl h timely later

-- the stopping cell
pub failing_is : (task : Task) (clock : Clock) (lost : Bool) (state : State) (events : List Event) → IsAt task clock lost state (heard task events) → failing_of task events ≡ failing_in task state
failing_is task clock lost (Stopped failing) events a = a.names
failing_is task clock lost Preparing events a = (shows task clock lost Preparing (heard task events) a refl).names
failing_is task clock lost (Starting due) events a = (shows task clock lost (Starting due) (heard task events) a refl).names
failing_is task clock lost (Running r) events a = (shows task clock lost (Running r) (heard task events) a refl).names
failing_is task clock lost (Passing k) events a = (shows task clock lost (Passing k) (heard task events) a refl).names
failing_is task clock lost Closing events a = (shows task clock lost Closing (heard task events) a refl).names
failing_is task clock lost (Failing k w) events a = (shows task clock lost (Failing k w) (heard task events) a refl).names

-- a save is due exactly where the state awaits its acknowledgement
pub awaits_is : (task : Task) (clock : Clock) (lost : Bool) (state : State) (events : List Event) → IsAt task clock lost state (heard task events) → awaits_saved task events ≡ awaits state
awaits_is task clock lost (Stopped failing) events a =
    ap not (and_parts (is_some (why task (heard task events))) (is_empty (pending_saves task (heard task events))) a.stopped).1
awaits_is task clock lost Preparing events a = (shows task clock lost Preparing (heard task events) a refl).awaits_it
awaits_is task clock lost (Starting due) events a = (shows task clock lost (Starting due) (heard task events) a refl).awaits_it
awaits_is task clock lost (Running r) events a = (shows task clock lost (Running r) (heard task events) a refl).awaits_it
awaits_is task clock lost (Passing k) events a = (shows task clock lost (Passing k) (heard task events) a refl).awaits_it
awaits_is task clock lost Closing events a = (shows task clock lost Closing (heard task events) a refl).awaits_it
awaits_is task clock lost (Failing k w) events a = (shows task clock lost (Failing k w) (heard task events) a refl).awaits_it

-- a state for each list that meets the order
pub record Found (task : Task) (events : List Event) : Type 0 where
  pub clock : Clock
  pub lost : Bool
  pub state : State
  pub stands : IsAt task clock lost state (heard task events)

pub state_for : (task : Task) (events : List Event) → Meets task events → ForSome task.times.limit_ms (λ limit. 0 < limit) → Found task events
state_for task [] meets later = record { clock = Unread; lost = false; state = Preparing; stands = (refl, refl, refl) }
state_for task (event ∷ past) meets later =
    let before = state_for task past meets.2 later in
    record {
      clock = clock_after before.clock event;
      lost = lost_after before.lost event;
      state = (next_move task before.clock before.lost before.state event).state;
      stands = (follows task before.clock before.lost before.state event past before.stands (meets.0 ∙ awaits_is task before.clock before.lost before.state past before.stands) meets.1 later).stands;
    }

-- after each act that asks for a save its acknowledgement is awaited
if_awaits : (b : Bool) (x y : Moved) → awaits x.state ≡ is_save x.step.act → awaits y.state ≡ is_save y.step.act → awaits (if b then x else y).state ≡ is_save (if b then x else y).step.act
if_awaits true x y p q = p
if_awaits false x y p q = q

if_reach : (b : Bool) (x y : Moved) (n : ℕ) → reach x.state ≤ n → reach y.state ≤ n → reach (if b then x else y).state ≤ n
if_reach true x y n p q = p
if_reach false x y n p q = q

look_awaits : (state : State) (late : Bool) → awaits state ≡ false → awaits (look_or state late).state ≡ is_save (look_or state late).step.act
look_awaits state true h = h
look_awaits state false h = h

late_awaits : (task : Task) (clock : Clock) (k : ℕ) (fatal : Option Bool) (idle interrupted : Bool) → awaits (late task clock k fatal idle interrupted).state ≡ is_save (late task clock k fatal idle interrupted).step.act
late_awaits task clock k (Some f) idle interrupted = refl
late_awaits task clock k None idle interrupted =
    if_awaits (task.times.interrupt && not interrupted) (move (running_state k None idle (Some (now_of clock + 10000)) true) false Interrupt) (fails task k TimedOut) refl refl

ends_awaits : (task : Task) (k : ℕ) (fatal : Bool) → awaits (ends task k fatal).state ≡ is_save (ends task k fatal).step.act
ends_awaits task k true = refl
ends_awaits task k false = refl

ends_reach : (task : Task) (k : ℕ) (fatal : Bool) → reach (ends task k fatal).state ≡ k + 1
ends_reach task k true = refl
ends_reach task k false = refl

running_awaits : (task : Task) (clock : Clock) (lost : Bool) (k : ℕ) (fatal : Option Bool) (idle : Bool) (due : Option ℕ) (interrupted : Bool) (event : Event)
    → awaits (in_running task clock lost k fatal idle due interrupted event).state ≡ is_save (in_running task clock lost k fatal idle due interrupted event).step.act
running_awaits task clock lost k fatal true due interrupted (Io m) = refl
running_awaits task clock lost k (Some f) false due interrupted (Io Idle) = ends_awaits task k f
running_awaits task clock lost k None false due interrupted (Io Idle) = refl
running_awaits task clock lost k fatal false due interrupted (Io Else) = refl
running_awaits task clock lost k (Some old) idle due interrupted (Reply f) = refl
running_awaits task clock lost k None true due interrupted (Reply f) = ends_awaits task k f
running_awaits task clock lost k None false due interrupted (Reply f) = refl
running_awaits task clock lost k fatal idle due interrupted Looked =
    if_awaits lost (fails task k KernelLost) (if is_past clock due then late task clock k fatal idle interrupted else stays (running_state k fatal idle due interrupted)) refl
    (if_awaits (is_past clock due) (late task clock k fatal idle interrupted) (stays (running_state k fatal idle due interrupted)) (late_awaits task clock k fatal idle interrupted) refl)
running_awaits task clock lost k fatal idle due interrupted (Moment t) = look_awaits (running_state k fatal idle due interrupted) (is_past (read_again clock t) due) refl
running_awaits task clock lost k fatal idle due interrupted Broken = refl
running_awaits task clock lost k fatal idle due interrupted Saved = refl
running_awaits task clock lost k fatal idle due interrupted Ready = refl
running_awaits task clock lost k fatal idle due interrupted Lost = refl

starting_awaits : (task : Task) (clock : Clock) (lost : Bool) (due : Option ℕ) (event : Event) → awaits (in_starting task clock lost due event).state ≡ is_save (in_starting task clock lost due event).step.act
starting_awaits task clock lost due Saved = refl
starting_awaits task clock lost due Ready = refl
starting_awaits task clock lost due (Io m) = refl
starting_awaits task clock lost due (Reply f) = refl
starting_awaits task clock lost due (Moment t) = look_awaits (Starting (start_due task clock due t)) (is_past (read_again clock t) (start_due task clock due t)) refl
starting_awaits task clock lost due Looked =
    if_awaits lost (stops KernelLost) (if is_past clock due then stops NotReady else stays (Starting due)) refl (if_awaits (is_past clock due) (stops NotReady) (stays (Starting due)) refl refl)
starting_awaits task clock lost due Lost = refl
starting_awaits task clock lost due Broken = refl

passed_awaits : (task : Task) (clock : Clock) (k : ℕ) → awaits (on_passed task clock k).state ≡ is_save (on_passed task clock k).step.act
passed_awaits task clock k =
    if_awaits (nat_lt (k + 1) (length task.plan)) (sends task clock (k + 1)) (if nat_lt (cell_of task k + 1) task.cells then move Closing false (Save task.cells) else stops Done) refl
    (if_awaits (nat_lt (cell_of task k + 1) task.cells) (move Closing false (Save task.cells)) (stops Done) refl refl)

first_awaits : (task : Task) → awaits (in_preparing task Saved).state ≡ is_save (in_preparing task Saved).step.act
first_awaits task =
    if_awaits (nat_lt 0 (length task.plan)) (move (Starting None) false Start) (if nat_lt 0 task.cells then move Closing false (Save task.cells) else stops Done) refl
    (if_awaits (nat_lt 0 task.cells) (move Closing false (Save task.cells)) (stops Done) refl refl)

pub move_awaits : (task : Task) (clock : Clock) (lost : Bool) (state : State) (event : Event) → is_saved event ≡ awaits state → awaits (next_move task clock lost state event).state ≡ is_save (next_move task clock lost state event).step.act
move_awaits task clock lost Preparing event h = subst (λ (e : Event). awaits (in_preparing task e).state ≡ is_save (in_preparing task e).step.act) (sym (saved_is event h)) (first_awaits task)
move_awaits task clock lost (Passing k) event h = subst (λ (e : Event). awaits (in_passing task clock k e).state ≡ is_save (in_passing task clock k e).step.act) (sym (saved_is event h)) (passed_awaits task clock k)
move_awaits task clock lost Closing event h = subst (λ (e : Event). awaits (in_closing e).state ≡ is_save (in_closing e).step.act) (sym (saved_is event h)) refl
move_awaits task clock lost (Failing k w) event h = subst (λ (e : Event). awaits (in_failing k w e).state ≡ is_save (in_failing k w e).step.act) (sym (saved_is event h)) refl
move_awaits task clock lost (Starting due) event h = starting_awaits task clock lost due event
move_awaits task clock lost (Running r) event h = running_awaits task clock lost r.at r.fatal r.idle r.due r.interrupted event
move_awaits task clock lost (Stopped failing) event h = refl

-- a move names no place past the plan
late_reach : (task : Task) (clock : Clock) (k : ℕ) (fatal : Option Bool) (idle interrupted : Bool) (n : ℕ) → k + 1 ≤ n → reach (late task clock k fatal idle interrupted).state ≤ n
late_reach task clock k (Some f) idle interrupted n le = le
late_reach task clock k None idle interrupted n le =
    if_reach (task.times.interrupt && not interrupted) (move (running_state k None idle (Some (now_of clock + 10000)) true) false Interrupt) (fails task k TimedOut) n le le

running_reach : (task : Task) (clock : Clock) (lost : Bool) (k : ℕ) (fatal : Option Bool) (idle : Bool) (due : Option ℕ) (interrupted : Bool) (event : Event) (n : ℕ) → k + 1 ≤ n
    → reach (in_running task clock lost k fatal idle due interrupted event).state ≤ n
running_reach task clock lost k fatal true due interrupted (Io m) n le = le
running_reach task clock lost k (Some f) false due interrupted (Io Idle) n le = rw (ends_reach task k f) le
running_reach task clock lost k None false due interrupted (Io Idle) n le = le
running_reach task clock lost k fatal false due interrupted (Io Else) n le = le
running_reach task clock lost k (Some old) idle due interrupted (Reply f) n le = le
running_reach task clock lost k None true due interrupted (Reply f) n le = rw (ends_reach task k f) le
running_reach task clock lost k None false due interrupted (Reply f) n le = le
running_reach task clock lost k fatal idle due interrupted Looked n le =
    if_reach lost (fails task k KernelLost) (if is_past clock due then late task clock k fatal idle interrupted else stays (running_state k fatal idle due interrupted)) n le
    (if_reach (is_past clock due) (late task clock k fatal idle interrupted) (stays (running_state k fatal idle due interrupted)) n (late_reach task clock k fatal idle interrupted n le) le)
running_reach task clock lost k fatal idle due interrupted (Moment t) n le = le
running_reach task clock lost k fatal idle due interrupted Broken n le = le
running_reach task clock lost k fatal idle due interrupted Saved n le = le
running_reach task clock lost k fatal idle due interrupted Ready n le = le
running_reach task clock lost k fatal idle due interrupted Lost n le = le

passed_reach : (task : Task) (clock : Clock) (k : ℕ) → reach (on_passed task clock k).state ≤ length task.plan
passed_reach task clock k =
    elim (cases_lt (k + 1) (length task.plan)) [
      | inl lt ↦ rw (lt-ltb (k + 1) (length task.plan) lt) (omega arith)
      | inr ge ↦ rw (le-ltb (k + 1) (length task.plan) ge) (elim (cases_Bool (nat_lt (cell_of task k + 1) task.cells)) [ inl c ↦ rw c (omega arith) | inr c ↦ rw c (omega arith) ])
    ]

first_reach : (task : Task) → reach (in_preparing task Saved).state ≤ length task.plan
first_reach task =
    elim (cases_lt 0 (length task.plan)) [
      | inl lt ↦ rw (lt-ltb 0 (length task.plan) lt) (omega arith)
      | inr ge ↦ rw (le-ltb 0 (length task.plan) ge) (elim (cases_Bool (nat_lt 0 task.cells)) [ inl c ↦ rw c (omega arith) | inr c ↦ rw c (omega arith) ])
    ]

starting_reach : (task : Task) (clock : Clock) (lost : Bool) (due : Option ℕ) (event : Event) (n : ℕ) → 1 ≤ n → reach (in_starting task clock lost due event).state ≤ n
starting_reach task clock lost due Saved n le = le
starting_reach task clock lost due Ready n le = le
starting_reach task clock lost due (Io m) n le = le
starting_reach task clock lost due (Reply f) n le = le
starting_reach task clock lost due (Moment t) n le = le
starting_reach task clock lost due Looked n le =
    if_reach lost (stops KernelLost) (if is_past clock due then stops NotReady else stays (Starting due)) n (omega arith) (if_reach (is_past clock due) (stops NotReady) (stays (Starting due)) n (omega arith) le)
starting_reach task clock lost due Lost n le = le
starting_reach task clock lost due Broken n le = omega arith

pub move_reach : (task : Task) (clock : Clock) (lost : Bool) (state : State) (event : Event) → is_saved event ≡ awaits state → reach state ≤ length task.plan → reach (next_move task clock lost state event).state ≤ length task.plan
move_reach task clock lost (Running r) event h le = running_reach task clock lost r.at r.fatal r.idle r.due r.interrupted event (length task.plan) le
move_reach task clock lost (Passing k) event h le = subst (λ (e : Event). reach (in_passing task clock k e).state ≤ length task.plan) (sym (saved_is event h)) (passed_reach task clock k)
move_reach task clock lost Preparing event h le = subst (λ (e : Event). reach (in_preparing task e).state ≤ length task.plan) (sym (saved_is event h)) (first_reach task)
move_reach task clock lost Closing event h le = subst (λ (e : Event). reach (in_closing e).state ≤ length task.plan) (sym (saved_is event h)) le
move_reach task clock lost (Failing k w) event h le = subst (λ (e : Event). reach (in_failing k w e).state ≤ length task.plan) (sym (saved_is event h)) le
move_reach task clock lost (Stopped failing) event h le = le
move_reach task clock lost (Starting due) event h le = starting_reach task clock lost due event (length task.plan) le

pub follows_by : (task : Task) (clock : Clock) (lost : Bool) (state : State) (to : Moved) (event : Event) (past : List Event) → IsAt task clock lost state (heard task past) → is_saved event ≡ awaits state → IsTimely task event past
    → ForSome task.times.limit_ms (λ limit. 0 < limit) → to ≡ next_move task clock lost state event → Follows task clock lost to event past
follows_by task clock lost state to event past a h timely later e = subst (λ (m : Moved). Follows task clock lost m event past) (sym e) (follows task clock lost state event past a h timely later)

-- the deadline
due_unless : (b : Bool) (x : Option ℕ) → x ≡ None → (if b then None else x) ≡ None
due_unless true x e = refl
due_unless false x e = e

over_due : {task : Task} {k a : ℕ} {later events : List Event} → Stands task k later a events → is_passed later ≡ true → due_at task (standing task events) events ≡ None
over_due {task} {k} {a} {later} {events} s p =
    let over = (and_parts (is_over later) (not (is_fatal later)) p).0 in
    let both = and_parts (is_some (reply later)) (has_idle (own later)) over in
    ap (λ (v : Option Standing). due_at task v events) (standing_is s) ∙ (let r = both.0 in let i = both.1 in rw (r, i) refl)

failed_due : (task : Task) (events : List Event) (x : Option ℕ) → is_some (why task events) ≡ true → (if is_some (why task events) then None else x) ≡ None
failed_due task events x e = ap (λ (b : Bool). if b then None else x) e

pub due_is : (task : Task) (clock : Clock) (lost : Bool) (state : State) (events : List Event) → IsAt task clock lost state (heard task events) → due_of task events ≡ due_in state
due_is task clock lost Preparing events a = due_unless _ _ (ap (λ (es : List Event). due_at task (standing task es) es) a.0 ∙ ap (λ (v : Option Standing). due_at task v []) (standing_none (reached_nothing task)))
due_is task clock lost (Starting due) events a =
    ap (λ (v : Option Why). if is_some v then None else due_at task (standing task (heard task events)) (heard task events)) (why_waits a.reached a.planned ∙ no_cause_none a)
    ∙ ap (λ (v : Option Standing). due_at task v (heard task events)) (standing_none a.reached) ∙ a.until
due_is task clock lost (Running r) events a =
    ap (λ (v : Option Why). if is_some v then None else due_at task (standing task (heard task events)) (heard task events)) (why_none_on a.stands (over_not_passed a.later a.on) (no_cause_on a))
    ∙ ap (λ (v : Option Standing). due_at task v (heard task events)) (standing_is a.stands) ∙ a.until
due_is task clock lost (Passing k) events a = due_unless _ _ (over_due a.stands a.passed)
due_is task clock lost Closing events (inr a) = due_unless _ _ (over_due a.1.stands a.1.passed)
due_is task clock lost Closing events (inl a) =
    due_unless _ _ (ap (λ (es : List Event). due_at task (standing task es) es) a.2 ∙ ap (λ (v : Option Standing). due_at task v (Saved ∷ [])) (standing_none (reached_prepared task)))
due_is task clock lost (Failing k w) events a = failed_due task (heard task events) _ (ap is_some (why_fails a.stands a.fails))
due_is task clock lost (Stopped failing) events a = failed_due task (heard task events) _ (and_parts (is_some (why task (heard task events))) (is_empty (pending_saves task (heard task events))) a.stopped).0

read_early : (clock : Clock) (t : ℕ) → t < 2 ^ 47 → now_of (read_again clock t) < 2 ^ 47
read_early Unread t lt = lt
read_early (Started s) t lt = lt
read_early (Turned s) t lt = lt

pub early_after : (clock : Clock) (event : Event) → now_of clock < 2 ^ 47 → IsSmall event → now_of (clock_after clock event) < 2 ^ 47
early_after clock (Moment t) e small = read_early clock t small
early_after clock Saved e small = e
early_after clock Ready e small = e
early_after clock (Io m) e small = e
early_after clock (Reply f) e small = e
early_after clock Looked e small = e
early_after clock Lost e small = e
early_after clock Broken e small = e
