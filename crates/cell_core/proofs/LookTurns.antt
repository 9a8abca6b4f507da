-- Where each last look that was asked for is done before the clock is read again, every event comes in time.
use Rattle.std.proofs.Common.{◌≡◌, ℕ, ◌+◌, ◌<◌, List, [], ◌∷◌, ◌++◌, length, Bool, true, false, not, ◌&&◌, if◌then◌else◌, nat_le, nat_lt, Option, Some, None, option_map, refl, sym, ap, subst, ◌∙◌, true≢false, arith, inl, inr}
use Rattle.std.specs.Option.{ForSome}
use Rattle.std.proofs.lemmas.Bool.{and_right, lt-leb, false_from_ne_true}
use Rattle.cell_core.specs.declared.event.Event.{Event}
use Rattle.cell_core.specs.declared.event.Event.TheVariants.{Saved, Ready, Io, Reply, Moment, Looked, Lost, Broken}
use Rattle.cell_core.specs.declared.brief.Brief.TheVariants.{Idle, Else}
use Rattle.cell_core.specs.declared.why.Why.TheVariants.{Done, NotReady, KernelLost, TimedOut}
use Rattle.cell_core.specs.declared.act.Act.TheVariants.{Look, Interrupt, Save}
use Rattle.cell_core.specs.declared.state.State.{State}
use Rattle.cell_core.specs.declared.state.State.TheVariants.{Preparing, Starting, Running, Passing, Closing, Failing, Stopped}
use Rattle.cell_core.specs.declared.moved.Moved.{Moved}
use Rattle.cell_core.specs.declared.clock.Clock.{Clock}
use Rattle.cell_core.specs.declared.clock.Clock.TheVariants.{Unread}
use Rattle.cell_core.specs.Task.{Task, cell_of}
use Rattle.cell_core.specs.Events.{is_saved, is_looked, came}
use Rattle.cell_core.specs.Acts.{act_of, awaits_saved, due_of, has_stopped, heard, Meets, IsTimely}
use Rattle.cell_core.specs.Holds.{running_state, awaits, now_of, is_turned, is_past, looks_in, read_again, clock_after, lost_after, due_in}
use Rattle.cell_core.specs.LastLooks.{IsAnswered, IsLookedThrough, IsInTurn, TakesTurns}
use Rattle.cell_core.specs.Moves.{move, stays, sends, ends, fails, stops, in_preparing, start_due, look_or, in_starting, late, in_running, on_passed, in_passing, in_closing, in_failing, next_move}
use Rattle.cell_core.specs.StandsFor.{IsAt}
use Rattle.cell_core.proofs.Looks.{looks_is, timely}
use Rattle.cell_core.proofs.Moving.{shows}
use Rattle.cell_core.proofs.RightClosing.{saved_is}
use Rattle.cell_core.proofs.Runs.{Follows, follows, awaits_is, due_is}

-- A last look was asked for at such an event and isn't done.
record Open (task : Task) (Q : Event → List Event → Type 0) (events : List Event) : Type 0 where
  later : List Event
  event : Event
  before : List Event
  parts : events ≡ later ++ event ∷ before
  asks : act_of task event before ≡ Look
  undone : came is_looked later ≡ false
  such : Q event before

-- at a loss of the kernel
abbrev AtLoss : Event → List Event → Type 0
AtLoss event before = event ≡ Lost

-- at a clock entry, with this deadline
abbrev AtEntry : Task → Option ℕ → Event → List Event → Type 0
AtEntry task due event before = (t : ℕ) × (event ≡ Moment t) × (due_of task (event ∷ before) ≡ due)

open_now : (task : Task) (Q : Event → List Event → Type 0) (event : Event) (past : List Event) → act_of task event past ≡ Look → Q event past → Open task Q (event ∷ past)
open_now task Q event past look q = record { later = []; event = event; before = past; parts = refl; asks = look; undone = refl; such = q }

open_still : {task : Task} {Q : Event → List Event → Type 0} {past : List Event} (event : Event) → is_looked event ≡ false → Open task Q past → Open task Q (event ∷ past)
open_still event h o =
    record {
      later = event ∷ o.later;
      event = o.event;
      before = o.before;
      parts = ap (λ (es : List Event). event ∷ es) o.parts;
      asks = o.asks;
      undone = rw (h, o.undone) refl;
      such = o.such;
    }

-- What waits for a last look: a loss that was found, and an entry past the deadline.
record Owes (task : Task) (clock : Clock) (lost : Bool) (due : Option ℕ) (events : List Event) : Type 0 where
  loss : lost ≡ true → Open task AtLoss events
  entry : is_past clock due ≡ true → Open task (AtEntry task due) events

-- the same, by the state
abbrev OwesIn : Task → Clock → Bool → State → List Event → Type 0
OwesIn task clock lost (Starting due) events = Owes task clock lost due events
OwesIn task clock lost (Running r) events = Owes task clock lost r.due events
OwesIn task clock lost (Passing k) events = lost ≡ true → Open task AtLoss events
OwesIn task clock lost state events = Unit {0}

-- a deadline that is set now isn't past
not_past : (clock : Clock) (n : ℕ) → 0 < n → is_past clock (Some (now_of clock + n)) ≡ false
not_past clock n lt = and_right (is_turned clock) (nat_le (now_of clock + n) (now_of clock)) (lt-leb (now_of clock + n) (now_of clock) (omega arith))

limit_ahead : (task : Task) (clock : Clock) → (o : Option ℕ) → ForSome o (λ limit. 0 < limit) → is_past clock (option_map (λ limit. now_of clock + limit) o) ≡ false
limit_ahead task clock None h = refl
limit_ahead task clock (Some n) h = not_past clock n (h n refl)

-- after an event that is no look and no loss, with a deadline of now
new_due : {task : Task} {clock : Clock} {lost : Bool} {due : Option ℕ} {past : List Event} (event : Event) → is_looked event ≡ false → (lost ≡ true → Open task AtLoss past) → is_past clock due ≡ false
    → Owes task clock lost due (event ∷ past)
new_due event h loss early = record { loss = λ l. open_still event h (loss l); entry = λ p. absurd (true≢false (sym p ∙ early)) }

-- with the same deadline
same_due : {task : Task} {clock : Clock} {lost : Bool} {due : Option ℕ} {past : List Event} (event : Event) → is_looked event ≡ false → Owes task clock lost due past → Owes task clock lost due (event ∷ past)
same_due event h o = record { loss = λ l. open_still event h (o.loss l); entry = λ p. open_still event h (o.entry p) }

-- after a loss
lost_due : {task : Task} {clock : Clock} {lost : Bool} {due : Option ℕ} {past : List Event} → act_of task Lost past ≡ Look → Owes task clock lost due past → Owes task clock true due (Lost ∷ past)
lost_due {task} {clock} {lost} {due} {past} look o = record { loss = λ l. open_now task AtLoss Lost past look refl; entry = λ p. open_still Lost refl (o.entry p) }

-- where nothing is owed
none_due : {task : Task} {clock : Clock} {lost : Bool} {due : Option ℕ} {events : List Event} → lost ≡ false → is_past clock due ≡ false → Owes task clock lost due events
none_due l p = record { loss = λ g. absurd (true≢false (sym g ∙ l)); entry = λ g. absurd (true≢false (sym g ∙ p)) }

-- after an entry, where nothing was owed before
entry_due : {task : Task} (clock : Clock) {lost : Bool} {due : Option ℕ} {past : List Event} (t : ℕ) → lost ≡ false → (is_past (read_again clock t) due ≡ true → act_of task (Moment t) past ≡ Look)
    → due_of task (Moment t ∷ past) ≡ due → Owes task (read_again clock t) lost due (Moment t ∷ past)
entry_due {task} clock {lost} {due} {past} t l look d =
    record {
      loss = λ g. absurd (true≢false (sym g ∙ l));
      entry = λ p. open_now task (AtEntry task due) (Moment t) past (look p) (t, refl, d);
    }

-- ---- an entry comes only where nothing is owed

answered_not : (task : Task) (event : Event) (before past : List Event) (t : ℕ) → event ≡ Moment t → due_of task (event ∷ before) ≡ due_of task past → IsAnswered task event before past → ⊥
answered_not task event before past t e d a = (subst (λ (v : Event). due_of task (v ∷ before) ≡ due_of task past → IsAnswered task v before past → ⊥) (sym e) (λ same not_same. not_same same)) d a

loss_answered_not : (task : Task) (event : Event) (before past : List Event) → event ≡ Lost → IsAnswered task event before past → ⊥
loss_answered_not task event before past e a = (subst (λ (v : Event). IsAnswered task v before past → ⊥) (sym e) (λ none. none)) a

no_loss : {task : Task} {past : List Event} → IsLookedThrough task past → Open task AtLoss past → ⊥
no_loss {task} {past} through o =
    elim (through o.later o.event o.before o.parts o.asks) [
      | inl done ↦ true≢false (sym done ∙ o.undone)
      | inr answered ↦ loss_answered_not task o.event o.before past o.such answered
    ]

no_entry : {task : Task} {due : Option ℕ} {past : List Event} → IsLookedThrough task past → due_of task past ≡ due → Open task (AtEntry task due) past → ⊥
no_entry {task} {due} {past} through d o =
    elim (through o.later o.event o.before o.parts o.asks) [
      | inl done ↦ true≢false (sym done ∙ o.undone)
      | inr answered ↦ answered_not task o.event o.before past o.such.0 o.such.1 (o.such.2 ∙ sym d) answered
    ]

-- nothing is owed
record Calm (clock : Clock) (lost : Bool) (due : Option ℕ) : Type 0 where
  found : lost ≡ false
  early : is_past clock due ≡ false

calm : {task : Task} {clock : Clock} {lost : Bool} {due : Option ℕ} {past : List Event} → IsLookedThrough task past → due_of task past ≡ due → Owes task clock lost due past → Calm clock lost due
calm through d o = record { found = false_from_ne_true _ (λ l. no_loss through (o.loss l)); early = false_from_ne_true _ (λ p. no_entry through d (o.entry p)) }

-- ---- over the moves

if_owes : (task : Task) (clock : Clock) (lost : Bool) (events : List Event) (b : Bool) (x y : Moved) → (b ≡ true → OwesIn task clock lost x.state events) → (b ≡ false → OwesIn task clock lost y.state events)
    → OwesIn task clock lost (if b then x else y).state events
if_owes task clock lost events true x y p q = p refl
if_owes task clock lost events false x y p q = q refl

ends_owes : (task : Task) (clock : Clock) (lost : Bool) (k : ℕ) (fatal : Bool) (events : List Event) → (lost ≡ true → Open task AtLoss events) → OwesIn task clock lost (ends task k fatal).state events
ends_owes task clock lost k true events loss = tt
ends_owes task clock lost k false events loss = loss

-- a request that comes to stand
sent_owes : (task : Task) (clock : Clock) (lost : Bool) (k : ℕ) (event : Event) (past : List Event) → ForSome task.times.limit_ms (λ limit. 0 < limit) → is_looked event ≡ false → (lost ≡ true → Open task AtLoss past)
    → OwesIn task clock lost (sends task clock k).state (event ∷ past)
sent_owes task clock lost k event past later h loss = new_due event h loss (limit_ahead task clock task.times.limit_ms later)

-- what is known of the newest event and the move
record Newest (task : Task) (clock : Clock) (lost : Bool) (due : Option ℕ) (to : Moved) (event : Event) (past : List Event) : Type 0 where
  unsaved : is_saved event ≡ false
  owed : Owes task clock lost due past
  in_turn : (t : ℕ) → event ≡ Moment t → Calm clock lost due
  act : act_of task event past ≡ to.step.act
  until : due_of task (event ∷ past) ≡ due_in to.state

late_owes : (task : Task) (clock : Clock) (lost : Bool) (k : ℕ) (fatal : Option Bool) (idle interrupted : Bool) (events : List Event) → lost ≡ false → OwesIn task clock lost (late task clock k fatal idle interrupted).state events
late_owes task clock lost k (Some f) idle interrupted events l = tt
late_owes task clock lost k None idle interrupted events l =
    if_owes task clock lost events (task.times.interrupt && not interrupted) (move (running_state k None idle (Some (now_of clock + 10000)) true) false Interrupt) (fails task k TimedOut)
    (λ e. none_due l (not_past clock 10000 (omega arith))) (λ e. tt)

running_owes : (task : Task) (clock : Clock) (lost : Bool) (k : ℕ) (fatal : Option Bool) (idle : Bool) (due : Option ℕ) (interrupted : Bool) (event : Event) (past : List Event)
    → Newest task clock lost due (in_running task clock lost k fatal idle due interrupted event) event past
    → OwesIn task (clock_after clock event) (lost_after lost event) (in_running task clock lost k fatal idle due interrupted event).state (event ∷ past)
running_owes task clock lost k fatal true due interrupted (Io m) past n = same_due (Io m) refl n.owed
running_owes task clock lost k (Some f) false due interrupted (Io Idle) past n = ends_owes task clock lost k f (Io Idle ∷ past) (λ l. open_still (Io Idle) refl (n.owed.loss l))
running_owes task clock lost k None false due interrupted (Io Idle) past n = same_due (Io Idle) refl n.owed
running_owes task clock lost k fatal false due interrupted (Io Else) past n = same_due (Io Else) refl n.owed
running_owes task clock lost k (Some old) idle due interrupted (Reply f) past n = same_due (Reply f) refl n.owed
running_owes task clock lost k None true due interrupted (Reply f) past n = ends_owes task clock lost k f (Reply f ∷ past) (λ l. open_still (Reply f) refl (n.owed.loss l))
running_owes task clock lost k None false due interrupted (Reply f) past n = new_due (Reply f) refl n.owed.loss (not_past clock 4000 (omega arith))
running_owes task clock lost k fatal idle due interrupted Looked past n =
    if_owes task clock lost (Looked ∷ past) lost (fails task k KernelLost) (if is_past clock due then late task clock k fatal idle interrupted else stays (running_state k fatal idle due interrupted))
    (λ l. tt)
    (λ l. if_owes task clock lost (Looked ∷ past) (is_past clock due) (late task clock k fatal idle interrupted) (stays (running_state k fatal idle due interrupted))
    (λ p. late_owes task clock lost k fatal idle interrupted (Looked ∷ past) l) (λ p. none_due l p))
running_owes task clock lost k fatal idle due interrupted (Moment t) past n =
    entry_due clock t (n.in_turn t refl).found (λ p. n.act ∙ ap (λ (b : Bool). (look_or (running_state k fatal idle due interrupted) b).step.act) p) n.until
running_owes task clock lost k fatal idle due interrupted Broken past n = tt
running_owes task clock lost k fatal idle due interrupted Saved past n = absurd (true≢false n.unsaved)
running_owes task clock lost k fatal idle due interrupted Ready past n = same_due Ready refl n.owed
running_owes task clock lost k fatal idle due interrupted Lost past n = lost_due n.act n.owed

starting_owes : (task : Task) (clock : Clock) (lost : Bool) (due : Option ℕ) (event : Event) (past : List Event) → ForSome task.times.limit_ms (λ limit. 0 < limit)
    → Newest task clock lost due (in_starting task clock lost due event) event past
    → OwesIn task (clock_after clock event) (lost_after lost event) (in_starting task clock lost due event).state (event ∷ past)
starting_owes task clock lost due Saved past later n = absurd (true≢false n.unsaved)
starting_owes task clock lost due Ready past later n = sent_owes task clock lost 0 Ready past later refl n.owed.loss
starting_owes task clock lost due (Io m) past later n = same_due (Io m) refl n.owed
starting_owes task clock lost due (Reply f) past later n = same_due (Reply f) refl n.owed
starting_owes task clock lost due (Moment t) past later n =
    entry_due clock t (n.in_turn t refl).found (λ p. n.act ∙ ap (λ (b : Bool). (look_or (Starting (start_due task clock due t)) b).step.act) p) n.until
starting_owes task clock lost due Looked past later n =
    if_owes task clock lost (Looked ∷ past) lost (stops KernelLost) (if is_past clock due then stops NotReady else stays (Starting due)) (λ l. tt)
    (λ l. if_owes task clock lost (Looked ∷ past) (is_past clock due) (stops NotReady) (stays (Starting due)) (λ p. tt) (λ p. none_due l p))
starting_owes task clock lost due Lost past later n = lost_due n.act n.owed
starting_owes task clock lost due Broken past later n = tt

passed_owes : (task : Task) (clock : Clock) (lost : Bool) (k : ℕ) (past : List Event) → ForSome task.times.limit_ms (λ limit. 0 < limit) → (lost ≡ true → Open task AtLoss past) → OwesIn task clock lost (on_passed task clock k).state (Saved ∷ past)
passed_owes task clock lost k past later loss =
    if_owes task clock lost (Saved ∷ past) (nat_lt (k + 1) (length task.plan)) (sends task clock (k + 1)) (if nat_lt (cell_of task k + 1) task.cells then move Closing false (Save task.cells) else stops Done)
    (λ e. sent_owes task clock lost (k + 1) Saved past later refl loss)
    (λ e. if_owes task clock lost (Saved ∷ past) (nat_lt (cell_of task k + 1) task.cells) (move Closing false (Save task.cells)) (stops Done) (λ f. tt) (λ f. tt))

first_owes : (task : Task) (clock : Clock) (lost : Bool) (past : List Event) → lost ≡ false → OwesIn task clock lost (in_preparing task Saved).state (Saved ∷ past)
first_owes task clock lost past l =
    if_owes task clock lost (Saved ∷ past) (nat_lt 0 (length task.plan)) _ (if nat_lt 0 task.cells then move Closing false (Save task.cells) else stops Done)
    (λ e. none_due l refl)
    (λ e. if_owes task clock lost (Saved ∷ past) (nat_lt 0 task.cells) (move Closing false (Save task.cells)) (stops Done) (λ f. tt) (λ f. tt))

-- ---- over lists of events

-- a state for the list, in which what waits for a last look is known
record Turned (task : Task) (events : List Event) : Type 0 where
  clock : Clock
  lost : Bool
  state : State
  meets : Meets task events
  stands : IsAt task clock lost state (heard task events)
  owed : OwesIn task clock lost state events

-- an entry is read only where nothing calls for a look
moment_calm : (task : Task) (clock : Clock) (lost : Bool) (state : State) (past : List Event) → IsAt task clock lost state (heard task past) → OwesIn task clock lost state past → awaits state ≡ false
    → IsLookedThrough task past → looks_in clock lost state ≡ false
moment_calm task clock lost (Starting due) past a o w through = (let c = calm through (due_is task clock lost (Starting due) past a) o in rw (c.found, c.early) refl)
moment_calm task clock lost (Running r) past a o w through =
    (let c = calm through (due_is task clock lost (Running r) past a) o in rw (c.found, c.early) refl)
moment_calm task clock lost Preparing past a o w through = refl
moment_calm task clock lost (Passing k) past a o w through = refl
moment_calm task clock lost Closing past a o w through = refl
moment_calm task clock lost (Failing k cause) past a o w through = refl
moment_calm task clock lost (Stopped failing) past a o w through = refl

in_time : (task : Task) (event : Event) (past : List Event) (t : Turned task past) → is_saved event ≡ awaits_saved task past → IsInTurn task event past → IsTimely task event past
in_time task (Moment now) past t s h =
    λ g. (let awaited = awaits_is task t.clock t.lost t.state past t.stands in
    timely task now past (sym s) (looks_is task t.clock t.lost t.state past t.stands awaited ∙ moment_calm task t.clock t.lost t.state past t.stands t.owed (sym awaited ∙ sym s) (h g).1) (h g).0 g)
in_time task Saved past t s h = tt
in_time task Ready past t s h = tt
in_time task (Io m) past t s h = tt
in_time task (Reply f) past t s h = tt
in_time task Looked past t s h = tt
in_time task Lost past t s h = tt
in_time task Broken past t s h = tt

calm_at : {task : Task} {clock : Clock} {lost : Bool} {due : Option ℕ} (event : Event) (past : List Event) → IsInTurn task event past → has_stopped task (heard task past) ≡ false → due_of task past ≡ due
    → Owes task clock lost due past → (t : ℕ) → event ≡ Moment t → Calm clock lost due
calm_at {task} event past h g d o t e = calm ((subst (λ (v : Event). IsInTurn task v past) e h) g).1 d o

owes_after : (task : Task) (clock : Clock) (lost : Bool) (state : State) (event : Event) (past : List Event) → IsAt task clock lost state (heard task past) → OwesIn task clock lost state past
    → is_saved event ≡ awaits state → IsInTurn task event past → Follows task clock lost (next_move task clock lost state event) event past → ForSome task.times.limit_ms (λ limit. 0 < limit)
    → OwesIn task (clock_after clock event) (lost_after lost event) (next_move task clock lost state event).state (event ∷ past)
owes_after task clock lost Preparing event past a o s h f later =
    subst (λ (e : Event). OwesIn task (clock_after clock e) (lost_after lost e) (in_preparing task e).state (e ∷ past)) (sym (saved_is event s)) (first_owes task clock lost past a.2)
owes_after task clock lost (Passing k) event past a o s h f later =
    subst (λ (e : Event). OwesIn task (clock_after clock e) (lost_after lost e) (in_passing task clock k e).state (e ∷ past)) (sym (saved_is event s)) (passed_owes task clock lost k past later o)
owes_after task clock lost Closing event past a o s h f later =
    subst (λ (e : Event). OwesIn task (clock_after clock e) (lost_after lost e) (in_closing e).state (e ∷ past)) (sym (saved_is event s)) tt
owes_after task clock lost (Failing k w) event past a o s h f later =
    subst (λ (e : Event). OwesIn task (clock_after clock e) (lost_after lost e) (in_failing k w e).state (e ∷ past)) (sym (saved_is event s)) tt
owes_after task clock lost (Stopped failing) event past a o s h f later = tt
owes_after task clock lost (Starting due) event past a o s h f later =
    starting_owes task clock lost due event past later
    (record {
      unsaved = s;
      owed = o;
      in_turn = calm_at event past h (shows task clock lost (Starting due) (heard task past) a refl).goes_on (due_is task clock lost (Starting due) past a) o;
      act = sym f.act;
      until = due_is task (clock_after clock event) (lost_after lost event) (next_move task clock lost (Starting due) event).state (event ∷ past) f.stands;
    })
owes_after task clock lost (Running r) event past a o s h f later =
    running_owes task clock lost r.at r.fatal r.idle r.due r.interrupted event past
    (record {
      unsaved = s;
      owed = o;
      in_turn = calm_at event past h (shows task clock lost (Running r) (heard task past) a refl).goes_on (due_is task clock lost (Running r) past a) o;
      act = sym f.act;
      until = due_is task (clock_after clock event) (lost_after lost event) (next_move task clock lost (Running r) event).state (event ∷ past) f.stands;
    })

turned : (task : Task) (events : List Event) → TakesTurns task events → ForSome task.times.limit_ms (λ limit. 0 < limit) → Turned task events
turned task [] h later = record { clock = Unread; lost = false; state = Preparing; meets = tt; stands = (refl, refl, refl); owed = tt }
turned task (event ∷ past) h later =
    let before = turned task past h.2 later in
    let timely_now = in_time task event past before h.0 h.1 in
    let at = h.0 ∙ awaits_is task before.clock before.lost before.state past before.stands in
    let f = follows task before.clock before.lost before.state event past before.stands at timely_now later in
    record {
      clock = clock_after before.clock event;
      lost = lost_after before.lost event;
      state = (next_move task before.clock before.lost before.state event).state;
      meets = (h.0, timely_now, before.meets);
      stands = f.stands;
      owed = owes_after task before.clock before.lost before.state event past before.stands before.owed at h.1 f later;
    }

pub takes_turns : (task : Task) (events : List Event) → TakesTurns task events → ForSome task.times.limit_ms (λ limit. 0 < limit) → Meets task events
takes_turns task events h later = (turned task events h later).meets
