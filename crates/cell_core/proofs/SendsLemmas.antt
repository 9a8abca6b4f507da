-- Each move sends requests in the order of their cells.
use Rattle.std.proofs.Common.{◌≡◌, ℕ, ◌+◌, ◌<◌, ◌≤◌, length, Bool, true, false, not, ◌&&◌, if◌then◌else◌, nat_lt, Option, Some, None, All, refl, sym, subst, ◌∙◌, true≢false, arith, inl, inr}
use Rattle.std.proofs.lemmas.Bool.{cases_lt, lt-ltb, le-ltb}
use Rattle.cell_core.specs.declared.event.Event.{Event}
use Rattle.cell_core.specs.declared.event.Event.TheVariants.{Saved, Ready, Io, Reply, Moment, Looked, Lost, Broken}
use Rattle.cell_core.specs.declared.brief.Brief.TheVariants.{Idle, Else}
use Rattle.cell_core.specs.declared.why.Why.TheVariants.{Done, NotReady, KernelLost, TimedOut}
use Rattle.cell_core.specs.declared.act.Act.TheVariants.{Start, Interrupt, Save}
use Rattle.cell_core.specs.declared.state.State.{State}
use Rattle.cell_core.specs.declared.state.State.TheVariants.{Preparing, Starting, Running, Passing, Closing, Failing, Stopped}
use Rattle.cell_core.specs.declared.moved.Moved.{Moved}
use Rattle.cell_core.specs.declared.clock.Clock.{Clock}
use Rattle.cell_core.specs.Task.{Task, cell_of}
use Rattle.cell_core.specs.Events.{is_saved}
use Rattle.cell_core.specs.Holds.{running_state, awaits, is_save, now_of, is_past, read_again, reach}
use Rattle.cell_core.specs.Moves.{move, stays, sends, ends, fails, stops, in_preparing, start_due, look_or, in_starting, late, in_running, on_passed, in_passing, in_closing, in_failing, next_move}
use Rattle.cell_core.specs.Sending.{next_in, saves_in, IsInOrder, SendsOn}
use Rattle.cell_core.proofs.RightClosing.{saved_is}

-- what is known of a task
record Known (task : Task) : Type 0 where
  below : All (λ i. i < task.cells) task.plan
  ordered : IsInOrder task

within : (task : Task) → Known task → (k : ℕ) → k < length task.plan → cell_of task k + 1 ≤ task.cells
within task w k lt = omega (arith, w.below k 0 lt)

above : (task : Task) → Known task → (k : ℕ) → k + 1 < length task.plan → cell_of task k + 1 ≤ cell_of task (k + 1)
above task w k lt = omega (arith, w.ordered k (k + 1) 0 (omega arith) lt)

-- a move that sends on from this index
abbrev On : Task → ℕ → Moved → Type 0
On task was to = SendsOn task was (next_in task to.state) to.step.act

if_on : (task : Task) (was : ℕ) (b : Bool) (x y : Moved) → (b ≡ true → On task was x) → (b ≡ false → On task was y) → On task was (if b then x else y)
if_on task was true x y p q = p refl
if_on task was false x y p q = q refl

ends_on : (task : Task) → Known task → (k : ℕ) (fatal : Bool) → k < length task.plan → On task (cell_of task k + 1) (ends task k fatal)
ends_on task w k true lt = (omega arith, omega arith, within task w k lt)
ends_on task w k false lt = (omega arith, omega arith, within task w k lt)

look_on : (task : Task) (state : State) (late : Bool) → On task (next_in task state) (look_or state late)
look_on task state true = omega arith
look_on task state false = omega arith

late_on : (task : Task) → Known task → (clock : Clock) (k : ℕ) (fatal : Option Bool) (idle interrupted : Bool) → k < length task.plan → On task (cell_of task k + 1) (late task clock k fatal idle interrupted)
late_on task w clock k (Some f) idle interrupted lt = (omega arith, omega arith, within task w k lt)
late_on task w clock k None idle interrupted lt =
    if_on task (cell_of task k + 1) (task.times.interrupt && not interrupted) (move (running_state k None idle (Some (now_of clock + 10000)) true) false Interrupt) (fails task k TimedOut)
    (λ e. omega arith) (λ e. (omega arith, omega arith, within task w k lt))

running_on : (task : Task) → Known task → (clock : Clock) (lost : Bool) (k : ℕ) (fatal : Option Bool) (idle : Bool) (due : Option ℕ) (interrupted : Bool) (event : Event) → k < length task.plan
    → On task (cell_of task k + 1) (in_running task clock lost k fatal idle due interrupted event)
running_on task w clock lost k fatal true due interrupted (Io m) lt = omega arith
running_on task w clock lost k (Some f) false due interrupted (Io Idle) lt = ends_on task w k f lt
running_on task w clock lost k None false due interrupted (Io Idle) lt = omega arith
running_on task w clock lost k fatal false due interrupted (Io Else) lt = omega arith
running_on task w clock lost k (Some old) idle due interrupted (Reply f) lt = omega arith
running_on task w clock lost k None true due interrupted (Reply f) lt = ends_on task w k f lt
running_on task w clock lost k None false due interrupted (Reply f) lt = omega arith
running_on task w clock lost k fatal idle due interrupted Looked lt =
    if_on task (cell_of task k + 1) lost (fails task k KernelLost) (if is_past clock due then late task clock k fatal idle interrupted else stays (running_state k fatal idle due interrupted))
    (λ e. (omega arith, omega arith, within task w k lt))
    (λ e. if_on task (cell_of task k + 1) (is_past clock due) (late task clock k fatal idle interrupted) (stays (running_state k fatal idle due interrupted))
    (λ p. late_on task w clock k fatal idle interrupted lt) (λ p. omega arith))
running_on task w clock lost k fatal idle due interrupted (Moment t) lt = look_on task (running_state k fatal idle due interrupted) (is_past (read_again clock t) due)
running_on task w clock lost k fatal idle due interrupted Broken lt = (omega arith, omega arith, within task w k lt)
running_on task w clock lost k fatal idle due interrupted Saved lt = omega arith
running_on task w clock lost k fatal idle due interrupted Ready lt = omega arith
running_on task w clock lost k fatal idle due interrupted Lost lt = omega arith

starting_on : (task : Task) → Known task → (clock : Clock) (lost : Bool) (due : Option ℕ) (event : Event) → 0 < length task.plan → On task 0 (in_starting task clock lost due event)
starting_on task w clock lost due Saved lt = omega arith
starting_on task w clock lost due Ready lt = (omega arith, omega (arith, within task w 0 lt), refl)
starting_on task w clock lost due (Io m) lt = omega arith
starting_on task w clock lost due (Reply f) lt = omega arith
starting_on task w clock lost due (Moment t) lt = look_on task (Starting (start_due task clock due t)) (is_past (read_again clock t) (start_due task clock due t))
starting_on task w clock lost due Looked lt =
    if_on task 0 lost (stops KernelLost) (if is_past clock due then stops NotReady else stays (Starting due)) (λ e. omega arith)
    (λ e. if_on task 0 (is_past clock due) (stops NotReady) (stays (Starting due)) (λ p. omega arith) (λ p. omega arith))
starting_on task w clock lost due Lost lt = omega arith
starting_on task w clock lost due Broken lt = omega arith

passed_on : (task : Task) → Known task → (clock : Clock) (k : ℕ) → k < length task.plan → On task (cell_of task k + 1) (on_passed task clock k)
passed_on task w clock k lt =
    elim (cases_lt (k + 1) (length task.plan)) [
      | inl more ↦ rw (lt-ltb (k + 1) (length task.plan) more) (above task w k more, omega (arith, within task w (k + 1) more), refl)
      | inr last ↦ rw (le-ltb (k + 1) (length task.plan) last)
          (if_on task (cell_of task k + 1) (nat_lt (cell_of task k + 1) task.cells) (move Closing false (Save task.cells)) (stops Done)
          (λ e. (within task w k lt, omega arith, omega arith)) (λ e. within task w k lt))
    ]

first_on : (task : Task) → On task 0 (in_preparing task Saved)
first_on task =
    if_on task 0 (nat_lt 0 (length task.plan)) (move (Starting None) false Start) (if nat_lt 0 task.cells then move Closing false (Save task.cells) else stops Done) (λ e. omega arith)
    (λ e. if_on task 0 (nat_lt 0 task.cells) (move Closing false (Save task.cells)) (stops Done) (λ p. (omega arith, omega arith, omega arith)) (λ p. omega arith))

pub move_on : (task : Task) (clock : Clock) (lost : Bool) (state : State) (event : Event) → All (λ i. i < task.cells) task.plan → IsInOrder task → is_saved event ≡ awaits state → reach state ≤ length task.plan
    → SendsOn task (next_in task state) (next_in task (next_move task clock lost state event).state) (next_move task clock lost state event).step.act
move_on task clock lost Preparing event b o h le = subst (λ (e : Event). On task 0 (in_preparing task e)) (sym (saved_is event h)) (first_on task)
move_on task clock lost (Starting due) event b o h le = starting_on task (record { below = b; ordered = o }) clock lost due event (omega (arith, le))
move_on task clock lost (Running r) event b o h le = running_on task (record { below = b; ordered = o }) clock lost r.at r.fatal r.idle r.due r.interrupted event (omega (arith, le))
move_on task clock lost (Passing k) event b o h le =
    subst (λ (e : Event). On task (cell_of task k + 1) (in_passing task clock k e)) (sym (saved_is event h)) (passed_on task (record { below = b; ordered = o }) clock k (omega (arith, le)))
move_on task clock lost Closing event b o h le = subst (λ (e : Event). On task task.cells (in_closing e)) (sym (saved_is event h)) (omega arith)
move_on task clock lost (Failing k w) event b o h le =
    subst (λ (e : Event). On task (cell_of task k + 1) (in_failing k w e)) (sym (saved_is event h)) (within task (record { below = b; ordered = o }) k (omega (arith, le)))
move_on task clock lost (Stopped failing) event b o h le = omega arith

-- ---- saves on saves

if_fewer : (n : ℕ) (b : Bool) (x y : Moved) → saves_in x.state < n → saves_in y.state < n → saves_in (if b then x else y).state < n
if_fewer n true x y p q = p
if_fewer n false x y p q = q

pub fewer : (task : Task) (clock : Clock) (lost : Bool) (state : State) (event : Event) → is_saved event ≡ awaits state → is_saved event ≡ true → saves_in (next_move task clock lost state event).state < saves_in state
fewer task clock lost Preparing event h saved =
    subst (λ (e : Event). saves_in (in_preparing task e).state < 2) (sym (saved_is event h))
    (if_fewer 2 (nat_lt 0 (length task.plan)) (move (Starting None) false Start) (if nat_lt 0 task.cells then move Closing false (Save task.cells) else stops Done) (omega arith)
    (if_fewer 2 (nat_lt 0 task.cells) (move Closing false (Save task.cells)) (stops Done) (omega arith) (omega arith)))
fewer task clock lost (Passing k) event h saved =
    subst (λ (e : Event). saves_in (in_passing task clock k e).state < 2) (sym (saved_is event h))
    (if_fewer 2 (nat_lt (k + 1) (length task.plan)) (sends task clock (k + 1)) (if nat_lt (cell_of task k + 1) task.cells then move Closing false (Save task.cells) else stops Done) (omega arith)
    (if_fewer 2 (nat_lt (cell_of task k + 1) task.cells) (move Closing false (Save task.cells)) (stops Done) (omega arith) (omega arith)))
fewer task clock lost Closing event h saved = subst (λ (e : Event). saves_in (in_closing e).state < 1) (sym (saved_is event h)) (omega arith)
fewer task clock lost (Failing k w) event h saved = subst (λ (e : Event). saves_in (in_failing k w e).state < 1) (sym (saved_is event h)) (omega arith)
fewer task clock lost (Starting due) event h saved = absurd (true≢false (sym saved ∙ h))
fewer task clock lost (Running r) event h saved = absurd (true≢false (sym saved ∙ h))
fewer task clock lost (Stopped failing) event h saved = absurd (true≢false (sym saved ∙ h))

-- a loss asks for no save
pub lost_saves_none : (task : Task) (clock : Clock) (lost : Bool) (state : State) → is_save (next_move task clock lost state Lost).step.act ≡ false
lost_saves_none task clock lost Preparing = refl
lost_saves_none task clock lost (Starting due) = refl
lost_saves_none task clock lost (Running r) = refl
lost_saves_none task clock lost (Passing k) = refl
lost_saves_none task clock lost Closing = refl
lost_saves_none task clock lost (Failing k why) = refl
lost_saves_none task clock lost (Stopped failing) = refl
