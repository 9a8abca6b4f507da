-- Each stop follows the save that is due before it.
use Rattle.std.proofs.Common.{◌≡◌, ◌⊎◌, ℕ, ◌+◌, ◌<◌, ◌≤◌, List, length, Bool, true, false, not, ◌&&◌, if◌then◌else◌, nat_lt, Option, Some, None, All, refl, sym, ap, subst, ◌∙◌, true≢false, arith, inl, inr}
use Rattle.std.proofs.lemmas.Bool.{cases_lt, lt-ltb, le-ltb}
use Rattle.cell_core.specs.declared.event.Event.{Event}
use Rattle.cell_core.specs.declared.event.Event.TheVariants.{Saved, Ready, Io, Reply, Moment, Looked, Lost, Broken}
use Rattle.cell_core.specs.declared.brief.Brief.TheVariants.{Idle, Else}
use Rattle.cell_core.specs.declared.why.Why.{Why}
use Rattle.cell_core.specs.declared.why.Why.TheVariants.{Done, CellError, NotReady, KernelLost, TimedOut, NoIdle, BadPeer}
use Rattle.cell_core.specs.declared.act.Act.{Act}
use Rattle.cell_core.specs.declared.act.Act.TheVariants.{Nothing, Start, Interrupt, Save, Stop}
use Rattle.cell_core.specs.declared.state.State.{State}
use Rattle.cell_core.specs.declared.state.State.TheVariants.{Preparing, Starting, Running, Passing, Closing, Failing, Stopped}
use Rattle.cell_core.specs.declared.moved.Moved.{Moved}
use Rattle.cell_core.specs.declared.clock.Clock.{Clock}
use Rattle.cell_core.specs.Task.{Task, cell_of}
use Rattle.cell_core.specs.Events.{is_saved}
use Rattle.cell_core.specs.Holds.{running_state, awaits, now_of, is_past, read_again, reach}
use Rattle.cell_core.specs.Moves.{move, stays, sends, ends, fails, stops, in_preparing, start_due, look_or, in_starting, late, in_running, on_passed, in_passing, in_closing, in_failing, next_move}
use Rattle.cell_core.specs.Saves.{is_stop}
use Rattle.cell_core.specs.StandsFor.{IsAt, failing_in}
use Rattle.cell_core.specs.Stops.{asked_in, is_early, NamesCell, IsLastSave, IsEarly}
use Rattle.cell_core.proofs.RightClosing.{saved_is}

-- the act ends the job
abbrev pub ends_job : Act → Bool
ends_job (Stop why) = true
ends_job _ = false

abbrev pub why_of : Act → Why
why_of (Stop why) = why
why_of _ = Done

abbrev count_of : Act → ℕ
count_of (Save n) = n
count_of _ = 0

-- ---- what is asked for is what is awaited

abbrev pub Asks : Task → Moved → Type 0
Asks task to = (n : ℕ) → to.step.act ≡ Save n → asked_in task to.state ≡ n

if_asks : (task : Task) (b : Bool) (x y : Moved) → Asks task x → Asks task y → Asks task (if b then x else y)
if_asks task true x y p q = p
if_asks task false x y p q = q

-- ---- a request that runs stops no job

pub record Running_on (task : Task) (to : Moved) : Type 0 where
  pub stop : ends_job to.step.act ≡ false
  pub early : is_early to.state ≡ false
  pub asks : Asks task to

if_runs : (task : Task) (b : Bool) (x y : Moved) → Running_on task x → Running_on task y → Running_on task (if b then x else y)
if_runs task true x y p q = p
if_runs task false x y p q = q

fails_runs : (task : Task) (k : ℕ) (why : Why) → Running_on task (fails task k why)
fails_runs task k why = record { stop = refl; early = refl; asks = λ n is. ap count_of is }

ends_runs : (task : Task) (k : ℕ) (fatal : Bool) → Running_on task (ends task k fatal)
ends_runs task k true = record { stop = refl; early = refl; asks = λ n is. ap count_of is }
ends_runs task k false = record { stop = refl; early = refl; asks = λ n is. ap count_of is }

stays_runs : (task : Task) (k : ℕ) (fatal : Option Bool) (idle : Bool) (due : Option ℕ) (interrupted takes : Bool) → Running_on task (move (running_state k fatal idle due interrupted) takes Nothing)
stays_runs task k fatal idle due interrupted takes = record { stop = refl; early = refl; asks = λ n is. absurd (cc) }

look_runs : (task : Task) (k : ℕ) (fatal : Option Bool) (idle : Bool) (due : Option ℕ) (interrupted late : Bool) → Running_on task (look_or (running_state k fatal idle due interrupted) late)
look_runs task k fatal idle due interrupted true = record { stop = refl; early = refl; asks = λ n is. absurd (cc) }
look_runs task k fatal idle due interrupted false = record { stop = refl; early = refl; asks = λ n is. absurd (cc) }

late_runs : (task : Task) (clock : Clock) (k : ℕ) (fatal : Option Bool) (idle interrupted : Bool) → Running_on task (late task clock k fatal idle interrupted)
late_runs task clock k (Some f) idle interrupted = fails_runs task k NoIdle
late_runs task clock k None idle interrupted =
    if_runs task (task.times.interrupt && not interrupted) (move (running_state k None idle (Some (now_of clock + 10000)) true) false Interrupt) (fails task k TimedOut)
    (record { stop = refl; early = refl; asks = λ n is. absurd (cc) }) (fails_runs task k TimedOut)

pub running_runs : (task : Task) (clock : Clock) (lost : Bool) (k : ℕ) (fatal : Option Bool) (idle : Bool) (due : Option ℕ) (interrupted : Bool) (event : Event)
    → Running_on task (in_running task clock lost k fatal idle due interrupted event)
running_runs task clock lost k fatal true due interrupted (Io m) = stays_runs task k fatal true due interrupted false
running_runs task clock lost k (Some f) false due interrupted (Io Idle) = ends_runs task k f
running_runs task clock lost k None false due interrupted (Io Idle) = stays_runs task k None true due interrupted true
running_runs task clock lost k fatal false due interrupted (Io Else) = stays_runs task k fatal false due interrupted true
running_runs task clock lost k (Some old) idle due interrupted (Reply f) = stays_runs task k (Some old) idle due interrupted false
running_runs task clock lost k None true due interrupted (Reply f) = ends_runs task k f
running_runs task clock lost k None false due interrupted (Reply f) = stays_runs task k (Some f) false (Some (now_of clock + 4000)) interrupted true
running_runs task clock lost k fatal idle due interrupted Looked =
    if_runs task lost (fails task k KernelLost) (if is_past clock due then late task clock k fatal idle interrupted else stays (running_state k fatal idle due interrupted))
    (fails_runs task k KernelLost)
    (if_runs task (is_past clock due) (late task clock k fatal idle interrupted) (stays (running_state k fatal idle due interrupted))
    (late_runs task clock k fatal idle interrupted) (stays_runs task k fatal idle due interrupted false))
running_runs task clock lost k fatal idle due interrupted (Moment t) = look_runs task k fatal idle due interrupted (is_past (read_again clock t) due)
running_runs task clock lost k fatal idle due interrupted Broken = fails_runs task k BadPeer
running_runs task clock lost k fatal idle due interrupted Saved = stays_runs task k fatal idle due interrupted false
running_runs task clock lost k fatal idle due interrupted Ready = stays_runs task k fatal idle due interrupted false
running_runs task clock lost k fatal idle due interrupted Lost = record { stop = refl; early = refl; asks = λ n is. absurd (cc) }

-- ---- while readiness is awaited no save is asked for

starting_asks : (task : Task) (clock : Clock) (lost : Bool) (due : Option ℕ) (event : Event) → Asks task (in_starting task clock lost due event)
starting_asks task clock lost due Saved n is = absurd (cc)
starting_asks task clock lost due Ready n is = absurd (cc)
starting_asks task clock lost due (Io m) n is = absurd (cc)
starting_asks task clock lost due (Reply f) n is = absurd (cc)
starting_asks task clock lost due (Moment t) n is = look_asks (is_past (read_again clock t) (start_due task clock due t)) n is
  where
    look_asks : (late : Bool) → Asks task (look_or (Starting (start_due task clock due t)) late)
    look_asks true n is = absurd (cc)
    look_asks false n is = absurd (cc)
starting_asks task clock lost due Looked n is =
    if_asks task lost (stops KernelLost) (if is_past clock due then stops NotReady else stays (Starting due)) (λ m e. absurd (cc))
    (if_asks task (is_past clock due) (stops NotReady) (stays (Starting due)) (λ m e. absurd (cc)) (λ m e. absurd (cc))) n is
starting_asks task clock lost due Lost n is = absurd (cc)
starting_asks task clock lost due Broken n is = absurd (cc)

pub asks : (task : Task) (clock : Clock) (lost : Bool) (state : State) (event : Event) → is_saved event ≡ awaits state → Asks task (next_move task clock lost state event)
asks task clock lost Preparing event h =
    subst (λ (e : Event). Asks task (in_preparing task e)) (sym (saved_is event h))
    (if_asks task (nat_lt 0 (length task.plan)) (move (Starting None) false Start) (if nat_lt 0 task.cells then move Closing false (Save task.cells) else stops Done) (λ n is. absurd (cc))
    (if_asks task (nat_lt 0 task.cells) (move Closing false (Save task.cells)) (stops Done) (λ n is. ap count_of is) (λ n is. absurd (cc))))
asks task clock lost (Starting due) event h = starting_asks task clock lost due event
asks task clock lost (Running r) event h = (running_runs task clock lost r.at r.fatal r.idle r.due r.interrupted event).asks
asks task clock lost (Passing k) event h =
    subst (λ (e : Event). Asks task (in_passing task clock k e)) (sym (saved_is event h))
    (if_asks task (nat_lt (k + 1) (length task.plan)) (sends task clock (k + 1)) (if nat_lt (cell_of task k + 1) task.cells then move Closing false (Save task.cells) else stops Done) (λ n is. absurd (cc))
    (if_asks task (nat_lt (cell_of task k + 1) task.cells) (move Closing false (Save task.cells)) (stops Done) (λ n is. ap count_of is) (λ n is. absurd (cc))))
asks task clock lost Closing event h = subst (λ (e : Event). Asks task (in_closing e)) (sym (saved_is event h)) (λ n is. absurd (cc))
asks task clock lost (Failing k w) event h = subst (λ (e : Event). Asks task (in_failing k w e)) (sym (saved_is event h)) (λ n is. absurd (cc))
asks task clock lost (Stopped failing) event h = λ n is. absurd (cc)

-- ---- the kernel is awaited from the first save on

abbrev FromFirst : Task → State → Event → Moved → Type 0
FromFirst task state event to = is_early to.state ≡ true → (is_early state ≡ true) ⊎ ((event ≡ Saved) × (asked_in task state ≡ 0) × (failing_in task state ≡ None))

if_first : (task : Task) (state : State) (event : Event) (b : Bool) (x y : Moved) → FromFirst task state event x → FromFirst task state event y → FromFirst task state event (if b then x else y)
if_first task state event true x y p q = p
if_first task state event false x y p q = q

pub starts : (task : Task) (clock : Clock) (lost : Bool) (state : State) (event : Event) → is_saved event ≡ awaits state → FromFirst task state event (next_move task clock lost state event)
starts task clock lost Preparing event h is = inr (saved_is event h, refl, refl)
starts task clock lost (Starting due) event h is = inl refl
starts task clock lost (Running r) event h is =
    absurd (true≢false (sym is ∙ (running_runs task clock lost r.at r.fatal r.idle r.due r.interrupted event).early))
starts task clock lost (Passing k) event h is =
    subst (λ (e : Event). FromFirst task (Passing k) event (in_passing task clock k e)) (sym (saved_is event h))
    (if_first task (Passing k) event (nat_lt (k + 1) (length task.plan)) (sends task clock (k + 1)) (if nat_lt (cell_of task k + 1) task.cells then move Closing false (Save task.cells) else stops Done) (λ e. absurd (cc))
    (if_first task (Passing k) event (nat_lt (cell_of task k + 1) task.cells) (move Closing false (Save task.cells)) (stops Done) (λ e. absurd (cc)) (λ e. absurd (cc)))) is
starts task clock lost Closing event h is = subst (λ (e : Event). FromFirst task Closing event (in_closing e)) (sym (saved_is event h)) (λ e. absurd (cc)) is
starts task clock lost (Failing k w) event h is = subst (λ (e : Event). FromFirst task (Failing k w) event (in_failing k w e)) (sym (saved_is event h)) (λ e. absurd (cc)) is
starts task clock lost (Stopped failing) event h is = absurd (cc)

-- ---- the save before a stop

abbrev Stops : Task → State → Event → Why → Type 0
Stops task state event why = (IsEarly why × (is_early state ≡ true)) ⊎ ((event ≡ Saved) × IsLastSave task why (asked_in task state) (failing_in task state))

abbrev StopsBy : Task → State → Event → Moved → Type 0
StopsBy task state event to = (why : Why) → to.step.act ≡ Stop why → Stops task state event why

if_stops : (task : Task) (state : State) (event : Event) (b : Bool) (x y : Moved) → (b ≡ true → StopsBy task state event x) → (b ≡ false → StopsBy task state event y) → StopsBy task state event (if b then x else y)
if_stops task state event true x y p q = p refl
if_stops task state event false x y p q = q refl

-- it stops for just this cause
stops_for : (task : Task) (state : State) (event : Event) (cause why : Why) → Stop cause ≡ Stop why → Stops task state event cause → Stops task state event why
stops_for task state event cause why is s = subst (Stops task state event) (ap why_of is) s

-- the cause of a failing state can stop a job while a request stands
abbrev FailsFor : State → Type 0
FailsFor (Failing k why) = is_stop why ≡ true
FailsFor _ = Unit {0}

fails_for : (task : Task) (clock : Clock) (lost : Bool) (state : State) (events : List Event) → IsAt task clock lost state events → FailsFor state
fails_for task clock lost (Failing k why) events a = a.fails.stops
fails_for task clock lost Preparing events a = tt
fails_for task clock lost (Starting due) events a = tt
fails_for task clock lost (Running r) events a = tt
fails_for task clock lost (Passing k) events a = tt
fails_for task clock lost Closing events a = tt
fails_for task clock lost (Stopped failing) events a = tt

named_last : (task : Task) (why : Why) (settled : ℕ) (stop : Option ℕ) → is_stop why ≡ true → NamesCell task settled stop → IsLastSave task why settled stop
named_last task Done settled stop is n = absurd (cc)
named_last task CellError settled stop is n = n
named_last task NotReady settled stop is n = absurd (cc)
named_last task KernelLost settled stop is n = n
named_last task TimedOut settled stop is n = n
named_last task NoIdle settled stop is n = n
named_last task BadPeer settled stop is n = n

starting_stops : (task : Task) (clock : Clock) (lost : Bool) (due : Option ℕ) (event : Event) → StopsBy task (Starting due) event (in_starting task clock lost due event)
starting_stops task clock lost due Saved why is = absurd (cc)
starting_stops task clock lost due Ready why is = absurd (cc)
starting_stops task clock lost due (Io m) why is = absurd (cc)
starting_stops task clock lost due (Reply f) why is = absurd (cc)
starting_stops task clock lost due (Moment t) why is = look_stops (is_past (read_again clock t) (start_due task clock due t)) why is
  where
    look_stops : (late : Bool) → StopsBy task (Starting due) (Moment t) (look_or (Starting (start_due task clock due t)) late)
    look_stops true why is = absurd (cc)
    look_stops false why is = absurd (cc)
starting_stops task clock lost due Looked why is =
    if_stops task (Starting due) Looked lost (stops KernelLost) (if is_past clock due then stops NotReady else stays (Starting due))
    (λ e w so. stops_for task (Starting due) Looked KernelLost w so (inl (tt, refl)))
    (λ e. if_stops task (Starting due) Looked (is_past clock due) (stops NotReady) (stays (Starting due))
    (λ p w so. stops_for task (Starting due) Looked NotReady w so (inl (tt, refl))) (λ p w so. absurd (cc))) why is
starting_stops task clock lost due Lost why is = absurd (cc)
starting_stops task clock lost due Broken why is = stops_for task (Starting due) Broken BadPeer why is (inl (tt, refl))

-- a number that isn't above 0
is_zero : (n : ℕ) → nat_lt 0 n ≡ false → n ≡ 0
is_zero n e = elim (cases_lt 0 n) [
  | inl more ↦ absurd (true≢false (sym (lt-ltb 0 n more) ∙ e))
  | inr none ↦ omega (arith, none)
]

first_stops : (task : Task) → StopsBy task Preparing Saved (in_preparing task Saved)
first_stops task =
    if_stops task Preparing Saved (nat_lt 0 (length task.plan)) (move (Starting None) false Start) (if nat_lt 0 task.cells then move Closing false (Save task.cells) else stops Done) (λ e w so. absurd (cc))
    (λ e. if_stops task Preparing Saved (nat_lt 0 task.cells) (move Closing false (Save task.cells)) (stops Done) (λ p w so. absurd (cc))
    (λ p w so. stops_for task Preparing Saved Done w so (inr (refl, (sym (is_zero task.cells p), refl)))))

passed_stops : (task : Task) (clock : Clock) (k : ℕ) → All (λ i. i < task.cells) task.plan → k < length task.plan → StopsBy task (Passing k) Saved (on_passed task clock k)
passed_stops task clock k below lt =
    if_stops task (Passing k) Saved (nat_lt (k + 1) (length task.plan)) (sends task clock (k + 1)) (if nat_lt (cell_of task k + 1) task.cells then move Closing false (Save task.cells) else stops Done) (λ e w so. absurd (cc))
    (λ e. if_stops task (Passing k) Saved (nat_lt (cell_of task k + 1) task.cells) (move Closing false (Save task.cells)) (stops Done) (λ p w so. absurd (cc))
    (λ p w so. stops_for task (Passing k) Saved Done w so (inr (refl, (all_cells p, refl)))))
  where
    all_cells : nat_lt (cell_of task k + 1) task.cells ≡ false → cell_of task k + 1 ≡ task.cells
    all_cells p = elim (cases_lt (cell_of task k + 1) task.cells) [
      | inl more ↦ absurd (true≢false (sym (lt-ltb (cell_of task k + 1) task.cells more) ∙ p))
      | inr none ↦ omega (arith, none, below k 0 lt)
    ]

by_state : (task : Task) (clock : Clock) (lost : Bool) (state : State) (event : Event) → All (λ i. i < task.cells) task.plan → is_saved event ≡ awaits state → reach state ≤ length task.plan
    → FailsFor state → StopsBy task state event (next_move task clock lost state event)
by_state task clock lost Preparing event b h le f = subst (λ (e : Event). StopsBy task Preparing e (in_preparing task e)) (sym (saved_is event h)) (first_stops task)
by_state task clock lost (Starting due) event b h le f = starting_stops task clock lost due event
by_state task clock lost (Running r) event b h le f = λ why is.
    absurd (true≢false (sym (ap ends_job is) ∙ (running_runs task clock lost r.at r.fatal r.idle r.due r.interrupted event).stop))
by_state task clock lost (Passing k) event b h le f =
    subst (λ (e : Event). StopsBy task (Passing k) e (in_passing task clock k e)) (sym (saved_is event h)) (passed_stops task clock k b (omega (arith, le)))
by_state task clock lost Closing event b h le f =
    subst (λ (e : Event). StopsBy task Closing e (in_closing e)) (sym (saved_is event h)) (λ w so. stops_for task Closing Saved Done w so (inr (refl, (refl, refl))))
by_state task clock lost (Failing k cause) event b h le f =
    subst (λ (e : Event). StopsBy task (Failing k cause) e (in_failing k cause e)) (sym (saved_is event h))
    (λ w so. stops_for task (Failing k cause) Saved cause w so
    (inr (refl, named_last task cause (cell_of task k + 1) (Some (cell_of task k)) f (record { request = k; planned = omega (arith, le); stop_is = refl; settled_is = refl }))))
by_state task clock lost (Stopped failing) event b h le f = λ why is. absurd (cc)

pub stops_so : (task : Task) (clock : Clock) (lost : Bool) (state : State) (event : Event) (events : List Event) → All (λ i. i < task.cells) task.plan → is_saved event ≡ awaits state
    → reach state ≤ length task.plan → IsAt task clock lost state events → StopsBy task state event (next_move task clock lost state event)
stops_so task clock lost state event events b h le a = by_state task clock lost state event b h le (fails_for task clock lost state events a)
