-- Which cell the save before a stop names.
use Rattle.std.proofs.Common.{◌≡◌, ◌+◌, ◌≤◌, ℕ, List, length, Bool, true, false, not, ◌&&◌, if◌then◌else◌, nat_lt, Option, Some, None, refl, sym, ap, subst, ◌∙◌, true≢false, arith}
use Rattle.cell_core.specs.declared.event.Event.{Event}
use Rattle.cell_core.specs.declared.event.Event.TheVariants.{Saved, Ready, Io, Reply, Moment, Looked, Lost, Broken}
use Rattle.cell_core.specs.declared.brief.Brief.TheVariants.{Idle, Else}
use Rattle.cell_core.specs.declared.why.Why.{Why}
use Rattle.cell_core.specs.declared.why.Why.TheVariants.{Done, CellError, NotReady, KernelLost, TimedOut, NoIdle, BadPeer}
use Rattle.cell_core.specs.declared.act.Act.TheVariants.{Start, Interrupt, Save, Stop}
use Rattle.cell_core.specs.declared.state.State.{State}
use Rattle.cell_core.specs.declared.state.State.TheVariants.{Preparing, Starting, Running, Passing, Closing, Failing, Stopped}
use Rattle.cell_core.specs.declared.moved.Moved.{Moved}
use Rattle.cell_core.specs.declared.clock.Clock.{Clock}
use Rattle.cell_core.specs.Task.{Task, cell_of}
use Rattle.cell_core.specs.Events.{is_saved}
use Rattle.cell_core.specs.Requests.{Standing, standing}
use Rattle.cell_core.specs.Saves.{is_stop}
use Rattle.cell_core.specs.Holds.{reach, running_state, awaits, is_save, now_of, is_past, read_again}
use Rattle.cell_core.specs.Moves.{move, stays, sends, ends, fails, stops, in_preparing, start_due, look_or, in_starting, late, in_running, on_passed, in_passing, in_closing, in_failing, next_move}
use Rattle.cell_core.specs.StandsFor.{IsAt, failing_in}
use Rattle.cell_core.specs.Stops.{asked_in, NamesCell, cell_at_stop, is_of_request}
use Rattle.cell_core.proofs.Requests.{standing_is, standing_none}
use Rattle.cell_core.proofs.SavesLemmas.{at}
use Rattle.cell_core.proofs.StopsLemmas.{ends_job, why_of, running_runs}
use Rattle.cell_core.proofs.RightClosing.{saved_is}

-- ---- what doesn't ask for a save leaves the stopping cell as it is

abbrev KeepsCell : Task → Option ℕ → Moved → Type 0
KeepsCell task named to = is_save to.step.act ≡ false → failing_in task to.state ≡ named

if_keeps : (task : Task) (named : Option ℕ) (b : Bool) (x y : Moved) → KeepsCell task named x → KeepsCell task named y → KeepsCell task named (if b then x else y)
if_keeps task named true x y p q = p
if_keeps task named false x y p q = q

fails_keeps : (task : Task) (named : Option ℕ) (k : ℕ) (w : Why) → KeepsCell task named (fails task k w)
fails_keeps task named k w h = absurd (true≢false h)

ends_keeps : (task : Task) (named : Option ℕ) (k : ℕ) (fatal : Bool) → KeepsCell task named (ends task k fatal)
ends_keeps task named k true h = absurd (true≢false h)
ends_keeps task named k false h = absurd (true≢false h)

late_keeps : (task : Task) (clock : Clock) (k : ℕ) (fatal : Option Bool) (idle interrupted : Bool) → KeepsCell task None (late task clock k fatal idle interrupted)
late_keeps task clock k (Some f) idle interrupted = fails_keeps task None k NoIdle
late_keeps task clock k None idle interrupted =
    if_keeps task None (task.times.interrupt && not interrupted) (move (running_state k None idle (Some (now_of clock + 10000)) true) false Interrupt) (fails task k TimedOut)
    (λ h. refl) (fails_keeps task None k TimedOut)

running_keeps : (task : Task) (clock : Clock) (lost : Bool) (k : ℕ) (fatal : Option Bool) (idle : Bool) (due : Option ℕ) (interrupted : Bool) (event : Event)
    → KeepsCell task None (in_running task clock lost k fatal idle due interrupted event)
running_keeps task clock lost k fatal true due interrupted (Io m) = λ h. refl
running_keeps task clock lost k (Some f) false due interrupted (Io Idle) = ends_keeps task None k f
running_keeps task clock lost k None false due interrupted (Io Idle) = λ h. refl
running_keeps task clock lost k fatal false due interrupted (Io Else) = λ h. refl
running_keeps task clock lost k (Some old) idle due interrupted (Reply f) = λ h. refl
running_keeps task clock lost k None true due interrupted (Reply f) = ends_keeps task None k f
running_keeps task clock lost k None false due interrupted (Reply f) = λ h. refl
running_keeps task clock lost k fatal idle due interrupted Looked =
    if_keeps task None lost (fails task k KernelLost) (if is_past clock due then late task clock k fatal idle interrupted else stays (running_state k fatal idle due interrupted))
    (fails_keeps task None k KernelLost)
    (if_keeps task None (is_past clock due) (late task clock k fatal idle interrupted) (stays (running_state k fatal idle due interrupted)) (late_keeps task clock k fatal idle interrupted) (λ h. refl))
running_keeps task clock lost k fatal idle due interrupted (Moment t) = λ h. refl
running_keeps task clock lost k fatal idle due interrupted Broken = fails_keeps task None k BadPeer
running_keeps task clock lost k fatal idle due interrupted Saved = λ h. refl
running_keeps task clock lost k fatal idle due interrupted Ready = λ h. refl
running_keeps task clock lost k fatal idle due interrupted Lost = λ h. refl

starting_keeps : (task : Task) (clock : Clock) (lost : Bool) (due : Option ℕ) (event : Event) → KeepsCell task None (in_starting task clock lost due event)
starting_keeps task clock lost due Saved = λ h. refl
starting_keeps task clock lost due Ready = λ h. refl
starting_keeps task clock lost due (Io m) = λ h. refl
starting_keeps task clock lost due (Reply f) = λ h. refl
starting_keeps task clock lost due (Moment t) = λ h. refl
starting_keeps task clock lost due Looked =
    if_keeps task None lost (stops KernelLost) (if is_past clock due then stops NotReady else stays (Starting due)) (λ h. refl)
    (if_keeps task None (is_past clock due) (stops NotReady) (stays (Starting due)) (λ h. refl) (λ h. refl))
starting_keeps task clock lost due Lost = λ h. refl
starting_keeps task clock lost due Broken = λ h. refl

passed_keeps : (task : Task) (clock : Clock) (k : ℕ) → KeepsCell task None (on_passed task clock k)
passed_keeps task clock k =
    if_keeps task None (nat_lt (k + 1) (length task.plan)) (sends task clock (k + 1)) (if nat_lt (cell_of task k + 1) task.cells then move Closing false (Save task.cells) else stops Done) (λ h. refl)
    (if_keeps task None (nat_lt (cell_of task k + 1) task.cells) (move Closing false (Save task.cells)) (stops Done) (λ h. refl) (λ h. refl))

first_keeps : (task : Task) → KeepsCell task None (in_preparing task Saved)
first_keeps task =
    if_keeps task None (nat_lt 0 (length task.plan)) (move (Starting None) false Start) (if nat_lt 0 task.cells then move Closing false (Save task.cells) else stops Done) (λ h. refl)
    (if_keeps task None (nat_lt 0 task.cells) (move Closing false (Save task.cells)) (stops Done) (λ h. refl) (λ h. refl))

pub keeps_cell : (task : Task) (clock : Clock) (lost : Bool) (state : State) (event : Event) → is_saved event ≡ awaits state → KeepsCell task (failing_in task state) (next_move task clock lost state event)
keeps_cell task clock lost Preparing event h = subst (λ (e : Event). KeepsCell task None (in_preparing task e)) (sym (saved_is event h)) (first_keeps task)
keeps_cell task clock lost (Passing k) event h = subst (λ (e : Event). KeepsCell task None (in_passing task clock k e)) (sym (saved_is event h)) (passed_keeps task clock k)
keeps_cell task clock lost Closing event h = subst (λ (e : Event). KeepsCell task None (in_closing e)) (sym (saved_is event h)) (λ n. refl)
keeps_cell task clock lost (Failing k w) event h = subst (λ (e : Event). KeepsCell task (Some (cell_of task k)) (in_failing k w e)) (sym (saved_is event h)) (λ n. refl)
keeps_cell task clock lost (Starting due) event h = starting_keeps task clock lost due event
keeps_cell task clock lost (Running r) event h = running_keeps task clock lost r.at r.fatal r.idle r.due r.interrupted event
keeps_cell task clock lost (Stopped failing) event h = λ n. refl

-- ---- a save that answers an acknowledgement names no stopping cell

abbrev NamesNone : Task → Moved → Type 0
NamesNone task to = is_save to.step.act ≡ true → failing_in task to.state ≡ None

if_none : (task : Task) (b : Bool) (x y : Moved) → NamesNone task x → NamesNone task y → NamesNone task (if b then x else y)
if_none task true x y p q = p
if_none task false x y p q = q

passed_none : (task : Task) (clock : Clock) (k : ℕ) → NamesNone task (on_passed task clock k)
passed_none task clock k =
    if_none task (nat_lt (k + 1) (length task.plan)) (sends task clock (k + 1)) (if nat_lt (cell_of task k + 1) task.cells then move Closing false (Save task.cells) else stops Done) (λ h. refl)
    (if_none task (nat_lt (cell_of task k + 1) task.cells) (move Closing false (Save task.cells)) (stops Done) (λ h. refl) (λ h. refl))

first_none : (task : Task) → NamesNone task (in_preparing task Saved)
first_none task =
    if_none task (nat_lt 0 (length task.plan)) (move (Starting None) false Start) (if nat_lt 0 task.cells then move Closing false (Save task.cells) else stops Done) (λ h. refl)
    (if_none task (nat_lt 0 task.cells) (move Closing false (Save task.cells)) (stops Done) (λ h. refl) (λ h. refl))

pub names_none : (task : Task) (clock : Clock) (lost : Bool) (state : State) (event : Event) → is_saved event ≡ awaits state → is_saved event ≡ true
    → NamesNone task (next_move task clock lost state event)
names_none task clock lost Preparing event h t = subst (λ (e : Event). NamesNone task (in_preparing task e)) (sym (saved_is event h)) (first_none task)
names_none task clock lost (Passing k) event h t = subst (λ (e : Event). NamesNone task (in_passing task clock k e)) (sym (saved_is event h)) (passed_none task clock k)
names_none task clock lost Closing event h t = subst (λ (e : Event). NamesNone task (in_closing e)) (sym (saved_is event h)) (λ s. absurd (true≢false (sym s)))
names_none task clock lost (Failing k w) event h t = subst (λ (e : Event). NamesNone task (in_failing k w e)) (sym (saved_is event h)) (λ s. absurd (true≢false (sym s)))
names_none task clock lost (Starting due) event h t = absurd (true≢false (sym t ∙ h))
names_none task clock lost (Running r) event h t = absurd (true≢false (sym t ∙ h))
names_none task clock lost (Stopped failing) event h t = absurd (true≢false (sym t ∙ h))

-- ---- the cause of a stop and the stopping cell

-- where the job stops, this holds of the cause and the stopping cell
abbrev AtStop : Task → (Why → Option ℕ → Type 0) → Moved → Type 0
AtStop task P to = (cause : Why) → to.step.act ≡ Stop cause → P cause (failing_in task to.state)

if_stop : (task : Task) (P : Why → Option ℕ → Type 0) (b : Bool) (x y : Moved) → AtStop task P x → AtStop task P y → AtStop task P (if b then x else y)
if_stop task P true x y p q = p
if_stop task P false x y p q = q

-- it stops for just this cause
for_cause : (P : Why → Option ℕ → Type 0) (named : Option ℕ) (w cause : Why) → Stop w ≡ Stop cause → P w named → P cause named
for_cause P named w cause is h = subst (λ (c : Why). P c named) (ap why_of is) h

stops_so : (task : Task) (P : Why → Option ℕ → Type 0) (w : Why) → P w None → AtStop task P (stops w)
stops_so task P w h cause is = for_cause P None w cause is h

first_so : (task : Task) (P : Why → Option ℕ → Type 0) → P Done None → AtStop task P (in_preparing task Saved)
first_so task P h =
    if_stop task P (nat_lt 0 (length task.plan)) (move (Starting None) false Start) (if nat_lt 0 task.cells then move Closing false (Save task.cells) else stops Done) (λ w is. absurd (cc))
    (if_stop task P (nat_lt 0 task.cells) (move Closing false (Save task.cells)) (stops Done) (λ w is. absurd (cc)) (stops_so task P Done h))

passed_so : (task : Task) (P : Why → Option ℕ → Type 0) (clock : Clock) (k : ℕ) → P Done None → AtStop task P (on_passed task clock k)
passed_so task P clock k h =
    if_stop task P (nat_lt (k + 1) (length task.plan)) (sends task clock (k + 1)) (if nat_lt (cell_of task k + 1) task.cells then move Closing false (Save task.cells) else stops Done) (λ w is. absurd (cc))
    (if_stop task P (nat_lt (cell_of task k + 1) task.cells) (move Closing false (Save task.cells)) (stops Done) (λ w is. absurd (cc)) (stops_so task P Done h))

starting_so : (task : Task) (P : Why → Option ℕ → Type 0) (clock : Clock) (lost : Bool) (due : Option ℕ) (event : Event) → P KernelLost None → P NotReady None → P BadPeer None
    → AtStop task P (in_starting task clock lost due event)
starting_so task P clock lost due Saved gone late broken cause is = absurd (cc)
starting_so task P clock lost due Ready gone late broken cause is = absurd (cc)
starting_so task P clock lost due (Io m) gone late broken cause is = absurd (cc)
starting_so task P clock lost due (Reply f) gone late broken cause is = absurd (cc)
starting_so task P clock lost due (Moment t) gone late broken cause is = look_so (is_past (read_again clock t) (start_due task clock due t)) cause is
  where
    look_so : (past : Bool) → AtStop task P (look_or (Starting (start_due task clock due t)) past)
    look_so true w so = absurd (cc)
    look_so false w so = absurd (cc)
starting_so task P clock lost due Looked gone late broken cause is =
    if_stop task P lost (stops KernelLost) (if is_past clock due then stops NotReady else stays (Starting due)) (stops_so task P KernelLost gone)
    (if_stop task P (is_past clock due) (stops NotReady) (stays (Starting due)) (stops_so task P NotReady late) (λ w so. absurd (cc))) cause is
starting_so task P clock lost due Lost gone late broken cause is = absurd (cc)
starting_so task P clock lost due Broken gone late broken cause is = stops_so task P BadPeer broken cause is

-- what holds of the cause and the cell in each state from which a job stops
abbrev StateGives : Task → (Why → Option ℕ → Type 0) → State → Type 0
StateGives task P (Starting due) = P KernelLost None × P NotReady None × P BadPeer None
StateGives task P (Running r) = Unit {0}
StateGives task P (Failing k w) = P w (Some (cell_of task k))
StateGives task P (Stopped failing) = Unit {0}
StateGives task P state = P Done None

at_stop : (task : Task) (P : Why → Option ℕ → Type 0) (clock : Clock) (lost : Bool) (state : State) (event : Event) → is_saved event ≡ awaits state → StateGives task P state
    → AtStop task P (next_move task clock lost state event)
at_stop task P clock lost Preparing event h g = subst (λ (e : Event). AtStop task P (in_preparing task e)) (sym (saved_is event h)) (first_so task P g)
at_stop task P clock lost (Starting due) event h g = starting_so task P clock lost due event g.0 g.1 g.2
at_stop task P clock lost (Running r) event h g = λ cause is.
    absurd (true≢false (sym (ap ends_job is) ∙ (running_runs task clock lost r.at r.fatal r.idle r.due r.interrupted event).stop))
at_stop task P clock lost (Passing k) event h g = subst (λ (e : Event). AtStop task P (in_passing task clock k e)) (sym (saved_is event h)) (passed_so task P clock k g)
at_stop task P clock lost Closing event h g = subst (λ (e : Event). AtStop task P (in_closing e)) (sym (saved_is event h)) (stops_so task P Done g)
at_stop task P clock lost (Failing k w) event h g =
    subst (λ (e : Event). AtStop task P (in_failing k w e)) (sym (saved_is event h)) (λ cause is. for_cause P (Some (cell_of task k)) w cause is g)
at_stop task P clock lost (Stopped failing) event h g = λ cause is. absurd (cc)

-- ---- the stopping cell is that of the last request

-- the cell of the request that stands, where it isn't the executed plan that stops the job
named : (task : Task) (k : ℕ) (later : List Event) (w : Why) → is_stop w ≡ true → Some (cell_of task k) ≡ cell_at_stop task w (Some (at k later))
named task k later Done h = absurd (true≢false (sym h))
named task k later CellError h = refl
named task k later NotReady h = refl
named task k later KernelLost h = refl
named task k later TimedOut h = refl
named task k later NoIdle h = refl
named task k later BadPeer h = refl

abbrev IsLast : Task → List Event → Why → Option ℕ → Type 0
IsLast task events cause cell = cell ≡ cell_at_stop task cause (standing task events)

last_in : (task : Task) (clock : Clock) (lost : Bool) (state : State) (events : List Event) → IsAt task clock lost state events → StateGives task (IsLast task events) state
last_in task clock lost Preparing events a = refl
last_in task clock lost (Starting due) events a =
    let none = sym (standing_none a.reached) in
    (ap (cell_at_stop task KernelLost) none, ap (cell_at_stop task NotReady) none, ap (cell_at_stop task BadPeer) none)
last_in task clock lost (Running r) events a = tt
last_in task clock lost (Passing k) events a = refl
last_in task clock lost Closing events a = refl
last_in task clock lost (Failing k w) events a = named task k a.later w a.fails.stops ∙ sym (ap (cell_at_stop task w) (standing_is a.stands))
last_in task clock lost (Stopped failing) events a = tt

pub names_last : (task : Task) (clock : Clock) (lost : Bool) (state : State) (event : Event) (events : List Event) → IsAt task clock lost state events → is_saved event ≡ awaits state
    → AtStop task (IsLast task events) (next_move task clock lost state event)
names_last task clock lost state event events a h = at_stop task (IsLast task events) clock lost state event h (last_in task clock lost state events a)

-- ---- some causes name a cell

-- the acknowledged save names the cell of a request
abbrev NamesOld : Task → State → Event → Why → Option ℕ → Type 0
NamesOld task state event cause cell = is_of_request cause ≡ true → (event ≡ Saved) × NamesCell task (asked_in task state) (failing_in task state)

cell_in : (task : Task) (state : State) (event : Event) → is_saved event ≡ awaits state → reach state ≤ length task.plan → StateGives task (NamesOld task state event) state
cell_in task Preparing event h le = λ of. absurd (true≢false (sym of))
cell_in task (Starting due) event h le = (λ of. absurd (true≢false (sym of)), λ of. absurd (true≢false (sym of)), λ of. absurd (true≢false (sym of)))
cell_in task (Running r) event h le = tt
cell_in task (Passing k) event h le = λ of. absurd (true≢false (sym of))
cell_in task Closing event h le = λ of. absurd (true≢false (sym of))
cell_in task (Failing k w) event h le = λ of. (saved_is event h, record { request = k; planned = omega (arith, le); stop_is = refl; settled_is = refl })
cell_in task (Stopped failing) event h le = tt

pub names_old : (task : Task) (clock : Clock) (lost : Bool) (state : State) (event : Event) → is_saved event ≡ awaits state → reach state ≤ length task.plan
    → AtStop task (NamesOld task state event) (next_move task clock lost state event)
names_old task clock lost state event h le = at_stop task (NamesOld task state event) clock lost state event h (cell_in task state event h le)
