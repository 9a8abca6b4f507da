-- By which act a core answers which event.
use Rattle.std.proofs.Common.{◌≡◌, ◌<◌, ◌⊎◌, ◌+◌, ℕ, List, [], ◌∷◌, length, Bool, true, false, not, ◌&&◌, ◌||◌, ◌==◌, if◌then◌else◌, nat_lt, Option, Some, None, is_some, refl, sym, ap, subst, ◌∙◌, true≢false, inl, inr}
use Rattle.std.specs.Option.{ForSome}
use Rattle.std.proofs.lemmas.Bool.{cases_Bool, and_from, and_left}
use Rattle.cell_core.specs.declared.event.Event.{Event}
use Rattle.cell_core.specs.declared.event.Event.TheVariants.{Saved, Ready, Io, Reply, Moment, Looked, Lost, Broken}
use Rattle.cell_core.specs.declared.brief.Brief.TheVariants.{Idle, Else}
use Rattle.cell_core.specs.declared.why.Why.{Why}
use Rattle.cell_core.specs.declared.why.Why.TheVariants.{Done, NotReady, KernelLost, TimedOut, NoIdle}
use Rattle.cell_core.specs.declared.act.Act.{Act}
use Rattle.cell_core.specs.declared.act.Act.TheVariants.{Nothing, Start, Send, Look, Interrupt, Save, Stop}
use Rattle.cell_core.specs.declared.state.State.{State}
use Rattle.cell_core.specs.declared.state.State.TheVariants.{Preparing, Starting, Running, Passing, Closing, Failing, Stopped}
use Rattle.cell_core.specs.declared.clock.Clock.{Clock}
use Rattle.cell_core.specs.declared.moved.Moved.{Moved}
use Rattle.cell_core.specs.Task.{Task, cell_of}
use Rattle.cell_core.specs.Events.{is_saved, ack_count}
use Rattle.cell_core.specs.Requests.{after, has_idle, own, reply, is_over, Standing, standing}
use Rattle.cell_core.specs.Deadlines.{first_deadline, queues}
use Rattle.cell_core.specs.Saves.{Prefix, why, pending_saves}
use Rattle.cell_core.specs.Holds.{running_state, awaits, now_of, is_past, read_again}
use Rattle.cell_core.specs.Acts.{is_empty_list, is_late, is_queued_now, due_at, answers, act_by, act_at, act_of, has_stopped, heard, IsTimely}
use Rattle.cell_core.specs.Moves.{move, stays, sends, ends, fails, stops, in_preparing, start_due, look_or, in_starting, late, in_running, on_passed, in_passing, in_closing, in_failing, next_move}
use Rattle.cell_core.specs.StandsFor.{Stands, IsStarting, IsRunning, IsAt}
use Rattle.cell_core.specs.Laws.{IsSent}
use Rattle.cell_core.specs.Answering.{is_message, can_answer, save_at_end}
use Rattle.cell_core.proofs.Requests.{standing_is, standing_none, reached_waits}
use Rattle.cell_core.proofs.SavesLemmas.{at}
use Rattle.cell_core.proofs.Moving.{is_stopped}
use Rattle.cell_core.proofs.Right.{stands_more}
use Rattle.cell_core.proofs.RightRunning.{own_more, reply_more, right_running}
use Rattle.cell_core.proofs.RightStarting.{right_starting}
use Rattle.cell_core.proofs.RightClosing.{saved_is}
use Rattle.cell_core.proofs.Runs.{follows}
use Rattle.cell_core.proofs.OverRuns.{sent_where}
use Rattle.cell_core.proofs.AskedWhereDue.{going, not_by}

-- ---- while nothing has stopped the job, each event is heard

heard_on : (task : Task) (event : Event) (past : List Event) → has_stopped task (heard task (event ∷ past)) ≡ false → (has_stopped task (heard task past) ≡ false → heard task past ≡ past)
    → (has_stopped task (heard task past) ≡ true) ⊎ (has_stopped task (heard task past) ≡ false) → heard task (event ∷ past) ≡ event ∷ past
heard_on task event past on before which = by which
  where
    now : (b : Bool) → has_stopped task (heard task past) ≡ b → heard task (event ∷ past) ≡ (if b then heard task past else event ∷ heard task past)
    now b e = ap (λ (x : Bool). if x then heard task past else event ∷ heard task past) e

    by : (has_stopped task (heard task past) ≡ true) ⊎ (has_stopped task (heard task past) ≡ false) → heard task (event ∷ past) ≡ event ∷ past
    by (inl e) = absurd (true≢false (sym (ap (has_stopped task) (now true e) ∙ e) ∙ on))
    by (inr e) = now false e ∙ ap (λ (es : List Event). event ∷ es) (before e)

pub heard_all : (task : Task) (told : List Event) → has_stopped task (heard task told) ≡ false → heard task told ≡ told
heard_all task [] on = refl
heard_all task (event ∷ past) on = heard_on task event past on (heard_all task past) (cases_Bool (has_stopped task (heard task past)))

-- ---- messages

-- the save after a request that stands, by whether it is over
at_end : {task : Task} {k a : ℕ} {later events : List Event} {b : Bool} → Stands task k later a events → is_over later ≡ b
    → (if b then Save (cell_of task k + 1) else Nothing) ≡ save_at_end task (standing task events)
at_end {task} {k} s e =
    sym (ap (save_at_end task) (standing_is s) ∙ ap (λ (x : Bool). if x then Save (cell_of task k + 1) else Nothing) e)

ends_act : (task : Task) (k : ℕ) (fatal : Bool) → (ends task k fatal).step.act ≡ Save (cell_of task k + 1)
ends_act task k true = refl
ends_act task k false = refl

running_messages : (task : Task) (clock : Clock) (lost : Bool) (k : ℕ) (fatal : Option Bool) (idle : Bool) (due : Option ℕ) (interrupted : Bool) (event : Event) (past : List Event)
    → IsRunning task clock lost k fatal idle due interrupted past → is_message event ≡ true → act_at task (event ∷ past) ≡ save_at_end task (standing task (event ∷ past))
running_messages task clock lost k fatal true due interrupted (Io m) past a h =
    let r = right_running task clock lost k fatal true due interrupted (Io m) past a refl tt in
    sym r.act ∙ at_end r.stands.stands r.stands.on
running_messages task clock lost k fatal false due interrupted (Io Else) past a h =
    let r = right_running task clock lost k fatal false due interrupted (Io Else) past a refl tt in
    sym r.act ∙ at_end r.stands.stands r.stands.on
running_messages task clock lost k None false due interrupted (Io Idle) past a h =
    let r = right_running task clock lost k None false due interrupted (Io Idle) past a refl tt in
    sym r.act ∙ at_end r.stands.stands r.stands.on
running_messages task clock lost k (Some f) false due interrupted (Io Idle) past a h =
    let r = right_running task clock lost k (Some f) false due interrupted (Io Idle) past a refl tt in
    let over : is_over (Io Idle ∷ a.later) ≡ true =
    and_from (is_some (reply (Io Idle ∷ a.later))) _ (ap is_some a.replied) (ap has_idle (own_more Idle a.later a.idled)) in
    sym r.act ∙ ends_act task k f ∙ at_end (stands_more a.stands (Io Idle) refl) over
running_messages task clock lost k (Some old) idle due interrupted (Reply f) past a h =
    let r = right_running task clock lost k (Some old) idle due interrupted (Reply f) past a refl tt in
    sym r.act ∙ at_end r.stands.stands r.stands.on
running_messages task clock lost k None false due interrupted (Reply f) past a h =
    let r = right_running task clock lost k None false due interrupted (Reply f) past a refl tt in
    sym r.act ∙ at_end r.stands.stands r.stands.on
running_messages task clock lost k None true due interrupted (Reply f) past a h =
    let r = right_running task clock lost k None true due interrupted (Reply f) past a refl tt in
    let over : is_over (Reply f ∷ a.later) ≡ true =
    and_from (is_some (reply (Reply f ∷ a.later))) _ (ap is_some (reply_more f a.later a.replied)) a.idled in
    sym r.act ∙ ends_act task k f ∙ at_end (stands_more a.stands (Reply f) refl) over
running_messages task clock lost k fatal idle due interrupted Saved past a h = absurd (true≢false (sym h))
running_messages task clock lost k fatal idle due interrupted Ready past a h = absurd (true≢false (sym h))
running_messages task clock lost k fatal idle due interrupted (Moment t) past a h = absurd (true≢false (sym h))
running_messages task clock lost k fatal idle due interrupted Looked past a h = absurd (true≢false (sym h))
running_messages task clock lost k fatal idle due interrupted Lost past a h = absurd (true≢false (sym h))
running_messages task clock lost k fatal idle due interrupted Broken past a h = absurd (true≢false (sym h))

starting_messages : (task : Task) (clock : Clock) (lost : Bool) (due : Option ℕ) (event : Event) (past : List Event) → IsStarting task clock lost due past → ForSome task.times.limit_ms (λ limit. 0 < limit)
    → is_message event ≡ true → act_at task (event ∷ past) ≡ save_at_end task (standing task (event ∷ past))
starting_messages task clock lost due (Io m) past a later h =
    sym (right_starting task clock lost due (Io m) past a refl tt later).act ∙ sym (ap (save_at_end task) (standing_none (reached_waits a.reached (Io m) refl refl a.ready)))
starting_messages task clock lost due (Reply f) past a later h =
    sym (right_starting task clock lost due (Reply f) past a refl tt later).act ∙ sym (ap (save_at_end task) (standing_none (reached_waits a.reached (Reply f) refl refl a.ready)))
starting_messages task clock lost due Saved past a later h = absurd (true≢false (sym h))
starting_messages task clock lost due Ready past a later h = absurd (true≢false (sym h))
starting_messages task clock lost due (Moment t) past a later h = absurd (true≢false (sym h))
starting_messages task clock lost due Looked past a later h = absurd (true≢false (sym h))
starting_messages task clock lost due Lost past a later h = absurd (true≢false (sym h))
starting_messages task clock lost due Broken past a later h = absurd (true≢false (sym h))

messages_by : (task : Task) (clock : Clock) (lost : Bool) (state : State) (event : Event) (past : List Event) → IsAt task clock lost state past → awaits state ≡ false → has_stopped task past ≡ false
    → ForSome task.times.limit_ms (λ limit. 0 < limit) → is_message event ≡ true → act_at task (event ∷ past) ≡ save_at_end task (standing task (event ∷ past))
messages_by task clock lost (Starting due) event past a w on later h = starting_messages task clock lost due event past a later h
messages_by task clock lost (Running r) event past a w on later h = running_messages task clock lost r.at r.fatal r.idle r.due r.interrupted event past a h
messages_by task clock lost (Stopped failing) event past a w on later h = absurd (true≢false (sym a.stopped ∙ on))
messages_by task clock lost Preparing event past a w on later h = absurd (true≢false w)
messages_by task clock lost (Passing k) event past a w on later h = absurd (true≢false w)
messages_by task clock lost Closing event past a w on later h = absurd (true≢false w)
messages_by task clock lost (Failing k cause) event past a w on later h = absurd (true≢false w)

-- a message is answered by a save exactly where the last request is over by it
pub messages_end : (task : Task) (clock : Clock) (lost : Bool) (state : State) (event : Event) (told : List Event) → IsAt task clock lost state (heard task told) → awaits state ≡ false
    → has_stopped task (heard task told) ≡ false → ForSome task.times.limit_ms (λ limit. 0 < limit) → is_message event ≡ true → act_of task event told ≡ save_at_end task (standing task (event ∷ told))
messages_end task clock lost state event told a w on later h =
    going task event told on ∙ messages_by task clock lost state event (heard task told) a w on later h
    ∙ ap (λ (es : List Event). save_at_end task (standing task (event ∷ es))) (heard_all task told on)

-- ---- a request that runs

pub runs_on : (task : Task) (clock : Clock) (lost : Bool) (state : State) (events : List Event) (last : Standing) → IsAt task clock lost state events → awaits state ≡ false → has_stopped task events ≡ false
    → standing task events ≡ Some last → is_over last.later ≡ false
runs_on task clock lost (Starting due) events last a w on h = (let clash : None ≡ Some last = sym (standing_none a.reached) ∙ h in absurd (cc))
runs_on task clock lost (Running r) events last a w on h =
    let same : at r.at a.later ≡ last = (let both : Some (at r.at a.later) ≡ Some last = sym (standing_is a.stands) ∙ h in cc) in
    subst (λ (s : Standing). is_over s.later ≡ false) same a.on
runs_on task clock lost (Stopped failing) events last a w on h = absurd (true≢false (sym a.stopped ∙ on))
runs_on task clock lost Preparing events last a w on h = absurd (true≢false w)
runs_on task clock lost (Passing k) events last a w on h = absurd (true≢false w)
runs_on task clock lost Closing events last a w on h = absurd (true≢false w)
runs_on task clock lost (Failing k cause) events last a w on h = absurd (true≢false w)

-- ---- interrupts

abbrev is_interrupt : Act → Bool
is_interrupt Interrupt = true
is_interrupt act = false

queued_if : (task : Task) (k : ℕ) (first : Option ℕ) (events : List Event) → task.times.interrupt ≡ false → is_queued_now task k first events ≡ false
queued_if task k None events off = refl
queued_if task k (Some first) events off = and_left task.times.interrupt (queues task k first events) off

if_none : (b : Bool) (x y : Act) → is_interrupt x ≡ false → is_interrupt y ≡ false → is_interrupt (if b then x else y) ≡ false
if_none true x y p q = p
if_none false x y p q = q

answers_none : (task : Task) (v : Option Standing) (events : List Event) → task.times.interrupt ≡ false → is_interrupt (answers task v events) ≡ false
answers_none task (Some r) (Looked ∷ past) off =
    ap (λ (b : Bool). is_interrupt (if b then Interrupt else Nothing)) (queued_if task r.request (first_deadline task r (Looked ∷ past)) (Looked ∷ past) off)
answers_none task (Some r) (Lost ∷ past) off = refl
answers_none task (Some r) (Moment t ∷ past) off = if_none (is_late (due_at task (Some r) (Moment t ∷ past)) (Moment t ∷ past)) Look Nothing refl refl
answers_none task (Some r) (Saved ∷ past) off = if_none (is_empty_list r.later) (Send (cell_of task r.request)) Nothing refl refl
answers_none task (Some r) (Ready ∷ past) off = if_none (is_empty_list r.later) (Send (cell_of task r.request)) Nothing refl refl
answers_none task (Some r) (Io m ∷ past) off = if_none (is_empty_list r.later) (Send (cell_of task r.request)) Nothing refl refl
answers_none task (Some r) (Reply f ∷ past) off = if_none (is_empty_list r.later) (Send (cell_of task r.request)) Nothing refl refl
answers_none task (Some r) (Broken ∷ past) off = if_none (is_empty_list r.later) (Send (cell_of task r.request)) Nothing refl refl
answers_none task (Some r) [] off = refl
answers_none task None (Saved ∷ past) off = if_none (ack_count past == 0) Start Nothing refl refl
answers_none task None (Moment t ∷ past) off = if_none (is_late (due_at task None (Moment t ∷ past)) (Moment t ∷ past)) Look Nothing refl refl
answers_none task None (Lost ∷ past) off = refl
answers_none task None (Ready ∷ past) off = refl
answers_none task None (Io m ∷ past) off = refl
answers_none task None (Reply f ∷ past) off = refl
answers_none task None (Looked ∷ past) off = refl
answers_none task None (Broken ∷ past) off = refl
answers_none task None [] off = refl

act_none : (task : Task) (events : List Event) (due : List Prefix) (cause : Option Why) → task.times.interrupt ≡ false → is_interrupt (act_by task events due cause) ≡ false
act_none task events (x ∷ xs) cause off = refl
act_none task events [] (Some w) off = refl
act_none task events [] None off = answers_none task (standing task events) events off

pub no_interrupt : (task : Task) (event : Event) (past : List Event) → task.times.interrupt ≡ false → act_of task event past ≡ Interrupt → ⊥
no_interrupt task event past off is =
    let now = event ∷ heard task past in
    true≢false (sym (ap is_interrupt is) ∙ if_none (has_stopped task (heard task past)) Nothing (act_at task now) refl (act_none task now (pending_saves task now) (why task now) off))

-- ---- requests

sent_by : (task : Task) (event : Event) (past : List Event) (k : ℕ) → after task k (event ∷ past) ≡ Some [] → (event ≡ Saved) ⊎ (event ≡ Ready)
sent_by task Saved past k h = inl refl
sent_by task Ready past k h = inr refl
sent_by task (Io m) past k h = absurd (not_by task k (Io m) past (λ same. let clash : Io m ≡ Saved = same in cc) refl h)
sent_by task (Reply f) past k h = absurd (not_by task k (Reply f) past (λ same. let clash : Reply f ≡ Saved = same in cc) refl h)
sent_by task (Moment t) past k h = absurd (not_by task k (Moment t) past (λ same. let clash : Moment t ≡ Saved = same in cc) refl h)
sent_by task Looked past k h = absurd (not_by task k Looked past (λ same. let clash : Looked ≡ Saved = same in cc) refl h)
sent_by task Lost past k h = absurd (not_by task k Lost past (λ same. let clash : Lost ≡ Saved = same in cc) refl h)
sent_by task Broken past k h = absurd (not_by task k Broken past (λ same. let clash : Broken ≡ Saved = same in cc) refl h)

-- a request is sent at an acknowledgement or at readiness
pub sent_at_start : (task : Task) (event : Event) (past : List Event) (cell : ℕ) → act_of task event past ≡ Send cell → (event ≡ Saved) ⊎ (event ≡ Ready)
sent_at_start task event past cell h =
    let s = sent_where task event past cell h in
    sent_by task event (heard task past) s.request s.stands

-- ---- each kind of event

if_answers : (event : Event) (b : Bool) (x y : Moved) → can_answer event x.step.act ≡ true → can_answer event y.step.act ≡ true → can_answer event (if b then x else y).step.act ≡ true
if_answers event true x y p q = p
if_answers event false x y p q = q

look_answers : (state : State) (t : ℕ) (late : Bool) → can_answer (Moment t) (look_or state late).step.act ≡ true
look_answers state t true = refl
look_answers state t false = refl

first_answers : (task : Task) → can_answer Saved (in_preparing task Saved).step.act ≡ true
first_answers task =
    if_answers Saved (nat_lt 0 (length task.plan)) (move (Starting None) false Start) (if nat_lt 0 task.cells then move Closing false (Save task.cells) else stops Done) refl
    (if_answers Saved (nat_lt 0 task.cells) (move Closing false (Save task.cells)) (stops Done) refl refl)

passed_answers : (task : Task) (clock : Clock) (k : ℕ) → can_answer Saved (on_passed task clock k).step.act ≡ true
passed_answers task clock k =
    if_answers Saved (nat_lt (k + 1) (length task.plan)) (sends task clock (k + 1)) (if nat_lt (cell_of task k + 1) task.cells then move Closing false (Save task.cells) else stops Done) refl
    (if_answers Saved (nat_lt (cell_of task k + 1) task.cells) (move Closing false (Save task.cells)) (stops Done) refl refl)

starting_answers : (task : Task) (clock : Clock) (lost : Bool) (due : Option ℕ) (event : Event) → is_saved event ≡ false → can_answer event (in_starting task clock lost due event).step.act ≡ true
starting_answers task clock lost due Saved h = absurd (true≢false h)
starting_answers task clock lost due Ready h = refl
starting_answers task clock lost due (Io m) h = refl
starting_answers task clock lost due (Reply f) h = refl
starting_answers task clock lost due (Moment t) h = look_answers (Starting (start_due task clock due t)) t (is_past (read_again clock t) (start_due task clock due t))
starting_answers task clock lost due Looked h =
    if_answers Looked lost (stops KernelLost) (if is_past clock due then stops NotReady else stays (Starting due)) refl
    (if_answers Looked (is_past clock due) (stops NotReady) (stays (Starting due)) refl refl)
starting_answers task clock lost due Lost h = refl
starting_answers task clock lost due Broken h = refl

late_answers : (task : Task) (clock : Clock) (k : ℕ) (fatal : Option Bool) (idle interrupted : Bool) → can_answer Looked (late task clock k fatal idle interrupted).step.act ≡ true
late_answers task clock k (Some f) idle interrupted = refl
late_answers task clock k None idle interrupted =
    if_answers Looked (task.times.interrupt && not interrupted) (move (running_state k None idle (Some (now_of clock + 10000)) true) false Interrupt) (fails task k TimedOut) refl refl

ends_answers : (task : Task) (event : Event) (k : ℕ) (fatal : Bool) → is_message event ≡ true → can_answer event (Save (cell_of task k + 1)) ≡ true → can_answer event (ends task k fatal).step.act ≡ true
ends_answers task event k true h c = c
ends_answers task event k false h c = c

running_answers : (task : Task) (clock : Clock) (lost : Bool) (k : ℕ) (fatal : Option Bool) (idle : Bool) (due : Option ℕ) (interrupted : Bool) (event : Event) → is_saved event ≡ false
    → can_answer event (in_running task clock lost k fatal idle due interrupted event).step.act ≡ true
running_answers task clock lost k fatal true due interrupted (Io m) h = refl
running_answers task clock lost k (Some f) false due interrupted (Io Idle) h = ends_answers task (Io Idle) k f refl refl
running_answers task clock lost k None false due interrupted (Io Idle) h = refl
running_answers task clock lost k fatal false due interrupted (Io Else) h = refl
running_answers task clock lost k (Some old) idle due interrupted (Reply f) h = refl
running_answers task clock lost k None true due interrupted (Reply f) h = ends_answers task (Reply f) k f refl refl
running_answers task clock lost k None false due interrupted (Reply f) h = refl
running_answers task clock lost k fatal idle due interrupted Looked h =
    if_answers Looked lost (fails task k KernelLost) (if is_past clock due then late task clock k fatal idle interrupted else stays (running_state k fatal idle due interrupted)) refl
    (if_answers Looked (is_past clock due) (late task clock k fatal idle interrupted) (stays (running_state k fatal idle due interrupted)) (late_answers task clock k fatal idle interrupted) refl)
running_answers task clock lost k fatal idle due interrupted (Moment t) h = look_answers (running_state k fatal idle due interrupted) t (is_past (read_again clock t) due)
running_answers task clock lost k fatal idle due interrupted Broken h = refl
running_answers task clock lost k fatal idle due interrupted Ready h = refl
running_answers task clock lost k fatal idle due interrupted Lost h = refl
running_answers task clock lost k fatal idle due interrupted Saved h = absurd (true≢false h)

move_answers : (task : Task) (clock : Clock) (lost : Bool) (state : State) (event : Event) → is_saved event ≡ awaits state → is_stopped state ≡ false → can_answer event (next_move task clock lost state event).step.act ≡ true
move_answers task clock lost Preparing event h live = subst (λ (e : Event). can_answer e (in_preparing task e).step.act ≡ true) (sym (saved_is event h)) (first_answers task)
move_answers task clock lost (Passing k) event h live = subst (λ (e : Event). can_answer e (in_passing task clock k e).step.act ≡ true) (sym (saved_is event h)) (passed_answers task clock k)
move_answers task clock lost Closing event h live = subst (λ (e : Event). can_answer e (in_closing e).step.act ≡ true) (sym (saved_is event h)) refl
move_answers task clock lost (Failing k w) event h live = subst (λ (e : Event). can_answer e (in_failing k w e).step.act ≡ true) (sym (saved_is event h)) refl
move_answers task clock lost (Starting due) event h live = starting_answers task clock lost due event h
move_answers task clock lost (Running r) event h live = running_answers task clock lost r.at r.fatal r.idle r.due r.interrupted event h
move_answers task clock lost (Stopped failing) event h live = absurd (true≢false live)

-- a core that hasn't stopped is in no stopped state
live_state : (task : Task) (clock : Clock) (lost : Bool) (state : State) (events : List Event) → IsAt task clock lost state events → has_stopped task events ≡ false → is_stopped state ≡ false
live_state task clock lost (Stopped failing) events a on = absurd (true≢false (sym a.stopped ∙ on))
live_state task clock lost Preparing events a on = refl
live_state task clock lost (Starting due) events a on = refl
live_state task clock lost (Running r) events a on = refl
live_state task clock lost (Passing k) events a on = refl
live_state task clock lost Closing events a on = refl
live_state task clock lost (Failing k w) events a on = refl

-- while the job hasn't stopped, each event is answered by an act of its kind
pub answers_kind : (task : Task) (clock : Clock) (lost : Bool) (state : State) (event : Event) (told : List Event) → IsAt task clock lost state (heard task told) → is_saved event ≡ awaits state
    → IsTimely task event told → has_stopped task (heard task told) ≡ false → ForSome task.times.limit_ms (λ limit. 0 < limit) → can_answer event (act_of task event told) ≡ true
answers_kind task clock lost state event told a h timely on later =
    subst (λ (act : Act). can_answer event act ≡ true) (follows task clock lost state event told a h timely later).act
    (move_answers task clock lost state event h (live_state task clock lost state (heard task told) a on))
