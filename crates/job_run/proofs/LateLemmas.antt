-- What stops a core at once, and what stops it by a look: a broken stream stops it before a loss and a time that is over do.
use Rattle.std.proofs.Common.{◌≡◌, ◌⊎◌, inl, inr, ℕ, ◌+◌, ◌<◌, ◌==◌, List, [], ◌∷◌, length, Bool, true, false, not, if◌then◌else◌, ◌&&◌, ◌||◌, Option, Some, None, refl, sym, ◌∙◌, ap, subst, arith}
use Rattle.std.specs.Prelude.{is_none, is_some, nat_lt}
use Rattle.std.proofs.Math.Bool.{true≢false}
use Rattle.std.proofs.lemmas.Bool.{and_parts, eq-eqb, lt-ltb}
use Rattle.world.specs.declared.entry.Entry.{Entry}
use Rattle.cell_core.specs.declared.act.Act.{Act}
use Rattle.cell_core.specs.declared.act.Act.TheVariants.{Start, Save, Stop}
use Rattle.cell_core.specs.declared.clock.Clock.{Clock}
use Rattle.cell_core.specs.declared.event.Event.{Event}
use Rattle.cell_core.specs.declared.event.Event.TheVariants as event
use Rattle.cell_core.specs.declared.machine.Core.{Core}
use Rattle.cell_core.specs.declared.moved.Moved.{Moved}
use Rattle.cell_core.specs.declared.state.State.{State}
use Rattle.cell_core.specs.declared.state.State.TheVariants.{Preparing, Starting, Running, Passing, Closing, Failing, Stopped}
use Rattle.cell_core.specs.declared.why.Why.{Why}
use Rattle.cell_core.specs.declared.why.Why.TheVariants as why
use Rattle.cell_core.specs.Acts.{act_of, has_stopped, heard}
use Rattle.cell_core.specs.Answering.{can_answer}
use Rattle.cell_core.specs.Events.{ack_count, came, is_broken, is_looked, is_lost, look_since}
use Rattle.cell_core.specs.Holds.{awaits}
use Rattle.cell_core.specs.Moves.{move, next_move, sends, stops}
use Rattle.cell_core.specs.Requests.{Standing, is_over, is_passed, reply, standing}
use Rattle.cell_core.specs.Saves.{is_cell_error, is_done, is_no_idle, is_not_ready, is_timed_out, is_whole, plan_saves, why_not_done}
use Rattle.cell_core.specs.Saves.{why as why_of}
use Rattle.cell_core.specs.StandsFor.{IsAt, awaits_saved_of, failing_in, task_of}
use Rattle.cell_core.specs.Stops.{stopping_of}
use Rattle.cell_core.specs.Task.{Task, cell_of}
use Rattle.cell_core.proofs.Answering.{heard_all}
use Rattle.cell_core.proofs.OverRuns.{stopped_where}
use Rattle.cell_core.proofs.Requests.{standing_is}
use Rattle.cell_core.proofs.Runs.{follows}
use Rattle.run_journal.specs.Agreement.{IsOther, moment, looked, lost, broken, is_at_once}
use Rattle.job_journal.specs.Ended.{IsLateStop}
use Rattle.job_journal.specs.Piece.{has_ended}
use Rattle.job_journal.specs.Plot.{Plot, facts}
use Rattle.job_journal.specs.Told.{Hears}
use Rattle.job_run.specs.Standing.{StopsLate}
use Rattle.job_run.proofs.LiveLemmas.{heard_so}

-- ---- the rows of the cause

abbrev at_once_in : Option Why → Bool
at_once_in None = true
at_once_in (Some w) = is_at_once w

rows : (d e b l n i t : Bool) (cause : Why)
    → (if d then Some why.Done else if e then Some why.CellError else if b then Some why.BadPeer else if l then Some why.KernelLost
    else if n then Some why.NotReady else if i then Some why.NoIdle else if t then Some why.TimedOut else None) ≡ Some cause
    → (b ≡ true) ⊎ ((l ≡ false) × (n ≡ false) × (i ≡ false) × (t ≡ false)) → is_at_once cause ≡ true
rows true e b l n i t cause f g = sym (ap at_once_in f)
rows false true b l n i t cause f g = sym (ap at_once_in f)
rows false false true l n i t cause f g = sym (ap at_once_in f)
rows false false false l n i t cause f (inl g) = absurd (true≢false (sym g))
rows false false false true n i t cause f (inr g) = absurd (true≢false g.0)
rows false false false false true i t cause f (inr g) = absurd (true≢false g.1)
rows false false false false false true t cause f (inr g) = absurd (true≢false g.2)
rows false false false false false false true cause f (inr g) = absurd (true≢false g.3)
rows false false false false false false false cause f (inr g) = absurd (cc)

at_once_by : (task : Task) (events : List Event) (cause : Why) → why_of task events ≡ Some cause
    → (came is_broken events ≡ true) ⊎ ((look_since is_lost events ≡ false) × (is_not_ready task (standing task events) events ≡ false)
    × (is_no_idle (standing task events) events ≡ false) × (is_timed_out task (standing task events) events ≡ false)) → is_at_once cause ≡ true
at_once_by task events cause f g =
    let last = standing task events in
    rows (is_done task events) (is_cell_error last) (came is_broken events) (look_since is_lost events) (is_not_ready task last events) (is_no_idle last events)
    (is_timed_out task last events) cause f g

middle : (a b c : Bool) → b ≡ true → (a && not b && c) ≡ false
middle true true c e = refl
middle true false c e = absurd (true≢false (sym e))
middle false b c e = refl

unless_none : {A : Type 0} (o : Option A) (b : Bool) → is_some o ≡ true → (is_none o && b) ≡ false
unless_none None b e = absurd (true≢false (sym e))
unless_none (Some x) b e = refl

-- where the last request is over, a cause stops at once, unless a look found a loss
ended_at_once : (task : Task) (events : List Event) (cause : Why) → has_ended (standing task events) ≡ true → look_since is_lost events ≡ false → why_of task events ≡ Some cause
    → is_at_once cause ≡ true
ended_at_once task events cause over unseen f = at_once_by task events cause f (inr (unseen, ready (standing task events) over, idle (standing task events) over, out (standing task events) over))
  where
    ready : (o : Option Standing) → has_ended o ≡ true → is_not_ready task o events ≡ false
    ready None e = absurd (true≢false (sym e))
    ready (Some last) e = refl

    idle : (o : Option Standing) → has_ended o ≡ true → is_no_idle o events ≡ false
    idle None e = absurd (true≢false (sym e))
    idle (Some last) e = middle (is_some (reply last.later)) (is_over last.later) _ e

    out : (o : Option Standing) → has_ended o ≡ true → is_timed_out task o events ≡ false
    out None e = absurd (true≢false (sym e))
    out (Some last) e = unless_none (reply last.later) _ (and_parts (is_some (reply last.later)) _ e).0

clash : {A : Type 0} (b : Bool) → b ≡ true → b ≡ false → A
clash b e f = absurd (true≢false (sym e ∙ f))

-- ---- a message

neither : (b d : Bool) → b ≡ false → d ≡ false → (b || d) ≡ false
neither b d e f = cc

off : (b d : Bool) → b ≡ false → (b && d) ≡ false
off b d e = cc

-- a message by which the request is over stops the job at once, where it does
pub message_late : (p : Plot) (core : Core) (told : List Event) (e : Event) (now : List Entry) → Hears (facts p) core told → task_of core ≡ (facts p).task → awaits_saved_of core ≡ false
    → is_looked e ≡ false → has_ended (standing (facts p).task (e ∷ told)) ≡ true → StopsLate p (e ∷ told) now
message_late p core told e now h task_is calm unlooked over cause f late =
    let on : has_stopped (task_of core) (heard (task_of core) told) ≡ false = subst (λ task. has_stopped task (heard task told) ≡ false) (sym task_is) h.goes_on in
    let unseen : look_since is_lost told ≡ false
    = (heard_so core told h.stands calm on).unseen in
    clash (is_at_once cause)
    (ended_at_once (facts p).task (e ∷ told) cause over (neither _ _ (off (is_looked e) _ unlooked) unseen) f) late

-- ---- an event of the clock, a look, a loss or a broken stream

more_broken : (events : List Event) → came is_broken (event.Broken ∷ events) ≡ true
more_broken events = refl

-- a look stops the job while no stream is broken and where that time is over, and a broken stream stops it at once
pub other_late : (p : Plot) (told : List Event) (e : Event) (now : List Entry) → IsOther e
    → (is_looked e ≡ true → (cause : Why) → why_of (facts p).task (e ∷ told) ≡ Some cause → IsLateStop (facts p) cause now) → (act : Act) → can_answer e act ≡ true
    → can_answer (event.Moment 0) act ≡ false → can_answer event.Lost act ≡ false → StopsLate p (e ∷ told) now
other_late p told e now (moment ms) seen act kind m l cause f late = absurd (true≢false (sym kind ∙ m))
other_late p told e now looked seen act kind m l cause f late = seen refl cause f
other_late p told e now lost seen act kind m l cause f late = absurd (true≢false (sym kind ∙ l))
other_late p told e now broken seen act kind m l cause f late =
    clash (is_at_once cause) (at_once_by (facts p).task (event.Broken ∷ told) cause f (inl (more_broken told))) late

-- the cause by which a core stops is that of its events
pub stop_cause : (task : Task) (e : Event) (told : List Event) (cause : Why) → has_stopped task (heard task told) ≡ false → act_of task e told ≡ Stop cause → why_of task (e ∷ told) ≡ Some cause
stop_cause task e told cause on f = ap (λ es. why_of task (e ∷ es)) (sym (heard_all task told on)) ∙ (stopped_where task e told cause f).cause_is

-- ---- an acknowledged save

passed_over : (later : List Event) → is_passed later ≡ true → is_over later ≡ true
passed_over later e = (and_parts (is_over later) _ e).0

done_at_once : (d : Bool) (rest : Option Why) (cause : Why) → d ≡ true → (if d then Some why.Done else rest) ≡ Some cause → is_at_once cause ≡ true
done_at_once true rest cause e f = sym (ap at_once_in f)
done_at_once false rest cause e f = absurd (true≢false (sym e))

executed : (a b c d : Bool) → a ≡ true → b ≡ true → c ≡ true → ((a && b) && (c || d)) ≡ true
executed a b c d e f g = cc

-- once its last request is passed, the plan is executed
closing_done : (task : Task) (k : ℕ) (later events : List Event) → standing task events ≡ Some (record { request = k; later = later }) → k + 1 ≡ length task.plan → k < length task.plan
    → is_passed later ≡ true → is_done task events ≡ true
closing_done task k later events stands last planned passed =
    let some : 0 < length task.plan = omega (arith, planned) in
    ap (λ o. is_whole task o && (nat_lt 0 (length task.plan) || (length (plan_saves task events) == ack_count events))) stands
    ∙ executed (k + 1 == length task.plan) (is_passed later) (nat_lt 0 (length task.plan)) (length (plan_saves task events) == ack_count events) (eq-eqb (k + 1) (length task.plan) last) passed (lt-ltb 0 (length task.plan) some)

-- A core that awaits a save which names no stopping cell stops at once, where it does.
unnamed_at_once : (task : Task) (clock : Clock) (is_gone : Bool) (state : State) (first : Event) (past : List Event) → 0 < length task.plan → IsAt task clock is_gone state (first ∷ past)
    → awaits state ≡ true → failing_in task state ≡ None → (cause : Why) → why_of task (first ∷ past) ≡ Some cause → is_at_once cause ≡ true
unnamed_at_once task clock is_gone Preparing first past runs a awaited unnamed cause f = (let none : (first ∷ past) ≡ [] = a.0 in absurd (cc))
unnamed_at_once task clock is_gone (Starting due) first past runs a awaited unnamed cause f = absurd (true≢false (sym awaited))
unnamed_at_once task clock is_gone (Running r) first past runs a awaited unnamed cause f = absurd (true≢false (sym awaited))
unnamed_at_once task clock is_gone (Passing k) first past runs a awaited unnamed cause f =
    ended_at_once task (first ∷ past) cause (ap has_ended (standing_is a.stands) ∙ passed_over a.later a.passed) a.hears.unseen f
unnamed_at_once task clock is_gone Closing first past runs (inl a) awaited unnamed cause f = absurd (omega (arith, runs, a.0))
unnamed_at_once task clock is_gone Closing first past runs (inr (k, a)) awaited unnamed cause f =
    done_at_once (is_done task (first ∷ past)) (why_not_done task (standing task (first ∷ past)) (first ∷ past)) cause
    (closing_done task k a.later (first ∷ past) (standing_is a.stands) a.last a.stands.planned a.passed) f
unnamed_at_once task clock is_gone (Failing k w) first past runs a awaited unnamed cause f = absurd (cc)
unnamed_at_once task clock is_gone (Stopped failing) first past runs a awaited unnamed cause f = absurd (true≢false (sym awaited))

-- so after another save follows on this one
pub again_late : (p : Plot) (next : Core) (told : List Event) (now : List Entry) → Hears (facts p) next (event.Saved ∷ told) → task_of next ≡ (facts p).task → 0 < length (facts p).task.plan
    → awaits_saved_of next ≡ true → stopping_of next ≡ None → StopsLate p (event.Saved ∷ told) now
again_late p next told now h task_is runs awaited unnamed cause f late =
    let task : Task = task_of next in
    let on : has_stopped task (heard task (event.Saved ∷ told)) ≡ false = subst (λ t. has_stopped t (heard t (event.Saved ∷ told)) ≡ false) (sym task_is) h.goes_on in
    clash (is_at_once cause)
    (unnamed_at_once task next.clock next.lost next.state event.Saved told (subst (λ t. 0 < length t.plan) (sym task_is) runs)
    (subst (IsAt task next.clock next.lost next.state) (heard_all task (event.Saved ∷ told) on) h.stands.so) awaited unnamed cause
    (subst (λ t. why_of t (event.Saved ∷ told) ≡ Some cause) (sym task_is) f)) late

abbrev cause_in : Act → Option Why
cause_in (Stop w) = Some w
cause_in _ = None

done_stops : (cause : Why) → (stops why.Done).step.act ≡ Stop cause → is_at_once cause ≡ true
done_stops cause e = sym (ap (λ (a : Act). at_once_in (cause_in a)) e)

either : {A : Type 0} (b : Bool) (m n : Moved) (cause : Why) → (m.step.act ≡ Stop cause → A) → (n.step.act ≡ Stop cause → A) → (if b then m else n).step.act ≡ Stop cause → A
either true m n cause f g e = f e
either false m n cause f g e = g e

not_done : (task : Task) (k : ℕ) (later events : List Event) → standing task events ≡ Some (record { request = k; later = later }) → is_passed later ≡ false → is_done task events ≡ false
not_done task k later events stands passed = ap (λ o. is_whole task o && (nat_lt 0 (length task.plan) || (length (plan_saves task events) == ack_count events))) stands
    ∙ none (k + 1 == length task.plan) (is_passed later) (nat_lt 0 (length task.plan) || (length (plan_saves task events) == ack_count events)) passed
  where
    none : (a b c : Bool) → b ≡ false → ((a && b) && c) ≡ false
    none true true c e = absurd (true≢false e)
    none true false c e = refl
    none false b c e = refl

-- Where a core stops by a look as its save is acknowledged, its events had that cause before.
pub saved_cause : (task : Task) (clock : Clock) (is_gone : Bool) (state : State) (told : List Event) (cause : Why) → IsAt task clock is_gone state told → awaits state ≡ true
    → (next_move task clock is_gone state event.Saved).step.act ≡ Stop cause → is_at_once cause ≡ false → why_of task told ≡ Some cause
saved_cause task clock is_gone Preparing told cause a awaited f late =
    clash (is_at_once cause)
    (either (nat_lt 0 (length task.plan)) (move (Starting None) false Start) (if nat_lt 0 task.cells then move Closing false (Save task.cells) else stops why.Done) cause (λ e. absurd (cc))
    (either (nat_lt 0 task.cells) (move Closing false (Save task.cells)) (stops why.Done) cause (λ e. absurd (cc)) (done_stops cause)) f) late
saved_cause task clock is_gone (Starting due) told cause a awaited f late = absurd (true≢false (sym awaited))
saved_cause task clock is_gone (Running r) told cause a awaited f late = absurd (true≢false (sym awaited))
saved_cause task clock is_gone (Passing k) told cause a awaited f late =
    clash (is_at_once cause)
    (either (nat_lt (k + 1) (length task.plan)) (sends task clock (k + 1)) (if nat_lt (cell_of task k + 1) task.cells then move Closing false (Save task.cells) else stops why.Done) cause (λ e. absurd (cc))
    (either (nat_lt (cell_of task k + 1) task.cells) (move Closing false (Save task.cells)) (stops why.Done) cause (λ e. absurd (cc)) (done_stops cause)) f) late
saved_cause task clock is_gone Closing told cause a awaited f late = clash (is_at_once cause) (done_stops cause f) late
saved_cause task clock is_gone (Failing k w) told cause a awaited f late =
    let at = standing_is a.stands in
    ap (λ b. if b then Some why.Done else why_not_done task (standing task told) told) (not_done task k a.later told at a.fails.not_passed)
    ∙ ap (λ o. why_not_done task o told) at
    ∙ a.fails.cause
    ∙ ap cause_in f
saved_cause task clock is_gone (Stopped failing) told cause a awaited f late = absurd (true≢false (sym awaited))

pub stops_as_told : (p : Plot) (core : Core) (told : List Event) (cause : Why) → Hears (facts p) core told → task_of core ≡ (facts p).task → awaits_saved_of core ≡ true
    → act_of (facts p).task event.Saved told ≡ Stop cause → is_at_once cause ≡ false → why_of (facts p).task told ≡ Some cause
stops_as_told p core told cause h task_is awaited f late =
    let task : Task = task_of core in
    let on : has_stopped task (heard task told) ≡ false = subst (λ t. has_stopped t (heard t told) ≡ false) (sym task_is) h.goes_on in
    subst (λ t. why_of t told ≡ Some cause) task_is
    (saved_cause task core.clock core.lost core.state told cause (subst (IsAt task core.clock core.lost core.state) (heard_all task told on) h.stands.so) awaited
    ((follows task core.clock core.lost core.state event.Saved told h.stands.so (sym awaited) tt core.later).act ∙ subst (λ t. act_of t event.Saved told ≡ Stop cause) (sym task_is) f) late)
