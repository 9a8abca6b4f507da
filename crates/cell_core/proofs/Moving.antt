-- Each move keeps the relation, and its answer is the definitions'.
use Rattle.std.proofs.Common.{◌≡◌, ℕ, zero, suc, ◌+◌, ◌<◌, ◌≤◌, List, [], ◌∷◌, length, Bool, true, false, not, if◌then◌else◌, nat_lt, ◌==◌, Option, Some, None, is_some, refl, sym, ap, subst, ◌∙◌, true≢false, arith, inl, inr}
use Rattle.std.proofs.lemmas.Bool.{and_from, and_left, and_right, le-ltb, lt-ltb, eq-eqb, ne_eqb}
use Rattle.cell_core.specs.declared.event.Event.{Event}
use Rattle.cell_core.specs.declared.event.Event.TheVariants.{Saved}
use Rattle.cell_core.specs.declared.why.Why.{Why}
use Rattle.cell_core.specs.declared.why.Why.TheVariants.{Done, CellError, NotReady, KernelLost, TimedOut, NoIdle, BadPeer}
use Rattle.cell_core.specs.declared.state.State.{State}
use Rattle.cell_core.specs.declared.state.State.TheVariants.{Preparing, Starting, Running, Passing, Closing, Failing, Stopped}
use Rattle.cell_core.specs.Task.{Task, cell_of}
use Rattle.cell_core.specs.Requests.{reply, is_over, is_fatal, after, Standing, standing}
use Rattle.cell_core.specs.Saves.{late_cause, why_not_done, Prefix, after_preparation, why, pending_saves, is_done, is_whole}
use Rattle.cell_core.specs.Acts.{is_empty, has_stopped, failing_at}
use Rattle.cell_core.specs.declared.clock.Clock.{Clock}
use Rattle.cell_core.specs.Holds.{running_state, awaits}
use Rattle.cell_core.specs.Deadlines.{deadline, start_deadline, looked_by}
use Rattle.cell_core.proofs.Causes.{is_interruptible, late_is}
use Rattle.cell_core.specs.StandsFor.{Reached, IsStarting, IsRunning, IsPassing, IsClosing, IsFailing, IsAt, failing_in}
use Rattle.cell_core.proofs.Requests.{standing_none, none_saved_none}
use Rattle.cell_core.proofs.SavesLemmas.{at, over_not_passed, rest_after, rest_of_none, unacked_none, saves_none, why_none_on, unacked_quiet, unacked_fails, unacked_more, unacked_passed, failing_none, failing_fails, failing_more, failing_quiet, no_stop_none}

-- What a core that isn't stopped shows.
pub record Shows (task : Task) (state : State) (events : List Event) : Type 0 where
  pub goes_on : has_stopped task events ≡ false
  pub awaits_it : not (is_empty (pending_saves task events)) ≡ awaits state
  pub names : failing_at task events ≡ failing_in task state

pub no_cause : (task : Task) (events : List Event) → why task events ≡ None → has_stopped task events ≡ false
no_cause task events e = rw e refl

pub some_due : (task : Task) (events : List Event) (x : Prefix) (xs : List Prefix) → pending_saves task events ≡ x ∷ xs → has_stopped task events ≡ false
some_due task events x xs e = and_right (is_some (why task events)) (is_empty (pending_saves task events)) (ap is_empty e)

pub all_done : (task : Task) (events : List Event) (w : Why) → why task events ≡ Some w → pending_saves task events ≡ [] → has_stopped task events ≡ true
all_done task events w e u = and_from (is_some (why task events)) (is_empty (pending_saves task events)) (ap is_some e) (ap is_empty u)

pub is_due : (task : Task) (events : List Event) (x : Prefix) (xs : List Prefix) → pending_saves task events ≡ x ∷ xs → not (is_empty (pending_saves task events)) ≡ true
is_due task events x xs e = ap (λ (ys : List Prefix). not (is_empty ys)) e

pub none_due : (task : Task) (events : List Event) → pending_saves task events ≡ [] → not (is_empty (pending_saves task events)) ≡ false
none_due task events e = ap (λ (ys : List Prefix). not (is_empty ys)) e

-- no request stands, and the plan isn't empty
pub rest_none : (task : Task) → 0 < length task.plan → rest_of_none task ≡ []
rest_none task lt = rw (ne_eqb (length task.plan) 0 (omega arith)) refl

pub why_waits : {task : Task} {events : List Event} → Reached task 0 None 1 events → 0 < length task.plan → why task events ≡ why_not_done task None events
why_waits {task} {events} r lt =
    let not_done : is_done task events ≡ false =
    and_left (is_whole task (standing task events)) _ (ap (λ (v : Option Standing). is_whole task v) (standing_none r) ∙ ne_eqb (length task.plan) 0 (omega arith)) in
    ap (λ (b : Bool). if b then Some Done else why_not_done task (standing task events) events) not_done ∙ ap (λ (v : Option Standing). why_not_done task v events) (standing_none r)

chain : (a b c : Bool) (d : Option Why) → a ≡ false → b ≡ false → c ≡ false → d ≡ None → (if a then Some CellError else if b then Some BadPeer else if c then Some KernelLost else d) ≡ None
chain a b c d p q r s = rw (p, q, r, s) refl

late_none : (task : Task) (last : Standing) (events : List Event) (due : Option ℕ) → deadline task last events ≡ due → looked_by due events ≡ false → late_cause task (Some last) events ≡ None
late_none task last events due until calm =
    let no_look : looked_by (deadline task last events) events ≡ false = ap (λ (d : Option ℕ). looked_by d events) until ∙ calm in
    late_is task last events ∙ ap (λ (b : Bool). if b then Some (if is_some (reply last.later) then NoIdle else TimedOut) else None) (and_left (looked_by (deadline task last events) events) (not (is_interruptible task last events)) no_look)

-- nothing stops a request that runs
pub no_cause_on : {task : Task} {clock : Clock} {lost : Bool} {k : ℕ} {fatal : Option Bool} {idle : Bool} {due : Option ℕ} {interrupted : Bool} {events : List Event}
    → (a : IsRunning task clock lost k fatal idle due interrupted events) → why_not_done task (Some (at k a.later)) events ≡ None
no_cause_on {task} {clock} {lost} {k} {fatal} {idle} {due} {interrupted} {events} a =
    chain _ _ _ _ (and_left (is_over a.later) (is_fatal a.later) a.on) a.hears.unbroken a.hears.unseen (late_none task (at k a.later) events due a.until a.calm)

pub no_cause_none : {task : Task} {clock : Clock} {lost : Bool} {due : Option ℕ} {events : List Event} → IsStarting task clock lost due events → why_not_done task None events ≡ None
no_cause_none {task} {clock} {lost} {due} {events} a =
    let no_look : looked_by (start_deadline task events) events ≡ false = ap (λ (d : Option ℕ). looked_by d events) a.until ∙ a.calm in
    chain _ _ _ _ refl a.hears.unbroken a.hears.unseen (ap (λ (b : Bool). if b then Some NotReady else None) no_look)

shows_running : (task : Task) (clock : Clock) (lost : Bool) (k : ℕ) (fatal : Option Bool) (idle : Bool) (due : Option ℕ) (interrupted : Bool) (events : List Event)
    → IsRunning task clock lost k fatal idle due interrupted events → Shows task (running_state k fatal idle due interrupted) events
shows_running task clock lost k fatal idle due interrupted events a =
    let p = over_not_passed a.later a.on in
    record {
      goes_on = no_cause task events (why_none_on a.stands p (no_cause_on a));
      awaits_it = none_due task events (unacked_quiet a.stands p (no_cause_on a));
      names = failing_quiet a.stands p (no_cause_on a);
    }

shows_starting : (task : Task) (clock : Clock) (lost : Bool) (due : Option ℕ) (events : List Event) → IsStarting task clock lost due events → Shows task (Starting due) events
shows_starting task clock lost due events a =
    record {
      goes_on = no_cause task events (why_waits a.reached a.planned ∙ no_cause_none a);
      awaits_it = none_due task events (unacked_none a.reached ∙ rest_none task a.planned);
      names = failing_none task events _ (saves_none a.reached) (no_stop_none task);
    }

shows_passing : (task : Task) (clock : Clock) (lost : Bool) (k : ℕ) (events : List Event) → IsPassing task clock lost k events → Shows task (Passing k) events
shows_passing task clock lost k events a =
    record {
      goes_on = some_due task events _ _ (unacked_more a.stands a.passed);
      awaits_it = is_due task events _ _ (unacked_more a.stands a.passed);
      names = failing_more a.stands a.passed;
    }

shows_failing : (task : Task) (k : ℕ) (w : Why) (events : List Event) → IsFailing task k w events → Shows task (Failing k w) events
shows_failing task k w events a =
    record {
      goes_on = some_due task events _ _ (unacked_fails a.stands a.fails);
      awaits_it = is_due task events _ _ (unacked_fails a.stands a.fails);
      names = failing_fails a.stands a.fails (omega arith);
    }

pub rest_last : (task : Task) (k : ℕ) → k + 1 ≡ length task.plan → cell_of task k + 1 < task.cells → rest_after task k ≡ record { settled = task.cells; stopping_cell = None } ∷ []
rest_last task k last lt = rw (eq-eqb (k + 1) (length task.plan) last, lt-ltb (cell_of task k + 1) task.cells lt) refl

pub rest_no_more : (task : Task) (k : ℕ) → task.cells ≤ cell_of task k + 1 → rest_after task k ≡ []
rest_no_more task k le = rw (and_right (k + 1 == length task.plan) (nat_lt (cell_of task k + 1) task.cells) (le-ltb (cell_of task k + 1) task.cells le)) refl

pub due_closing : {task : Task} {k : ℕ} {events : List Event} (a : IsClosing task k events) → pending_saves task events ≡ record { settled = task.cells; stopping_cell = None } ∷ []
due_closing {task} {k} {events} a = unacked_passed a.stands a.passed ∙ rest_last task k a.last a.more

-- before and after the first acknowledged save
above_nothing : (task : Task) (j : ℕ) → 0 < j → after task j [] ≡ None
above_nothing task zero lt = refl
above_nothing task (suc j) lt = refl

pub reached_nothing : (task : Task) → Reached task 0 None 0 []
reached_nothing task =
    record { below = λ j lt. absurd (omega arith); here = refl; above = above_nothing task; acknowledged = refl }

above_saved : {task : Task} {a : ℕ} {past : List Event} → Reached task 0 None a past → (j : ℕ) → 0 < j → after task j (Saved ∷ past) ≡ None
above_saved r zero lt = absurd (omega arith)
above_saved {task} {a} {past} r (suc j) lt = none_saved_none r j

pub reached_prepared : (task : Task) → Reached task 0 None 1 (Saved ∷ [])
reached_prepared task =
    record { below = λ j lt. absurd (omega arith); here = refl; above = above_saved (reached_nothing task); acknowledged = refl }

pub reached_closed : (task : Task) → Reached task 0 None 2 (Saved ∷ Saved ∷ [])
reached_closed task =
    record { below = λ j lt. absurd (omega arith); here = refl; above = above_saved (reached_prepared task); acknowledged = refl }

pub rest_whole : (task : Task) → length task.plan ≡ 0 → 0 < task.cells → rest_of_none task ≡ record { settled = task.cells; stopping_cell = None } ∷ []
rest_whole task e lt = rw (eq-eqb (length task.plan) 0 e, lt-ltb 0 task.cells lt) refl

pub rest_empty : (task : Task) → task.cells ≤ 0 → rest_of_none task ≡ []
rest_empty task le = rw (and_right (length task.plan == 0) (nat_lt 0 task.cells) (le-ltb 0 task.cells le)) refl

shows_closing : (task : Task) (clock : Clock) (lost : Bool) (events : List Event) → IsAt task clock lost Closing events → Shows task Closing events
shows_closing task clock lost events (inr a) =
    record {
      goes_on = some_due task events _ _ (due_closing a.1);
      awaits_it = is_due task events _ _ (due_closing a.1);
      names = failing_more a.1.stands a.1.passed;
    }
shows_closing task clock lost events (inl a) =
    subst (λ (es : List Event). Shows task Closing es) (sym a.2) (
    let u = unacked_none (reached_prepared task) ∙ rest_whole task a.0 a.1 in
    record {
      goes_on = some_due task (Saved ∷ []) _ _ u;
      awaits_it = is_due task (Saved ∷ []) _ _ u;
      names = failing_none task (Saved ∷ []) _ (saves_none (reached_prepared task)) (no_stop_none task);
    })

due_first : (task : Task) → pending_saves task [] ≡ after_preparation ∷ rest_of_none task
due_first task = saves_none (reached_nothing task)

shows_preparing : (task : Task) (clock : Clock) (lost : Bool) (events : List Event) → IsAt task clock lost Preparing events → Shows task Preparing events
shows_preparing task clock lost events e =
    subst (λ (es : List Event). Shows task Preparing es) (sym e.0) (
    record {
      goes_on = some_due task [] _ _ (due_first task);
      awaits_it = is_due task [] _ _ (due_first task);
      names = failing_none task [] _ (saves_none (reached_nothing task)) (no_stop_none task);
    })

abbrev pub is_stopped : State → Bool
is_stopped (Stopped failing) = true
is_stopped _ = false

pub shows : (task : Task) (clock : Clock) (lost : Bool) (state : State) (events : List Event) → IsAt task clock lost state events → is_stopped state ≡ false → Shows task state events
shows task clock lost Preparing events a live = shows_preparing task clock lost events a
shows task clock lost (Starting due) events a live = shows_starting task clock lost due events a
shows task clock lost (Running r) events a live = shows_running task clock lost r.at r.fatal r.idle r.due r.interrupted events a
shows task clock lost (Passing k) events a live = shows_passing task clock lost k events a
shows task clock lost Closing events a live = shows_closing task clock lost events a
shows task clock lost (Failing k w) events a live = shows_failing task k w events a
shows task clock lost (Stopped failing) events a live = absurd (true≢false live)
