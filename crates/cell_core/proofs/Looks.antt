-- When a last look is wanted, and that the clock is read in time where none is.
use Rattle.std.proofs.Common.{◌≡◌, ℕ, ◌≤◌, List, Bool, true, false, not, ◌&&◌, ◌||◌, Option, Some, None, is_some, is_none, refl, sym, ap, ap₂, ◌∙◌, true≢false, inl, inr}
use Rattle.std.proofs.lemmas.Bool.{and_parts}
use Rattle.cell_core.specs.declared.event.Event.{Event}
use Rattle.cell_core.specs.declared.event.Event.TheVariants.{Moment}
use Rattle.cell_core.specs.declared.why.Why.{Why}
use Rattle.cell_core.specs.declared.state.State.{State}
use Rattle.cell_core.specs.declared.state.State.TheVariants.{Preparing, Starting, Running, Passing, Closing, Failing, Stopped}
use Rattle.cell_core.specs.declared.clock.Clock.{Clock}
use Rattle.cell_core.specs.Task.{Task}
use Rattle.cell_core.specs.Events.{is_lost, ever, time}
use Rattle.cell_core.specs.Requests.{Standing}
use Rattle.cell_core.specs.Deadlines.{passed_by}
use Rattle.cell_core.specs.Saves.{why, pending_saves}
use Rattle.cell_core.specs.Holds.{awaits, is_past, looks_in}
use Rattle.cell_core.specs.Acts.{has_stopped, is_empty, heard, due_at, awaits_saved, calls_for_look, wants_look_of, IsTimely}
use Rattle.cell_core.specs.Laws.{GoesOn}
use Rattle.cell_core.specs.StandsFor.{Hears, IsAt}
use Rattle.cell_core.proofs.Requests.{standing_is, standing_none}
use Rattle.cell_core.proofs.SavesLemmas.{over_not_passed, why_none_on}
use Rattle.cell_core.proofs.Moving.{why_waits, no_cause_none, no_cause_on}
use Rattle.cell_core.proofs.Clocks.{past_is}

-- a test of three
all_three : (a : Bool) (o : Option Why) (c x : Bool) → a ≡ false → o ≡ None → c ≡ x → (not a && is_none o && c) ≡ x
all_three a o c x e n h = rw (e, n) h

saved_first : (a n c : Bool) → a ≡ true → (not a && n && c) ≡ false
saved_first a n c e = rw e refl

stopped_first : (a c : Bool) (o : Option Why) → is_some o ≡ true → (not a && is_none o && c) ≡ false
stopped_first true c o e = refl
stopped_first false c None e = absurd (true≢false (sym e))
stopped_first false c (Some w) e = refl

-- what calls for a look, by the clock and the deadline that stands
called : {clock : Clock} {lost : Bool} {events : List Event} → Hears clock lost events → (o due : Option ℕ) → o ≡ due → (ever is_lost events || passed_by o events) ≡ (lost || is_past clock due)
called {clock} {lost} {events} h o due e = ap₂ (λ a b. a || b) h.lost_is (ap (λ (v : Option ℕ). passed_by v events) e ∙ past_is h due)

pub looks_is : (task : Task) (clock : Clock) (lost : Bool) (state : State) (events : List Event) → IsAt task clock lost state (heard task events) → awaits_saved task events ≡ awaits state
    → wants_look_of task events ≡ looks_in clock lost state
looks_is task clock lost Preparing events a w = saved_first _ _ _ w
looks_is task clock lost (Starting due) events a w =
    all_three _ _ _ _ w (why_waits a.reached a.planned ∙ no_cause_none a)
    (called a.hears _ due (ap (λ (v : Option Standing). due_at task v (heard task events)) (standing_none a.reached) ∙ a.until))
looks_is task clock lost (Running r) events a w =
    all_three _ _ _ _ w (why_none_on a.stands (over_not_passed a.later a.on) (no_cause_on a))
    (called a.hears _ r.due (ap (λ (v : Option Standing). due_at task v (heard task events)) (standing_is a.stands) ∙ a.until))
looks_is task clock lost (Passing k) events a w = saved_first _ _ _ w
looks_is task clock lost Closing events a w = saved_first _ _ _ w
looks_is task clock lost (Failing k cause) events a w = saved_first _ _ _ w
looks_is task clock lost (Stopped failing) events a w =
    stopped_first _ _ _ (and_parts (is_some (why task (heard task events))) (is_empty (pending_saves task (heard task events))) a.stopped).0

-- ---- the clock

no_call : (e c : Bool) (o : Option Why) → not e ≡ false → (is_some o && e) ≡ false → (not (not e) && is_none o && c) ≡ false → c ≡ false
no_call false c o u g h = absurd (true≢false u)
no_call true c None u g h = h
no_call true c (Some w) u g h = absurd (true≢false g)

-- where no save is awaited and no look is wanted, the clock may be read
pub timely : (task : Task) (t : ℕ) (events : List Event) → awaits_saved task events ≡ false → wants_look_of task events ≡ false → time (heard task events) ≤ t → IsTimely task (Moment t) events
timely task t events u h le =
    λ g. (le, no_call (is_empty (pending_saves task (heard task events))) (calls_for_look task (heard task events)) (why task (heard task events)) u g h)

-- ---- without the state

pub goes_on_is : (task : Task) (clock : Clock) (lost : Bool) (state : State) (events : List Event) → IsAt task clock lost state (heard task events) → awaits state ≡ false
    → has_stopped task (heard task events) ≡ false → GoesOn task (heard task events)
goes_on_is task clock lost Preparing events a w on = absurd (true≢false w)
goes_on_is task clock lost (Starting due) events a w on = inl (standing_none a.reached, a.reached.acknowledged)
goes_on_is task clock lost (Running r) events a w on =
    inr (record { request = r.at; later = a.later }, standing_is a.stands, a.on, a.stands.reached.acknowledged)
goes_on_is task clock lost (Passing k) events a w on = absurd (true≢false w)
goes_on_is task clock lost Closing events a w on = absurd (true≢false w)
goes_on_is task clock lost (Failing k cause) events a w on = absurd (true≢false w)
goes_on_is task clock lost (Stopped failing) events a w on = absurd (true≢false (sym a.stopped ∙ on))
