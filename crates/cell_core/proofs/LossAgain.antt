-- A core that was told of a loss stands for one more loss too.
use Rattle.std.proofs.Common.{◌≡◌, ◌<◌, List, ◌∷◌, Bool, true, false, if◌then◌else◌, ◌⊎◌, refl, sym, ap, subst, ◌∙◌, true≢false, inl, inr}
use Rattle.std.specs.Option.{ForSome}
use Rattle.std.proofs.lemmas.Bool.{cases_Bool}
use Rattle.cell_core.specs.declared.clock.Clock.{Clock}
use Rattle.cell_core.specs.declared.event.Event.{Event}
use Rattle.cell_core.specs.declared.event.Event.TheVariants.{Lost}
use Rattle.cell_core.specs.declared.state.State.{State}
use Rattle.cell_core.specs.declared.state.State.TheVariants.{Preparing, Starting, Running, Passing, Closing, Failing, Stopped}
use Rattle.cell_core.specs.Task.{Task}
use Rattle.cell_core.specs.Acts.{has_stopped, heard}
use Rattle.cell_core.specs.Events.{ever, is_lost}
use Rattle.cell_core.specs.Holds.{awaits}
use Rattle.cell_core.specs.StandsFor.{IsStarting, IsRunning, IsAt}
use Rattle.cell_core.proofs.Moving.{shows}
use Rattle.cell_core.proofs.Runs.{follows}

-- a loss that didn't come after the stop is heard
lost_heard : (task : Task) (events : List Event) → has_stopped task (heard task (Lost ∷ events)) ≡ false → ever is_lost (heard task (Lost ∷ events)) ≡ true
lost_heard task events on = by (cases_Bool (has_stopped task (heard task events)))
  where
    now : (b : Bool) → has_stopped task (heard task events) ≡ b → heard task (Lost ∷ events) ≡ (if b then heard task events else Lost ∷ heard task events)
    now b e = ap (λ (x : Bool). if x then heard task events else Lost ∷ heard task events) e

    by : (has_stopped task (heard task events) ≡ true) ⊎ (has_stopped task (heard task events) ≡ false) → ever is_lost (heard task (Lost ∷ events)) ≡ true
    by (inl e) = absurd (true≢false (sym (ap (has_stopped task) (now true e) ∙ e) ∙ on))
    by (inr e) = ap (ever is_lost) (now false e)

-- the state stays right
pub lost_again : (task : Task) (clock : Clock) (lost : Bool) (state : State) (events : List Event) → IsAt task clock lost state (heard task (Lost ∷ events)) → awaits state ≡ false
    → ForSome task.times.limit_ms (λ limit. 0 < limit) → IsAt task clock lost state (heard task (Lost ∷ Lost ∷ events))
lost_again task clock lost (Starting due) events a h later =
    let is : lost ≡ true = sym a.hears.lost_is ∙ lost_heard task events (shows task clock lost (Starting due) (heard task (Lost ∷ events)) a refl).goes_on in
    subst (λ (b : Bool). IsStarting task clock b due (heard task (Lost ∷ Lost ∷ events))) (sym is) (follows task clock lost (Starting due) Lost (Lost ∷ events) a refl tt later).stands
lost_again task clock lost (Running r) events a h later =
    let is : lost ≡ true = sym a.hears.lost_is ∙ lost_heard task events (shows task clock lost (Running r) (heard task (Lost ∷ events)) a refl).goes_on in
    subst (λ (b : Bool). IsRunning task clock b r.at r.fatal r.idle r.due r.interrupted (heard task (Lost ∷ Lost ∷ events))) (sym is)
    (follows task clock lost (Running r) Lost (Lost ∷ events) a refl tt later).stands
lost_again task clock lost (Stopped failing) events a h later = (follows task clock lost (Stopped failing) Lost (Lost ∷ events) a refl tt later).stands
lost_again task clock lost Preparing events a h later = absurd (true≢false h)
lost_again task clock lost (Passing k) events a h later = absurd (true≢false h)
lost_again task clock lost Closing events a h later = absurd (true≢false h)
lost_again task clock lost (Failing k w) events a h later = absurd (true≢false h)
