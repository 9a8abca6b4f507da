-- What a core knows that goes on and awaits no save.
use Rattle.std.proofs.Common.{◌≡◌, ◌≤◌, ℕ, Bool, true, false, List, ◌∷◌, refl, sym, ◌∙◌, subst}
use Rattle.std.proofs.Math.Bool.{true≢false}
use Rattle.std.proofs.Math.Bridge.{le_prop}
use Rattle.std.proofs.Math.Logic.{∥∥₁_elim}
use Rattle.cell_core.specs.declared.clock.Clock.{Clock}
use Rattle.cell_core.specs.declared.event.Event.{Event}
use Rattle.cell_core.specs.declared.event.Event.TheVariants.{Saved, Ready, Io, Reply, Moment, Looked, Lost, Broken}
use Rattle.cell_core.specs.declared.machine.Core.{Core}
use Rattle.cell_core.specs.declared.state.State.{State}
use Rattle.cell_core.specs.declared.state.State.TheVariants.{Preparing, Starting, Running, Passing, Closing, Failing, Stopped}
use Rattle.cell_core.specs.Acts.{has_stopped, heard}
use Rattle.cell_core.specs.Events.{Rising, is_looked, time}
use Rattle.cell_core.specs.Holds.{awaits}
use Rattle.cell_core.specs.StandsFor.{IsAt, StandsFor, awaits_saved_of, task_of}
use Rattle.cell_core.specs.StandsFor.{Hears as HearsClock}
use Rattle.cell_core.specs.Task.{Task}
use Rattle.cell_core.proofs.Answering.{heard_all}
use Rattle.cell_core.proofs.Moving.{is_stopped}
use Rattle.job_run.specs.Told.{Hears}

-- a core that hasn't stopped is in no state of one that has
pub live_at : (task : Task) (clock : Clock) (is_lost : Bool) (state : State) (events : List Event) → IsAt task clock is_lost state events → has_stopped task events ≡ false → is_stopped state ≡ false
live_at task clock is_lost (Stopped failing) events a on = absurd (true≢false (sym a.stopped ∙ on))
live_at task clock is_lost Preparing events a on = refl
live_at task clock is_lost (Starting due) events a on = refl
live_at task clock is_lost (Running r) events a on = refl
live_at task clock is_lost (Passing k) events a on = refl
live_at task clock is_lost Closing events a on = refl
live_at task clock is_lost (Failing k w) events a on = refl

-- while no save is awaited, and the job hasn't stopped, the core knows the last clock entry, and was told of no broken stream; no look has found a loss
pub hears_at : (task : Task) (clock : Clock) (is_lost : Bool) (state : State) (events : List Event) → IsAt task clock is_lost state events → awaits state ≡ false → is_stopped state ≡ false
    → HearsClock clock is_lost events
hears_at task clock is_lost Preparing events a calm live = absurd (true≢false calm)
hears_at task clock is_lost (Starting due) events a calm live = a.hears
hears_at task clock is_lost (Running r) events a calm live = a.hears
hears_at task clock is_lost (Passing k) events a calm live = absurd (true≢false calm)
hears_at task clock is_lost Closing events a calm live = absurd (true≢false calm)
hears_at task clock is_lost (Failing k w) events a calm live = absurd (true≢false calm)
hears_at task clock is_lost (Stopped failing) events a calm live = absurd (true≢false live)

-- the same of events that a core was told
module _ (core : Core) (told : List Event) (stands : StandsFor core told) (calm : awaits_saved_of core ≡ false) (on : has_stopped (task_of core) (heard (task_of core) told) ≡ false) where
  abbrev task : Task
  task = task_of core

  pub live : is_stopped core.state ≡ false
  live = live_at task core.clock core.lost core.state (heard task told) stands.so on

  pub heard_so : HearsClock core.clock core.lost told
  heard_so = subst (HearsClock core.clock core.lost) (heard_all task told on) (hears_at task core.clock core.lost core.state (heard task told) stands.so calm live)

  -- none of them is after the clock of which the core was told last
  pub within_clock : (clock : ℕ) (named : Bool) → Hears core clock named → time told ≤ clock
  within_clock clock named hears =
      ∥∥₁_elim hears le_prop (λ t.
      subst (λ n. n ≤ clock) ((hears_at task core.clock core.lost core.state (heard task t.events) t.stands.so calm live).now ∙ sym heard_so.now) t.timed)

-- ---- a look

-- it leaves the clock
pub look_time : (e : Event) (told : List Event) → is_looked e ≡ true → time (e ∷ told) ≡ time told
look_time Looked told l = refl
look_time Saved told l = absurd (true≢false (sym l))
look_time Ready told l = absurd (true≢false (sym l))
look_time (Io m) told l = absurd (true≢false (sym l))
look_time (Reply f) told l = absurd (true≢false (sym l))
look_time (Moment t) told l = absurd (true≢false (sym l))
look_time Lost told l = absurd (true≢false (sym l))
look_time Broken told l = absurd (true≢false (sym l))

pub look_rises : (e : Event) (told : List Event) → is_looked e ≡ true → Rising told → Rising (e ∷ told)
look_rises Looked told l r = r
look_rises Saved told l r = absurd (true≢false (sym l))
look_rises Ready told l r = absurd (true≢false (sym l))
look_rises (Io m) told l r = absurd (true≢false (sym l))
look_rises (Reply f) told l r = absurd (true≢false (sym l))
look_rises (Moment t) told l r = absurd (true≢false (sym l))
look_rises Lost told l r = absurd (true≢false (sym l))
look_rises Broken told l r = absurd (true≢false (sym l))
