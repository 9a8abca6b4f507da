-- What it means that a move keeps the relation and answers as the definitions do, and lemmas for every state.
use Rattle.std.proofs.Common.{◌≡◌, ℕ, ◌+◌, ◌≤◌, List, [], ◌∷◌, length, Bool, false, Option, Some, None, refl, ap, ◌∙◌, rules, ◌⊎◌}
use Rattle.std.proofs.lemmas.Bool.{or_from}
use Rattle.cell_core.specs.declared.event.Event.{Event}
use Rattle.cell_core.specs.declared.event.Event.TheVariants.{Saved}
use Rattle.cell_core.specs.declared.why.Why.{Why}
use Rattle.cell_core.specs.declared.act.Act.TheVariants.{Save}
use Rattle.cell_core.specs.declared.moved.Moved.{Moved}
use Rattle.cell_core.specs.Task.{Task}
use Rattle.cell_core.specs.Events.{is_looked, is_saved}
use Rattle.cell_core.specs.Requests.{is_passed, Standing, standing}
use Rattle.cell_core.specs.Saves.{Prefix, why, pending_saves}
use Rattle.cell_core.specs.Acts.{act_by, act_at, answers, is_used}
use Rattle.cell_core.specs.declared.clock.Clock.{Clock}
use Rattle.cell_core.specs.Holds.{clock_after, lost_after}
use Rattle.cell_core.specs.Deadlines.{looked_by}
use Rattle.cell_core.specs.StandsFor.{Stands, IsRunning, IsAt}
use Rattle.cell_core.proofs.Requests.{reached_more, reached_saved, standing_is}
use Rattle.cell_core.proofs.SavesLemmas.{at, over_not_passed, why_none_on, unacked_quiet}
use Rattle.cell_core.proofs.Moving.{no_cause_on}

-- The move keeps the relation, and its answer is the definitions'.
pub record Right (task : Task) (clock : Clock) (lost : Bool) (to : Moved) (event : Event) (past : List Event) : Type 0 where
  pub stands : IsAt task (clock_after clock event) (lost_after lost event) to.state (event ∷ past)
  pub act : to.step.act ≡ act_at task (event ∷ past)
  pub takes : to.step.takes ≡ is_used event (standing task past)

pub act_from : (task : Task) (events : List Event) (due : List Prefix) (cause : Option Why) → pending_saves task events ≡ due → why task events ≡ cause → act_at task events ≡ act_by task events due cause
act_from task events due cause u w = ap (λ (xs : List Prefix). act_by task events xs (why task events)) u ∙ ap (λ (v : Option Why). act_by task events due v) w

pub act_saves : (task : Task) (events : List Event) (x : Prefix) (xs : List Prefix) → pending_saves task events ≡ x ∷ xs → act_at task events ≡ Save x.settled
act_saves task events x xs u = ap (λ (ys : List Prefix). act_by task events ys (why task events)) u

-- a request runs
pub act_on : {task : Task} {clock : Clock} {lost : Bool} {k : ℕ} {fatal : Option Bool} {idle : Bool} {due : Option ℕ} {interrupted : Bool} {events : List Event}
    {later : List Event} {b : ℕ} → IsRunning task clock lost k fatal idle due interrupted events → Stands task k later b events → act_at task events ≡ answers task (Some (at k later)) events
act_on {task} {events = events} a s =
    let p = over_not_passed a.later a.on in
    act_from task events [] None (unacked_quiet a.stands p (no_cause_on a)) (why_none_on a.stands p (no_cause_on a)) ∙ ap (λ (v : Option Standing). answers task v events) (standing_is s)

pub stands_more : {task : Task} {k a : ℕ} {later past : List Event} → Stands task k later a past → (event : Event) → is_saved event ≡ false → Stands task k (event ∷ later) a (event ∷ past)
stands_more {task} {k} {a} {later} {past} s event h =
    record { planned = s.planned; reached = reached_more s.reached event h; ready = rw s.ready (search rules) }

pub stands_saved : {task : Task} {k a : ℕ} {later past : List Event} → Stands task k later a past → (is_passed later ≡ false) ⊎ (length task.plan ≤ k + 1) → Stands task k (Saved ∷ later) (a + 1) (Saved ∷ past)
stands_saved {task} {k} {a} {later} {past} s h =
    record { planned = s.planned; reached = reached_saved s.reached h; ready = s.ready }

pub used_is : {task : Task} {k a : ℕ} {later past : List Event} → Stands task k later a past → (event : Event) → is_used event (standing task past) ≡ is_used event (Some (at k later))
used_is s event = ap (λ (v : Option Standing). is_used event v) (standing_is s)

pub unlooked_by : (due : Option ℕ) (event : Event) (past : List Event) → is_looked event ≡ false → looked_by due past ≡ false → looked_by due (event ∷ past) ≡ false
unlooked_by None event past h c = refl
unlooked_by (Some t) event past h c = or_from _ _ (rw h refl) c
