-- What each cause of a stop says of the events.
use Rattle.std.proofs.Common.{◌≡◌, List, Bool, true, false, not, ◌&&◌, if◌then◌else◌, Option, Some, None, is_some, is_none, refl, sym, ap, subst, ◌∙◌, true≢false}
use Rattle.std.specs.Prelude.{IsSomeAnd}
use Rattle.std.proofs.lemmas.Bool.{and_parts}
use Rattle.cell_core.specs.declared.event.Event.{Event}
use Rattle.cell_core.specs.declared.why.Why.{Why}
use Rattle.cell_core.specs.declared.why.Why.TheVariants.{Done, CellError, NotReady, KernelLost, TimedOut, NoIdle, BadPeer}
use Rattle.cell_core.specs.Task.{Task}
use Rattle.cell_core.specs.Events.{is_broken, is_lost, came, look_since}
use Rattle.cell_core.specs.Requests.{reply, is_over, is_fatal, Standing, standing}
use Rattle.cell_core.specs.Saves.{is_cell_error, is_not_ready, is_no_idle, is_timed_out, is_done, is_whole, late_cause, why_not_done, why}
use Rattle.cell_core.specs.Laws.{IsCausedBy}

-- ---- the first row that holds

-- a row that holds has this cause, and else the rows below it have
first_row : (P : Why → Type 0) (b : Bool) (row : Why) (below : Option Why) (w : Why) → (if b then Some row else below) ≡ Some w → (b ≡ true → P row) → (below ≡ Some w → P w) → P w
first_row P true row below w h p q = let same : row ≡ w = (let both : Some row ≡ Some w = h in cc) in subst P same (p refl)
first_row P false row below w h p q = q h

-- ---- the rows of the last request

error_says : (v : Option Standing) → is_cell_error v ≡ true → IsSomeAnd v (λ last. (is_over last.later ≡ true) × (is_fatal last.later ≡ true))
error_says None h = absurd (true≢false (sym h))
error_says (Some last) h = (let parts = and_parts (is_over last.later) (is_fatal last.later) h in (parts.0, parts.1))

unready_says : (task : Task) (v : Option Standing) (events : List Event) → is_not_ready task v events ≡ true → v ≡ None
unready_says task None events h = refl
unready_says task (Some last) events h = absurd (true≢false (sym h))

not_true : (b : Bool) → not b ≡ true → b ≡ false
not_true true h = absurd (true≢false (sym h))
not_true false h = refl

none_in : (o : Option Bool) → is_none o ≡ true → o ≡ None
none_in None h = refl
none_in (Some f) h = absurd (true≢false (sym h))

idle_says : (v : Option Standing) (events : List Event) → is_no_idle v events ≡ true → IsSomeAnd v (λ last. (is_some (reply last.later) ≡ true) × (is_over last.later ≡ false))
idle_says None events h = absurd (true≢false (sym h))
idle_says (Some last) events h =
    let front = (and_parts (is_some (reply last.later) && not (is_over last.later)) _ h).0 in
    let parts = and_parts (is_some (reply last.later)) (not (is_over last.later)) front in
    (parts.0, not_true (is_over last.later) parts.1)

time_says : (task : Task) (v : Option Standing) (events : List Event) → is_timed_out task v events ≡ true → IsSomeAnd v (λ last. reply last.later ≡ None)
time_says task None events h = absurd (true≢false (sym h))
time_says task (Some last) events h = none_in (reply last.later) (and_parts (is_none (reply last.later)) _ h).0

-- ---- all rows

pub says_so : (task : Task) (events : List Event) (w : Why) → why task events ≡ Some w → IsCausedBy w task events
says_so task events w h =
    let P = λ (c : Why). IsCausedBy c task events in
    let last = standing task events in
    first_row P (is_done task events) Done (why_not_done task last events) w h (λ e. (and_parts (is_whole task last) _ e).0)
    (λ g. first_row P (is_cell_error last) CellError _ w g (error_says last)
    (λ g. first_row P (came is_broken events) BadPeer _ w g (λ e. e)
    (λ g. first_row P (look_since is_lost events) KernelLost (late_cause task last events) w g (λ e. e)
    (λ g. first_row P (is_not_ready task last events) NotReady _ w g (unready_says task last events)
    (λ g. first_row P (is_no_idle last events) NoIdle _ w g (idle_says last events)
    (λ g. first_row P (is_timed_out task last events) TimedOut None w g (time_says task last events) (λ none. absurd (let clash : None ≡ Some w = none in cc))))))))
