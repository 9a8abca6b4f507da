-- What one event more adds to what the core of a job was told.
use Rattle.std.proofs.Common.{◌≡◌, ◌⊎◌, inl, inr, ℕ, ◌+◌, ◌≤◌, Bool, true, false, ◌||◌, List, [], ◌∷◌, Option, Some, None, if◌then◌else◌, refl, sym, subst, ◌∙◌, arith}
use Rattle.std.proofs.Math.Bool.{Bool-set}
use Rattle.std.proofs.Math.Logic.{∥∥₁_map, ∥∥₁_elim}
use Rattle.std.proofs.lemmas.Bool.{or_right}
use Rattle.cell_core.specs.declared.event.Event.{Event}
use Rattle.cell_core.specs.declared.event.Event.TheVariants.{Saved, Ready, Io, Reply, Moment, Looked, Lost, Broken}
use Rattle.cell_core.specs.declared.machine.Core.{Core}
use Rattle.cell_core.specs.declared.why.Why.{Why}
use Rattle.cell_core.specs.declared.why.Why.TheVariants as why
use Rattle.cell_core.specs.declared.act.Act.{Act}
use Rattle.cell_core.specs.declared.act.Act.TheVariants.{Stop}
use Rattle.cell_core.specs.Acts.{Meets, IsTimely, act_of, heard, has_stopped, wants_look_of}
use Rattle.cell_core.specs.Events.{ack_count, came, is_broken, is_saved, is_lost, look_since, time}
use Rattle.cell_core.specs.Requests.{standing}
use Rattle.cell_core.specs.Saves.{is_done, is_cell_error, is_not_ready, is_no_idle, is_timed_out}
use Rattle.cell_core.specs.Saves.{why as why_of}
use Rattle.cell_core.specs.StandsFor.{StandsFor, task_of, awaits_saved_of}
use Rattle.cell_core.specs.Stops.{IsEarly, IsLastSave, NamesCell, is_starting, asked_of, stopping_of}
use Rattle.cell_core.specs.Task.{Task, cell_of}
use Rattle.cell_core.proofs.Looks.{timely}
use Rattle.cell_core.proofs.OverRuns.{stopped_where}
use Rattle.job_run.specs.Told.{Tells, Hears, MayCome, Stopping, StopsFor}
use Rattle.job_saves.specs.Left.{OutputAt, acks_at, IsLeft}
use Rattle.job_run.specs.Counted.{TellsOf, StopsAfter}
use Rattle.job_run.specs.Left.{NamesFailed, Leaves}

-- ---- the clock

time_heard : (b : Bool) (e : Event) (hs : List Event) (clock : ℕ) → time (e ∷ hs) ≤ clock → time hs ≤ clock → time (if b then hs else e ∷ hs) ≤ clock
time_heard true e hs clock new old = old
time_heard false e hs clock new old = new

-- an event that may come does so in time
pub timely_by : (core : Core) (clock : ℕ) (is_named : Bool) (e : Event) (past : List Event) → MayCome core clock is_named e → StandsFor core past
    → time (heard (task_of core) past) ≤ clock → IsTimely (task_of core) e past
timely_by core clock is_named (Moment t) past may stands timed = may.1 past stands (subst (λ n. time (heard (task_of core) past) ≤ n) (sym may.0) timed)
timely_by core clock is_named Saved past may stands timed = tt
timely_by core clock is_named Ready past may stands timed = tt
timely_by core clock is_named (Io m) past may stands timed = tt
timely_by core clock is_named (Reply f) past may stands timed = tt
timely_by core clock is_named Looked past may stands timed = tt
timely_by core clock is_named Lost past may stands timed = tt
timely_by core clock is_named Broken past may stands timed = tt

time_within : (core : Core) (clock : ℕ) (is_named : Bool) (e : Event) (hs : List Event) → MayCome core clock is_named e → time hs ≤ clock → time (e ∷ hs) ≤ clock
time_within core clock is_named (Moment t) hs may timed = let same : t ≤ t = omega arith in subst (λ n. t ≤ n) may.0 same
time_within core clock is_named Saved hs may timed = timed
time_within core clock is_named Ready hs may timed = timed
time_within core clock is_named (Io m) hs may timed = timed
time_within core clock is_named (Reply f) hs may timed = timed
time_within core clock is_named Looked hs may timed = timed
time_within core clock is_named Lost hs may timed = timed
time_within core clock is_named Broken hs may timed = timed

-- ---- the stream that broke

named_by : (core : Core) (clock : ℕ) (is_named : Bool) (e : Event) (past : List Event) → MayCome core clock is_named e → (came is_broken past ≡ true → is_named ≡ true)
    → came is_broken (e ∷ past) ≡ true → is_named ≡ true
named_by core clock is_named (Moment t) past may named h = named h
named_by core clock is_named Saved past may named h = named h
named_by core clock is_named Ready past may named h = named h
named_by core clock is_named (Io m) past may named h = named h
named_by core clock is_named (Reply f) past may named h = named h
named_by core clock is_named Looked past may named h = named h
named_by core clock is_named Lost past may named h = named h
named_by core clock is_named Broken past may named h = may

or_more : (a b c : Bool) → (b ≡ true → c ≡ true) → (a || b) ≡ true → (a || c) ≡ true
or_more true b c more h = refl
or_more false b c more h = more h

came_then : (b : Bool) (e : Event) (hs past : List Event) → (came is_broken hs ≡ true → came is_broken past ≡ true)
    → came is_broken (if b then hs else e ∷ hs) ≡ true → came is_broken (e ∷ past) ≡ true
came_then true e hs past more h = or_right (is_broken e) (came is_broken past) (more h)
came_then false e hs past more h = or_more (is_broken e) (came is_broken hs) (came is_broken past) more h

came_heard : (task : Task) (events : List Event) → came is_broken (heard task events) ≡ true → came is_broken events ≡ true
came_heard task [] h = h
came_heard task (event ∷ past) h = came_then (has_stopped task (heard task past)) event (heard task past) past (came_heard task past) h

by_cases : (d e b l n i t : Bool)
    → (if d then Some why.Done else if e then Some why.CellError else if b then Some why.BadPeer else if l then Some why.KernelLost
    else if n then Some why.NotReady else if i then Some why.NoIdle else if t then Some why.TimedOut else None) ≡ Some why.BadPeer → b ≡ true
by_cases d e true l n i t h = refl
by_cases true e false l n i t h = absurd (cc)
by_cases false true false l n i t h = absurd (cc)
by_cases false false false true n i t h = absurd (cc)
by_cases false false false false true i t h = absurd (cc)
by_cases false false false false false true t h = absurd (cc)
by_cases false false false false false false true h = absurd (cc)
by_cases false false false false false false false h = absurd (cc)

peer_came : (task : Task) (events : List Event) → why_of task events ≡ Some why.BadPeer → came is_broken events ≡ true
peer_came task events h =
    let last = standing task events in
    by_cases (is_done task events) (is_cell_error last) (came is_broken events) (look_since is_lost events) (is_not_ready task last events) (is_no_idle last events) (is_timed_out task last events) h

-- a job stops for a broken stream only where one broke
pub peer_broke : (task : Task) (event : Event) (past : List Event) → act_of task event past ≡ Stop why.BadPeer → came is_broken (event ∷ past) ≡ true
peer_broke task event past h =
    let heard_so = peer_came task (event ∷ heard task past) (stopped_where task event past why.BadPeer h).cause_is in
    or_more (is_broken event) (came is_broken (heard task past)) (came is_broken past) (came_heard task past) heard_so

-- ---- one event more

-- what an event makes of a core
pub record Steps (old new : Core) (e : Event) (act : Act) : Type 0 where
  pub order : is_saved e ≡ awaits_saved_of old
  pub stands : (events : List Event) → StandsFor old events → IsTimely (task_of old) e events → StandsFor new (e ∷ events)
  pub act_is : (events : List Event) → StandsFor old events → IsTimely (task_of old) e events → act ≡ act_of (task_of old) e events
  pub same : task_of new ≡ task_of old
  pub stops_so : (events : List Event) → StandsFor old events → (cause : Why) → act ≡ Stop cause → (IsEarly cause × (is_starting old ≡ true)) ⊎ ((e ≡ Saved) × IsLastSave (task_of old) cause (asked_of old) (stopping_of old))
  pub starts : is_starting new ≡ true → (is_starting old ≡ true) ⊎ ((e ≡ Saved) × (asked_of old ≡ 0) × (stopping_of old ≡ None))

-- ---- what is left at a stop

early_leaves : (m : OutputAt) (task : Task) (cause : Why) → IsEarly cause → IsLeft m 0 None → Leaves m task cause
early_leaves m task why.Done early left = absurd early
early_leaves m task why.CellError early left = absurd early
early_leaves m task why.NotReady early left = left
early_leaves m task why.KernelLost early left = inl left
early_leaves m task why.TimedOut early left = absurd early
early_leaves m task why.NoIdle early left = absurd early
early_leaves m task why.BadPeer early left = inl left

named_left : (m : OutputAt) (task : Task) (settled : ℕ) (stop : Option ℕ) → NamesCell task settled stop → IsLeft m settled stop → NamesFailed m task
named_left m task settled stop n left = record {
  request = n.request;
  planned = n.planned;
  left = subst (λ s. IsLeft m (cell_of task n.request + 1) s) n.stop_is (subst (λ p. IsLeft m p stop) n.settled_is left);
}

last_leaves : (m : OutputAt) (task : Task) (cause : Why) (settled : ℕ) (stop : Option ℕ) → IsLastSave task cause settled stop → IsLeft m settled stop → Leaves m task cause
last_leaves m task why.Done settled stop last left = subst (λ s. IsLeft m task.cells s) last.1 (subst (λ p. IsLeft m p stop) last.0 left)
last_leaves m task why.CellError settled stop last left = named_left m task settled stop last left
last_leaves m task why.NotReady settled stop last left = absurd last
last_leaves m task why.KernelLost settled stop last left = inr (named_left m task settled stop last left)
last_leaves m task why.TimedOut settled stop last left = named_left m task settled stop last left
last_leaves m task why.NoIdle settled stop last left = named_left m task settled stop last left
last_leaves m task why.BadPeer settled stop last left = inr (named_left m task settled stop last left)

-- by the first save, or by the one that is acknowledged now
leaves_by : (m : OutputAt) (old : Core) (e : Event) (cause : Why) → (e ≡ Saved → IsLeft m (asked_of old) (stopping_of old)) → (is_starting old ≡ true → IsLeft m 0 None)
    → (IsEarly cause × (is_starting old ≡ true)) ⊎ ((e ≡ Saved) × IsLastSave (task_of old) cause (asked_of old) (stopping_of old)) → Leaves m (task_of old) cause
leaves_by m old e cause saved first (inl early) = early_leaves m (task_of old) cause early.0 (first early.1)
leaves_by m old e cause saved first (inr last) = last_leaves m (task_of old) cause (asked_of old) (stopping_of old) last.1 (saved last.0)

first_by : (m : OutputAt) (old : Core) (e : Event) → (e ≡ Saved → IsLeft m (asked_of old) (stopping_of old)) → (is_starting old ≡ true → IsLeft m 0 None)
    → (is_starting old ≡ true) ⊎ ((e ≡ Saved) × (asked_of old ≡ 0) × (stopping_of old ≡ None)) → IsLeft m 0 None
first_by m old e saved first (inl was) = first was
first_by m old e saved first (inr (so, none, whole)) = subst (λ s. IsLeft m 0 s) whole (subst (λ p. IsLeft m p (stopping_of old)) none (saved so))

module _ (old new : Core) (clock : ℕ) (is_named : Bool) (e : Event) (act : Act) (steps : Steps old new e act) (may : MayCome old clock is_named e) where
  timely_now : (t : Tells old clock is_named) → IsTimely (task_of old) e t.events
  timely_now t = timely_by old clock is_named e t.events may t.stands t.timed

  meets_now : (t : Tells old clock is_named) → Meets (task_of old) (e ∷ t.events)
  meets_now t = (steps.order ∙ t.stands.awaited, timely_now t, t.meets)

  tells_more : Tells old clock is_named → Tells new clock is_named
  tells_more t = record {
    events = e ∷ t.events;
    stands = steps.stands t.events t.stands (timely_now t);
    meets = subst (λ q. Meets q (e ∷ t.events)) (sym steps.same) (meets_now t);
    timed = subst (λ q. time (heard q (e ∷ t.events)) ≤ clock) (sym steps.same)
        (time_heard (has_stopped (task_of old) (heard (task_of old) t.events)) e (heard (task_of old) t.events) clock
        (time_within old clock is_named e (heard (task_of old) t.events) may t.timed) t.timed);
    named = named_by old clock is_named e t.events may t.named;
  }

  pub hears_more : Hears old clock is_named → Hears new clock is_named
  hears_more h = ∥∥₁_map h tells_more

  stopping : (t : Tells old clock is_named) (cause : Why) → act ≡ Stop cause → Stopping (task_of new) cause
  stopping t cause is = record {
    event = e;
    past = t.events;
    meets = subst (λ q. Meets q (e ∷ t.events)) (sym steps.same) (meets_now t);
    stops = subst (λ q. act_of q e t.events ≡ Stop cause) (sym steps.same) (sym (steps.act_is t.events t.stands (timely_now t)) ∙ is);
  }

  pub stops_more : Hears old clock is_named → (cause : Why) → act ≡ Stop cause → StopsFor (task_of new) cause
  stops_more h cause is = ∥∥₁_map h (λ t. stopping t cause is)

  -- so many of the events are saves
  pub counts_more : (n m : OutputAt) → ((past : List Event) → ack_count past ≡ acks_at n → ack_count (e ∷ past) ≡ acks_at m) → ∥ TellsOf old clock is_named n ∥₁ → ∥ TellsOf new clock is_named m ∥₁
  unfolding tells_more
  counts_more n m more h = ∥∥₁_map h (λ t. record { tells = tells_more t.tells; count = more t.tells.events t.count })

  pub stops_after : (n m : OutputAt) → ((past : List Event) → ack_count past ≡ acks_at n → ack_count (e ∷ past) ≡ acks_at m) → (e ≡ Saved → IsLeft m (asked_of old) (stopping_of old))
      → (is_starting old ≡ true → IsLeft m 0 None) → ∥ TellsOf old clock is_named n ∥₁ → (cause : Why) → act ≡ Stop cause → StopsAfter m (task_of new) cause
  unfolding stopping
  stops_after n m more saved first h cause is = ∥∥₁_map h (λ t. record {
    stopping = stopping t.tells cause is;
    count = more t.tells.events t.count;
    left = subst (λ q. Leaves m q cause) (sym steps.same) (leaves_by m old e cause saved first (steps.stops_so t.tells.events t.tells.stands cause is));
  })

  pub first_after : (m : OutputAt) → (e ≡ Saved → IsLeft m (asked_of old) (stopping_of old)) → (is_starting old ≡ true → IsLeft m 0 None) → is_starting new ≡ true → IsLeft m 0 None
  first_after m saved first now = first_by m old e saved first (steps.starts now)

  pub names_more : Hears old clock is_named → act ≡ Stop why.BadPeer → is_named ≡ true
  names_more h is = ∥∥₁_elim h (Bool-set is_named true) (λ t.
      named_by old clock is_named e t.events may t.named (peer_broke (task_of old) e t.events (sym (steps.act_is t.events t.stands (timely_now t)) ∙ is)))

-- ---- a clock that goes on

tell_later : (core : Core) (clock later : ℕ) (is_named : Bool) → clock ≤ later → Tells core clock is_named → Tells core later is_named
tell_later core clock later is_named on t =
    let timed : time (heard (task_of core) t.events) ≤ later = omega (arith, on, t.timed) in
    record { events = t.events; stands = t.stands; meets = t.meets; timed = timed; named = t.named }

pub hears_later : (core : Core) (clock later : ℕ) (is_named : Bool) → clock ≤ later → Hears core clock is_named → Hears core later is_named
hears_later core clock later is_named on h = ∥∥₁_map h (λ t. tell_later core clock later is_named on t)

pub tells_later : (core : Core) (clock later : ℕ) (is_named : Bool) (n : OutputAt) → clock ≤ later → ∥ TellsOf core clock is_named n ∥₁ → ∥ TellsOf core later is_named n ∥₁
unfolding tell_later
tells_later core clock later is_named n on h = ∥∥₁_map h (λ t. record { tells = tell_later core clock later is_named on t.tells; count = t.count })

-- a stream that is named
tell_named : (core : Core) (clock : ℕ) (is_named : Bool) → Tells core clock is_named → Tells core clock true
tell_named core clock is_named t = record { events = t.events; stands = t.stands; meets = t.meets; timed = t.timed; named = λ e. refl }

pub hears_named : (core : Core) (clock : ℕ) (is_named : Bool) → Hears core clock is_named → Hears core clock true
hears_named core clock is_named h = ∥∥₁_map h (λ t. tell_named core clock is_named t)

pub tells_named : (core : Core) (clock : ℕ) (is_named : Bool) (n : OutputAt) → ∥ TellsOf core clock is_named n ∥₁ → ∥ TellsOf core clock true n ∥₁
unfolding tell_named
tells_named core clock is_named n h = ∥∥₁_map h (λ t. record { tells = tell_named core clock is_named t.tells; count = t.count })

-- where no save is awaited and no last look is wanted, the clock may be read
pub moment_may : (core : Core) (clock : ℕ) (is_named : Bool) → awaits_saved_of core ≡ false
    → ((events : List Event) → StandsFor core events → false ≡ wants_look_of (task_of core) events) → MayCome core clock is_named (Moment clock)
moment_may core clock is_named calm still = (refl, λ events stands timed. timely (task_of core) clock events (sym stands.awaited ∙ calm) (sym (still events stands)) timed)
