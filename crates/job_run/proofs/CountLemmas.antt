-- How many saves the core of a job was told of, and what they left, over calls.
use Rattle.std.proofs.Common.{◌≡◌, inl, inr, ℕ, ◌+◌, ◌≤◌, true, false, true≢false, List, ◌∷◌, Option, Some, None, Result, Err, if◌then◌else◌, refl, sym, ap, subst, ◌∙◌}
use Rattle.std.proofs.Math.Logic.{∥∥₁_map}
use Rattle.std.proofs.lemmas.Result.{err_from_is_err_and}
use Rattle.std.specs.Prelude.{is_some, IfSome}
use Rattle.std.specs.Result.{IsErrAnd}
use Rattle.world.specs.declared.entry.Entry.{Entry}
use Rattle.world.specs.Moments.{Told, Tells as TellsEntry}
use Rattle.save_disk.specs.Places.{save_count}
use Rattle.world.specs.Disk.{place}
use Rattle.cell_core.specs.declared.act.Act.{Act}
use Rattle.cell_core.specs.declared.act.Act.TheVariants.{Nothing, Save}
use Rattle.cell_core.specs.declared.event.Event.{Event}
use Rattle.cell_core.specs.declared.event.Event.TheVariants.{Saved}
use Rattle.cell_core.specs.declared.machine.Core.{Core}
use Rattle.cell_core.specs.declared.why.Why.{Why}
use Rattle.cell_core.specs.declared.why.Why.TheVariants as why
use Rattle.cell_core.specs.Task.{Task}
use Rattle.cell_core.specs.Events.{ack_count, is_saved}
use Rattle.cell_core.specs.StandsFor.{task_of, awaits_saved_of}
use Rattle.cell_core.specs.Holds.{awaits}
use Rattle.cell_core.specs.Stops.{is_early, is_starting, asked_of, stopping_of}
use Rattle.cell_core.specs.declared.state.State.{State}
use Rattle.cell_core.specs.declared.state.State.TheVariants.{Preparing, Starting, Running, Passing, Closing, Failing, Stopped}
use Rattle.job_end.specs.declared.answer.Answer.{Answer}
use Rattle.job_end.specs.declared.end.End.{End}
use Rattle.job_end.specs.Answers.{Answers, said, starved, starved_answer}
use Rattle.job_end.specs.Statuses.{status_of}
use Rattle.job_end.specs.declared.end.End.TheVariants as end
use Rattle.job_notebook.specs.State.{output_of}
use Rattle.job_saves.specs.Course.{Origin, IsEndOfSave}
use Rattle.job_saves.specs.Left.{OutputAt, output_at, acks_at, IsLeft, StaysLeft}
use Rattle.job_run.specs.Left.{Leaves}
use Rattle.job_run.specs.Told.{MayCome, StopsFor}
use Rattle.job_run.specs.Counted.{IsCausedAfter, EndsJobAfter, TellsOf, StopsAfter, EndsAfter, IsCounted, KeepsTold, IsCountedOn, IsCountedIn, IsCountedAt, CountsOn, CountsFor}
use Rattle.job_run.proofs.ToldLemmas.{Steps, counts_more, stops_after, first_after, tells_later, tells_named}
use Rattle.job_run.proofs.StopLemmas.{why_in}
use Rattle.job_run.specs.declared.execution.Execution.{Execution}

-- where no act stops the job
pub quiet : (x : Execution) (act : Act) (n : OutputAt) → IsCounted x act n → IsCounted x Nothing n
quiet x act n i = record { heard = i.heard; stops = λ cause is. absurd (cc); first = i.first }

pub quiet_at : (o : Origin) (x : Execution) (act : Act) (j : Option (List Entry)) → IsCountedAt o x act j → IsCountedAt o x Nothing j
quiet_at o x act None h = tt
quiet_at o x act (Some past) h = quiet x act (output_at o past) h

-- an act that doesn't stop the job
pub to_save : (x : Execution) (settled : ℕ) (n : OutputAt) → IsCounted x Nothing n → IsCounted x (Save settled) n
to_save x settled n i = record { heard = i.heard; stops = λ cause is. absurd (cc); first = i.first }

-- ---- what leaves the core alone

same_counted : (x y : Execution) (act : Act) (n : OutputAt) → y.core ≡ x.core → y.clock ≡ x.clock → y.broken ≡ x.broken → IsCounted x act n → IsCounted y act n
same_counted x y act n core clock broken i = record {
  heard = subst (λ c. ∥ TellsOf c y.clock (is_some y.broken) n ∥₁) (sym core)
      (subst (λ t. ∥ TellsOf x.core t (is_some y.broken) n ∥₁) (sym clock)
      (subst (λ b. ∥ TellsOf x.core x.clock (is_some b) n ∥₁) (sym broken) i.heard));
  stops = λ cause is. subst (λ c. StopsAfter n (task_of c) cause) (sym core) (i.stops cause is);
  first = λ e. i.first (ap is_starting (sym core) ∙ e);
}

pub told_counted : (x y : Execution) (act : Act) (n : OutputAt) → KeepsTold x y → IsCounted x act n → IsCounted y act n
told_counted x y act n k i = same_counted x y act n k.core k.clock k.broken i

-- ---- at a later moment at which the output stays as it was left

leaves_later : (n m : OutputAt) (task : Task) (cause : Why) → StaysLeft n m → Leaves n task cause → Leaves m task cause
leaves_later n m task why.Done k h = k.left task.cells None h
leaves_later n m task why.NotReady k h = k.left 0 None h
leaves_later n m task why.KernelLost k (inl h) = inl (k.left 0 None h)
leaves_later n m task why.KernelLost k (inr h) = inr (record { request = h.request; planned = h.planned; left = k.left _ _ h.left })
leaves_later n m task why.BadPeer k (inl h) = inl (k.left 0 None h)
leaves_later n m task why.BadPeer k (inr h) = inr (record { request = h.request; planned = h.planned; left = k.left _ _ h.left })
leaves_later n m task why.CellError k h = record { request = h.request; planned = h.planned; left = k.left _ _ h.left }
leaves_later n m task why.TimedOut k h = record { request = h.request; planned = h.planned; left = k.left _ _ h.left }
leaves_later n m task why.NoIdle k h = record { request = h.request; planned = h.planned; left = k.left _ _ h.left }

stops_later : (n m : OutputAt) (task : Task) (cause : Why) → StaysLeft n m → StopsAfter n task cause → StopsAfter m task cause
stops_later n m task cause k s = ∥∥₁_map s (λ t. record { stopping = t.stopping; count = t.count ∙ sym k.count; left = leaves_later n m task cause k t.left })

pub caused_later : (n m : OutputAt) (task : Task) (status : ℕ) → StaysLeft n m → IsCausedAfter n task status → IsCausedAfter m task status
caused_later n m task status k h cause is = stops_later n m task cause k (h cause is)

pub counted_later : (x : Execution) (act : Act) (n m : OutputAt) → StaysLeft n m → IsCounted x act n → IsCounted x act m
counted_later x act n m k i = record {
  heard = ∥∥₁_map i.heard (λ t. record { tells = t.tells; count = t.count ∙ sym k.count });
  stops = λ cause is. stops_later n m (task_of x.core) cause k (i.stops cause is);
  first = λ e. k.left 0 None (i.first e);
}

pub in_later : (out : Option Answer) (x : Execution) (n m : OutputAt) → StaysLeft n m → IsCountedIn out x n → IsCountedIn out x m
in_later None x n m k i = counted_later x Nothing n m k i
in_later (Some a) x n m k i = caused_later n m (task_of x.core) a.status k i

-- ---- over the journal

pub counts_by : (o : Origin) (x y : Execution) (a b : Act) (j : Option (List Entry)) → ((n : OutputAt) → IsCounted x a n → IsCounted y b n) → IsCountedAt o x a j → IsCountedAt o y b j
counts_by o x y a b None on h = tt
counts_by o x y a b (Some past) on h = on (output_at o past) h

pub counts_on : {U : Type 0} (o : Origin) (x y : Execution) (a : Act) (r : Result U End) (j : Option (List Entry)) → ((n : OutputAt) → IsCounted x a n → IsCountedOn y r n) → IsCountedAt o x a j
    → CountsOn o y r j
counts_on o x y a r None on h = tt
counts_on o x y a r (Some past) on h = on (output_at o past) h

-- what leaves the core alone
pub counts_kept : (o : Origin) (x y : Execution) (a : Act) (j : Option (List Entry)) → KeepsTold x y → IsCountedAt o x a j → IsCountedAt o y a j
counts_kept o x y a j k h = counts_by o x y a a j (λ n i. told_counted x y a n k i) h

-- one entry that acknowledges no save and leaves the output alone
pub counts_passed : (o : Origin) (x : Execution) (a : Act) (j k : Option (List Entry)) (entry : Entry) → ((past : List Entry) → save_count o.output (entry ∷ past) ≡ save_count o.output past)
    → ((past : List Entry) → place (entry ∷ past) o.output ≡ place past o.output) → TellsEntry j k entry → IsCountedAt o x a j → IsCountedAt o x a k
counts_passed o x a j None entry none still told h = tt
counts_passed o x a None (Some after) entry none still told h = absurd told.so
counts_passed o x a (Some before) (Some after) entry none still told h =
    subst (λ p. IsCounted x a (output_at o p)) (sym told.so)
    (counted_later x a (output_at o before) (output_at o (entry ∷ before)) (record {
      count = none before;
      left = λ settled stop l. record { us = l.us; read = l.read; place_is = still before ∙ l.place_is };
    }) h)

-- a save that was acknowledged, of which the core is then told
pub counts_saved : (o : Origin) (x y : Execution) (b : Act) (settled : ℕ) (stop : Option ℕ) (j k : Option (List Entry))
    → Told j k (λ before after. save_count (output_of x.book) after ≡ save_count (output_of x.book) before + 1) → output_of x.book ≡ o.output
    → IfSome k (λ past. IsLeft (output_at o past) settled stop)
    → ((n m : OutputAt) → acks_at m ≡ acks_at n + 1 → IsLeft m settled stop → IsCounted x Nothing n → IsCounted y b m) → IsCountedAt o x Nothing j → IsCountedAt o y b k
counts_saved o x y b settled stop j None told same left on h = tt
counts_saved o x y b settled stop None (Some after) told same left on h = absurd told.so
counts_saved o x y b settled stop (Some before) (Some after) told same left on h =
    on (output_at o before) (output_at o after) (subst (λ out. save_count out after ≡ save_count out before + 1) same told.so) left h

-- ---- the ends that need no events

pub starved_on : (U : Type 0) (o : Origin) (x : Execution) (j : Option (List Entry)) → CountsOn {U = U} o x (Err end.NoMemory) j
starved_on U o x None = tt
starved_on U o x (Some past) = tt

save_after : (n : OutputAt) (x : Execution) (e : End) → IsEndOfSave e → EndsAfter n (task_of x.core) e
save_after n x (end.NotSaved f) kind = tt
save_after n x end.NoMemory kind = tt
save_after n x end.Done kind = absurd kind
save_after n x (end.CellError cell name) kind = absurd kind
save_after n x (end.NotRead path) kind = absurd kind
save_after n x end.TooLarge kind = absurd kind
save_after n x (end.NotLoaded f) kind = absurd kind
save_after n x end.NoKernelName kind = absurd kind
save_after n x end.BadKernelName kind = absurd kind
save_after n x (end.BadSpec f) kind = absurd kind
save_after n x end.NotStarted kind = absurd kind
save_after n x end.NotReady kind = absurd kind
save_after n x end.KernelLost kind = absurd kind
save_after n x (end.TimedOut cell) kind = absurd kind
save_after n x end.NoConnectionFile kind = absurd kind
save_after n x (end.NoIdle cell) kind = absurd kind
save_after n x end.NetFault kind = absurd kind
save_after n x (end.BadPeer chan f) kind = absurd kind
save_after n x end.Spent kind = absurd kind

pub unsaved_for : (o : Origin) (x : Execution) (e : End) (j : Option (List Entry)) → IsEndOfSave e → CountsFor o x (Err e) j
unsaved_for o x e None kind = tt
unsaved_for o x e (Some past) kind = save_after (output_at o past) x e kind

-- an end that is passed on
pub residual_for : (o : Origin) (x : Execution) (r : Result Act End) (e : End) (j : Option (List Entry)) → IsErrAnd r (λ y. y ≡ e) → CountsFor o x (Err e) j → CountsFor o x r j
residual_for o x r e j is h = let p = err_from_is_err_and r is in subst (λ q. CountsFor o x q j) (sym (p.1 ∙ ap Err p.2)) h

-- ---- the events

pub other_counts : (e : Event) (n : OutputAt) → is_saved e ≡ false → (past : List Event) → ack_count past ≡ acks_at n → ack_count (e ∷ past) ≡ acks_at n
other_counts e n other past is = ap (λ b. if b then ack_count past + 1 else ack_count past) other ∙ is

-- an event more, of which this is the act
pub event_counts : (x : Execution) (core : Core) (e : Event) (act : Act) (n m : OutputAt) → Steps x.core core e act → MayCome x.core x.clock (is_some x.broken) e
    → ((past : List Event) → ack_count past ≡ acks_at n → ack_count (e ∷ past) ≡ acks_at m) → (e ≡ Saved → IsLeft m (asked_of x.core) (stopping_of x.core))
    → (is_starting x.core ≡ true → IsLeft m 0 None) → IsCounted x Nothing n → IsCounted (record x { core = core }) act m
event_counts x core e act n m steps may more saved first i = record {
  heard = counts_more x.core core x.clock (is_some x.broken) e act steps may n m more i.heard;
  stops = stops_after x.core core x.clock (is_some x.broken) e act steps may n m more saved first i.heard;
  first = first_after x.core core x.clock (is_some x.broken) e act steps may m saved first;
}

-- an event that acknowledges no save
pub other_event : (x : Execution) (core : Core) (e : Event) (act : Act) (n : OutputAt) → Steps x.core core e act → MayCome x.core x.clock (is_some x.broken) e → is_saved e ≡ false
    → IsCounted x Nothing n → IsCounted (record x { core = core }) act n
other_event x core e act n steps may other i =
    event_counts x core e act n n steps may (other_counts e n other) (λ so. absurd (true≢false (ap is_saved (sym so) ∙ other))) i.first i

-- while the first save is awaited the kernel isn't
early_calm : (s : State) → is_early s ≡ true → awaits s ≡ false
early_calm Preparing e = absurd (cc)
early_calm (Starting due) e = refl
early_calm (Running r) e = absurd (cc)
early_calm (Passing k) e = absurd (cc)
early_calm Closing e = absurd (cc)
early_calm (Failing k cause) e = absurd (cc)
early_calm (Stopped failing) e = absurd (cc)

-- the acknowledgement of a save that has left so much
pub saved_event : (x : Execution) (core : Core) (act : Act) (n m : OutputAt) → Steps x.core core Saved act → awaits_saved_of x.core ≡ true → acks_at m ≡ acks_at n + 1
    → IsLeft m (asked_of x.core) (stopping_of x.core) → IsCounted x Nothing n → IsCounted (record x { core = core }) act m
saved_event x core act n m steps awaited one left i =
    event_counts x core Saved act n m steps tt (λ past is. ap (λ k. k + 1) is ∙ sym one) (λ so. left) (λ e. absurd (true≢false (sym awaited ∙ early_calm x.core.state e))) i

-- ---- the clock and the stream that broke

pub later_counts : (x y : Execution) (n : OutputAt) → y.core ≡ x.core → x.clock ≤ y.clock → y.broken ≡ x.broken → IsCounted x Nothing n → IsCounted y Nothing n
later_counts x y n core later broken i = same_counted (record x { clock = y.clock }) y Nothing n core refl broken
    (record { heard = tells_later x.core x.clock y.clock (is_some x.broken) n later i.heard; stops = i.stops; first = i.first })

pub named_counts : (x y : Execution) (n : OutputAt) → y.core ≡ x.core → y.clock ≡ x.clock → is_some y.broken ≡ true → IsCounted x Nothing n → IsCounted y Nothing n
named_counts x y n core clock named i = record {
  heard = subst (λ c. ∥ TellsOf c y.clock (is_some y.broken) n ∥₁) (sym core)
      (subst (λ t. ∥ TellsOf x.core t (is_some y.broken) n ∥₁) (sym clock)
      (subst (λ b. ∥ TellsOf x.core x.clock b n ∥₁) (sym named) (tells_named x.core x.clock (is_some x.broken) n i.heard)));
  stops = λ cause is. absurd (cc);
  first = λ e. i.first (ap is_starting (sym core) ∙ e);
}

-- ---- the status of an end

caused_by : (n : OutputAt) (task : Task) (w cause : Why) → Some w ≡ Some cause → StopsAfter n task w → StopsAfter n task cause
caused_by n task w cause is s = subst (StopsAfter n task) (ap (why_in w) is) s

pub end_caused : (n : OutputAt) (task : Task) (e : End) → EndsJobAfter n task e → IsCausedAfter n task (status_of e)
end_caused n task end.Done s cause is = caused_by n task why.Done cause is s
end_caused n task (end.CellError cell name) s cause is = caused_by n task why.CellError cause is s
end_caused n task end.NotReady s cause is = caused_by n task why.NotReady cause is s
end_caused n task end.KernelLost s cause is = caused_by n task why.KernelLost cause is s
end_caused n task (end.TimedOut cell) s cause is = caused_by n task why.TimedOut cause is s
end_caused n task (end.NoIdle cell) s cause is = caused_by n task why.NoIdle cause is s
end_caused n task (end.BadPeer chan f) s cause is = caused_by n task why.BadPeer cause is s
end_caused n task (end.NotRead path) s cause is = absurd s
end_caused n task end.TooLarge s cause is = absurd s
end_caused n task (end.NotLoaded f) s cause is = absurd s
end_caused n task end.NoKernelName s cause is = absurd s
end_caused n task end.BadKernelName s cause is = absurd s
end_caused n task (end.BadSpec f) s cause is = absurd s
end_caused n task end.NotStarted s cause is = absurd s
end_caused n task end.NoConnectionFile s cause is = absurd s
end_caused n task (end.NotSaved f) s cause is = absurd (cc)
end_caused n task end.NoMemory s cause is = absurd (cc)
end_caused n task end.NetFault s cause is = absurd (cc)
end_caused n task end.Spent s cause is = absurd (cc)

pub answer_after : (n : OutputAt) (task : Task) (output : List ℕ) (e : End) (a : Answer) → Answers output e a → EndsJobAfter n task e → IsCausedAfter n task a.status
answer_after n task output e _ said s cause is = end_caused n task e s cause is
answer_after n task output e _ starved s cause is = absurd (cc)

pub starved_after : (n : OutputAt) (task : Task) (a : Answer) → a ≡ starved_answer → IsCausedAfter n task a.status
starved_after n task a same = subst (λ x. IsCausedAfter n task (Answer.status x)) (sym same) (λ cause is. absurd (cc))

-- events with so many saves are some events
pub stops_some : (n : OutputAt) (task : Task) (cause : Why) → StopsAfter n task cause → StopsFor task cause
stops_some n task cause s = ∥∥₁_map s (λ e. e.stopping)
