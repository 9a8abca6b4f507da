-- How many saves are among the events that bring the end of a job's begin, and what they left.
use Rattle.std.proofs.Common.{◌≡◌, ℕ, zero, suc, ◌+◌, ◌<◌, Bool, true, false, List, [], ◌∷◌, length, Option, Some, None, Result, Ok, Err, if◌then◌else◌, refl, sym, ap, subst, ◌∙◌, arith}
use Rattle.std.specs.Prelude.{◌==◌, ◌&&◌, not, nat_lt, drop, is_some, IfSome, IfErr, OnOk}
use Rattle.std.proofs.lemmas.Bool.{lt-ltb}
use Rattle.std.proofs.lemmas.List.{nil_from_length}
use Rattle.nb_model.specs.declared.notebook.Notebook.{Notebook}
use Rattle.nb_model.specs.Planned.{plan}
use Rattle.words.specs.declared.ask.Ask.{Ask}
use Rattle.world.specs.declared.entry.Entry.{Entry}
use Rattle.world.specs.Counts.{Counts}
use Rattle.world.specs.Moments.{Told}
use Rattle.world.proofs.MomentsLemmas.{told_start, told_then}
use Rattle.world.proofs.CountsLemmas.{grow_start}
use Rattle.save_disk.specs.Places.{save_count}
use Rattle.cell_core.specs.declared.event.Event.TheVariants.{Saved}
use Rattle.cell_core.specs.declared.act.Act.TheVariants.{Nothing, Stop}
use Rattle.cell_core.specs.Acts.{act_of, act_at, act_by, awaits_saved, has_stopped, heard, is_empty}
use Rattle.cell_core.specs.Saves.{Prefix, after_preparation, pending_saves}
use Rattle.cell_core.specs.declared.times.Times.{Times}
use Rattle.cell_core.specs.declared.why.Why.{Why}
use Rattle.cell_core.specs.declared.why.Why.TheVariants as why
use Rattle.cell_core.specs.Task.{Task}
use Rattle.job_end.specs.declared.answer.Answer.{Answer}
use Rattle.job_end.specs.declared.end.End.{End}
use Rattle.job_end.specs.declared.end.End.TheVariants as end
use Rattle.job_end.specs.Answers.{Answers, said, starved, starved_answer}
use Rattle.job_end.specs.Statuses.{status_of}
use Rattle.job_notebook.specs.declared.notebook.JobNotebook.{JobNotebook}
use Rattle.job_notebook.specs.State.{notebook_of, merge_of, output_of}
use Rattle.job_saves.specs.Course.{Origin, Stands, IsEndOfSave}
use Rattle.job_saves.specs.Left.{OutputAt, output_at, acks_at, IsLeft}
use Rattle.job_run.specs.declared.job.Job.{Job}
use Rattle.job_run.specs.Counted.{IsCausedAfter, StopsAfter}
use Rattle.job_run.specs.Run.{IsNew, BeginsNew, StartsCounted}
use Rattle.job_run.specs.Task.{task_for, times_of}
use Rattle.job_run.proofs.CountLemmas.{end_caused}
use Rattle.job_run.proofs.TurnLemmas.{task_in, start_after, starved_count}
use Rattle.job_begin.specs.Begun.{IsUncaused, counted_task}
use Rattle.job_begin.specs.Steps.{EndsCounted, closing_saves, end_by}

-- ---- the task

-- where cells are executed it is that of the notebook
only_task : (a : Ask) (first : Notebook) (t : Task) → counted_task a first ≡ Some t → task_for a first ≡ t
only_task a first t is = by_mode a.prepare (task_for a first) t is
  where
    by_mode : (prepares : Bool) (own t : Task) → (if prepares then None else Some own) ≡ Some t → own ≡ t
    by_mode true own t is = absurd (cc)
    by_mode false own t is = ap (task_in own) is

-- ---- ends that no event brings

pub prepared_counts : (a : Ask) (first : Notebook) (o : Origin) (k : Option (List Entry)) (e : End) → a.prepare ≡ true → EndsCounted o (counted_task a first) k e
prepared_counts a first o k e on t is = none_told (IsNew o → IfSome k (λ past. IsCausedAfter (output_at o past) t (status_of e))) (sym (ap (λ b. if b then None else Some (task_for a first)) on) ∙ is)
  where
    none_told : (P : Type 0) {t : Task} → None ≡ Some t → P
    none_told P is = absurd (cc)

no_cause : (n : OutputAt) (t : Task) (status : ℕ) → IsUncaused status → IsCausedAfter n t status
no_cause n t status none cause is = let no : Some cause ≡ None = sym is ∙ none in absurd (cc)

pub uncaused_counts : (o : Origin) (task : Option Task) (k : Option (List Entry)) (e : End) → IsUncaused (status_of e) → EndsCounted o task k e
uncaused_counts o task None e none t is fresh = tt
uncaused_counts o task (Some past) e none t is fresh = no_cause (output_at o past) t (status_of e) none

-- ---- the end of a start

started_counts : (a : Ask) (first : Notebook) (o : Origin) (k : Option (List Entry)) (e : End) → StartsCounted o (task_for a first) k e → EndsCounted o (counted_task a first) k e
started_counts a first o None e h t is fresh = tt
started_counts a first o (Some past) e h t is fresh =
    subst (λ q. IsCausedAfter (output_at o past) q (status_of e)) (only_task a first t is) (start_after (output_at o past) (task_for a first) [] e _ said (h fresh))

pub start_counts : (a : Ask) (first : Notebook) (o : Origin) (k : Option (List Entry)) (r : Result Job End) → IfErr r (StartsCounted o (task_for a first) k)
    → IfErr r (EndsCounted o (counted_task a first) k)
start_counts a first o k (Ok j) h = tt
start_counts a first o k (Err e) h = started_counts a first o k e h

-- ---- a notebook of which no cell is executed

module _ (n : ℕ) (times : Times) where
  -- nothing of so many cells is executed
  abbrev idle : Task
  idle = record { plan = []; cells = suc n; times = times }

  -- its save as it is done
  abbrev whole : List Prefix
  whole = record { settled = suc n; stopping_cell = None } ∷ []

  is_closing : (if nat_lt 0 (suc n) then whole else []) ≡ whole
  is_closing = ap (λ b. if b then whole else []) (lt-ltb 0 (suc n) (omega arith))

  -- the cause after k saves, where this save closes it, whether it has stopped, and the saves that are due
  abbrev due : List Prefix → ℕ → List Prefix
  due closing k = drop k (after_preparation ∷ closing)

  abbrev cause : List Prefix → ℕ → Option Why
  cause closing k = if length (after_preparation ∷ closing) == k then Some why.Done else None

  abbrev ends : List Prefix → ℕ → Bool
  ends closing k = is_some (cause closing k) && is_empty (due closing k)

  heard_first : heard idle (Saved ∷ []) ≡ Saved ∷ []
  heard_first = let none : has_stopped idle [] ≡ false = ap (λ xs. ends xs 0) is_closing in ap (λ b. if b then [] else Saved ∷ []) none

  awaits_second : true ≡ awaits_saved idle (Saved ∷ [])
  awaits_second =
      let due_at : awaits_saved idle (Saved ∷ []) ≡ not (is_empty (pending_saves idle (Saved ∷ []))) = ap (λ events. not (is_empty (pending_saves idle events))) heard_first in
      let one : not (is_empty (pending_saves idle (Saved ∷ []))) ≡ true = ap (λ xs. not (is_empty (due xs 1))) is_closing in
      sym (due_at ∙ one)

  stops_second : act_of idle Saved (Saved ∷ []) ≡ Stop why.Done
  stops_second =
      let at : act_of idle Saved (Saved ∷ []) ≡ (if has_stopped idle (Saved ∷ []) then Nothing else act_at idle (Saved ∷ Saved ∷ [])) =
      ap (λ events. if has_stopped idle events then Nothing else act_at idle (Saved ∷ events)) heard_first in
      let on : has_stopped idle (Saved ∷ []) ≡ false = ap (λ xs. ends xs 1) is_closing in
      let by : act_at idle (Saved ∷ Saved ∷ []) ≡ Stop why.Done = ap (λ xs. act_by idle (Saved ∷ Saved ∷ []) (due xs 2) (cause xs 2)) is_closing in
      at ∙ ap (λ b. if b then Nothing else act_at idle (Saved ∷ Saved ∷ [])) on ∙ by

-- the events of its saves stop its core, for it has nothing to execute
none_stops : (m : OutputAt) (cells : ℕ) (times : Times) → 1 + closing_saves cells ≡ acks_at m → IsLeft m cells None → StopsAfter m (record { plan = []; cells = cells; times = times }) why.Done
none_stops m zero times count left = ∣ record { stopping = record { event = Saved; past = []; meets = (refl, tt, tt); stops = refl }; count = count; left = left } ∣₁
none_stops m (suc n) times count left = ∣ record {
  stopping = record { event = Saved; past = Saved ∷ []; meets = (awaits_second n times, tt, (refl, tt, tt)); stops = stops_second n times };
  count = count;
  left = left;
} ∣₁

plan_stops : (m : OutputAt) (a : Ask) (first : Notebook) → length (plan first) ≡ 0 → 1 + closing_saves (length first.cells) ≡ acks_at m → IsLeft m (length first.cells) None
    → StopsAfter m (task_for a first) why.Done
plan_stops m a first none count left =
    let size = length first.cells in
    subst (λ xs. StopsAfter m (record { plan = xs; cells = size; times = times_of a }) why.Done) (sym (nil_from_length (plan first) none)) (none_stops m size (times_of a) count left)

save_uncaused : (e : End) → IsEndOfSave e → IsUncaused (status_of e)
save_uncaused (end.NotSaved f) own = refl
save_uncaused end.NoMemory own = refl
save_uncaused end.Done own = absurd own
save_uncaused (end.CellError cell name) own = absurd own
save_uncaused (end.NotRead path) own = absurd own
save_uncaused end.TooLarge own = absurd own
save_uncaused (end.NotLoaded f) own = absurd own
save_uncaused end.NoKernelName own = absurd own
save_uncaused end.BadKernelName own = absurd own
save_uncaused (end.BadSpec f) own = absurd own
save_uncaused end.NotStarted own = absurd own
save_uncaused end.NotReady own = absurd own
save_uncaused end.KernelLost own = absurd own
save_uncaused (end.TimedOut cell) own = absurd own
save_uncaused end.NoConnectionFile own = absurd own
save_uncaused (end.NoIdle cell) own = absurd own
save_uncaused end.NetFault own = absurd own
save_uncaused (end.BadPeer chan f) own = absurd own
save_uncaused end.Spent own = absurd own

module _ (a : Ask) (first : Notebook) (o : Origin) (none : length (plan first) ≡ 0) (to : o.output ≡ a.output) where
  abbrev Saves : Option (List Entry) → Option (List Entry) → Type 0
  Saves j k = Told j k (λ before after. save_count a.output after ≡ save_count a.output before + (1 + closing_saves (length first.cells)))

  done_at : (before after : List Entry) (t : Task) → task_for a first ≡ t → IsLeft (output_at o after) (length first.cells) None → save_count o.output before ≡ 0
      → save_count a.output after ≡ save_count a.output before + (1 + closing_saves (length first.cells)) → IsCausedAfter (output_at o after) t 0
  done_at before after t at left zero_saves more =
      let from : save_count a.output before ≡ 0 = subst (λ out. save_count out before ≡ 0) to zero_saves in
      let count : 1 + closing_saves (length first.cells) ≡ save_count o.output after = omega (arith, ap (λ out. save_count out after) to, more, from) in
      subst (λ q. IsCausedAfter (output_at o after) q 0) at (end_caused (output_at o after) (task_for a first) end.Done (plan_stops (output_at o after) a first none count left))

  told_done : (j k : Option (List Entry)) (t : Task) → task_for a first ≡ t → IfSome j (λ past. save_count o.output past ≡ 0) → Saves j k
      → IfSome k (λ past. IsLeft (output_at o past) (length first.cells) None) → IfSome k (λ past. IsCausedAfter (output_at o past) t 0)
  told_done j None t at none_yet told left = tt
  told_done None (Some y) t at none_yet told left = absurd told.so
  told_done (Some x) (Some y) t at none_yet told left = done_at x y t at left none_yet told.so

  pub saves_count : (j k : Option (List Entry)) (saved : Result (Unit {0}) End) → BeginsNew o j → OnOk saved (Saves j k)
      → OnOk saved (o.is_watched ≡ true → IfSome k (λ past. IsLeft (output_at o past) (length first.cells) None)) → IfErr saved IsEndOfSave
      → EndsCounted o (counted_task a first) k (end_by saved)
  saves_count j k (Ok u) begins told left kind t is fresh = told_done j k t (only_task a first t is) (begins fresh) told (left fresh.watched)
  saves_count j k (Err e) begins told left kind t is fresh = uncaused_counts o (counted_task a first) k e (save_uncaused e kind) t is fresh

-- ---- its saves

-- calls that go on with every course save to one output
saved_output : (was now : JobNotebook) (is_open : Bool) (i j : Option (List Entry)) (c d : Counts) → ((o : Origin) → Stands o was true i c → Stands o now is_open j d)
    → output_of now ≡ output_of was
saved_output was now is_open i j c d goes =
    let o : Origin = record { is_watched = false; output = output_of was; merge = merge_of was; first = notebook_of was; before = []; counts = c } in
    let stands : Stands o was true i c = record { output = refl; merge = refl; told = λ on. absurd (cc); grow = grow_start c; cause = λ shut. absurd (cc) } in
    (goes o stands).output

some_closing : (n : ℕ) → 0 < n → closing_saves n ≡ 1
some_closing zero some = absurd (omega (arith, some))
some_closing (suc n) some = refl

-- no cell waits: nothing more is saved
pub none_closing : (output : List ℕ) (j : Option (List Entry)) (n : ℕ) → n ≡ 0 → Told j j (λ before after. save_count output after ≡ save_count output before + closing_saves n)
none_closing output j n none = told_start (λ x. subst (λ m. save_count output x ≡ save_count output x + closing_saves m) (sym none) (omega arith))

pub closing_acked : (output : List ℕ) (j k : Option (List Entry)) (n : ℕ) (saved : Result (Unit {0}) End) → 0 < n
    → OnOk saved (Told j k (λ before after. save_count output after ≡ save_count output before + 1))
    → OnOk saved (Told j k (λ before after. save_count output after ≡ save_count output before + closing_saves n))
closing_acked output j k n saved some h =
    subst (λ m. OnOk saved (Told j k (λ before after. save_count output after ≡ save_count output before + m))) (sym (some_closing n some)) h

-- the save of the notebook as it waits, and what follows
pub both_acked : (output : List ℕ) (was mid : JobNotebook) (is_open : Bool) (h i j : Option (List Entry)) (c d : Counts) (m n : ℕ) (saved : Result (Unit {0}) End) → output_of was ≡ output → n ≡ m
    → ((o : Origin) → Stands o was true h c → Stands o mid is_open i d) → Told h i (λ before after. save_count (output_of was) after ≡ save_count (output_of was) before + 1)
    → OnOk saved (Told i j (λ before after. save_count (output_of mid) after ≡ save_count (output_of mid) before + closing_saves n))
    → OnOk saved (Told h j (λ before after. save_count output after ≡ save_count output before + (1 + closing_saves m)))
both_acked output was mid is_open h i j c d m n (Err e) at same goes first more = tt
both_acked output was mid is_open h i j c d m n (Ok u) at same goes first more =
    let to : output_of mid ≡ output = saved_output was mid is_open h i c d goes ∙ at in
    told_then (subst (λ out. Told h i (λ before after. save_count out after ≡ save_count out before + 1)) at first)
    (subst (λ out. Told i j (λ before after. save_count out after ≡ save_count out before + closing_saves n)) to more)
    (λ x y z p q. let r : closing_saves n ≡ closing_saves m = ap closing_saves same in omega (arith, p, q, r))

-- ---- what they leave

-- a notebook that has cells was saved with all settled
pub some_left : (saved : Result (Unit {0}) End) (j k : Option (List Entry)) (P : (o : Origin) → Type 0) (size count : ℕ) → count ≡ size
    → OnOk saved ((o : Origin) → o.is_watched ≡ true → P o → IfSome k (λ past. IsLeft (output_at o past) count None))
    → OnOk saved ((o : Origin) → o.is_watched ≡ true → P o → IfSome j (λ past. IsLeft (output_at o past) 0 None) → IfSome k (λ past. IsLeft (output_at o past) size None))
some_left (Err e) j k P size count same h = tt
some_left (Ok u) j k P size count same h = λ o on p first. subst (λ n. IfSome k (λ past. IsLeft (output_at o past) n None)) same (h o on p)

-- the first save, and then the rest
pub both_left : (saved : Result (Unit {0}) End) (mid k : Option (List Entry)) (P Q : (o : Origin) → Type 0) (size count : ℕ) → count ≡ size
    → ((o : Origin) → o.is_watched ≡ true → P o → IfSome mid (λ past. IsLeft (output_at o past) 0 None)) → ((o : Origin) → P o → Q o)
    → OnOk saved ((o : Origin) → o.is_watched ≡ true → Q o → IfSome mid (λ past. IsLeft (output_at o past) 0 None) → IfSome k (λ past. IsLeft (output_at o past) count None))
    → OnOk saved ((o : Origin) → o.is_watched ≡ true → P o → IfSome k (λ past. IsLeft (output_at o past) size None))
both_left (Err e) mid k P Q size count same first goes rest = tt
both_left (Ok u) mid k P Q size count same first goes rest = λ o on p. subst (λ n. IfSome k (λ past. IsLeft (output_at o past) n None)) same (rest o on (goes o p) (first o on p))

-- of a job that begins so
pub whole_of : (saved : Result (Unit {0}) End) (k : Option (List Entry)) (size : ℕ) (P Q R : (o : Origin) → Type 0) → ((o : Origin) → P o → Q o → R o)
    → OnOk saved ((o : Origin) → o.is_watched ≡ true → R o → IfSome k (λ past. IsLeft (output_at o past) size None))
    → OnOk saved ((o : Origin) → o.is_watched ≡ true → P o → Q o → IfSome k (λ past. IsLeft (output_at o past) size None))
whole_of (Err e) k size P Q R goes h = tt
whole_of (Ok u) k size P Q R goes h = λ o on p q. h o on (goes o p q)

pub whole_for : (o : Origin) (saved : Result (Unit {0}) End) (k : Option (List Entry)) (size : ℕ) (P Q : (o : Origin) → Type 0) → P o → Q o
    → OnOk saved ((o : Origin) → o.is_watched ≡ true → P o → Q o → IfSome k (λ past. IsLeft (output_at o past) size None))
    → OnOk saved (o.is_watched ≡ true → IfSome k (λ past. IsLeft (output_at o past) size None))
whole_for o (Err e) k size P Q p q h = tt
whole_for o (Ok u) k size P Q p q h = λ on. h o on p q

-- ---- the answer

pub answer_counts : (output : List ℕ) (e : End) (answer : Answer) (o : Origin) (task : Option Task) (k : Option (List Entry)) → Answers output e answer → EndsCounted o task k e
    → (t : Task) → task ≡ Some t → IsNew o → IfSome k (λ past. IsCausedAfter (output_at o past) t answer.status)
answer_counts output e _ o task k said h t is fresh = h t is fresh
answer_counts output e _ o task k starved h t is fresh = starved_count o starved_answer t k refl
