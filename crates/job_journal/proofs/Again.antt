-- A save that is done, on which the save of the whole notebook follows.
use Rattle.std.proofs.Common.{◌≡◌, inl, inr, ℕ, zero, suc, ◌+◌, ◌<◌, ◌≤◌, List, [], ◌∷◌, ◌++◌, length, map, Bool, true, not, ◌⊎◌, Option, Some, None, refl, sym, ◌∙◌, ap, subst, arith}
use Rattle.std.specs.Prelude.{IsSomeAnd, drop, slice_get}
use Rattle.std.proofs.lemmas.List.{length-map}
use Rattle.std.proofs.lemmas.Option.{same_Some}
use Rattle.std.proofs.Math.Bool.{true≢false}
use Rattle.world.specs.declared.did.Did.TheVariants.{Done}
use Rattle.world.specs.declared.entry.Entry.{Entry}
use Rattle.world.specs.declared.entry.Entry.TheVariants as made
use Rattle.world.specs.Disk as disk
use Rattle.world.specs.Save.{temporary_of}
use Rattle.save_disk.specs.Entries as save_entries
use Rattle.cell_core.specs.declared.clock.Clock.{Clock}
use Rattle.cell_core.specs.declared.event.Event.{Event}
use Rattle.cell_core.specs.declared.event.Event.TheVariants as event
use Rattle.cell_core.specs.declared.machine.Core.{Core}
use Rattle.cell_core.specs.declared.state.State.{State}
use Rattle.cell_core.specs.declared.state.State.TheVariants as state
use Rattle.cell_core.specs.Acts.{awaits_saved, heard, is_empty}
use Rattle.cell_core.specs.Events as events
use Rattle.cell_core.specs.Holds.{awaits}
use Rattle.cell_core.specs.Requests as core_requests
use Rattle.cell_core.specs.Saves as core_saves
use Rattle.cell_core.specs.StandsFor.{IsAt, awaits_saved_of, failing_in, task_of}
use Rattle.cell_core.specs.Stops.{stopping_of}
use Rattle.cell_core.specs.Task.{Task}
use Rattle.job_notebook.specs.declared.notebook.JobNotebook.{JobNotebook}
use Rattle.run_journal.specs.Job.{Job}
use Rattle.run_journal.specs.Parts.{saves_of}
use Rattle.run_journal.specs.Requests.{Request, goes_on, requests, used_of}
use Rattle.run_journal.specs.Agreement.{Agrees, AgreesOn}
use Rattle.run_journal.proofs.Agreeing.{passed_agrees}
use Rattle.run_journal.proofs.Keeping.{unstopped_heard}
use Rattle.job_journal.specs.Made.{HasMade, passing_saves}
use Rattle.job_journal.specs.Plot.{Plot, facts, first, IsFor}
use Rattle.job_journal.specs.Saved.{IsAsked, save_of}
use Rattle.job_journal.specs.Standing.{Parts, StandsBy}
use Rattle.job_journal.specs.Told.{Hears}
use Rattle.job_journal.specs.Used.{OnBook, anew}
use Rattle.job_journal.proofs.Acking as acking
use Rattle.job_journal.proofs.Dues.{further_save, made_of_passes}
use Rattle.job_journal.proofs.Saving.{next_save}
use Rattle.job_journal.proofs.Starting.{stands_anew}
use Rattle.job_journal.proofs.Talks.{requests_grow}

-- the last request that stands is passed
record IsLastPassed (task : Task) (es : List Event) : Type 0 where
  k : ℕ
  planned : k < length task.plan
  later : List Event
  here : core_requests.after task k es ≡ Some later
  passed : core_requests.is_passed later ≡ true
  above : (i : ℕ) → k < i → core_requests.after task i es ≡ None

-- while a save is awaited that names no stopping cell, the last request is passed
last_passed : (task : Task) (clock : Clock) (lost : Bool) (s : State) (e : Event) (told : List Event) → 0 < length task.plan → IsAt task clock lost s (e ∷ told)
    → awaits s ≡ true → failing_in task s ≡ None → IsLastPassed task (e ∷ told)
last_passed task clock lost state.Preparing e told runs h a f = let none : e ∷ told ≡ [] = h.0 in cc
last_passed task clock lost (state.Starting due) e told runs h a f = cc
last_passed task clock lost (state.Running r) e told runs h a f = cc
last_passed task clock lost (state.Passing k) e told runs h a f =
    record { k = k; planned = h.stands.planned; later = h.later; here = h.stands.reached.here; passed = h.passed; above = h.stands.reached.above }
last_passed task clock lost state.Closing e told runs (inl h) a f = let none = h.0 in absurd (omega (arith, runs, none))
last_passed task clock lost state.Closing e told runs (inr (k, h)) a f =
    record { k = k; planned = h.stands.planned; later = h.later; here = h.stands.reached.here; passed = h.passed; above = h.stands.reached.above }
last_passed task clock lost (state.Failing k why) e told runs h a f = cc
last_passed task clock lost (state.Stopped failing) e told runs h a f = cc

by_order : (a b : ℕ) → (a < b) ⊎ ((a ≡ b) ⊎ (b < a))
by_order zero zero = inr (inl refl)
by_order zero (suc b) = inl (omega arith)
by_order (suc a) zero = inr (inr (omega arith))
by_order (suc a) (suc b) = elim (by_order a b) [
  | inl h ↦ inl (omega (arith, h))
  | inr (inl e) ↦ inr (inl (ap (λ n. suc n) e))
  | inr (inr h) ↦ inr (inr (omega (arith, h)))
]

at_end : (xs : List Request) (y : Request) → slice_get (xs ++ y ∷ []) (length xs) ≡ Some y
at_end [] y = refl
at_end (x ∷ xs) y = at_end xs y

-- a save is left where one is awaited
record IsLeft (ps : List core_saves.Prefix) (n : ℕ) : Type 0 where
  save : core_saves.Prefix
  at : slice_get ps n ≡ Some save

abbrev no_saves : List core_saves.Prefix
no_saves = []

some_left : (n : ℕ) (ps : List core_saves.Prefix) → not (is_empty (drop n ps)) ≡ true → IsLeft ps n
some_left n [] e = by n e
  where
    by : (n : ℕ) → not (is_empty (drop n no_saves)) ≡ true → IsLeft no_saves n
    by zero f = cc
    by (suc n) f = cc
some_left zero (q ∷ ps) e = record { save = q; at = refl }
some_left (suc n) (q ∷ ps) e = let l = some_left n ps e in record { save = l.save; at = l.at }

module _ (p : Plot) (number : ℕ) (x : Parts) (past : List Entry) (h : StandsBy p number x [] [] past) (settled : ℕ) (asked : IsAsked (facts p).task h.core.told settled)
    (text : List ℕ) (text_is : text ≡ (save_of (facts p) (used_of (facts p).task.plan (requests (facts p) past)) asked.asked).text)
    (now : List Entry)
    (save : save_entries.WroteAnd (facts p).output text past
    (λ xs. made.DirSynced (disk.folder_of (facts p).output) Done ∷ made.Renamed (temporary_of (facts p).output) (facts p).output Done ∷ made.Synced (temporary_of (facts p).output) Done ∷ xs) now)
    (next : Core) (book : JobNotebook) (is_for : IsFor p number x.session next book)
    (hears : Hears (facts p) next (event.Saved ∷ h.core.told)) (awaited : awaits_saved_of next ≡ true) (unstopped : stopping_of next ≡ None) where
  abbrev j : Job
  j = facts p

  abbrev then_told : List Event
  then_told = event.Saved ∷ h.core.told

  abbrev sync : Entry
  sync = made.DirSynced (disk.folder_of j.output) Done

  abbrev renamed : List Entry
  renamed = made.Renamed (temporary_of j.output) j.output Done ∷ made.Synced (temporary_of j.output) Done ∷ save.past

  abbrev acked : List Entry
  acked = sync ∷ renamed

  agrees : Agrees j then_told acked
  agrees = acking.then_agreed p number x past h settled asked text text_is now save

  told_is : heard (task_of next) then_told ≡ then_told
  told_is = ap (λ task. heard task then_told) is_for.task_is ∙ unstopped_heard j then_told hears.goes_on

  passed_now : IsLastPassed j.task then_told
  passed_now =
      last_passed j.task next.clock next.lost next.state event.Saved h.core.told is_for.runs
      (subst (λ task. IsAt task next.clock next.lost next.state then_told) is_for.task_is
      (subst (λ es. IsAt (task_of next) next.clock next.lost next.state es) told_is hears.stands.so))
      awaited (subst (λ task. failing_in task next.state ≡ None) is_for.task_is unstopped)

  -- no request comes to stand, since the last one is passed
  none_anew : length (requests j acked) ≡ length (requests j renamed)
  none_anew = elim (requests_grow j sync renamed) [ inl e ↦ e | inr e ↦ absurd (fresh e) ]
    where
      fresh : length (requests j acked) ≡ length (requests j renamed) + 1 → ⊥
      fresh e =
          let s = stands_anew j sync renamed e in
          let rs : List Request = map (goes_on j sync renamed) (requests j renamed) in
          let n : length rs ≡ length (requests j renamed) = length-map (requests j renamed) (goes_on j sync renamed) in
          let at : slice_get (requests j acked) (length rs) ≡ Some (anew j sync renamed) = ap (λ (v : List Request). slice_get v (length rs)) s.is ∙ at_end rs (anew j sync renamed) in
          by (length rs) (by_order passed_now.k (length rs)) (core_requests.after j.task (length rs) then_told) refl (agrees.standing (length rs) (anew j sync renamed) at) (omega (arith, e, n))
        where
          by : (n : ℕ) → (passed_now.k < n) ⊎ ((passed_now.k ≡ n) ⊎ (n < passed_now.k)) → (o : Option (List Event)) → core_requests.after j.task n then_told ≡ o
              → IsSomeAnd o (λ later. AgreesOn j n later (anew j sync renamed)) → length (requests j acked) ≡ n + 1 → ⊥
          by n c None f a l = a
          by n (inl c) (Some later) f a l = let g = sym f ∙ passed_now.above n c in cc
          by n (inr (inl c)) (Some later) f a l =
              let g : Some later ≡ Some passed_now.later = sym f ∙ ap (λ i. core_requests.after j.task i then_told) (sym c) ∙ passed_now.here in
              let same : later ≡ passed_now.later = same_Some _ _ g in
              true≢false (sym (sym (passed_agrees j n later (anew j sync renamed) a) ∙ ap core_requests.is_passed same ∙ passed_now.passed))
          by n (inr (inr c)) (Some later) f a l =
              let g = sym (agrees.none passed_now.k passed_now.planned (omega (arith, c, l))) ∙ passed_now.here in cc

  none_came : requests j acked ≡ requests j past
  none_came = acking.none_more_now p number x past h settled asked text text_is now save none_anew ∙ acking.same p number x past h settled asked text text_is now save

  -- the next save is due, so those that were made are of passed requests
  made_enough : saves_of j acked ≤ length (passing_saves j (requests j acked))
  made_enough =
      let left = some_left (events.ack_count then_told) (core_saves.saves j.task then_told) pending in
      further_save j is_for.runs (requests j acked) (core_saves.why j.task then_told) (saves_of j acked) (save_of j (used_of j.task.plan (requests j acked)) left.save)
      (next_save j then_told acked agrees is_for.runs left.save left.at)
    where
      pending : not (is_empty (drop (events.ack_count then_told) (core_saves.saves j.task then_told))) ≡ true
      pending =
          ap (λ es. not (is_empty (core_saves.pending_saves j.task es))) (sym (unstopped_heard j then_told hears.goes_on))
          ∙ ap (λ task. awaits_saved task then_told) (sym is_for.task_is)
          ∙ sym hears.stands.awaited
          ∙ awaited

  -- so the save names no stopping cell
  pub unnamed_again : asked.asked.stopping_cell ≡ None
  unnamed_again =
      acking.unnamed_save p number x past h settled asked text text_is now save (subst (λ rs. saves_of j acked ≤ length (passing_saves j rs)) none_came made_enough)

  -- the parts stand for the journal, and the core has been told
  pub saves_again : OnBook j (first p) book (requests j past) → (s : StandsBy p number (record x { core = next; book = book }) [] [] now) × (s.core.told ≡ then_told)
  saves_again kept =
      subst (λ xs. (s : StandsBy p number (record x { core = next; book = book }) [] [] xs) × (s.core.told ≡ then_told))
      (acking.is_now p number x past h settled asked text text_is now save)
      (acking.stands_then p number x past h settled asked text text_is now save next book is_for kept hears none_anew made_all, refl)
    where
      made_all : HasMade j (passing_saves j (requests j acked)) (saves_of j acked) acked
      made_all =
          subst (λ rs. HasMade j (passing_saves j rs) (saves_of j acked) acked) (sym none_came)
          (made_of_passes j (requests j past) (core_saves.why j.task h.core.told) (saves_of j acked) acked
          (subst (λ rs. saves_of j acked ≤ length (passing_saves j rs)) none_came made_enough)
          (acking.made_one p number x past h settled asked text text_is now save))
