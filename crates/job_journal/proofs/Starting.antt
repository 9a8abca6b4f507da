-- A request comes to stand by the journal where the core's act sends it.
use Rattle.std.proofs.Common.{◌≡◌, ◌⊎◌, inl, inr, ℕ, zero, suc, ◌+◌, ◌<◌, ◌≤◌, List, [], ◌∷◌, ◌++◌, length, map, Bool, true, false, cond, Option, Some, None, refl, sym, ◌∙◌, ap, subst, arith}
use Rattle.std.specs.Prelude.{◌==◌, IsSomeAnd, if◌then◌else◌}
use Rattle.std.proofs.lemmas.Bool.{cond-false}
use Rattle.std.proofs.lemmas.List.{length-map}
use Rattle.std.proofs.lemmas.Option.{same_Some}
use Rattle.world.specs.declared.entry.Entry.{Entry}
use Rattle.jtext.proofs.Lists.{some_at}
use Rattle.cell_core.specs.declared.act.Act.{Act}
use Rattle.cell_core.specs.declared.act.Act.TheVariants as act
use Rattle.cell_core.specs.declared.event.Event.{Event}
use Rattle.cell_core.specs.declared.event.Event.TheVariants as event
use Rattle.cell_core.specs.declared.why.Why.{Why}
use Rattle.cell_core.specs.Acts.{act_at, act_by, act_of, answers, has_stopped, heard, is_empty_list}
use Rattle.cell_core.specs.Events as events
use Rattle.cell_core.specs.Requests as core
use Rattle.cell_core.specs.Saves as core_saves
use Rattle.cell_core.specs.Task.{Task, cell_of}
use Rattle.run_journal.specs.Job.{Job}
use Rattle.run_journal.specs.Parts.{saves_of, is_acknowledging}
use Rattle.run_journal.specs.Arrivals.{is_ready}
use Rattle.run_journal.specs.Requests.{Request, goes_on, is_next, requests}
use Rattle.run_journal.specs.Agreement.{AgreesOn, Agrees}
use Rattle.run_journal.proofs.Agreeing.{after_more, stands_at}
use Rattle.run_journal.proofs.Asking.{Stands, nothing, last, stands}
use Rattle.run_journal.proofs.Keeping.{unstopped_heard}
use Rattle.run_journal.proofs.Safety.{few_requests}
use Rattle.run_journal.proofs.Telling.{empty_is}
use Rattle.job_journal.specs.Starting.{MayStart, saved, ready, is_calm, StandsAnew}
use Rattle.job_journal.specs.Used.{anew}
use Rattle.job_journal.proofs.Talks.{requests_grow}

-- ---- by the journal

-- where there is one request more, it is the one that comes to stand
pub stands_anew : (j : Job) (entry : Entry) (past : List Entry) → length (requests j (entry ∷ past)) ≡ length (requests j past) + 1 → StandsAnew j entry past
stands_anew j entry past e =
    let rs : List Request = map (goes_on j entry past) (requests j past) in
    let same : length rs ≡ length (requests j past) = length-map (requests j past) (goes_on j entry past) in
    let few = (few_requests j (entry ∷ past)).1 in
    record { is = by (is_next j (is_acknowledging j (entry ∷ past)) (is_ready j (entry ∷ past)) (saves_of j (entry ∷ past)) rs) rs same e; grown = e; planned = omega (arith, few, e) }
  where
    by : (b : Bool) (rs : List Request) → length rs ≡ length (requests j past) → length (cond b (rs ++ anew j entry past ∷ []) rs) ≡ length (requests j past) + 1
        → cond b (rs ++ anew j entry past ∷ []) rs ≡ rs ++ anew j entry past ∷ []
    by true rs s f = refl
    by false rs s f = absurd (omega (arith, s, f))

-- ---- by the core

-- what came since the last request stood
since_last : (task : Task) (n : ℕ) (now : List Event) (k : ℕ) (later : List Event) → core.last_below task n now ≡ Some (record { request = k; later = later })
    → core.after task k now ≡ Some later
since_last task zero now k later e = cc
since_last task (suc n) now k later e = by (core.after task n now) refl (λ g. since_last task n now k later g) e
  where
    by : (o : Option (List Event)) → core.after task n now ≡ o → (core.last_below task n now ≡ Some (record { request = k; later = later }) → core.after task k now ≡ Some later)
        → core.or_before n o (core.last_below task n now) ≡ Some (record { request = k; later = later }) → core.after task k now ≡ Some later
    by (Some l) f ih g =
        let s : record { request = n; later = l } ≡ record { request = k; later = later } = same_Some _ _ g in
        subst (λ i. core.after task i now ≡ Some later) (ap (λ (x : core.Standing). x.request) s) (f ∙ ap (λ (x : core.Standing). Some x.later) s)
    by None f ih g = ih g

-- an act that sends sends the request that comes to stand with the event
pub record SendsLast (task : Task) (now : List Event) (cell : ℕ) : Type 0 where
  pub request : ℕ
  pub standing : core.standing task now ≡ Some (record { request = request; later = [] })
  pub cell_is : cell ≡ cell_of task request

sends_if : (task : Task) (now : List Event) (s : core.Standing) (cell : ℕ) → core.standing task now ≡ Some s
    → (if is_empty_list s.later then act.Send (cell_of task s.request) else act.Nothing) ≡ act.Send cell → SendsLast task now cell
sends_if task now s cell e f = by (is_empty_list s.later) refl f
  where
    cells : {x y : ℕ} → act.Send x ≡ act.Send y → y ≡ x
    cells h = cc

    by : (b : Bool) → is_empty_list s.later ≡ b → cond b (act.Send (cell_of task s.request)) act.Nothing ≡ act.Send cell → SendsLast task now cell
    by true g h = record {
      request = s.request;
      standing = e ∙ ap (λ later. Some (record { request = s.request; later = later })) (empty_is s.later g);
      cell_is = cells h;
    }
    by false g h = cc

starts_or : (b : Bool) (cell : ℕ) → cond b act.Start act.Nothing ≡ act.Send cell → ⊥
starts_or true cell h = cc
starts_or false cell h = cc

sends_by : (task : Task) (e : Event) (told : List Event) (cell : ℕ) → MayStart e → (ps : List core_saves.Prefix) (w : Option Why)
    → act_by task (e ∷ told) ps w ≡ act.Send cell → SendsLast task (e ∷ told) cell
sends_by task e told cell m (p ∷ ps) w f = cc
sends_by task e told cell m [] (Some cause) f = cc
sends_by task e told cell m [] None f = by m (core.standing task (e ∷ told)) refl f
  where
    by : {e : Event} → MayStart e → (o : Option core.Standing) → core.standing task (e ∷ told) ≡ o → answers task o (e ∷ told) ≡ act.Send cell → SendsLast task (e ∷ told) cell
    by saved None g h = absurd (starts_or (events.ack_count told == 0) cell h)
    by saved (Some s) g h = sends_if task (event.Saved ∷ told) s cell g h
    by ready None g h = cc
    by ready (Some s) g h = sends_if task (event.Ready ∷ told) s cell g h

-- the act, while nothing has stopped the job
pub act_is : (j : Job) (told : List Event) (e : Event) → has_stopped j.task (heard j.task told) ≡ false → act_of j.task e told ≡ act_at j.task (e ∷ told)
act_is j told e on =
    cond-false (has_stopped j.task (heard j.task told)) act.Nothing (act_at j.task (e ∷ heard j.task told)) on
    ∙ ap (λ es. act_at j.task (e ∷ es)) (unstopped_heard j told on)

-- ---- both

module _ (j : Job) (told : List Event) (e : Event) (entry : Entry) (past : List Entry) (m : MayStart e) (on : has_stopped j.task (heard j.task told) ≡ false)
    (a : Agrees j told past) (b : Agrees j (e ∷ told) (entry ∷ past)) where
  -- a request that comes to stand for the core stood for neither before
  first_stands : (k : ℕ) → core.standing j.task (e ∷ told) ≡ Some (record { request = k; later = [] }) → length (requests j past) ≤ k
  first_stands k s = by (some_or (requests j past) k)
    where
      now : core.after j.task k (e ∷ told) ≡ Some []
      now = since_last j.task (length j.task.plan) (e ∷ told) k [] s

      some_or : (rs : List Request) (k : ℕ) → (length rs ≤ k) ⊎ (k < length rs)
      some_or [] k = inl (omega arith)
      some_or (x ∷ rs) zero = inr (omega arith)
      some_or (x ∷ rs) (suc k) = elim (some_or rs k) [ inl h ↦ inl (omega (arith, h)) | inr h ↦ inr (omega (arith, h)) ]

      was : (o : Option (List Event)) (r : Request) → core.after j.task k told ≡ o → IsSomeAnd o (λ later. AgreesOn j k later r) → length (requests j past) ≤ k
      was None r f h = absurd h
      was (Some l) r f h =
          let g : Some (e ∷ l) ≡ Some [] = sym (after_more j.task k e told ∙ ap (events.since_more (stands_at j.task k) e told) f) ∙ now in
          cc

      by : (length (requests j past) ≤ k) ⊎ (k < length (requests j past)) → length (requests j past) ≤ k
      by (inl h) = h
      by (inr h) = let q = some_at (requests j past) k h in was (core.after j.task k told) q.0 refl (a.standing k q.0 q.1)

  now_stand : (k : ℕ) (later : List Event) → core.standing j.task (e ∷ told) ≡ Some (record { request = k; later = later }) → length (requests j (entry ∷ past)) ≡ suc k
  now_stand k later s = by (core.standing j.task (e ∷ told)) s (stands j (e ∷ told) (entry ∷ past) b)
    where
      by : (o : Option core.Standing) → o ≡ Some (record { request = k; later = later }) → Stands j (e ∷ told) (entry ∷ past) o → length (requests j (entry ∷ past)) ≡ suc k
      by None f (nothing l) = cc
      by (Some _) f (last n q l g h i) = g ∙ ap (λ (x : core.Standing). suc x.request) (same_Some _ _ f)

  -- a request that is sent comes to stand with the entry, and the cell is its own
  pub sent_stands : (cell : ℕ) → act_of j.task e told ≡ act.Send cell → StandsAnew j entry past × (cell ≡ cell_of j.task (length (requests j past)))
  sent_stands cell f =
      let s = sends_by j.task e told cell m (core_saves.pending_saves j.task (e ∷ told)) (core_saves.why j.task (e ∷ told)) (sym (act_is j told e on) ∙ f) in
      let low : length (requests j past) ≤ s.request = first_stands s.request s.standing in
      let now : length (requests j (entry ∷ past)) ≡ suc s.request = now_stand s.request [] s.standing in
      let k : length (requests j past) ≡ s.request = elim (requests_grow j entry past) [
        | inl h ↦ absurd (omega (arith, h, low, now))
        | inr h ↦ omega (arith, h, now)
      ] in
      (stands_anew j entry past (omega (arith, k, now)), s.cell_is ∙ ap (cell_of j.task) (sym k))

  calm_by : (k : ℕ) → core.standing j.task (e ∷ told) ≡ Some (record { request = k; later = [] }) → (ps : List core_saves.Prefix) (w : Option Why)
      → is_calm (act_by j.task (e ∷ told) ps w) ≡ true → ⊥
  calm_by k s (p ∷ ps) w c = cc
  calm_by k s [] (Some cause) c = cc
  calm_by k s [] None c = by m (ap (λ o. is_calm (answers j.task o (e ∷ told))) (sym s) ∙ c)
    where
      by : {e : Event} → MayStart e → is_calm (answers j.task (Some (record { request = k; later = [] })) (e ∷ told)) ≡ true → ⊥
      by saved h = cc
      by ready h = cc

  -- where nothing is sent or saved and the job goes on no request comes to stand
  pub none_stands : (answer : Act) → act_of j.task e told ≡ answer → is_calm answer ≡ true → length (requests j (entry ∷ past)) ≡ length (requests j past)
  none_stands answer f c = elim (requests_grow j entry past) [ inl h ↦ h | inr h ↦ absurd (more h) ]
    where
      calm : is_calm (act_at j.task (e ∷ told)) ≡ true
      calm = ap is_calm (sym (act_is j told e on) ∙ f) ∙ c

      begun : (o : Option (List Event)) (later : List Event) → o ≡ None → events.since_more (stands_at j.task (length (requests j past))) e told o ≡ Some later → later ≡ []
      begun None later n g = by (stands_at j.task (length (requests j past)) (e ∷ told)) g
        where
          by : (t : Bool) → cond t (Some []) None ≡ Some later → later ≡ []
          by true h = sym (same_Some _ _ h)
          by false h = cc
      begun (Some l) later n g = cc

      by : (o : Option core.Standing) → core.standing j.task (e ∷ told) ≡ o → Stands j (e ∷ told) (entry ∷ past) o → length (requests j (entry ∷ past)) ≡ length (requests j past) + 1 → ⊥
      by None s (nothing l) h = absurd (omega (arith, l, h))
      by (Some _) s (last n q later l g i) h =
          let k : n ≡ length (requests j past) = omega (arith, l, h) in
          let few = (few_requests j (entry ∷ past)).1 in
          let same : core.standing j.task (e ∷ told) ≡ Some (record { request = length (requests j past); later = later }) = s ∙ ap (λ x. Some (record { request = x; later = later })) k in
          let none : core.after j.task (length (requests j past)) told ≡ None = a.none (length (requests j past)) (omega (arith, few, h)) (omega arith) in
          let since : events.since_more (stands_at j.task (length (requests j past))) e told (core.after j.task (length (requests j past)) told) ≡ Some later
          = sym (after_more j.task (length (requests j past)) e told) ∙ since_last j.task (length j.task.plan) (e ∷ told) (length (requests j past)) later same in
          let empty : later ≡ [] = begun (core.after j.task (length (requests j past)) told) later none since in
          calm_by (length (requests j past)) (same ∙ ap (λ x. Some (record { request = length (requests j past); later = x })) empty)
          (core_saves.pending_saves j.task (e ∷ told)) (core_saves.why j.task (e ∷ told)) calm

      more : length (requests j (entry ∷ past)) ≡ length (requests j past) + 1 → ⊥
      more h = by (core.standing j.task (e ∷ told)) refl (stands j (e ∷ told) (entry ∷ past) b) h
