-- A core that has stopped keeps a cause.
use Rattle.std.proofs.Common.{◌≡◌, ◌⊎◌, inl, inr, ℕ, zero, suc, ◌+◌, ◌<◌, ◌≤◌, List, [], ◌∷◌, ◌++◌, length, Bool, true, false, ◌&&◌, ◌||◌, not, cond, Option, Some, None, refl, sym, ◌∙◌, ap, arith}
use Rattle.std.specs.Prelude.{is_some, is_none, nat_lt, if◌then◌else◌, ◌==◌}
use Rattle.std.proofs.lemmas.Bool.{and_parts, and_left, and_right, or_left, or_right, cases_Bool, cond-true, cond-false, cond_both, eqb-true, eq-eqb, lt-ltb, or_cases}
use Rattle.std.proofs.lemmas.Option.{same_Some}
use Rattle.world.specs.declared.entry.Entry.{Entry}
use Rattle.cell_core.specs.declared.event.Event.{Event}
use Rattle.cell_core.specs.declared.event.Event.TheVariants as event
use Rattle.cell_core.specs.Task.{Task}
use Rattle.cell_core.specs.Acts.{awaits_saved, has_stopped, heard, is_empty}
use Rattle.cell_core.specs.Deadlines.{idle_ms, replied_at, first_deadline, second_deadline, entry_and_more, is_queued, looked_by, start_deadline}
use Rattle.cell_core.specs.Events as events
use Rattle.cell_core.specs.Requests as core
use Rattle.cell_core.specs.Saves as core_saves
use Rattle.run_journal.specs.Job.{Job}
use Rattle.run_journal.specs.Parts.{saves_of, is_acknowledging}
use Rattle.run_journal.specs.Course.{events_at, Course, tell, late_then, told_saved, course}
use Rattle.run_journal.specs.Agreement.{Agrees, Flows}
use Rattle.run_journal.proofs.Agreeing.{after_more, stands_at, agree_saved}
use Rattle.run_journal.proofs.Flowing.{sync_brings_nothing, told_parts, course_agrees}
use Rattle.run_journal.proofs.Asking.{Stands, nothing, last, stands, done_same, error_same}
use Rattle.run_journal.proofs.Beginning.{untold_first}
use Rattle.run_journal.proofs.Dropping.{stops, tell_mute, stop_saved}
use Rattle.run_journal.proofs.Lasting.{done_stays, error_stays}
use Rattle.run_journal.proofs.Rowing.{standing_after}
use Rattle.run_journal.proofs.Showing.{any_core}
use Rattle.run_journal.proofs.Truths.{not_both}

-- ---- one more acknowledgement

-- the last request is one of the plan
last_under : (task : Task) (n : ℕ) (told : List Event) (s : core.Standing) → core.last_below task n told ≡ Some s → s.request < n
last_under task zero told s e = cc
last_under task (suc n) told s e = by (λ f. last_under task n told s f) (core.after task n told) e
  where
    by : (core.last_below task n told ≡ Some s → s.request < n) → (o : Option (List Event)) → core.or_before n o (core.last_below task n told) ≡ Some s → s.request < suc n
    by ih None f = let g : s.request < n = ih f in omega (arith, g)
    by ih (Some later) f = now (ap (λ (v : core.Standing). v.request) (same_Some _ _ f))
      where
        now : n ≡ s.request → s.request < suc n
        now i = omega (arith, i)

since_test : (test : List Event → Bool) (x : Event) (told : List Event) (o : Option (List Event)) → events.since_more test x told o ≡ None → test (x ∷ told) ≡ false
since_test test x told (Some later) e = cc
since_test test x told None e = by (test (x ∷ told)) e
  where
    by : (b : Bool) → ◌≡◌ {A = Option (List Event)} (if b then Some [] else None) None → b ≡ false
    by true f = cc
    by false f = refl

looked_saved : (o : Option ℕ) (told : List Event) → looked_by o (event.Saved ∷ told) ≡ looked_by o told
looked_saved None told = refl
looked_saved (Some d) told = refl

more_than : (a b : ℕ) → a < suc b → (b ≡ a → ⊥) → a < b
more_than zero zero h n = absurd (n refl)
more_than zero (suc b) h n = omega arith
more_than (suc a) zero h n = absurd (omega (arith, h))
more_than (suc a) (suc b) h n = let g : a < b = more_than a b (omega (arith, h)) (λ e. n (ap (λ v. suc v) e)) in omega (arith, g)

module _ (task : Task) (told : List Event) where
  -- the next doesn't come to stand where the one before it isn't passed
  next_not : (k : ℕ) → core.is_passed_in (core.after task k told) ≡ false → stands_at task (suc k) (event.Saved ∷ told) ≡ false
  next_not k e = and_left (events.ack_count told == k + 1 && core.is_passed_in (core.after task k told)) _ (and_right (events.ack_count told == k + 1) (core.is_passed_in (core.after task k told)) e)

  after_none : (k : ℕ) → core.after task k told ≡ None → stands_at task k (event.Saved ∷ told) ≡ false → core.after task k (event.Saved ∷ told) ≡ None
  after_none k e s = after_more task k event.Saved told ∙ ap (events.since_more (stands_at task k) event.Saved told) e ∙ cond-false (stands_at task k (event.Saved ∷ told)) (Some []) None s

  -- where none stands, none comes to stand once the first save was acknowledged
  module _ (none : (k : ℕ) → k < length task.plan → core.after task k told ≡ None) (some : 0 < events.ack_count told) where
    first_not : 0 < length task.plan → stands_at task 0 (event.Saved ∷ told) ≡ false
    first_not p = and_left (events.came events.is_ready (event.Saved ∷ told)) _ (by told some (none 0 p))
      where
        off : (a b : Bool) → b ≡ true → (a && b) ≡ false → a ≡ false
        off true true e f = cc
        off true false e f = cc
        off false b e f = refl

        by : (es : List Event) → 0 < events.ack_count es → events.since core.both_came es ≡ None → events.came events.is_ready es ≡ false
        by [] s e = absurd (omega (arith, s))
        by (x ∷ es) s e =
            off (events.came events.is_ready (x ∷ es)) (nat_lt 0 (events.ack_count (x ∷ es))) (lt-ltb 0 (events.ack_count (x ∷ es)) s) (since_test core.both_came x es (events.since core.both_came es) e)

    none_then : (k : ℕ) → k < length task.plan → core.after task k (event.Saved ∷ told) ≡ None
    none_then zero p = after_none 0 (none 0 p) (first_not p)
    none_then (suc k) p = after_none (suc k) (none (suc k) p) (next_not k (ap core.is_passed_in (none k (omega (arith, p)))))

    none_below : (n : ℕ) → n ≤ length task.plan → core.last_below task n (event.Saved ∷ told) ≡ None
    none_below zero p = refl
    none_below (suc n) p = ap (λ o. core.or_before n o (core.last_below task n (event.Saved ∷ told))) (none_then n (omega (arith, p))) ∙ none_below n (omega (arith, p))

  -- where the last isn't passed, it stays the last
  module _ (m : ℕ) (later : List Event) (at : core.after task m told ≡ Some later) (unpassed : core.is_passed later ≡ false) (none : (k : ℕ) → m < k → k < length task.plan → core.after task k told ≡ None) where
    after_then : core.after task m (event.Saved ∷ told) ≡ Some (event.Saved ∷ later)
    after_then = after_more task m event.Saved told ∙ ap (events.since_more (stands_at task m) event.Saved told) at

    stands_not : (k : ℕ) → m < k → k < length task.plan → stands_at task k (event.Saved ∷ told) ≡ false
    stands_not zero l p = absurd (omega (arith, l))
    stands_not (suc k) l p = elim (cases_Bool (k == m)) [
      | inl e ↦ next_not k (ap (λ n. core.is_passed_in (core.after task n told)) (eqb-true k m e) ∙ ap core.is_passed_in at ∙ unpassed)
      | inr e ↦ next_not k (ap core.is_passed_in (none k (more_than m k l (λ f. not_both (k == m) (eq-eqb k m f) e)) (omega (arith, p))))
    ]

    last_then : (n : ℕ) → m < n → n ≤ length task.plan → core.last_below task n (event.Saved ∷ told) ≡ Some (record { request = m; later = event.Saved ∷ later })
    last_then zero l p = absurd (omega (arith, l))
    last_then (suc n) l p = elim (cases_Bool (n == m)) [
      | inl e ↦
          let same : n ≡ m = eqb-true n m e in
          ap (λ k. core.or_before k (core.after task k (event.Saved ∷ told)) (core.last_below task k (event.Saved ∷ told))) same
          ∙ ap (λ o. core.or_before m o (core.last_below task m (event.Saved ∷ told))) after_then
      | inr e ↦
          let more : m < n = more_than m n l (λ f. not_both (n == m) (eq-eqb n m f) e) in
          ap (λ o. core.or_before n o (core.last_below task n (event.Saved ∷ told))) (after_none n (none n more (omega (arith, p))) (stands_not n more (omega (arith, p))))
          ∙ last_then n more (omega (arith, p))
    ]

  second_saved : (c : ℕ) → second_deadline c (event.Saved ∷ told) ≡ second_deadline c told
  second_saved c = by (events.since (events.is_turn_at c) told)
    where
      by : (o : Option (List Event)) → entry_and_more (event.Saved ∷ told) (events.since_more (events.is_turn_at c) event.Saved told o) ≡ entry_and_more told o
      by None = refl
      by (Some later) = refl

  out_saved : (k : ℕ) (o : Option ℕ) → core_saves.is_out_of_time task k o (event.Saved ∷ told) ≡ core_saves.is_out_of_time task k o told
  out_saved k None = refl
  out_saved k (Some c) = ap (λ v. if task.times.interrupt then is_queued task k c told && v else events.look_since (events.is_turn_at c) told) (ap (λ o. looked_by o (event.Saved ∷ told)) (second_saved c) ∙ looked_saved (second_deadline c told) told)

-- ---- the cause, with one more acknowledgement

module _ (j : Job) (entry : Entry) (past : List Entry) (told : List Event) (plan : 0 < length j.task.plan) (acks : is_acknowledging j (entry ∷ past) ≡ true) (a : Agrees j told past) (first : saves_of j past ≡ 0 → told ≡ []) where
  abbrev more : List Event
  more = event.Saved ∷ told

  then_agrees : Agrees j more (entry ∷ past)
  then_agrees = agree_saved j entry told past (sync_brings_nothing j entry past acks) acks a

  abbrev old : Option core.Standing
  old = core.standing j.task told

  abbrev new : Option core.Standing
  new = core.standing j.task more

  abbrev late_of : Option core.Standing → List Event → Bool
  late_of o es = core_saves.is_not_ready j.task o es || (core_saves.is_no_idle o es || core_saves.is_timed_out j.task o es)

  some_acked : (o : Option ℕ) → looked_by o told ≡ true → 0 < events.ack_count told
  some_acked o e = by (saves_of j past) refl
    where
      none_looked : (v : Option ℕ) → looked_by v [] ≡ false
      none_looked None = refl
      none_looked (Some d) = refl

      by : (n : ℕ) → saves_of j past ≡ n → 0 < events.ack_count told
      by zero f = absurd (not_both (looked_by o told) e (ap (looked_by o) (first f) ∙ none_looked o))
      by (suc n) f = let g : events.ack_count told ≡ suc n = a.acked ∙ f in omega (arith, g)

  late_same : (o : Option core.Standing) → old ≡ o → Stands j told past o → late_of o told ≡ true → late_of new more ≡ true
  late_same None w (nothing l) e =
      let y : looked_by (start_deadline j.task told) told ≡ true = or_off_false (looked_by (start_deadline j.task told) told) e in
      ap (λ o. late_of o more)
      (none_below j.task told (λ k p. a.none k p (omega (arith, l))) (some_acked (start_deadline j.task told) y) (length j.task.plan) (omega arith))
      ∙ or_left (looked_by (start_deadline j.task more) more) false (looked_saved (start_deadline j.task told) told ∙ y)
    where
      or_off_false : (b : Bool) → (b || (false || false)) ≡ true → b ≡ true
      or_off_false true f = refl
      or_off_false false f = cc
  late_same (Some _) w (last m q later l g b) e =
      let at = standing_after j.task (length j.task.plan) told (record { request = m; later = later }) w in
      let now = last_then j.task told m later at (open_ e) (λ k h p. a.none k p (omega (arith, l, h))) (length j.task.plan) within (omega arith) in
      ap (λ o. late_of o more) now
      ∙ ap (λ v. core_saves.is_no_idle (Some (record { request = m; later = later })) told || (is_none (core.reply later) && v)) (out_saved j.task told m (first_deadline j.task (record { request = m; later = later }) told))
      ∙ e
    where
      open_ : late_of (Some (record { request = m; later = later })) told ≡ true → core.is_passed later ≡ false
      open_ f =
          by (core.reply later) (core.has_idle (core.own later)) (events.look_since (events.is_turn_at (replied_at (record { request = m; later = later }) told + idle_ms)) told)
          (core_saves.is_out_of_time j.task m (first_deadline j.task (record { request = m; later = later }) told) told) f
        where
          by : (r : Option Bool) (i x y : Bool) → (((is_some r && not (is_some r && i)) && x) || (is_none r && y)) ≡ true → ((is_some r && i) && not (core.is_true_in r)) ≡ false
          by None i x y f = refl
          by (Some v) true x y f = cc
          by (Some v) false x y f = refl

      within : m < length j.task.plan
      within = last_under j.task (length j.task.plan) told (record { request = m; later = later }) w

  -- a cause stays one
  pub cause_stays : is_some (core_saves.why j.task told) ≡ true → is_some (core_saves.why j.task more) ≡ true
  cause_stays e =
      any_core (core_saves.is_done j.task more) (core_saves.is_cell_error new) (events.came events.is_broken more) (events.look_since events.is_lost more) (core_saves.is_not_ready j.task new more) (core_saves.is_no_idle new more) (core_saves.is_timed_out j.task new more)
      ∙ by_done (or_cases (core_saves.is_done j.task told) _
      (sym (any_core (core_saves.is_done j.task told) (core_saves.is_cell_error old) (events.came events.is_broken told) (events.look_since events.is_lost told) (core_saves.is_not_ready j.task old told) (core_saves.is_no_idle old told) (core_saves.is_timed_out j.task old told)) ∙ e))
    where
      by_late : (late_of old told ≡ true) → late_of new more ≡ true
      by_late f = late_same old refl (stands j told past a) f

      by_lost : (events.look_since events.is_lost told || late_of old told) ≡ true → (events.look_since events.is_lost more || late_of new more) ≡ true
      by_lost f = elim (or_cases (events.look_since events.is_lost told) _ f) [
        | inl g ↦ or_left (events.look_since events.is_lost told) (late_of new more) g
        | inr g ↦ or_right (events.look_since events.is_lost told) (late_of new more) (by_late g)
      ]

      by_broken : (events.came events.is_broken told || (events.look_since events.is_lost told || late_of old told)) ≡ true → (events.came events.is_broken more || (events.look_since events.is_lost more || late_of new more)) ≡ true
      by_broken f = elim (or_cases (events.came events.is_broken told) _ f) [
        | inl g ↦ or_left (events.came events.is_broken told) _ g
        | inr g ↦ or_right (events.came events.is_broken told) _ (by_lost g)
      ]

      by_error : (core_saves.is_cell_error old || (events.came events.is_broken told || (events.look_since events.is_lost told || late_of old told))) ≡ true
          → (core_saves.is_cell_error new || (events.came events.is_broken more || (events.look_since events.is_lost more || late_of new more))) ≡ true
      by_error f = elim (or_cases (core_saves.is_cell_error old) _ f) [
        | inl g ↦ or_left (core_saves.is_cell_error new) _ (error_same j more (entry ∷ past) then_agrees ∙ error_stays j entry past (sym (error_same j told past a) ∙ g))
        | inr g ↦ or_right (core_saves.is_cell_error new) _ (by_broken g)
      ]

      by_done : (core_saves.is_done j.task told ≡ true) ⊎ ((core_saves.is_cell_error old || (events.came events.is_broken told || (events.look_since events.is_lost told || late_of old told))) ≡ true)
          → (core_saves.is_done j.task more || (core_saves.is_cell_error new || (events.came events.is_broken more || (events.look_since events.is_lost more || late_of new more)))) ≡ true
      by_done (inl f) = or_left (core_saves.is_done j.task more) _ (done_same j more (entry ∷ past) then_agrees plan ∙ done_stays j entry past plan (sym (done_same j told past a plan) ∙ f))
      by_done (inr f) = or_right (core_saves.is_done j.task more) _ (by_error f)

-- ---- along a journal

module _ (j : Job) where
  pub unstopped_heard : (told : List Event) → stops j told ≡ false → heard j.task told ≡ told
  unstopped_heard [] e = refl
  unstopped_heard (x ∷ told) e = by (λ f. unstopped_heard told f) (cases_Bool (stops j told))
    where
      by : (stops j told ≡ false → heard j.task told ≡ told) → (stops j told ≡ true) ⊎ (stops j told ≡ false) → heard j.task (x ∷ told) ≡ x ∷ told
      by ih (inl f) = absurd (not_both (stops j told) f (ap (has_stopped j.task) (sym (cond-true (stops j told) (heard j.task told) (x ∷ heard j.task told) f)) ∙ e))
      by ih (inr f) = cond-false (stops j told) (heard j.task told) (x ∷ heard j.task told) f ∙ ap (λ es. x ∷ es) (ih f)

  heard_more : (x : Event) (told : List Event) → stops j told ≡ false → heard j.task told ≡ told → heard j.task (x ∷ told) ≡ x ∷ told
  heard_more x told s e = cond-false (stops j told) (heard j.task told) (x ∷ heard j.task told) s ∙ ap (λ es. x ∷ es) e

  -- nothing is told after the stop
  tell_heard : (told late es : List Event) → heard j.task told ≡ told → heard j.task (tell j told late es).told ≡ (tell j told late es).told
  tell_heard told late [] e = e
  tell_heard told late (x ∷ es) e =
      cond_both (has_stopped j.task (heard j.task told)) (record { told = told; held = []; late = []; unheard = x ∷ es })
      (cond (awaits_saved j.task told) (record { told = told; held = x ∷ es; late = late; unheard = [] }) (tell j (x ∷ told) late es)) (λ (c : Course). heard j.task c.told ≡ c.told) (λ h. e)
      (λ h. cond_both (awaits_saved j.task told) (record { told = told; held = x ∷ es; late = late; unheard = [] }) (tell j (x ∷ told) late es) (λ (c : Course). heard j.task c.told ≡ c.told)
      (λ w. e) (λ w. tell_heard (x ∷ told) late es (heard_more x told h e)))

  saved_heard : (told : List Event) (b : Bool) → stops j told ≡ false → heard j.task (cond b (event.Saved ∷ told) told) ≡ cond b (event.Saved ∷ told) told
  saved_heard told true s = heard_more event.Saved told s (unstopped_heard told s)
  saved_heard told false s = unstopped_heard told s

  has_cause : (told : List Event) → stops j told ≡ true → heard j.task told ≡ told → is_some (core_saves.why j.task told) ≡ true
  has_cause told s e = (and_parts (is_some (core_saves.why j.task told)) (is_empty (core_saves.pending_saves j.task told)) (sym (ap (has_stopped j.task) e) ∙ s)).0

  -- once it has stopped it has a cause
  pub stopped_cause : 0 < length j.task.plan → (past : List Entry) → Flows j past → stops j (course j past).told ≡ true → is_some (core_saves.why j.task (course j past).told) ≡ true
  stopped_cause plan [] f s = has_cause [] s refl
  stopped_cause plan (entry ∷ past) f s = elim (cases_Bool (stops j (course j past).told)) [
    | inl g ↦ kept g (stopped_cause plan past (told_parts j entry past f).2 g) (cases_Bool (is_acknowledging j (entry ∷ past)))
    | inr g ↦
        has_cause (course j (entry ∷ past)).told s
        (tell_heard (told_saved j entry past (course j past).told) (late_then j entry past (course j past).late) ((course j past).held ++ events_at j entry past (course j past).late) (saved_heard (course j past).told (is_acknowledging j (entry ∷ past)) g))
  ]
    where
      told : List Event
      told = (course j past).told

      was : Flows j past
      was = (told_parts j entry past f).2

      kept : stops j told ≡ true → is_some (core_saves.why j.task told) ≡ true → (is_acknowledging j (entry ∷ past) ≡ true) ⊎ (is_acknowledging j (entry ∷ past) ≡ false) → is_some (core_saves.why j.task (course j (entry ∷ past)).told) ≡ true
      kept g i b =
          ap (λ es. is_some (core_saves.why j.task es))
          (tell_mute j (told_saved j entry past told) (late_then j entry past (course j past).late) ((course j past).held ++ events_at j entry past (course j past).late)
          (stop_saved j told (is_acknowledging j (entry ∷ past)) g)).told_is
          ∙ by b
        where
          by : (is_acknowledging j (entry ∷ past) ≡ true) ⊎ (is_acknowledging j (entry ∷ past) ≡ false) → is_some (core_saves.why j.task (told_saved j entry past told)) ≡ true
          by (inl acks) =
              ap (λ es. is_some (core_saves.why j.task es)) (cond-true (is_acknowledging j (entry ∷ past)) (event.Saved ∷ told) told acks)
              ∙ cause_stays j entry past told plan acks (course_agrees j past was) (untold_first j past) i
          by (inr acks) =
              ap (λ es. is_some (core_saves.why j.task es)) (cond-false (is_acknowledging j (entry ∷ past)) (event.Saved ∷ told) told acks)
              ∙ i
