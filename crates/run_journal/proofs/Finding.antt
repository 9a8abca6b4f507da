-- A kernel that the core calls lost is lost by the journal.
use Rattle.std.proofs.Common.{◌≡◌, ◌⊎◌, inl, inr, List, [], ◌∷◌, ◌++◌, Bool, true, false, ◌&&◌, ◌||◌, not, cond, refl, sym, ◌∙◌, ap}
use Rattle.std.proofs.Math.Bool.{or-false}
use Rattle.std.proofs.lemmas.Bool.{and_parts, or_parts, and_from, or_left, or_right, cond-true, cond-false, cases_Bool, not-true, not_from_false, or_cases}
use Rattle.world.specs.declared.entry.Entry.{Entry}
use Rattle.world.specs.declared.entry.Entry.TheVariants as made
use Rattle.world.specs.Waits.{is_wait, has_wait, before_wait}
use Rattle.cell_core.specs.declared.event.Event.{Event}
use Rattle.cell_core.specs.declared.event.Event.TheVariants as event
use Rattle.cell_core.specs.Acts.{is_empty_list}
use Rattle.cell_core.specs.Events as events
use Rattle.run_journal.specs.Job.{Job}
use Rattle.run_journal.specs.Parts.{is_acknowledging, is_running}
use Rattle.run_journal.specs.Looks.{is_look, ever, is_silent, shows_lost, is_lost}
use Rattle.run_journal.specs.Due.{all_along}
use Rattle.run_journal.specs.Course.{when_so, in_look, ends_look, is_late, events_at, tell, late_then, told_saved, course}
use Rattle.run_journal.specs.Agreement.{is_dated, HearsLooks, ends_looks, EndsLooks}
use Rattle.run_journal.specs.Awake.{is_called_for}
use Rattle.run_journal.proofs.Flowing.{tell_by, rest_at, core_at, events_are, look_at}
use Rattle.run_journal.proofs.Telling.{empty_is, among_next, among_lost, came_append, is_loss, lost_when, gives_lost}
use Rattle.run_journal.proofs.Dropping.{stops, dropped, stop_saved, stop_stays, dropped_stops, tell_mute, all_heard, looks_kept}
use Rattle.run_journal.proofs.Sighting.{looked_stays, found_in, front_at, gives_found, knows, finds, late_unlooked, knows_next, finds_next, finds_back}
use Rattle.run_journal.proofs.Truths.{not_both}

-- ---- what holds along a journal

record Along (j : Job) (past : List Entry) : Type 0 where
  known : knows (course j past) ≡ true → ever (shows_lost j) past ≡ true
  late : events.came is_loss (course j past).late ≡ true → ever (shows_lost j) past ≡ true
  before : in_look j past ≡ true → is_look j past ≡ false → knows (course j past) ≡ true → ever (shows_lost j) (before_wait past) ≡ true
  found : finds (course j past) ≡ true → ever (is_lost j) past ≡ true

-- a wait shows no loss
pub wait_shows_none : (j : Job) (entry : Entry) (past : List Entry) → is_wait entry ≡ true → shows_lost j (entry ∷ past) ≡ false
unfolding is_silent
wait_shows_none j (made.Waited ms reports how) past e = refl
wait_shows_none j _ past e = cc

-- since the last wait, a loss in a look is late
late_in_look : (s i l : Bool) → i ≡ true → l ≡ false → (s && not ((s && i) && not l)) ≡ false
late_in_look true true false e f = refl
late_in_look true true true e f = cc
late_in_look true false l e f = cc
late_in_look false i l e f = refl

-- what comes late of these, then
late_next : (j : Job) (entry : Entry) (past : List Entry) → events.came is_loss (course j (entry ∷ past)).late ≡ true → (events.came is_loss (course j past).late || is_late j entry past) ≡ true
late_next j entry past = by_tell _ (late_then j entry past (course j past).late) _ (by_then (ends_look j entry past))
  where
    by_then : (b : Bool) → events.came is_loss (cond b [] ((course j past).late ++ when_so (is_late j entry past) event.Lost)) ≡ true → (events.came is_loss (course j past).late || is_late j entry past) ≡ true
    by_then true e = cc
    by_then false e = ap (λ b. events.came is_loss (course j past).late || b) (sym (lost_when (is_late j entry past))) ∙ sym (came_append is_loss (course j past).late (when_so (is_late j entry past) event.Lost)) ∙ e

    by_tell : (told late es : List Event) → (events.came is_loss late ≡ true → (events.came is_loss (course j past).late || is_late j entry past) ≡ true)
        → events.came is_loss (tell j told late es).late ≡ true → (events.came is_loss (course j past).late || is_late j entry past) ≡ true
    by_tell told late [] f = f
    by_tell told late (x ∷ es) f =
        tell_by (λ c. events.came is_loss c.late ≡ true → (events.came is_loss (course j past).late || is_late j entry past) ≡ true) j told late x es (λ h e. cc) f (by_tell (x ∷ told) late es f)

both_of : (b x : Bool) → cond b x false ≡ true → (b ≡ true) × (x ≡ true)
both_of true x e = (refl, e)
both_of false x e = cc

pub lost_is : (j : Job) (past : List Entry) → is_look j past ≡ true → ever (shows_lost j) (before_wait past) ≡ true → is_lost j past ≡ true
unfolding is_lost
lost_is j past e f = and_from (is_look j past) (ever (shows_lost j) (before_wait past)) e f

module _ (j : Job) (entry : Entry) (past : List Entry) (i : Along j past) where
  -- a loss that is known of in a look, before its end, was shown before its wait
  settled : in_look j (entry ∷ past) ≡ true → (is_wait entry ≡ true) ⊎ (is_look j past ≡ false)
      → ((shows_lost j (entry ∷ past) && not (is_late j entry past)) || knows (course j past)) ≡ true → ever (shows_lost j) (before_wait (entry ∷ past)) ≡ true
  settled e open_ h = by (cases_Bool (is_wait entry)) (or_cases (shows_lost j (entry ∷ past) && not (is_late j entry past)) (knows (course j past)) h)
    where
      in_past : is_wait entry ≡ false → in_look j past ≡ true
      in_past w =
          sym (ap (λ b. (b || has_wait past) && is_called_for j (before_wait past)) w)
          ∙ sym (ap (λ at. (is_wait entry || has_wait past) && is_called_for j at) (cond-false (is_wait entry) past (before_wait past) w))
          ∙ e

      unlooked : is_wait entry ≡ false → (is_wait entry ≡ true) ⊎ (is_look j past ≡ false) → is_look j past ≡ false
      unlooked w (inl v) = absurd (not_both (is_wait entry) v w)
      unlooked w (inr k) = k

      by : (is_wait entry ≡ true) ⊎ (is_wait entry ≡ false) → ((shows_lost j (entry ∷ past) && not (is_late j entry past)) ≡ true) ⊎ (knows (course j past) ≡ true)
          → ever (shows_lost j) (before_wait (entry ∷ past)) ≡ true
      by (inl w) (inl k) = absurd (not_both (shows_lost j (entry ∷ past)) (and_parts (shows_lost j (entry ∷ past)) (not (is_late j entry past)) k).0 (wait_shows_none j entry past w))
      by (inl w) (inr k) = ap (ever (shows_lost j)) (cond-true (is_wait entry) past (before_wait past) w) ∙ i.known k
      by (inr w) (inl k) =
          absurd (not_both (shows_lost j (entry ∷ past) && not (is_late j entry past)) k
          (late_in_look (shows_lost j (entry ∷ past)) (in_look j past) (is_look j past) (in_past w) (unlooked w open_)))
      by (inr w) (inr k) = ap (ever (shows_lost j)) (cond-false (is_wait entry) past (before_wait past) w) ∙ i.before (in_past w) (unlooked w open_) k

  -- one that waited for a look, or does so now, was shown
  shown_late : (events.came is_loss (course j past).late || is_late j entry past) ≡ true → ever (shows_lost j) (entry ∷ past) ≡ true
  shown_late h = by (or_cases (events.came is_loss (course j past).late) (is_late j entry past) h)
    where
      by : (events.came is_loss (course j past).late ≡ true) ⊎ (is_late j entry past ≡ true) → ever (shows_lost j) (entry ∷ past) ≡ true
      by (inl k) = or_right (shows_lost j (entry ∷ past)) (ever (shows_lost j) past) (i.late k)
      by (inr k) =
          or_left (shows_lost j (entry ∷ past)) (ever (shows_lost j) past)
          (and_parts (shows_lost j (entry ∷ past)) (in_look j past) (and_parts (shows_lost j (entry ∷ past) && in_look j past) (not (is_look j past)) k).0).0

  -- one that the entry gives: now, or at the end of a look
  given : events.came is_loss (events_at j entry past (course j past).late) ≡ true
      → ((shows_lost j (entry ∷ past) && not (is_late j entry past)) ≡ true) ⊎ ((ends_look j entry past ≡ true) × ((events.came is_loss (course j past).late || is_late j entry past) ≡ true))
  given h = by (or_cases (shows_lost j (entry ∷ past) && not (is_late j entry past)) _ (sym (gives_lost j entry past (course j past).late) ∙ h))
    where
      by : ((shows_lost j (entry ∷ past) && not (is_late j entry past)) ≡ true) ⊎ (cond (ends_look j entry past) (events.came is_loss (course j past).late || is_late j entry past) false ≡ true)
          → ((shows_lost j (entry ∷ past) && not (is_late j entry past)) ≡ true) ⊎ ((ends_look j entry past ≡ true) × ((events.came is_loss (course j past).late || is_late j entry past) ≡ true))
      by (inl k) = inl k
      by (inr k) = inr (both_of (ends_look j entry past) _ k)

  -- the parts of a look's end
  ends_parts : ends_look j entry past ≡ true → (in_look j (entry ∷ past) ≡ true) × (is_look j (entry ∷ past) ≡ true) × ((is_wait entry ≡ true) ⊎ (is_look j past ≡ false))
  ends_parts h =
      let p = and_parts (in_look j (entry ∷ past) && is_look j (entry ∷ past)) (is_wait entry || not (is_look j past)) h in
      let q = and_parts (in_look j (entry ∷ past)) (is_look j (entry ∷ past)) p.0 in
      (q.0, q.1, by (or_cases (is_wait entry) (not (is_look j past)) p.1))
    where
      by : (is_wait entry ≡ true) ⊎ (not (is_look j past) ≡ true) → (is_wait entry ≡ true) ⊎ (is_look j past ≡ false)
      by (inl w) = inl w
      by (inr k) = inr (not-true (is_look j past) k)

  next_known : knows (course j (entry ∷ past)) ≡ true → ever (shows_lost j) (entry ∷ past) ≡ true
  next_known e = by (or_cases (knows (course j past)) _ (knows_next j entry past e))
    where
      by_given : ((shows_lost j (entry ∷ past) && not (is_late j entry past)) ≡ true) ⊎ ((ends_look j entry past ≡ true) × ((events.came is_loss (course j past).late || is_late j entry past) ≡ true))
          → ever (shows_lost j) (entry ∷ past) ≡ true
      by_given (inl k) = or_left (shows_lost j (entry ∷ past)) (ever (shows_lost j) past) (and_parts (shows_lost j (entry ∷ past)) (not (is_late j entry past)) k).0
      by_given (inr k) = shown_late k.1

      by : (knows (course j past) ≡ true) ⊎ (events.came is_loss (events_at j entry past (course j past).late) ≡ true) → ever (shows_lost j) (entry ∷ past) ≡ true
      by (inl k) = or_right (shows_lost j (entry ∷ past)) (ever (shows_lost j) past) (i.known k)
      by (inr k) = by_given (given k)

  next_before : in_look j (entry ∷ past) ≡ true → is_look j (entry ∷ past) ≡ false → knows (course j (entry ∷ past)) ≡ true → ever (shows_lost j) (before_wait (entry ∷ past)) ≡ true
  next_before e unlooked h = settled e (by (cases_Bool (is_wait entry)) (cases_Bool (is_look j past))) (known (or_cases (knows (course j past)) _ (knows_next j entry past h)))
    where
      by : (is_wait entry ≡ true) ⊎ (is_wait entry ≡ false) → (is_look j past ≡ true) ⊎ (is_look j past ≡ false) → (is_wait entry ≡ true) ⊎ (is_look j past ≡ false)
      by (inl w) k = inl w
      by (inr w) (inl k) = absurd (not_both (is_look j (entry ∷ past)) (looked_stays j entry past w k) unlooked)
      by (inr w) (inr k) = inr k

      by_given : ((shows_lost j (entry ∷ past) && not (is_late j entry past)) ≡ true) ⊎ ((ends_look j entry past ≡ true) × ((events.came is_loss (course j past).late || is_late j entry past) ≡ true))
          → ((shows_lost j (entry ∷ past) && not (is_late j entry past)) || knows (course j past)) ≡ true
      by_given (inl k) = or_left _ (knows (course j past)) k
      by_given (inr k) = absurd (not_both (is_look j (entry ∷ past)) (ends_parts k.0).1 unlooked)

      known : (knows (course j past) ≡ true) ⊎ (events.came is_loss (events_at j entry past (course j past).late) ≡ true)
          → ((shows_lost j (entry ∷ past) && not (is_late j entry past)) || knows (course j past)) ≡ true
      known (inl k) = or_right (shows_lost j (entry ∷ past) && not (is_late j entry past)) (knows (course j past)) k
      known (inr k) = by_given (given k)

  next_found : finds (course j (entry ∷ past)) ≡ true → ever (is_lost j) (entry ∷ past) ≡ true
  next_found e = by (or_cases (finds (course j past)) _ (finds_next j entry past e))
    where
      by : (finds (course j past) ≡ true) ⊎ (found_in (knows (course j past)) (events_at j entry past (course j past).late) ≡ true) → ever (is_lost j) (entry ∷ past) ≡ true
      by (inl k) = or_right (is_lost j (entry ∷ past)) (ever (is_lost j) past) (i.found k)
      by (inr k) =
          let p = and_parts (ends_look j entry past) _ (sym (gives_found j entry past (knows (course j past)) (course j past).late (late_unlooked j past)) ∙ k) in
          let q = ends_parts p.0 in
          or_left (is_lost j (entry ∷ past)) (ever (is_lost j) past) (lost_is j (entry ∷ past) q.1 (settled q.0 q.2 p.1))

  next : Along j (entry ∷ past)
  next = record {
    known = next_known;
    late = λ e. shown_late (late_next j entry past e);
    before = next_before;
    found = next_found;
  }

along : (j : Job) (past : List Entry) → Along j past
along j [] = record { known = λ e. e; late = λ e. e; before = λ e k h. h; found = λ e. e }
along j (entry ∷ past) = next j entry past (along j past)

-- where the core has seen a look after a loss, the kernel is lost by the journal
pub lost_found : (j : Job) (past : List Entry) → events.look_since events.is_lost (course j past).told ≡ true → ever (is_lost j) past ≡ true
lost_found j past e = (along j past).found (or_left (events.look_since events.is_lost (course j past).told) _ e)

-- the same of what waits for a save too
pub finds_lost : (j : Job) (past : List Entry) → finds (course j past) ≡ true → ever (is_lost j) past ≡ true
finds_lost j past e = (along j past).found e

-- ---- and the other way

-- the end of a look gives one
gives_look : (j : Job) (entry : Entry) (past : List Entry) (late : List Event) → ends_look j entry past ≡ true → events.came events.is_looked (events_at j entry past late) ≡ true
gives_look j entry past late e =
    ap (events.came events.is_looked) (events_are j entry past late)
    ∙ came_append events.is_looked (core_at j entry past) (rest_at j entry past late)
    ∙ or_right (events.came events.is_looked (core_at j entry past)) _
    (came_append events.is_looked (front_at j entry past) (look_at j entry past late)
    ∙ or_right (events.came events.is_looked (front_at j entry past)) _
    (ap (events.came events.is_looked) (cond-true (ends_look j entry past) (event.Looked ∷ late ++ when_so (is_late j entry past) event.Lost) [] e)))

-- where nothing of the clock or of looks is among events, no look is
pub undated_unlooked : (es : List Event) → events.came is_dated es ≡ false → events.came events.is_looked es ≡ false
undated_unlooked [] e = refl
undated_unlooked (x ∷ es) e = let p = or_parts (is_dated x) (events.came is_dated es) e in ap (λ b. b || events.came events.is_looked es) (by x p.0) ∙ undated_unlooked es p.1
  where
    by : (x : Event) → is_dated x ≡ false → events.is_looked x ≡ false
    by (event.Moment ms) h = refl
    by event.Looked h = cc
    by event.Saved h = refl
    by event.Ready h = refl
    by (event.Io b) h = refl
    by (event.Reply f) h = refl
    by event.Lost h = refl
    by event.Broken h = refl

before_none : (past : List Entry) → has_wait past ≡ false → before_wait past ≡ []
before_none [] e = refl
before_none (entry ∷ past) e =
    let p = or_parts (is_wait entry) (has_wait past) e in
    cond-false (is_wait entry) past (before_wait past) p.0 ∙ before_none past p.1

-- where something was shown before the last wait, there was one
pub lost_waited : (j : Job) (past : List Entry) → ever (shows_lost j) (before_wait past) ≡ true → has_wait past ≡ true
lost_waited j past e = by (cases_Bool (has_wait past))
  where
    by : (has_wait past ≡ true) ⊎ (has_wait past ≡ false) → has_wait past ≡ true
    by (inl h) = h
    by (inr h) = absurd (not_both (ever (shows_lost j) (before_wait past)) e (ap (ever (shows_lost j)) (before_none past h)))

-- a loss shown before the last wait is known of, or the core had stopped; and a kernel that is lost is found so
record Back (j : Job) (past : List Entry) : Type 0 where
  known : ever (shows_lost j) (before_wait past) ≡ true → (knows (course j past) ≡ true) ⊎ (stops j (course j past).told ≡ true)
  found : is_running j (before_wait past) ≡ true → is_lost j past ≡ true → finds (course j past) ≡ true

pub lost_parts : (j : Job) (past : List Entry) → is_lost j past ≡ true → (is_look j past ≡ true) × (ever (shows_lost j) (before_wait past) ≡ true)
unfolding is_lost
lost_parts j past e = and_parts (is_look j past) (ever (shows_lost j) (before_wait past)) e

module _ (j : Job) (entry : Entry) (past : List Entry) (u : events.came events.is_looked (dropped j (entry ∷ past)) ≡ false) (s : EndsLooks j (entry ∷ past)) (i : Back j past) where
  -- no look came after the stop now
  unlooked : events.came events.is_looked (course j (entry ∷ past)).unheard ≡ false
  unlooked =
      (or_parts (events.came events.is_looked (dropped j past)) (events.came events.is_looked (course j (entry ∷ past)).unheard)
      (sym (came_append events.is_looked (dropped j past) (course j (entry ∷ past)).unheard) ∙ u)).1

  stays_known : (knows (course j past) ≡ true) ⊎ (stops j (course j past).told ≡ true) → (knows (course j (entry ∷ past)) ≡ true) ⊎ (stops j (course j (entry ∷ past)).told ≡ true)
  stays_known (inr k) = inr (stop_stays j entry past k)
  stays_known (inl k) =
      elim (dropped_stops j (told_saved j entry past (course j past).told) (late_then j entry past (course j past).late) ((course j past).held ++ events_at j entry past (course j past).late)) [
        | inl none ↦ inl
            (among_next is_loss j entry past refl (ap (events.came is_loss) none)
            ∙ or_left (knows (course j past)) (events.came is_loss (events_at j entry past (course j past).late)) k)
        | inr e ↦ inr e
      ]

  -- at a wait nothing waits for a look
  on_time : is_wait entry ≡ true → (course j past).late ≡ []
  on_time w = by (or_cases (not (is_wait entry)) (is_empty_list (course j past).late) (and_parts (ends_looks j (entry ∷ past)) (all_along (ends_looks j) past) s).0)
    where
      by : (not (is_wait entry) ≡ true) ⊎ (is_empty_list (course j past).late ≡ true) → (course j past).late ≡ []
      by (inl k) = absurd (not_both (is_wait entry) w (not-true (is_wait entry) k))
      by (inr k) = empty_is (course j past).late k

  -- what was shown before the wait was known of before this entry
  known_before : ever (shows_lost j) (before_wait (entry ∷ past)) ≡ true → (knows (course j past) ≡ true) ⊎ (stops j (course j past).told ≡ true)
  known_before e = by (cases_Bool (is_wait entry)) (cases_Bool (stops j (course j past).told))
    where
      by : (is_wait entry ≡ true) ⊎ (is_wait entry ≡ false) → (stops j (course j past).told ≡ true) ⊎ (stops j (course j past).told ≡ false) → (knows (course j past) ≡ true) ⊎ (stops j (course j past).told ≡ true)
      by (inl w) (inl k) = inr k
      by (inl w) (inr k) = inl
          (sym (or-false (knows (course j past)))
          ∙ ap (λ es. knows (course j past) || events.came is_loss es) (sym (on_time w))
          ∙ among_lost j past (all_heard j past k)
          ∙ ap (ever (shows_lost j)) (sym (cond-true (is_wait entry) past (before_wait past) w))
          ∙ e)
      by (inr w) k = i.known (ap (ever (shows_lost j)) (sym (cond-false (is_wait entry) past (before_wait past) w)) ∙ e)

  -- the look that shows the kernel lost ends with this entry
  found_now : is_running j (before_wait (entry ∷ past)) ≡ true → is_lost j (entry ∷ past) ≡ true → (is_wait entry ≡ true) ⊎ (is_look j past ≡ false) → finds (course j (entry ∷ past)) ≡ true
  found_now runs lost new = by (known_before p.1)
    where
      p : (is_look j (entry ∷ past) ≡ true) × (ever (shows_lost j) (before_wait (entry ∷ past)) ≡ true)
      p = lost_parts j (entry ∷ past) lost

      is_new : (is_wait entry ≡ true) ⊎ (is_look j past ≡ false) → (is_wait entry || not (is_look j past)) ≡ true
      is_new (inl w) = or_left (is_wait entry) (not (is_look j past)) w
      is_new (inr k) = or_right (is_wait entry) (not (is_look j past)) (not_from_false (is_look j past) k)

      called : is_called_for j (before_wait (entry ∷ past)) ≡ true
      called = and_from (is_running j (before_wait (entry ∷ past))) _ runs (or_left (ever (shows_lost j) (before_wait (entry ∷ past))) _ p.1)

      ended : ends_look j entry past ≡ true
      ended =
          and_from (in_look j (entry ∷ past) && is_look j (entry ∷ past)) (is_wait entry || not (is_look j past))
          (and_from (in_look j (entry ∷ past)) (is_look j (entry ∷ past)) (and_from (has_wait (entry ∷ past)) (is_called_for j (before_wait (entry ∷ past))) (lost_waited j (entry ∷ past) p.1) called) p.0)
          (is_new new)

      by : (knows (course j past) ≡ true) ⊎ (stops j (course j past).told ≡ true) → finds (course j (entry ∷ past)) ≡ true
      by (inl k) =
          finds_back j entry past unlooked
          (or_right (finds (course j past)) _
          (gives_found j entry past (knows (course j past)) (course j past).late (late_unlooked j past)
          ∙ and_from (ends_look j entry past) _ ended (or_right (shows_lost j (entry ∷ past) && not (is_late j entry past)) (knows (course j past)) k)))
      by (inr k) =
          absurd (not_both (events.came events.is_looked (course j (entry ∷ past)).unheard)
          (ap (events.came events.is_looked)
          (tell_mute j (told_saved j entry past (course j past).told) (late_then j entry past (course j past).late) ((course j past).held ++ events_at j entry past (course j past).late)
          (stop_saved j (course j past).told (is_acknowledging j (entry ∷ past)) k)).all_dropped
          ∙ came_append events.is_looked (course j past).held (events_at j entry past (course j past).late)
          ∙ or_right (events.came events.is_looked (course j past).held) _ (gives_look j entry past (course j past).late ended)) unlooked)

  back_found : is_running j (before_wait (entry ∷ past)) ≡ true → is_lost j (entry ∷ past) ≡ true → finds (course j (entry ∷ past)) ≡ true
  back_found runs lost = by (cases_Bool (is_wait entry)) (cases_Bool (is_look j past))
    where
      p : (is_look j (entry ∷ past) ≡ true) × (ever (shows_lost j) (before_wait (entry ∷ past)) ≡ true)
      p = lost_parts j (entry ∷ past) lost

      by : (is_wait entry ≡ true) ⊎ (is_wait entry ≡ false) → (is_look j past ≡ true) ⊎ (is_look j past ≡ false) → finds (course j (entry ∷ past)) ≡ true
      by (inl w) k = found_now runs lost (inl w)
      by (inr w) (inr k) = found_now runs lost (inr k)
      by (inr w) (inl k) =
          let same : before_wait (entry ∷ past) ≡ before_wait past = cond-false (is_wait entry) past (before_wait past) w in
          finds_back j entry past unlooked
          (or_left (finds (course j past)) _ (i.found (ap (is_running j) (sym same) ∙ runs) (lost_is j past k (ap (ever (shows_lost j)) (sym same) ∙ p.1))))

back : (j : Job) (past : List Entry) → events.came events.is_looked (dropped j past) ≡ false → EndsLooks j past → Back j past
back j [] u s = record { known = λ e. cc; found = λ r e. absurd (not_both (ever (shows_lost j) []) (lost_parts j [] e).1 refl) }
back j (entry ∷ past) u s =
    let v = or_parts (events.came events.is_looked (dropped j past)) (events.came events.is_looked (course j (entry ∷ past)).unheard)
    (sym (came_append events.is_looked (dropped j past) (course j (entry ∷ past)).unheard) ∙ u) in
    let i = back j past v.0 (and_parts (ends_looks j (entry ∷ past)) (all_along (ends_looks j) past) s).1 in
    record { known = λ e. stays_known j entry past u s i (known_before j entry past u s i e); found = back_found j entry past u s i }

-- where the kernel is lost by the journal, the core has seen a look after a loss, as long as no look came after its stop
pub lost_seen : (j : Job) (past : List Entry) → events.came events.is_looked (dropped j past) ≡ false → EndsLooks j past → (course j past).held ≡ [] → is_running j (before_wait past) ≡ true → is_lost j past ≡ true
    → events.look_since events.is_lost (course j past).told ≡ true
lost_seen j past u s none runs lost =
    sym (or-false (events.look_since events.is_lost (course j past).told))
    ∙ ap (λ es. events.look_since events.is_lost (course j past).told || found_in (events.came is_loss (course j past).told) es) (sym none)
    ∙ (back j past u s).found runs lost

pub found_lost : (j : Job) (past : List Entry) → HearsLooks j past → EndsLooks j past → (course j past).held ≡ [] → is_running j (before_wait past) ≡ true → is_lost j past ≡ true
    → events.look_since events.is_lost (course j past).told ≡ true
found_lost j past h s none runs lost = lost_seen j past (undated_unlooked (dropped j past) (looks_kept j past h)) s none runs lost
