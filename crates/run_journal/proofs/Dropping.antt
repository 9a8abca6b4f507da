-- What comes after the core's stop isn't told.
use Rattle.std.proofs.Common.{◌≡◌, ◌⊎◌, inl, inr, ℕ, List, [], ◌∷◌, ◌++◌, Bool, true, false, ◌||◌, cond, refl, sym, ◌∙◌, ap}
use Rattle.std.proofs.lemmas.List.{append-nil}
use Rattle.std.proofs.lemmas.Bool.{and_parts, and_from, cond-true, cond_both, cases_Bool, false_from_ne_true, not-true}
use Rattle.world.specs.declared.entry.Entry.{Entry}
use Rattle.cell_core.specs.declared.event.Event.{Event}
use Rattle.cell_core.specs.declared.event.Event.TheVariants as event
use Rattle.cell_core.specs.Acts.{awaits_saved, has_stopped, heard, is_empty_list}
use Rattle.cell_core.specs.Events as events
use Rattle.run_journal.specs.Job.{Job}
use Rattle.run_journal.specs.Parts.{is_acknowledging}
use Rattle.run_journal.specs.Due.{all_along}
use Rattle.run_journal.specs.Course.{events_at, Course, tell, late_then, told_saved, course}
use Rattle.run_journal.specs.Agreement.{told_on, is_dated, is_heard, IsHeard, hears_looks, HearsLooks}
use Rattle.run_journal.proofs.Flowing.{Tells, front, tell_by, tell_front}
use Rattle.run_journal.proofs.Telling.{came_append}
use Rattle.run_journal.proofs.Dating.{seen, run, seen_on, run_append, run_undated, whole, seen_saved, run_events, late_undated}
use Rattle.run_journal.proofs.Truths.{not_both}

-- ---- the core's stop

module _ (j : Job) where
  -- the core has stopped by these events
  abbrev pub stops : List Event → Bool
  stops told = has_stopped j.task (heard j.task told)

  -- and stays so
  pub stop_more : (e : Event) (told : List Event) → stops told ≡ true → stops (e ∷ told) ≡ true
  stop_more e told h = ap (has_stopped j.task) (cond-true (has_stopped j.task (heard j.task told)) (heard j.task told) (e ∷ heard j.task told) h) ∙ h

  stop_on : (xs told : List Event) → stops told ≡ true → stops (told_on xs told) ≡ true
  stop_on [] told h = h
  stop_on (x ∷ xs) told h = stop_on xs (x ∷ told) (stop_more x told h)

  -- then nothing more is told
  pub record Mute (told es : List Event) (c : Course) : Type 0 where
    pub told_is : c.told ≡ told
    pub none_held : c.held ≡ []
    pub all_dropped : c.unheard ≡ es

  pub tell_mute : (told late es : List Event) → stops told ≡ true → Mute told es (tell j told late es)
  tell_mute told late [] h = record { told_is = refl; none_held = refl; all_dropped = refl }
  tell_mute told late (e ∷ es) h =
      let same = cond-true (has_stopped j.task (heard j.task told)) (record { told = told; held = []; late = []; unheard = e ∷ es })
      (cond (awaits_saved j.task told) (record { told = told; held = e ∷ es; late = late; unheard = [] }) (tell j (e ∷ told) late es)) h in
      record { told_is = ap (λ (c : Course). c.told) same; none_held = ap (λ (c : Course). c.held) same; all_dropped = ap (λ (c : Course). c.unheard) same }

  -- what isn't told comes after the stop
  pub dropped_stops : (told late es : List Event) → ((tell j told late es).unheard ≡ []) ⊎ (stops (tell j told late es).told ≡ true)
  dropped_stops told late [] = inl refl
  dropped_stops told late (e ∷ es) = tell_by (λ (c : Course). (c.unheard ≡ []) ⊎ (stops c.told ≡ true)) j told late e es (λ h. inr h) (inl refl) (dropped_stops (e ∷ told) late es)

  -- and after the stop nothing waits
  none_waits : (told late es : List Event) → stops (tell j told late es).told ≡ true → (tell j told late es).held ≡ []
  none_waits told late [] = λ h. refl
  none_waits told late (e ∷ es) =
      cond_both (has_stopped j.task (heard j.task told)) (record { told = told; held = []; late = []; unheard = e ∷ es })
      (cond (awaits_saved j.task told) (record { told = told; held = e ∷ es; late = late; unheard = [] }) (tell j (e ∷ told) late es)) (λ (c : Course). stops c.told ≡ true → c.held ≡ []) (λ h k. refl)
      (λ h. cond_both (awaits_saved j.task told) (record { told = told; held = e ∷ es; late = late; unheard = [] }) (tell j (e ∷ told) late es) (λ (c : Course). stops c.told ≡ true → c.held ≡ [])
      (λ w k. absurd (not_both (has_stopped j.task (heard j.task told)) k h)) (λ w. none_waits (e ∷ told) late es))

  -- ---- over a journal

  pub stop_saved : (told : List Event) (b : Bool) → stops told ≡ true → stops (cond b (event.Saved ∷ told) told) ≡ true
  stop_saved told true h = stop_more event.Saved told h
  stop_saved told false h = h

  pub stop_stays : (entry : Entry) (past : List Entry) → stops (course j past).told ≡ true → stops (course j (entry ∷ past)).told ≡ true
  stop_stays entry past h = by (tell_front j (told_saved j entry past c.told) (late_then j entry past c.late) (c.held ++ events_at j entry past c.late))
    where
      c : Course
      c = course j past

      by : Tells j (told_saved j entry past c.told) (c.held ++ events_at j entry past c.late) (course j (entry ∷ past)) → stops (course j (entry ∷ past)).told ≡ true
      by (front xs f g) = ap stops g ∙ stop_on xs (told_saved j entry past c.told) (stop_saved c.told (is_acknowledging j (entry ∷ past)) h)

  pub held_none : (past : List Entry) → stops (course j past).told ≡ true → (course j past).held ≡ []
  held_none [] h = refl
  held_none (entry ∷ past) h = none_waits (told_saved j entry past (course j past).told) (late_then j entry past (course j past).late) ((course j past).held ++ events_at j entry past (course j past).late) h

  -- all that came after the stop
  abbrev pub dropped : List Entry → List Event
  dropped [] = []
  dropped (entry ∷ past) = dropped past ++ (course j (entry ∷ past)).unheard

  unstopped_before : (entry : Entry) (past : List Entry) → stops (course j (entry ∷ past)).told ≡ false → stops (course j past).told ≡ false
  unstopped_before entry past h = false_from_ne_true (stops (course j past).told) (λ e. not_both (stops (course j (entry ∷ past)).told) (stop_stays entry past e) h)

  -- where it hasn't stopped nothing did
  now_heard : (entry : Entry) (past : List Entry) → stops (course j (entry ∷ past)).told ≡ false → (course j (entry ∷ past)).unheard ≡ []
  now_heard entry past h =
      elim (dropped_stops (told_saved j entry past (course j past).told) (late_then j entry past (course j past).late) ((course j past).held ++ events_at j entry past (course j past).late)) [
        | inl e ↦ e
        | inr e ↦ absurd (not_both (stops (course j (entry ∷ past)).told) e h)
      ]

  pub none_dropped : (past : List Entry) → stops (course j past).told ≡ false → dropped past ≡ []
  none_dropped [] h = refl
  none_dropped (entry ∷ past) h = ap (λ es. es ++ (course j (entry ∷ past)).unheard) (none_dropped past (unstopped_before entry past h)) ∙ now_heard entry past h

  pub all_heard : (past : List Entry) → stops (course j past).told ≡ false → IsHeard j past
  all_heard [] h = refl
  all_heard (entry ∷ past) h =
      and_from (is_heard j (entry ∷ past)) (all_along (is_heard j) past) (ap is_empty_list (now_heard entry past h)) (all_heard past (unstopped_before entry past h))

  -- where nothing waits and nothing of a kind came after the stop, none of it is among what did
  pub looks_kept : (past : List Entry) → HearsLooks j past → events.came is_dated (dropped past) ≡ false
  looks_kept [] h = refl
  looks_kept (entry ∷ past) h =
      let p = and_parts (hears_looks j (entry ∷ past)) (all_along (hears_looks j) past) h in
      came_append is_dated (dropped past) (course j (entry ∷ past)).unheard
      ∙ ap (λ b. b || events.came is_dated (course j (entry ∷ past)).unheard) (looks_kept past p.1)
      ∙ not-true (events.came is_dated (course j (entry ∷ past)).unheard) p.0

  -- ---- the clock and looks

  module _ (d : ℕ) where
    stopped_next : (entry : Entry) (past : List Entry) → stops (course j past).told ≡ true → whole d j past ≡ run d ((course j past).held ++ dropped past) (seen d (course j past).told)
        → whole d j (entry ∷ past) ≡ run d ((course j (entry ∷ past)).held ++ dropped (entry ∷ past)) (seen d (course j (entry ∷ past)).told)
    stopped_next entry past h ih =
        let c : Course = course j past in
        let now : Course = course j (entry ∷ past) in
        let es : List Event = events_at j entry past c.late in
        let none : c.held ≡ [] = held_none past h in
        let m : Mute (told_saved j entry past c.told) (c.held ++ es) now = tell_mute (told_saved j entry past c.told) (late_then j entry past c.late) (c.held ++ es) (stop_saved c.told (is_acknowledging j (entry ∷ past)) h) in
        sym (run_events d j entry past c.late (late_undated j past) (whole d j past))
        ∙ ap (run d es) ih
        ∙ ap (λ hs. run d es (run d (hs ++ dropped past) (seen d c.told))) none
        ∙ sym (run_append d (dropped past) es (seen d c.told))
        ∙ ap (λ ds. run d (dropped past ++ ds) (seen d c.told)) (sym (m.all_dropped ∙ ap (λ hs. hs ++ es) none))
        ∙ ap (λ hs. run d (hs ++ dropped (entry ∷ past)) (seen d c.told)) (sym m.none_held)
        ∙ ap (run d (now.held ++ dropped (entry ∷ past))) (sym (seen_saved d j entry past (is_acknowledging j (entry ∷ past)) c.told) ∙ ap (seen d) (sym m.told_is))

    open_next : (entry : Entry) (past : List Entry) → dropped past ≡ [] → whole d j past ≡ run d ((course j past).held ++ dropped past) (seen d (course j past).told)
        → whole d j (entry ∷ past) ≡ run d ((course j (entry ∷ past)).held ++ dropped (entry ∷ past)) (seen d (course j (entry ∷ past)).told)
    open_next entry past none ih = by (tell_front j (told_saved j entry past c.told) (late_then j entry past c.late) (c.held ++ events_at j entry past c.late))
      where
        c : Course
        c = course j past

        now : Course
        now = course j (entry ∷ past)

        es : List Event
        es = events_at j entry past c.late

        by : Tells j (told_saved j entry past c.told) (c.held ++ es) now → whole d j (entry ∷ past) ≡ run d (now.held ++ dropped (entry ∷ past)) (seen d now.told)
        by (front xs f g) =
            sym (run_events d j entry past c.late (late_undated j past) (whole d j past))
            ∙ ap (run d es) (ih ∙ ap (λ ds. run d (c.held ++ ds) (seen d c.told)) none ∙ ap (λ hs. run d hs (seen d c.told)) (append-nil c.held))
            ∙ sym (run_append d c.held es (seen d c.told))
            ∙ ap (λ v. run d v (seen d c.told)) (sym f)
            ∙ run_append d xs (now.held ++ now.unheard) (seen d c.told)
            ∙ ap (λ v. run d (now.held ++ now.unheard) (run d xs v)) (sym (seen_saved d j entry past (is_acknowledging j (entry ∷ past)) c.told))
            ∙ ap (run d (now.held ++ now.unheard)) (sym (seen_on d xs (told_saved j entry past c.told)) ∙ ap (seen d) (sym g))
            ∙ ap (λ ds. run d (now.held ++ (ds ++ now.unheard)) (seen d now.told)) (sym none)

    -- what the entries give is what was told, what waits and what came after the stop
    pub whole_told : (past : List Entry) → whole d j past ≡ run d ((course j past).held ++ dropped past) (seen d (course j past).told)
    whole_told [] = refl
    whole_told (entry ∷ past) = elim (cases_Bool (stops (course j past).told)) [
      | inl h ↦ stopped_next entry past h (whole_told past)
      | inr h ↦ open_next entry past (none_dropped past h) (whole_told past)
    ]

    -- so what was told and what waits, where nothing of it came after the stop
    pub whole_held : (past : List Entry) → events.came is_dated (dropped past) ≡ false → whole d j past ≡ run d (course j past).held (seen d (course j past).told)
    whole_held past un =
        whole_told past ∙ run_append d (course j past).held (dropped past) (seen d (course j past).told)
        ∙ run_undated d (dropped past) (run d (course j past).held (seen d (course j past).told)) un

    -- and where nothing waits what was told
    pub told_whole : (past : List Entry) → (course j past).held ≡ [] → events.came is_dated (dropped past) ≡ false → whole d j past ≡ seen d (course j past).told
    told_whole past none un = whole_held past un ∙ ap (λ es. run d es (seen d (course j past).told)) none
