-- What is still to be told: how an event that is told and an entry of the journal change it.
use Rattle.std.proofs.Common.{◌≡◌, List, [], ◌∷◌, ◌++◌, Bool, true, false, cond, refl, sym, ◌∙◌, ap}
use Rattle.std.proofs.lemmas.Bool.{cond-true, cond-false, cond_both}
use Rattle.std.proofs.Math.Bool.{true≢false}
use Rattle.world.specs.declared.entry.Entry.{Entry}
use Rattle.cell_core.specs.declared.event.Event.{Event}
use Rattle.cell_core.specs.declared.event.Event.TheVariants as event
use Rattle.cell_core.specs.declared.machine.Core.{Core}
use Rattle.cell_core.specs.Acts.{awaits_saved, has_stopped, heard}
use Rattle.run_journal.specs.Job.{Job}
use Rattle.run_journal.specs.Parts.{is_acknowledging}
use Rattle.run_journal.specs.Course.{Course, course, tell, events_at, late_then}
use Rattle.job_journal.specs.Told.{Hears, SameTold, IsToldBut}

abbrev stops : Job → List Event → Bool
stops j told = has_stopped j.task (heard j.task told)

tell_by : (j : Job) (P : Course → Type 0) (told late : List Event) (e : Event) (es : List Event)
    → (stops j told ≡ true → P (record { told = told; held = []; late = []; unheard = e ∷ es }))
    → (stops j told ≡ false → awaits_saved j.task told ≡ true → P (record { told = told; held = e ∷ es; late = late; unheard = [] }))
    → (stops j told ≡ false → awaits_saved j.task told ≡ false → P (tell j (e ∷ told) late es)) → P (tell j told late (e ∷ es))
tell_by j P told late e es stopped waits goes_on =
    cond_both (stops j told) (record { told = told; held = []; late = []; unheard = e ∷ es })
    (cond (awaits_saved j.task told) (record { told = told; held = e ∷ es; late = late; unheard = [] }) (tell j (e ∷ told) late es)) P stopped
    (λ h. cond_both (awaits_saved j.task told) (record { told = told; held = e ∷ es; late = late; unheard = [] }) (tell j (e ∷ told) late es) P (waits h) (goes_on h))

told_one : (j : Job) (told late : List Event) (e : Event) (es : List Event) → stops j told ≡ false → awaits_saved j.task told ≡ false
    → tell j told late (e ∷ es) ≡ tell j (e ∷ told) late es
told_one j told late e es s a = cond-false (stops j told) _ _ s ∙ cond-false (awaits_saved j.task told) _ _ a

held_back : (j : Job) (told late : List Event) (es : List Event) → stops j told ≡ false → awaits_saved j.task told ≡ true
    → tell j told late es ≡ record { told = told; held = es; late = late; unheard = [] }
held_back j told late [] s a = refl
held_back j told late (e ∷ es) s a = cond-false (stops j told) _ _ s ∙ cond-true (awaits_saved j.task told) _ _ a

-- ---- courses that have told and hold the same

same_refl : (c : Course) → SameTold c c
same_refl c = record { told = refl; held = refl }

same_then : {c d e : Course} → SameTold c d → SameTold d e → SameTold c e
same_then p q = record { told = p.told ∙ q.told; held = p.held ∙ q.held }

same_is : {c d : Course} → c ≡ d → SameTold c d
same_is e = record { told = ap (λ v. v.told) e; held = ap (λ v. v.held) e }

same_sym : {c d : Course} → SameTold c d → SameTold d c
same_sym p = record { told = sym p.told; held = sym p.held }

-- after a stop nothing is told
stopped_told : (j : Job) (told late : List Event) (es : List Event) → stops j told ≡ true
    → SameTold (tell j told late es) (record { told = told; held = []; late = late; unheard = [] })
stopped_told j told late [] s = same_refl _
stopped_told j told late (e ∷ es) s =
    tell_by j (λ c. SameTold c (record { told = told; held = []; late = late; unheard = [] })) told late e es
    (λ h. record { told = refl; held = refl }) (λ h k. absurd (true≢false (sym s ∙ h))) (λ h k. absurd (true≢false (sym s ∙ h)))

more : (j : Job) (told late later pending es : List Event)
    → SameTold (tell j (tell j told late pending).told later ((tell j told late pending).held ++ es)) (tell j told later (pending ++ es))
more j told late later [] es = same_refl _
more j told late later (e ∷ pending) es =
    tell_by j (λ c. SameTold (tell j c.told later (c.held ++ es)) (tell j told later (e ∷ (pending ++ es)))) told late e pending
    (λ h. same_then (stopped_told j told later es h) (same_sym (stopped_told j told later (e ∷ (pending ++ es)) h)))
    (λ h k. same_refl _)
    (λ h a. same_then (more j (e ∷ told) late later pending es) (same_sym (same_is (told_one j told later e (pending ++ es) h a))))

-- what is made of courses that have told and hold the same
alike : (j : Job) (c d : Course) (late es : List Event) → SameTold c d → tell j c.told late (c.held ++ es) ≡ tell j d.told late (d.held ++ es)
alike j c d late es p = ap (λ v. tell j v late (c.held ++ es)) p.told ∙ ap (λ v. tell j d.told late (v ++ es)) p.held

-- what waits for a look changes nothing of what is told
late_free : (j : Job) (told late later es : List Event) → SameTold (tell j told late es) (tell j told later es)
late_free j told late later [] = record { told = refl; held = refl }
late_free j told late later (e ∷ es) =
    tell_by j (λ c. SameTold c (tell j told later (e ∷ es))) told late e es
    (λ h. same_sym (same_is (cond-true (stops j told) _ _ h)))
    (λ h k. same_sym (same_then (same_is (held_back j told later (e ∷ es) h k)) (record { told = refl; held = refl })))
    (λ h k. same_then (late_free j (e ∷ told) late later es) (same_sym (same_is (told_one j told later e es h k))))

-- ---- the four facts

-- a pending event is told, where no save is awaited
pub told_next : (j : Job) (core next : Core) (e : Event) (es : List Event) (now : List Entry) (t : IsToldBut j core (e ∷ es) now)
    → awaits_saved j.task t.told ≡ false → Hears j next (e ∷ t.told) → IsToldBut j next es now
told_next j core next e es now t a h = record {
  told = e ∷ t.told;
  hears = h;
  is = λ late. same_then (t.is late) (same_is (told_one j t.told late e es t.hears.goes_on a));
}

-- an entry that acknowledges nothing adds what it gives
pub entry_adds : (j : Job) (core : Core) (pending : List Event) (entry : Entry) (past : List Entry) → is_acknowledging j (entry ∷ past) ≡ false
    → IsToldBut j core pending past → IsToldBut j core (pending ++ events_at j entry past (course j past).late) (entry ∷ past)
entry_adds j core pending entry past none t =
    let l = late_then j entry past (course j past).late in
    let es = events_at j entry past (course j past).late in
    record {
      told = t.told;
      hears = t.hears;
      is = λ late. same_then (same_is (
          ap (λ v. tell j v l ((course j past).held ++ es)) (cond-false (is_acknowledging j (entry ∷ past)) (event.Saved ∷ (course j past).told) (course j past).told none)
          ∙ alike j (course j past) (tell j t.told l pending) l es (t.is l)))
          (same_then (more j t.told l l pending es) (late_free j t.told l late (pending ++ es)));
    }

-- an acknowledgement that is awaited is told before what is pending
pub saved_adds : (j : Job) (core next : Core) (pending : List Event) (entry : Entry) (past : List Entry) → is_acknowledging j (entry ∷ past) ≡ true
    → (t : IsToldBut j core pending past) → awaits_saved j.task t.told ≡ true → Hears j next (event.Saved ∷ t.told)
    → IsToldBut j next (pending ++ events_at j entry past (course j past).late) (entry ∷ past)
saved_adds j core next pending entry past is t a h =
    let l = late_then j entry past (course j past).late in
    let es = events_at j entry past (course j past).late in
    record {
      told = event.Saved ∷ t.told;
      hears = h;
      is = λ late. same_then (same_is (
          ap (λ v. tell j v l ((course j past).held ++ es)) (cond-true (is_acknowledging j (entry ∷ past)) (event.Saved ∷ (course j past).told) (course j past).told is)
          ∙ ap (λ v. tell j (event.Saved ∷ v) l ((course j past).held ++ es)) ((t.is l).told ∙ ap (λ c. c.told) (held_back j t.told l pending t.hears.goes_on a))
          ∙ ap (λ v. tell j (event.Saved ∷ t.told) l (v ++ es)) ((t.is l).held ∙ ap (λ c. c.held) (held_back j t.told l pending t.hears.goes_on a))))
          (late_free j (event.Saved ∷ t.told) l late (pending ++ es));
    }

-- where nothing is pending the core was told the course, and nothing is held
pub told_whole : (j : Job) (core : Core) (now : List Entry) (t : IsToldBut j core [] now) → ((course j now).told ≡ t.told) × ((course j now).held ≡ [])
told_whole j core now t = ((t.is []).told, (t.is []).held)

-- before anything is told and before any entry the course is told
pub told_first : (j : Job) (core : Core) → Hears j core [] → IsToldBut j core [] []
told_first j core h = record { told = []; hears = h; is = λ late. record { told = refl; held = refl } }
