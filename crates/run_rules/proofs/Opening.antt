-- A loss waits only for the end of an open look.
use Rattle.std.proofs.Common.{◌≡◌, ◌⊎◌, inl, inr, List, [], ◌∷◌, ◌++◌, true, false, ◌&&◌, ◌||◌, not, refl, ◌∙◌, ap}
use Rattle.std.proofs.Math.Bool.{and-false}
use Rattle.std.proofs.lemmas.Bool.{and_from, and_parts, cases_Bool, cond-false, cond-true, not-true, not_from_false, or_cases, or_right}
use Rattle.world.specs.declared.entry.Entry.{Entry}
use Rattle.world.specs.Waits.{before_wait, has_wait, is_wait}
use Rattle.cell_core.specs.declared.event.Event.{Event}
use Rattle.cell_core.specs.declared.event.Event.TheVariants as event
use Rattle.cell_core.specs.Acts.{is_empty_list}
use Rattle.run_journal.specs.Job.{Job}
use Rattle.run_journal.specs.Looks.{is_look, shows_lost}
use Rattle.run_journal.specs.Due.{all_along}
use Rattle.run_journal.specs.Awake.{is_called_for}
use Rattle.run_journal.specs.Course.{course, ends_look, events_at, in_look, is_late, late_then, tell, told_saved, when_so}
use Rattle.run_journal.specs.Agreement.{EndsLooks, ends_looks}
use Rattle.run_journal.proofs.Finding.{wait_shows_none}
use Rattle.run_journal.proofs.Flowing.{tell_by}
use Rattle.run_journal.proofs.Telling.{empty_is}
use Rattle.run_journal.proofs.Truths.{not_both}

-- no look at the job is open: none was called for at the last wait, or it is done
abbrev pub IsShut : Job → List Entry → Type 0
IsShut j past = in_look j past ≡ true → is_look j past ≡ true

-- what is told leaves nothing late where nothing was
none_left : (j : Job) (told es : List Event) → (tell j told [] es).late ≡ []
none_left j told [] = refl
none_left j told (e ∷ es) = tell_by (λ c. c.late ≡ []) j told [] e es (λ h. refl) refl (none_left j (e ∷ told) es)

module _ (j : Job) (entry : Entry) (past : List Entry) (s : EndsLooks j (entry ∷ past)) (ih : IsShut j past → (course j past).late ≡ []) (now : IsShut j (entry ∷ past)) where
  -- nothing was late before, and nothing is now
  abbrev AreNone : Type 0
  AreNone = ((course j past).late ≡ []) × (is_late j entry past ≡ false)

  at_wait : is_wait entry ≡ true → AreNone
  at_wait w = (
    by (or_cases (not (is_wait entry)) (is_empty_list (course j past).late) (and_parts (ends_looks j (entry ∷ past)) (all_along (ends_looks j) past) s).0),
    ap (λ b. (b && in_look j past) && not (is_look j past)) (wait_shows_none j entry past w),
  )
    where
      by : (not (is_wait entry) ≡ true) ⊎ (is_empty_list (course j past).late ≡ true) → (course j past).late ≡ []
      by (inl n) = absurd (not_both (is_wait entry) w (not-true (is_wait entry) n))
      by (inr e) = empty_is (course j past).late e

  unasked : in_look j past ≡ false → AreNone
  unasked f = (
    ih (λ y. absurd (not_both (in_look j past) y f)),
    ap (λ b. (shows_lost j (entry ∷ past) && b) && not (is_look j past)) f ∙ ap (λ b. b && not (is_look j past)) (and-false (shows_lost j (entry ∷ past))),
  )

  asked : is_wait entry ≡ false → in_look j past ≡ true → ends_look j entry past ≡ false → AreNone
  asked w f n = (
    ih (λ y. done),
    ap (λ b. (shows_lost j (entry ∷ past) && in_look j past) && not b) done ∙ and-false (shows_lost j (entry ∷ past) && in_look j past),
  )
    where
      still : in_look j (entry ∷ past) ≡ true
      still = ap (λ b. (b || has_wait past) && is_called_for j (before_wait (entry ∷ past))) w ∙ ap (λ at. has_wait past && is_called_for j at) (cond-false (is_wait entry) past (before_wait past) w) ∙ f

      done : is_look j past ≡ true
      done = elim (cases_Bool (is_look j past)) [
        | inl y ↦ y
        | inr y ↦ absurd (not_both (ends_look j entry past)
            (and_from (in_look j (entry ∷ past) && is_look j (entry ∷ past)) (is_wait entry || not (is_look j past))
            (and_from (in_look j (entry ∷ past)) (is_look j (entry ∷ past)) still (now still)) (or_right (is_wait entry) (not (is_look j past)) (not_from_false (is_look j past) y))) n)
      ]

  none_late : ends_look j entry past ≡ false → AreNone
  none_late n = elim (cases_Bool (is_wait entry)) [
    | inl w ↦ at_wait w
    | inr w ↦ elim (cases_Bool (in_look j past)) [
      | inl f ↦ asked w f n
      | inr f ↦ unasked f
    ]
  ]

  then_none : late_then j entry past (course j past).late ≡ []
  then_none = elim (cases_Bool (ends_look j entry past)) [
    | inl y ↦ cond-true (ends_look j entry past) [] _ y
    | inr y ↦
        let a = none_late y in
        cond-false (ends_look j entry past) [] _ y
        ∙ ap (λ late. late ++ when_so (is_late j entry past) event.Lost) a.0
        ∙ ap (λ b. when_so b event.Lost) a.1
  ]

  late_next : (course j (entry ∷ past)).late ≡ []
  late_next =
      let told = told_saved j entry past (course j past).told in
      let es = (course j past).held ++ events_at j entry past (course j past).late in
      ap (λ late. (tell j told late es).late) then_none ∙ none_left j told es

-- where no look is open nothing waits for its end
pub shut_late : (j : Job) (past : List Entry) → EndsLooks j past → IsShut j past → (course j past).late ≡ []
shut_late j [] s now = refl
shut_late j (entry ∷ past) s now = late_next j entry past s (shut_late j past (and_parts (ends_looks j (entry ∷ past)) (all_along (ends_looks j) past) s).1) now
