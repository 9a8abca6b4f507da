-- What earlier moments have of clocks, starts and interrupts.
use Rattle.std.proofs.Common.{◌≡◌, ◌⊎◌, inl, inr, ℕ, ◌+◌, ◌<◌, ◌≤◌, List, [], ◌∷◌, length, map, Bool, true, false, ◌&&◌, not, Option, Some, None, refl, sym, ◌∙◌, ap, subst, arith}
use Rattle.std.specs.Prelude.{is_some, option_map, slice_get, nat_le, if◌then◌else◌}
use Rattle.std.proofs.lemmas.Bool.{and_parts, or_left, or_right, cond-true, cond-false, cases_Bool, leb-true, le-leb, not-true, or_from, or_cases}
use Rattle.std.proofs.lemmas.Option.{same_Some}
use Rattle.world.specs.declared.chan.Chan.TheVariants.{Shell, Iopub}
use Rattle.world.specs.declared.entry.Entry.{Entry}
use Rattle.world.specs.Places.{time}
use Rattle.world.specs.Waits.{has_wait, before_wait, moment_of}
use Rattle.run_journal.specs.Job.{Job}
use Rattle.run_journal.specs.Parts.{turn_clock}
use Rattle.run_journal.specs.Arrivals.{arrive, ask_state, is_ready}
use Rattle.run_journal.specs.Looks.{is_look, ever, is_lost, is_at_least, is_past}
use Rattle.run_journal.specs.Requests.{Request, reply, or_later, first_clock, before_clock, just_ran_out, deadline, is_just_out, is_broken, is_interrupted, with_news, fresh, count_queued, goes_on, requests}
use Rattle.run_journal.specs.Why.{child_clock, starts}
use Rattle.run_journal.specs.Due.{all_along}
use Rattle.run_journal.specs.Grow.{GoesOn}
use Rattle.run_journal.specs.Agreement.{rises}
use Rattle.run_journal.proofs.Growth.{goes, goes_self, ready_stays}
use Rattle.run_journal.proofs.Running.{first_kept}
use Rattle.run_journal.proofs.Turning.{moment_time, still}
use Rattle.run_journal.proofs.Lapse.{Before, here, earlier, ever_before, clock_from, first_before}
use Rattle.run_journal.proofs.Earlier.{CameBy, stood, anew, came_by, Was, goes_then}
use Rattle.run_journal.proofs.Interrupting.{interrupted_parts}
use Rattle.run_journal.proofs.Truths.{not_both, too_late}

-- ---- moments

pub ready_before : (j : Job) {q past : List Entry} → Before q past → is_ready j q ≡ true → is_ready j past ≡ true
ready_before j here e = e
ready_before j {q} (earlier {past} entry b) e = ready_stays j entry past (ready_before j b e)

pub child_before : (j : Job) {q past : List Entry} → Before q past → is_some (child_clock j q) ≡ true → child_clock j past ≡ child_clock j q
child_before j here e = refl
child_before j {q} (earlier {past} entry b) e =
    let same = child_before j b e in
    first_kept (child_clock j past) (if starts j entry then Some (time past) else None) (ap (λ (o : Option ℕ). is_some o) same ∙ e) ∙ same

pub least_past : (c d : ℕ) → c ≤ d → (o : Option ℕ) → is_at_least d o ≡ true → is_at_least c o ≡ true
least_past c d h None e = cc
least_past c d h (Some ms) e = let g = leb-true d ms e in le-leb c ms (omega (arith, h, g))

pub ever_past : (c d : ℕ) → c ≤ d → (past : List Entry) → ever (is_past d) past ≡ true → ever (is_past c) past ≡ true
ever_past c d h [] e = cc
ever_past c d h (entry ∷ past) e = elim (or_cases (is_past d (entry ∷ past)) (ever (is_past d) past) e) [
  | inl f ↦ or_left (is_past c (entry ∷ past)) (ever (is_past c) past) (least_past c d h (turn_clock (entry ∷ past)) f)
  | inr f ↦ or_right (is_past c (entry ∷ past)) (ever (is_past c) past) (ever_past c d h past f)
]

module _ (d : ℕ) where
  -- the first clock entry is one
  pub first_least : (past : List Entry) (ms : ℕ) → first_clock d past ≡ Some ms → d ≤ ms
  first_least [] ms e = cc
  first_least (entry ∷ past) ms e = by (λ x. first_least past ms x) (first_clock d past) refl
    where
      new : (o : Option ℕ) → (if is_at_least d o then o else None) ≡ Some ms → d ≤ ms
      new None f = cc
      new (Some t) f = by_test (nat_le d t) refl f
        where
          by_test : (b : Bool) → nat_le d t ≡ b → (if b then Some t else None) ≡ Some ms → d ≤ ms
          by_test true g f = subst (λ n. d ≤ n) (same_Some _ _ f) (leb-true d t g)
          by_test false g f = cc

      by : (first_clock d past ≡ Some ms → d ≤ ms) → (o : Option ℕ) → first_clock d past ≡ o → d ≤ ms
      by ih (Some x) f = ih (f ∙ sym (ap (λ v. or_later v (if is_past d (entry ∷ past) then turn_clock (entry ∷ past) else None)) f) ∙ e)
      by ih None f = new (turn_clock (entry ∷ past)) (sym (ap (λ v. or_later v (if is_past d (entry ∷ past) then turn_clock (entry ∷ past) else None)) f) ∙ e)

  -- it stands before the last clock entry, or is that
  pub first_last : (past : List Entry) (ms : ℕ) → first_clock d past ≡ Some ms → (is_some (first_clock d (before_clock past)) ≡ true) ⊎ (time past ≡ ms)
  first_last [] ms e = cc
  first_last (entry ∷ past) ms e = by (λ x. first_last past ms x) (moment_of entry) refl
    where
      newest : (t : ℕ) → moment_of entry ≡ Some t → (o : Option ℕ) → first_clock d past ≡ o → (is_some (first_clock d (before_clock (entry ∷ past))) ≡ true) ⊎ (time (entry ∷ past) ≡ ms)
      newest t f (Some x) g = inl (ap (λ (o : Option ℕ). is_some (first_clock d (if is_some o then past else before_clock past))) f ∙ ap (λ (o : Option ℕ). is_some o) g)
      newest t f None g = inr (moment_time entry past t f ∙ one (has_wait past) (sym (ap (λ o. or_later o (if is_past d (entry ∷ past) then turn_clock (entry ∷ past) else None)) g) ∙ e))
        where
          test : (b : Bool) → (if b then Some t else None) ≡ Some ms → t ≡ ms
          test true i = cc
          test false i = cc

          at_moment : (o : Option ℕ) → o ≡ Some t → (if is_at_least d o then o else None) ≡ Some ms → t ≡ ms
          at_moment None i l = cc
          at_moment (Some x) i l = subst (λ n. (if nat_le d n then Some n else None) ≡ Some ms → t ≡ ms) (sym (same_Some _ _ i)) (test (nat_le d t)) l

          one : (w : Bool) → (if is_at_least d (if w then moment_of entry else None) then (if w then moment_of entry else None) else None) ≡ Some ms → t ≡ ms
          one true l = at_moment (moment_of entry) f l
          one false l = cc

      by : (first_clock d past ≡ Some ms → (is_some (first_clock d (before_clock past)) ≡ true) ⊎ (time past ≡ ms)) → (o : Option ℕ) → moment_of entry ≡ o → (is_some (first_clock d (before_clock (entry ∷ past))) ≡ true) ⊎ (time (entry ∷ past) ≡ ms)
      by ih (Some t) f = newest t f (first_clock d past) refl
      by ih None f =
          let s = still d entry past f in
          elim (ih (sym s.first ∙ e)) [
            | inl g ↦ inl (ap (λ v. is_some (first_clock d v)) s.before ∙ g)
            | inr g ↦ inr (s.clock ∙ g)
          ]

  clock_was : (past : List Entry) → Before (before_clock past) past
  clock_was [] = here
  clock_was (entry ∷ past) = elim (cases_Bool (is_some (moment_of entry))) [
    | inl f ↦ subst (λ v. Before v (entry ∷ past)) (sym (cond-true (is_some (moment_of entry)) past (before_clock past) f)) (earlier entry here)
    | inr f ↦ subst (λ v. Before v (entry ∷ past)) (sym (cond-false (is_some (moment_of entry)) past (before_clock past) f)) (earlier entry (clock_was past))
  ]

  -- more clock entries don't change that
  two_more : {q past : List Entry} → Before q past → is_some (first_clock d (before_clock q)) ≡ true → is_some (first_clock d (before_clock past)) ≡ true
  two_more here e = e
  two_more {q} (earlier {past} entry b) e = by (two_more b e) (cases_Bool (is_some (moment_of entry)))
    where
      by : is_some (first_clock d (before_clock past)) ≡ true → (is_some (moment_of entry) ≡ true) ⊎ (is_some (moment_of entry) ≡ false) → is_some (first_clock d (before_clock (entry ∷ past))) ≡ true
      by was (inl f) = ap (λ v. is_some (first_clock d v)) (cond-true (is_some (moment_of entry)) past (before_clock past) f) ∙ ap (λ (o : Option ℕ). is_some o) (first_before d (clock_was past) was) ∙ was
      by was (inr f) = ap (λ v. is_some (first_clock d v)) (cond-false (is_some (moment_of entry)) past (before_clock past) f) ∙ was

-- an interrupt that is queued now was queued before a second clock entry past the deadline
pub flagged_before : (j : Job) (c d : ℕ) {q past : List Entry} → Before q past → all_along rises past ≡ true → ever (is_past d) q ≡ true → is_some (first_clock c (before_clock q)) ≡ true → (i : ℕ) (r : Request)
    → slice_get (requests j past) i ≡ Some r → r.clock < d → deadline j r ≡ Some c → r.interrupted ≡ true → (w : Was j q i r) × (w.old.interrupted ≡ true)
flagged_before j c d here e f two i r g l dead int = (record { old = r; stands = g; on = goes_self r }, int)
flagged_before j c d {q} (earlier {past} entry b) e f two i r g l dead int = by (λ o x y z w. flagged_before j c d b p.1 f two i o x y z w) (came_by j entry past i r g)
  where
    p : (rises (entry ∷ past) ≡ true) × (all_along rises past ≡ true)
    p = and_parts (rises (entry ∷ past)) (all_along rises past) e

    not_now : (v : Request) → deadline j v ≡ Some c → is_interrupted j (entry ∷ past) v ≡ true → ⊥
    not_now v x y =
        let z : just_ran_out j c (entry ∷ past) ≡ true = sym (ap (is_just_out j (entry ∷ past)) x) ∙ interrupted_parts j (entry ∷ past) v y in
        not_both (is_some (first_clock c (before_clock (entry ∷ past)))) (two_more c (earlier entry b) two)
        (not-true (is_some (first_clock c (before_clock (entry ∷ past)))) (and_parts (is_look j (entry ∷ past) && is_some (first_clock c (before_wait (entry ∷ past)))) (not (is_some (first_clock c (before_clock (entry ∷ past))))) z).1)

    by : ((o : Request) → slice_get (requests j past) i ≡ Some o → o.clock < d → deadline j o ≡ Some c → o.interrupted ≡ true → (w : Was j q i o) × (w.old.interrupted ≡ true)) → CameBy j entry past i r
        → (w : Was j q i r) × (w.old.interrupted ≡ true)
    by ih (stood o s n) =
        let at : o.clock ≡ r.clock = ap (λ (v : Request). v.clock) (sym n) in
        let on = goes j entry past o in
        let dead_o : deadline j o ≡ Some c = ap (λ t. option_map (λ limit. t + limit) j.task.times.limit_ms) at ∙ dead in
        let flag : o.interrupted ≡ true = elim (or_cases o.interrupted _ (ap (λ (v : Request). v.interrupted) (sym n) ∙ int)) [
          | inl x ↦ x
          | inr x ↦ absurd (not_now _ dead_o x)
        ] in
        let w = ih o s (subst (λ t. t < d) (sym at) l) dead_o flag in
        (record { old = w.0.old; stands = w.0.stands; on = subst (GoesOn w.0.old) (sym n) (goes_then w.0.on on) }, w.1)
    by ih (anew n) = absurd (too_late d (time past) r.clock (clock_from d past p.1 (ever_before (is_past d) b f)) (ap (λ (v : Request). v.clock) n) l)

-- no interrupt is queued where none is asked for
pub uninterrupted : (j : Job) → j.task.times.interrupt ≡ false → (past : List Entry) (i : ℕ) (r : Request) → slice_get (requests j past) i ≡ Some r → r.interrupted ≡ false
unfolding is_interrupted
uninterrupted j e [] i r g = cc
uninterrupted j e (entry ∷ past) i r g = by (λ o x. uninterrupted j e past i o x) (came_by j entry past i r g)
  where
    no : (v : Request) → is_interrupted j (entry ∷ past) v ≡ false
    no v = ap (λ b. b && not (is_some (reply v)) && is_just_out j (entry ∷ past) (deadline j v) && not (is_broken j (entry ∷ past)) && not (is_lost j (entry ∷ past))) e

    by : ((o : Request) → slice_get (requests j past) i ≡ Some o → o.interrupted ≡ false) → CameBy j entry past i r → r.interrupted ≡ false
    by ih (stood o s n) = ap (λ (v : Request). v.interrupted) n ∙ or_from o.interrupted _ (ih o s) (no (with_news j o (arrive j Iopub entry past) (arrive j Shell entry past) (time past)))
    by ih (anew n) = ap (λ (v : Request). v.interrupted) n ∙ no (fresh (count_queued (length (ask_state j (entry ∷ past)).ids) (map (goes_on j entry past) (requests j past)) + 1) (time past))
