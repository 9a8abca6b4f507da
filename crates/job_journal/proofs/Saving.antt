-- The save that the core asks for next is the journal's, of what was used for the requests.
use Rattle.std.proofs.Common.{◌≡◌, inl, inr, ℕ, zero, suc, ◌+◌, ◌<◌, ◌≤◌, List, [], ◌∷◌, ◌++◌, length, map, Bool, true, false, ◌&&◌, ◌||◌, not, cond, Option, Some, None, refl, sym, ◌∙◌, ap, subst, arith, append_assoc, length-append}
use Rattle.std.specs.Prelude.{◌==◌, nat_lt, slice_get, slice_index, drop}
use Rattle.std.proofs.Math.Bool.{true≢false, and-true}
use Rattle.std.proofs.lemmas.Bool.{and_parts, cond-true, cond-false, cond_both, cases_Bool, eqb-true, lt-ltb, false_from_ne_true}
use Rattle.std.proofs.lemmas.Option.{same_Some}
use Rattle.std.proofs.lemmas.List.{length-map, nil_from_length}
use Rattle.world.specs.declared.entry.Entry.{Entry}
use Rattle.cell_core.specs.declared.event.Event.{Event}
use Rattle.cell_core.specs.declared.act.Act.{Act}
use Rattle.cell_core.specs.declared.act.Act.TheVariants as act
use Rattle.cell_core.specs.declared.event.Event.TheVariants as event
use Rattle.cell_core.specs.declared.why.Why.{Why}
use Rattle.cell_core.specs.Acts.{act_at, act_by, act_of, answers, due_at, has_stopped, heard, is_empty_list, is_late, is_queued_now, last_asked}
use Rattle.cell_core.specs.Deadlines.{first_deadline}
use Rattle.cell_core.specs.Holds.{is_save}
use Rattle.cell_core.specs.Requests as core
use Rattle.cell_core.specs.Saves as core_saves
use Rattle.cell_core.specs.Task.{Task, cell_of}
use Rattle.cell_core.specs.Events as events
use Rattle.out_fold.specs.declared.used.Used.{Used}
use Rattle.run_journal.specs.Job.{Job}
use Rattle.run_journal.specs.Parts.{saves_of}
use Rattle.run_journal.specs.Requests.{Request, is_last_passed, is_passed, requests, use_of, used_of}
use Rattle.run_journal.specs.Why.{are_acked, plain_count, plan_end}
use Rattle.run_journal.specs.Saves.{Save, closing, is_complete, last_cell, passes, run_saves, save, settled_by, stop_save, stopping}
use Rattle.run_journal.specs.Grow.{ArePassed}
use Rattle.run_journal.specs.Agreement.{Agrees}
use Rattle.run_journal.proofs.Growth.{no_stop}
use Rattle.run_journal.proofs.Agreeing.{last_at, passed_agrees}
use Rattle.run_journal.proofs.Asking.{Stands, nothing, last, stands, passes_same, done_same}
use Rattle.run_journal.proofs.Safety.{all_but_last, few_requests}
use Rattle.run_journal.proofs.Keeping.{unstopped_heard}
use Rattle.job_journal.specs.Saved.{save_of, IsAsked}

-- ---- two lists of saves

-- From this number on, each save of the second list is that of the first one's, of what was used.
abbrev Match : Job → List Used → ℕ → List core_saves.Prefix → List Save → Type 0
Match j us n [] [] = Unit {0}
Match j us n [] (s ∷ ss) = ⊥
Match j us n (p ∷ ps) [] = ⊥
Match j us zero (p ∷ ps) (s ∷ ss) = (s ≡ save_of j us p) × Match j us zero ps ss
Match j us (suc n) (p ∷ ps) (s ∷ ss) = Match j us n ps ss

match_append : (j : Job) (us : List Used) (n : ℕ) (ps qs : List core_saves.Prefix) (ss ts : List Save) → n ≤ length ps → Match j us n ps ss → Match j us zero qs ts
    → Match j us n (ps ++ qs) (ss ++ ts)
match_append j us zero [] qs [] ts h m k = k
match_append j us (suc n) [] qs [] ts h m k = absurd (omega (arith, h))
match_append j us n [] qs (s ∷ ss) ts h m k = absurd m
match_append j us n (p ∷ ps) qs [] ts h m k = absurd m
match_append j us zero (p ∷ ps) qs (s ∷ ss) ts h m k = (m.0, match_append j us zero ps qs ss ts (omega arith) m.1 k)
match_append j us (suc n) (p ∷ ps) qs (s ∷ ss) ts h m k = match_append j us n ps qs ss ts (omega (arith, h)) m k

match_at : (j : Job) (us : List Used) (n i : ℕ) (ps : List core_saves.Prefix) (ss : List Save) (p : core_saves.Prefix) → n ≤ i → Match j us n ps ss
    → slice_get ps i ≡ Some p → slice_get ss i ≡ Some (save_of j us p)
match_at j us n i [] ss p h m e = cc
match_at j us n i (q ∷ ps) [] p h m e = absurd m
match_at j us zero zero (q ∷ ps) (s ∷ ss) p h m e = ap (λ x. Some x) (m.0 ∙ ap (save_of j us) (same_Some _ _ e))
match_at j us (suc n) zero (q ∷ ps) (s ∷ ss) p h m e = absurd (omega (arith, h))
match_at j us zero (suc i) (q ∷ ps) (s ∷ ss) p h m e = match_at j us zero i ps ss p (omega arith) m.1 e
match_at j us (suc n) (suc i) (q ∷ ps) (s ∷ ss) p h m e = match_at j us n i ps ss p (omega (arith, h)) m e

match_length : (j : Job) (us : List Used) (n : ℕ) (ps : List core_saves.Prefix) (ss : List Save) → Match j us n ps ss → length ps ≡ length ss
match_length j us n [] [] m = refl
match_length j us n [] (s ∷ ss) m = absurd m
match_length j us n (p ∷ ps) [] m = absurd m
match_length j us zero (p ∷ ps) (s ∷ ss) m = ap suc (match_length j us zero ps ss m.1)
match_length j us (suc n) (p ∷ ps) (s ∷ ss) m = ap suc (match_length j us n ps ss m)

-- ---- the saves of passed requests

-- the save of a passed request that settles so many cells
abbrev plain : ℕ → core_saves.Prefix
plain n = record { settled = n; stopping_cell = None }

abbrev settles : List core_saves.Prefix → List ℕ
settles ps = map (λ (p : core_saves.Prefix). p.settled) ps

plain_append : (ps qs : List core_saves.Prefix) → map plain (settles ps) ≡ ps → map plain (settles qs) ≡ qs → map plain (settles (ps ++ qs)) ≡ ps ++ qs
plain_append [] qs e f = f
plain_append (p ∷ ps) qs e f =
    let h : plain p.settled ≡ p = same_first e in
    let t : map plain (settles ps) ≡ ps = same_rest e in
    ap (λ x. x ∷ map plain (settles (ps ++ qs))) h ∙ ap (λ v. p ∷ v) (plain_append ps qs t f)
  where
    same_first : {x y : core_saves.Prefix} {xs ys : List core_saves.Prefix} → x ∷ xs ≡ y ∷ ys → x ≡ y
    same_first e = cc

    same_rest : {x y : core_saves.Prefix} {xs ys : List core_saves.Prefix} → x ∷ xs ≡ y ∷ ys → xs ≡ ys
    same_rest e = cc

plain_by : (b : Bool) (n : ℕ) → map plain (settles (cond b (plain n ∷ []) [])) ≡ cond b (plain n ∷ []) []
plain_by true n = refl
plain_by false n = refl

-- the core's saves of passed requests have no stopping cell
all_plain : (task : Task) (k : ℕ) (told : List Event) → map plain (settles (core_saves.passes task k told)) ≡ core_saves.passes task k told
all_plain task zero told = refl
all_plain task (suc k) told =
    plain_append (core_saves.passes task k told) _ (all_plain task k told) (plain_by (core.is_passed_in (core.after task k told)) (cell_of task k + 1))

used_none : (plan : List ℕ) → used_of plan [] ≡ []
used_none [] = refl
used_none (i ∷ plan) = refl

passes_none : (j : Job) (front : List Used) (k : ℕ) (plan : List ℕ) → passes j front k plan [] ≡ []
passes_none j front k [] = refl
passes_none j front k (i ∷ plan) = refl

-- the save of the last request, where it is passed, is of all that was used
passes_match : (j : Job) (front : List Used) (k : ℕ) (plan : List ℕ) (rs : List Request) (m : ℕ) → length rs ≡ suc m → length rs ≤ length plan → ArePassed j k rs
    → Match j (front ++ used_of plan rs) m (map plain (settled_by (passes j front k plan rs))) (passes j front k plan rs)
passes_match j front k plan [] m e h a = cc
passes_match j front k [] (r ∷ rs) m e h a = absurd (omega (arith, h))
passes_match j front k (i ∷ plan) (r ∷ []) zero e h a =
    let us : List Used = front ++ use_of i r ∷ [] in
    subst (λ v. Match j (front ++ use_of i r ∷ v) zero (map plain (settled_by (passes j front k (i ∷ plan) (r ∷ [])))) (passes j front k (i ∷ plan) (r ∷ []))) (sym (used_none plan))
    (subst (λ v. Match j us zero (map plain (settled_by (cond (is_passed j k r) (save j us (i + 1) None ∷ v) []))) (cond (is_passed j k r) (save j us (i + 1) None ∷ v) []))
    (sym (passes_none j us (k + 1) plan))
    (cond_both (is_passed j k r) (save j us (i + 1) None ∷ []) [] (λ ss. Match j us zero (map plain (settled_by ss)) ss) (λ f. (refl, tt)) (λ f. tt)))
passes_match j front k (i ∷ plan) (r ∷ []) (suc m) e h a = cc
passes_match j front k (i ∷ plan) (r ∷ s ∷ rs) zero e h a = absurd (omega (arith, e))
passes_match j front k (i ∷ plan) (r ∷ s ∷ rs) (suc m) e h a =
    let us : List Used = front ++ use_of i r ∷ [] in
    let rest : List Save = passes j us (k + 1) plan (s ∷ rs) in
    let all : List Used = front ++ use_of i r ∷ used_of plan (s ∷ rs) in
    subst (λ ss. Match j all (suc m) (map plain (settled_by ss)) ss) (sym (cond-true (is_passed j k r) (save j us (i + 1) None ∷ rest) [] a.0))
    (subst (λ v. Match j v m (map plain (settled_by rest)) rest) (append_assoc front (use_of i r ∷ []) (used_of plan (s ∷ rs)))
    (passes_match j us (k + 1) plan (s ∷ rs) m (omega (arith, e)) (omega (arith, h)) a.1))

-- with the first save there is one for each request but the last, at least
few_saves : (j : Job) (front : List Used) (k : ℕ) (plan : List ℕ) (rs : List Request) → length rs ≤ length plan → ArePassed j k rs
    → length rs ≤ suc (length (passes j front k plan rs))
few_saves j front k plan [] h a = omega arith
few_saves j front k plan (r ∷ []) h a = omega arith
few_saves j front k [] (r ∷ s ∷ rs) h a = absurd (omega (arith, h))
few_saves j front k (i ∷ plan) (r ∷ s ∷ rs) h a =
    let rest : List Save = passes j (front ++ use_of i r ∷ []) (k + 1) plan (s ∷ rs) in
    let more : length (s ∷ rs) ≤ suc (length rest) = few_saves j (front ++ use_of i r ∷ []) (k + 1) plan (s ∷ rs) (omega (arith, h)) a.1 in
    let is : length (passes j front k (i ∷ plan) (r ∷ s ∷ rs)) ≡ suc (length rest)
    = ap length (cond-true (is_passed j k r) (save j (front ++ use_of i r ∷ []) (i + 1) None ∷ rest) [] a.0) in
    omega (arith, more, is)

module _ (j : Job) (told : List Event) (past : List Entry) (a : Agrees j told past) where
  -- what was used for the requests
  abbrev us : List Used
  us = used_of j.task.plan (requests j past)

  abbrev P : List core_saves.Prefix
  P = core_saves.passes j.task (length j.task.plan) told

  abbrev Q : List Save
  Q = passes j [] 0 j.task.plan (requests j past)

  -- the core's passes by the journal's
  passed_is : map plain (settled_by Q) ≡ P
  passed_is = ap (map plain) (sym (passes_same j told past a)) ∙ all_plain j.task (length j.task.plan) told

  -- up to the passes
  first_match : Match j us (length (requests j past)) (core_saves.after_preparation ∷ P) (save j [] 0 None ∷ Q)
  first_match = by (requests j past) refl
    where
      few : length (requests j past) ≤ length j.task.plan
      few = (few_requests j past).1

      by : (rs : List Request) → requests j past ≡ rs → Match j (used_of j.task.plan rs) (length rs) (core_saves.after_preparation ∷ P) (save j [] 0 None ∷ Q)
      by [] e =
          let none : Q ≡ [] = ap (passes j [] 0 j.task.plan) e ∙ passes_none j [] 0 j.task.plan in
          let also : P ≡ [] = sym passed_is ∙ ap (λ ss. map plain (settled_by ss)) none in
          subst (λ v. Match j v zero (core_saves.after_preparation ∷ P) (save j [] 0 None ∷ Q)) (sym (used_none j.task.plan))
          (refl, subst (λ ps. Match j [] zero ps Q) (sym also) (subst (λ ss. Match j [] zero [] ss) (sym none) tt))
      by (r ∷ rs) e =
          let same : length (requests j past) ≡ suc (length rs) = ap length e in
          subst (λ ps. Match j (used_of j.task.plan (r ∷ rs)) (length rs) ps Q) passed_is
          (subst (λ xs. Match j (used_of j.task.plan (r ∷ rs)) (length rs) (map plain (settled_by (passes j [] 0 j.task.plan xs))) (passes j [] 0 j.task.plan xs)) (sym e)
          (passes_match j [] 0 j.task.plan (r ∷ rs) (length rs) refl (let f = few in omega (arith, f, same)) (subst (ArePassed j 0) e (all_but_last j past))))

  -- ---- the save of a stop

  last_is : (plan : List ℕ) (rs : List Request) (m : ℕ) → length rs ≡ suc m → length rs ≤ length plan → last_cell plan rs ≡ Some (slice_index plan m)
  last_is [] rs m e h = absurd (omega (arith, e, h))
  last_is (i ∷ plan) [] m e h = cc
  last_is (i ∷ plan) (r ∷ []) zero e h = refl
  last_is (i ∷ plan) (r ∷ []) (suc m) e h = cc
  last_is (i ∷ plan) (r ∷ s ∷ rs) zero e h = absurd (omega (arith, e))
  last_is (i ∷ plan) (r ∷ s ∷ rs) (suc m) e h = last_is plan (s ∷ rs) m (omega (arith, e)) (omega (arith, h))

  stop_by : (s p : Bool) (m : ℕ)
      → Match j us zero (cond s (cond p [] (record { settled = cell_of j.task m + 1; stopping_cell = Some (cell_of j.task m) } ∷ [])) [])
      (cond (s && not p) (stop_save j (requests j past) (Some (cell_of j.task m))) [])
  stop_by true true m = tt
  stop_by true false m = (refl, tt)
  stop_by false p m = tt

  stopping_match : (w : Option Why) (o : Option core.Standing) → Stands j told past o → Match j us zero (core_saves.stopping j.task o w) (stopping j (requests j past) w)
  stopping_match w None (nothing l) =
      subst (λ ss. Match j us zero [] ss) (sym (ap (λ rs. stopping j rs w) (nil_from_length (requests j past) l) ∙ no_stop j w)) tt
  stopping_match None (Some _) (last m q later l e b) = tt
  stopping_match (Some cause) (Some _) (last m q later l e b) =
      let z : 0 + m ≡ m = omega arith in
      let passed : core.is_passed later ≡ is_last_passed j 0 (requests j past)
      = passed_agrees j m later q b ∙ ap (λ i. is_passed j i q) (sym z) ∙ sym (last_at j 0 m (requests j past) q e l) in
      let cell : last_cell j.task.plan (requests j past) ≡ Some (cell_of j.task m) = last_is j.task.plan (requests j past) m l (few_requests j past).1 in
      subst (λ x. Match j us zero (core_saves.stopping j.task (Some (record { request = m; later = later })) (Some cause))
      (cond (core_saves.is_stop cause && not (is_last_passed j 0 (requests j past))) (stop_save j (requests j past) x) [])) (sym cell)
      (subst (λ x. Match j us zero (core_saves.stopping j.task (Some (record { request = m; later = later })) (Some cause))
      (cond (core_saves.is_stop cause && not x) (stop_save j (requests j past) (Some (cell_of j.task m))) [])) passed
      (stop_by (core_saves.is_stop cause) (core.is_passed later) m))

  -- ---- the save of the whole notebook

  -- the plan is executed for the core where it is by the journal
  pub whole_is : 0 < length j.task.plan → core_saves.is_whole j.task (core.standing j.task told) ≡ is_complete j (requests j past)
  whole_is p =
      let some : (length j.task.plan == 0) ≡ false
      = false_from_ne_true (length j.task.plan == 0) (λ f. let n : length j.task.plan ≡ 0 = eqb-true (length j.task.plan) 0 f in absurd (omega (arith, p, n))) in
      sym (and-true (core_saves.is_whole j.task (core.standing j.task told)))
      ∙ ap (λ b. core_saves.is_whole j.task (core.standing j.task told) && (b || length (core_saves.plan_saves j.task told) == events.ack_count told)) (sym (lt-ltb 0 (length j.task.plan) p))
      ∙ done_same j told past a p
      ∙ cond-false (length j.task.plan == 0) (are_acked (plain_count j j.given) (saves_of j past)) (length (requests j past) == length j.task.plan && is_last_passed j 0 (requests j past)) some
      ∙ ap (λ b. length (requests j past) == length j.task.plan && (b || is_last_passed j 0 (requests j past))) (sym some)

  -- where each request of the plan is passed, the last of their saves settles up to the plan's end
  ends_at : (front : List Used) (n k : ℕ) (plan : List ℕ) (rs : List Request) → 0 < length plan → length rs ≡ length plan → ArePassed j k rs → is_last_passed j k rs ≡ true
      → core_saves.last_settled n (map plain (settled_by (passes j front k plan rs))) ≡ plan_end plan
  ends_at front n k [] rs h l o e = absurd (omega (arith, h))
  ends_at front n k (i ∷ plan) [] h l o e = cc
  ends_at front n k (i ∷ []) (r ∷ []) h l o e =
      ap (λ ss. core_saves.last_settled n (map plain (settled_by ss))) (cond-true (is_passed j k r) (save j (front ++ use_of i r ∷ []) (i + 1) None ∷ []) [] e)
  ends_at front n k (i ∷ []) (r ∷ s ∷ rs) h l o e = absurd (omega (arith, l))
  ends_at front n k (i ∷ m ∷ plan) (r ∷ []) h l o e = absurd (omega (arith, l))
  ends_at front n k (i ∷ m ∷ plan) (r ∷ s ∷ rs) h l o e =
      ap (λ ss. core_saves.last_settled n (map plain (settled_by ss)))
      (cond-true (is_passed j k r) (save j (front ++ use_of i r ∷ []) (i + 1) None ∷ passes j (front ++ use_of i r ∷ []) (k + 1) (m ∷ plan) (s ∷ rs)) [] o.0)
      ∙ ends_at (front ++ use_of i r ∷ []) (i + 1) (k + 1) (m ∷ plan) (s ∷ rs) (omega arith) (omega (arith, l)) o.1 e

  settled_is : 0 < length j.task.plan → is_complete j (requests j past) ≡ true → core_saves.last_settled 0 P ≡ plan_end j.task.plan
  settled_is p e =
      let parts = and_parts (length (requests j past) == length j.task.plan) (length j.task.plan == 0 || is_last_passed j 0 (requests j past)) e in
      let some : (length j.task.plan == 0) ≡ false
      = false_from_ne_true (length j.task.plan == 0) (λ f. let n : length j.task.plan ≡ 0 = eqb-true (length j.task.plan) 0 f in absurd (omega (arith, p, n))) in
      ap (core_saves.last_settled 0) (sym passed_is)
      ∙ ends_at [] 0 0 j.task.plan (requests j past) p (eqb-true (length (requests j past)) (length j.task.plan) parts.0) (all_but_last j past)
      (sym (ap (λ b. b || is_last_passed j 0 (requests j past)) some) ∙ parts.1)

  close_by : (b : Bool) → Match j us zero (cond b (plain j.task.cells ∷ []) []) (cond b (save j us j.task.cells None ∷ []) [])
  close_by true = (refl, tt)
  close_by false = tt

  closing_match : 0 < length j.task.plan → Match j us zero (core_saves.closing j.task told) (closing j (requests j past))
  closing_match p = elim (cases_Bool (is_complete j (requests j past))) [
    | inl e ↦
        subst (λ b. Match j us zero (cond (b && nat_lt (core_saves.last_settled 0 P) j.task.cells) (plain j.task.cells ∷ []) []) (closing j (requests j past))) (sym (whole_is p))
        (subst (λ n. Match j us zero (cond (is_complete j (requests j past) && nat_lt n j.task.cells) (plain j.task.cells ∷ []) []) (closing j (requests j past))) (sym (settled_is p e))
        (close_by (is_complete j (requests j past) && nat_lt (plan_end j.task.plan) j.task.cells)))
    | inr e ↦
        subst (λ b. Match j us zero (cond (b && nat_lt (core_saves.last_settled 0 P) j.task.cells) (plain j.task.cells ∷ []) []) (closing j (requests j past))) (sym (whole_is p ∙ e))
        (subst (λ b. Match j us zero [] (cond (b && nat_lt (plan_end j.task.plan) j.task.cells) (save j us j.task.cells None ∷ []) [])) (sym e) tt)
  ]

  -- ---- all saves

  long : length (requests j past) ≤ length (core_saves.after_preparation ∷ P)
  long =
      let same = match_length j us (length (requests j past)) (core_saves.after_preparation ∷ P) (save j [] 0 None ∷ Q) first_match in
      let few = few_saves j [] 0 j.task.plan (requests j past) (few_requests j past).1 (all_but_last j past) in
      omega (arith, same, few)

  saves_match : 0 < length j.task.plan → Match j us (length (requests j past)) (core_saves.saves j.task told) (run_saves j (requests j past) (core_saves.why j.task told))
  saves_match p =
      match_append j us (length (requests j past)) ((core_saves.after_preparation ∷ P) ++ core_saves.stopping j.task (core.standing j.task told) (core_saves.why j.task told))
      (core_saves.closing j.task told) ((save j [] 0 None ∷ Q) ++ stopping j (requests j past) (core_saves.why j.task told)) (closing j (requests j past))
      (let l = long in let k = length-append (core_saves.after_preparation ∷ P) (core_saves.stopping j.task (core.standing j.task told) (core_saves.why j.task told)) in omega (arith, l, k))
      (match_append j us (length (requests j past)) (core_saves.after_preparation ∷ P) (core_saves.stopping j.task (core.standing j.task told) (core_saves.why j.task told))
      (save j [] 0 None ∷ Q) (stopping j (requests j past) (core_saves.why j.task told)) long first_match
      (stopping_match (core_saves.why j.task told) (core.standing j.task told) (stands j told past a)))
      (closing_match p)

  -- as many are due
  pub saves_count : 0 < length j.task.plan → length (core_saves.saves j.task told) ≡ length (run_saves j (requests j past) (core_saves.why j.task told))
  saves_count p =
      match_length j us (length (requests j past)) (core_saves.saves j.task told) (run_saves j (requests j past) (core_saves.why j.task told)) (saves_match p)

  -- The core's save at a number that is at least that of the requests is the journal's, of what was used for the requests.
  pub saves_are : 0 < length j.task.plan → (i : ℕ) (p : core_saves.Prefix) → length (requests j past) ≤ i → slice_get (core_saves.saves j.task told) i ≡ Some p
      → slice_get (run_saves j (requests j past) (core_saves.why j.task told)) i ≡ Some (save_of j us p)
  saves_are plan i p h e =
      match_at j us (length (requests j past)) i (core_saves.saves j.task told) (run_saves j (requests j past) (core_saves.why j.task told)) p h (saves_match plan) e

  -- So it is of the save that comes after the acknowledged ones.
  pub next_save : 0 < length j.task.plan → (p : core_saves.Prefix) → slice_get (core_saves.saves j.task told) (events.ack_count told) ≡ Some p
      → slice_get (run_saves j (requests j past) (core_saves.why j.task told)) (saves_of j past) ≡ Some (save_of j us p)
  next_save plan p e = saves_are plan (saves_of j past) p (few_requests j past).0 (ap (slice_get (core_saves.saves j.task told)) (sym a.acked) ∙ e)

  -- The saves of the prepared notebook and of passed requests name no stopping cell.
  pub unnamed : (i : ℕ) (p : core_saves.Prefix) → i < length (save j [] 0 None ∷ Q) → slice_get (core_saves.saves j.task told) i ≡ Some p → p.stopping_cell ≡ None
  unnamed i p h e =
      let front : List core_saves.Prefix = core_saves.after_preparation ∷ P in
      let stops : List core_saves.Prefix = core_saves.stopping j.task (core.standing j.task told) (core_saves.why j.task told) in
      let same : length P ≡ length Q
      = sym (ap (λ (v : List core_saves.Prefix). length v) passed_is) ∙ length-map (settled_by Q) plain ∙ length-map Q (λ (s : Save). s.settled) in
      let short : i < length front = omega (arith, h, same) in
      let longer = length-append front stops in
      plain_at front i p (ap (λ v. core_saves.after_preparation ∷ v) (all_plain j.task (length j.task.plan) told))
      (sym (get_front front stops i short) ∙ sym (get_front (front ++ stops) (core_saves.closing j.task told) i (omega (arith, short, longer))) ∙ e)
    where
      get_front : (xs ys : List core_saves.Prefix) (i : ℕ) → i < length xs → slice_get (xs ++ ys) i ≡ slice_get xs i
      get_front [] ys i h = absurd (omega (arith, h))
      get_front (x ∷ xs) ys zero h = refl
      get_front (x ∷ xs) ys (suc i) h = get_front xs ys i (omega (arith, h))

      first_is : {x y : core_saves.Prefix} {xs ys : List core_saves.Prefix} → x ∷ xs ≡ y ∷ ys → x ≡ y
      first_is e = cc

      rest_is : {x y : core_saves.Prefix} {xs ys : List core_saves.Prefix} → x ∷ xs ≡ y ∷ ys → xs ≡ ys
      rest_is e = cc

      plain_at : (xs : List core_saves.Prefix) (i : ℕ) (p : core_saves.Prefix) → map plain (settles xs) ≡ xs → slice_get xs i ≡ Some p → p.stopping_cell ≡ None
      plain_at [] i p e f = cc
      plain_at (x ∷ xs) zero p e f =
          let one : plain x.settled ≡ x = first_is e in
          ap (λ (q : core_saves.Prefix). q.stopping_cell) (sym (same_Some _ _ f)) ∙ ap (λ (q : core_saves.Prefix). q.stopping_cell) (sym one)
      plain_at (x ∷ xs) (suc i) p e f = plain_at xs i p (rest_is e) f

-- ---- what the core asks for

dropped_first : (n : ℕ) (ps : List core_saves.Prefix) (p : core_saves.Prefix) (rest : List core_saves.Prefix) → drop n ps ≡ p ∷ rest → slice_get ps n ≡ Some p
dropped_first zero [] p rest e = cc
dropped_first zero (q ∷ ps) p rest e = cc
dropped_first (suc n) [] p rest e = cc
dropped_first (suc n) (q ∷ ps) p rest e = dropped_first n ps p rest e

last_at_number : (n : ℕ) (ps : List core_saves.Prefix) (p before : core_saves.Prefix) → slice_get ps n ≡ Some p → last_asked ps n before ≡ p
last_at_number n [] p before e = cc
last_at_number zero (q ∷ ps) p before e = same_Some _ _ e
last_at_number (suc n) (q ∷ ps) p before e = last_at_number n ps p q e

-- while no save is due and there is no cause, the act is one of five kinds
module _ (P : Act → Type 0) (idle : P act.Nothing) (start : P act.Start) (look : P act.Look) (interrupt : P act.Interrupt) (send : (n : ℕ) → P (act.Send n)) where
  either : (b : Bool) (x y : Act) → P x → P y → P (cond b x y)
  either true x y p q = p
  either false x y p q = q

  sends_or : (b : Bool) (n : ℕ) → P (cond b (act.Send n) act.Nothing)
  sends_or b n = either b (act.Send n) act.Nothing (send n) idle

  looks_or : (b : Bool) → P (cond b act.Look act.Nothing)
  looks_or b = either b act.Look act.Nothing look idle

  pub answer_is : (task : Task) (o : Option core.Standing) (now : List Event) → P (answers task o now)
  answer_is task None [] = idle
  answer_is task (Some s) [] = idle
  answer_is task None (event.Saved ∷ past) = either (events.ack_count past == 0) act.Start act.Nothing start idle
  answer_is task None (event.Ready ∷ past) = idle
  answer_is task None (event.Io b ∷ past) = idle
  answer_is task None (event.Reply f ∷ past) = idle
  answer_is task None (event.Moment t ∷ past) = looks_or (is_late (due_at task None (event.Moment t ∷ past)) (event.Moment t ∷ past))
  answer_is task None (event.Looked ∷ past) = idle
  answer_is task None (event.Lost ∷ past) = look
  answer_is task None (event.Broken ∷ past) = idle
  answer_is task (Some s) (event.Saved ∷ past) = sends_or (is_empty_list s.later) (cell_of task s.request)
  answer_is task (Some s) (event.Ready ∷ past) = sends_or (is_empty_list s.later) (cell_of task s.request)
  answer_is task (Some s) (event.Io b ∷ past) = sends_or (is_empty_list s.later) (cell_of task s.request)
  answer_is task (Some s) (event.Reply f ∷ past) = sends_or (is_empty_list s.later) (cell_of task s.request)
  answer_is task (Some s) (event.Moment t ∷ past) = looks_or (is_late (due_at task (Some s) (event.Moment t ∷ past)) (event.Moment t ∷ past))
  answer_is task (Some s) (event.Looked ∷ past) =
      either (is_queued_now task s.request (first_deadline task s (event.Looked ∷ past)) (event.Looked ∷ past)) act.Interrupt act.Nothing interrupt idle
  answer_is task (Some s) (event.Lost ∷ past) = look
  answer_is task (Some s) (event.Broken ∷ past) = sends_or (is_empty_list s.later) (cell_of task s.request)

-- so none is asked for
not_save : (task : Task) (o : Option core.Standing) (now : List Event) → is_save (answers task o now) ≡ false
not_save = answer_is (λ x. is_save x ≡ false) refl refl refl refl (λ n. refl)

asked_by : (task : Task) (now : List Event) (settled : ℕ) (rest : List core_saves.Prefix) (cause : Option Why) → core_saves.pending_saves task now ≡ rest
    → act_by task now rest cause ≡ act.Save settled → IsAsked task now settled
asked_by task now settled (p ∷ rest) cause e f =
    let at : slice_get (core_saves.saves task now) (events.ack_count now) ≡ Some p = dropped_first (events.ack_count now) (core_saves.saves task now) p rest e in
    record {
      asked = p;
      at = at;
      settled_is = saves_so f;
      stop_is = ap (λ (q : core_saves.Prefix). q.stopping_cell) (last_at_number (events.ack_count now) (core_saves.saves task now) p core_saves.after_preparation at);
    }
  where
    saves_so : {a b : ℕ} → act.Save a ≡ act.Save b → a ≡ b
    saves_so g = cc
asked_by task now settled [] (Some cause) e f = cc
asked_by task now settled [] None e f = absurd (none f)
  where
    none : answers task (core.standing task now) now ≡ act.Save settled → ⊥
    none g = true≢false (ap is_save (sym g) ∙ not_save task (core.standing task now) now)

-- The act that saves asks for the first save that isn't acknowledged, and the stopping cell is that save's.
pub asked_save : (j : Job) (told : List Event) (e : Event) (settled : ℕ) → has_stopped j.task (heard j.task told) ≡ false
    → act_of j.task e told ≡ act.Save settled → IsAsked j.task (e ∷ told) settled
asked_save j told e settled on f =
    asked_by j.task (e ∷ told) settled (core_saves.pending_saves j.task (e ∷ told)) (core_saves.why j.task (e ∷ told)) refl
    (sym (cond-false (has_stopped j.task (heard j.task told)) act.Nothing (act_at j.task (e ∷ heard j.task told)) on
    ∙ ap (λ es. act_at j.task (e ∷ es)) (unstopped_heard j told on)) ∙ f)
