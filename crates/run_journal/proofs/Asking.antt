-- Where the core's requests agree with the journal's, and its cause, the saves that it asks for are those that are due.
use Rattle.std.proofs.Common.{◌≡◌, inl, inr, ℕ, zero, suc, ◌+◌, ◌<◌, ◌≤◌, List, [], ◌∷◌, ◌++◌, length, map, Bool, true, false, ◌&&◌, ◌||◌, not, cond, Option, Some, None, refl, sym, ◌∙◌, ap, subst, arith, append_assoc}
use Rattle.std.specs.Prelude.{is_some, option_map, slice_get, slice_index, IsSomeAnd, ◌==◌, nat_lt, if◌then◌else◌}
use Rattle.std.proofs.lemmas.List.{append-nil, map-append, nil_from_length}
use Rattle.std.proofs.lemmas.Bool.{and_parts, cond-true, cond-false, cases_Bool, eqb-true, eq-eqb, lt-ltb, false_from_ne_true}
use Rattle.std.proofs.Math.Bool.{and-true}
use Rattle.std.proofs.lemmas.Option.{same_Some}
use Rattle.world.specs.declared.entry.Entry.{Entry}
use Rattle.cell_core.specs.declared.event.Event.{Event}
use Rattle.cell_core.specs.declared.why.Why.{Why}
use Rattle.cell_core.specs.Task.{Task, cell_of}
use Rattle.cell_core.specs.Events as events
use Rattle.cell_core.specs.Requests as core
use Rattle.cell_core.specs.Saves as core_saves
use Rattle.cell_core.specs.Laws.{settles as core_settles}
use Rattle.out_fold.specs.declared.used.Used.{Used}
use Rattle.run_journal.specs.Codec.{Arrival}
use Rattle.run_journal.specs.Job.{Job}
use Rattle.run_journal.specs.Parts.{saves_of}
use Rattle.run_journal.specs.Requests.{Request, has_idle, reply, use_of, used_of, is_over, is_fatal, is_passed, is_last_passed, requests, last_request}
use Rattle.run_journal.specs.Why.{are_acked, plain_count, plan_end, is_done, is_error, why}
use Rattle.run_journal.specs.Saves.{Save, save, passes, last_cell, stop_save, stopping, is_complete, closing, run_saves, settled_by}
use Rattle.run_journal.specs.Grow.{ArePassed}
use Rattle.run_journal.specs.Agreement.{AgreesOn, Agrees}
use Rattle.run_journal.proofs.Growth.{no_stop}
use Rattle.run_journal.proofs.Safety.{all_but_last, few_requests}
use Rattle.run_journal.proofs.Agreeing.{passed_agrees, known, last_at}
use Rattle.run_journal.proofs.Truths.{not_both, or_rest}
use Rattle.jtext.proofs.Lists.{some_at}

-- ---- the last request

-- the core's last request is the journal's
pub data Stands (j : Job) (told : List Event) (past : List Entry) : Option core.Standing → Type 0 where
  nothing : length (requests j past) ≡ 0 → Stands j told past None
  last : (m : ℕ) (q : Request) (later : List Event) → length (requests j past) ≡ suc m → slice_get (requests j past) m ≡ Some q → AgreesOn j m later q
      → Stands j told past (Some (record { request = m; later = later }))

-- above the last request none stands
below_is : (task : Task) (told : List Event) (n d : ℕ) → ((k : ℕ) → n ≤ k → k < n + d → core.after task k told ≡ None) → core.last_below task (n + d) told ≡ core.last_below task n told
below_is task told n zero f = let e : n + 0 ≡ n = omega arith in ap (λ m. core.last_below task m told) e
below_is task told n (suc d) f =
    let e : n + suc d ≡ suc (n + d) = omega arith in
    ap (λ m. core.last_below task m told) e
    ∙ ap (λ o. core.or_before (n + d) o (core.last_below task (n + d) told)) (f (n + d) (omega arith) (omega arith))
    ∙ below_is task told n d (λ k g h. f k g (omega (arith, h)))

standing_at : (j : Job) (told : List Event) (past : List Entry) → Agrees j told past → (n : ℕ) → length (requests j past) ≡ n → Stands j told past (core.last_below j.task n told)
standing_at j told past a zero e = nothing e
standing_at j told past a (suc m) e =
    let q = some_at (requests j past) m (omega (arith, e)) in
    by q.0 q.1 (core.after j.task m told) (a.standing m q.0 q.1)
  where
    by : (q : Request) → slice_get (requests j past) m ≡ Some q → (o : Option (List Event)) → IsSomeAnd o (λ later. AgreesOn j m later q) → Stands j told past (core.or_before m o (core.last_below j.task m told))
    by q f None h = absurd h
    by q f (Some later) h = last m q later e f h

-- the core's last request is the journal's
pub stands : (j : Job) (told : List Event) (past : List Entry) → Agrees j told past → Stands j told past (core.standing j.task told)
stands j told past a =
    let n = length (requests j past) in
    let few = few_requests j past in
    let d = gap n (length j.task.plan) few.1 in
    subst (Stands j told past) (sym (ap (λ m. core.last_below j.task m told) d.1 ∙ below_is j.task told n d.0 (λ k g h. a.none k (let e = d.1 in omega (arith, h, e)) g))) (standing_at j told past a n refl)
  where
    gap : (m n : ℕ) → m ≤ n → (d : ℕ) × (n ≡ m + d)
    gap zero n h = (n, omega arith)
    gap (suc m) zero h = absurd (omega (arith, h))
    gap (suc m) (suc n) h = let r = gap m n (omega (arith, h)) in let e = r.1 in (r.0, omega (arith, e))

-- ---- the saves of passed requests

-- what the core settled_by by the requests from one number on, so many of them
abbrev settles_from : Task → List Event → ℕ → ℕ → List ℕ
settles_from task told k zero = []
settles_from task told k (suc d) = (if core.is_passed_in (core.after task k told) then (cell_of task k + 1) ∷ [] else []) ++ settles_from task told (suc k) d

one_pass : (task : Task) (k : ℕ) (b : Bool) → core_settles (if b then record { settled = cell_of task k + 1; stopping_cell = None } ∷ [] else []) ≡ (if b then (cell_of task k + 1) ∷ [] else [])
one_pass task k true = refl
one_pass task k false = refl

passes_from : (task : Task) (told : List Event) (k d : ℕ) → core_settles (core_saves.passes task (k + d) told) ≡ core_settles (core_saves.passes task k told) ++ settles_from task told k d
passes_from task told k zero = let e : k + 0 ≡ k = omega arith in ap (λ m. core_settles (core_saves.passes task m told)) e ∙ sym (append-nil (core_settles (core_saves.passes task k told)))
passes_from task told k (suc d) =
    let e : k + suc d ≡ suc k + d = omega arith in
    ap (λ m. core_settles (core_saves.passes task m told)) e
    ∙ passes_from task told (suc k) d
    ∙ ap (λ v. v ++ settles_from task told (suc k) d)
    (map-append (λ (p : core_saves.Prefix). p.settled) (core_saves.passes task k told) (if core.is_passed_in (core.after task k told) then record { settled = cell_of task k + 1; stopping_cell = None } ∷ [] else [])
    ∙ ap (λ v. core_settles (core_saves.passes task k told) ++ v) (one_pass task k (core.is_passed_in (core.after task k told))))
    ∙ append_assoc (core_settles (core_saves.passes task k told)) _ (settles_from task told (suc k) d)

-- where none of them is passed the core settled_by nothing
settles_none : (task : Task) (told : List Event) (k d : ℕ) → ((i : ℕ) → k ≤ i → i < k + d → core.is_passed_in (core.after task i told) ≡ false) → settles_from task told k d ≡ []
settles_none task told k zero f = refl
settles_none task told k (suc d) f =
    ap (λ b. cond b ((cell_of task k + 1) ∷ []) [] ++ settles_from task told (suc k) d) (f k (omega arith) (omega arith))
    ∙ settles_none task told (suc k) d (λ i g h. f i (omega (arith, g)) (omega (arith, h)))

-- the plan and the requests from one number on
pub record From (j : Job) (past : List Entry) (k : ℕ) (plan : List ℕ) (rs : List Request) : Type 0 where
  pub cells : (i c : ℕ) → slice_get plan i ≡ Some c → cell_of j.task (k + i) ≡ c
  pub requests_are : (i : ℕ) (r : Request) → slice_get rs i ≡ Some r → slice_get (requests j past) (k + i) ≡ Some r
  pub length_is : length (requests j past) ≡ k + length rs
  pub plan_is : length j.task.plan ≡ k + length plan

from_next : (j : Job) (past : List Entry) (k c : ℕ) (plan : List ℕ) (r : Request) (rs : List Request) → From j past k (c ∷ plan) (r ∷ rs) → From j past (suc k) plan rs
from_next j past k c plan r rs f =
    let l = f.length_is in
    let p = f.plan_is in
    record {
      cells = λ i d e. let n : suc k + i ≡ k + suc i = omega arith in ap (cell_of j.task) n ∙ f.cells (suc i) d e;
      requests_are = λ i q e. let n : suc k + i ≡ k + suc i = omega arith in ap (slice_get (requests j past)) n ∙ f.requests_are (suc i) q e;
      length_is = omega (arith, l);
      plan_is = omega (arith, p);
    }

-- no request below the end of the plan is passed beyond the last
none_passed : (j : Job) (told : List Event) (past : List Entry) → Agrees j told past → (i : ℕ) → i < length j.task.plan → length (requests j past) ≤ i → core.is_passed_in (core.after j.task i told) ≡ false
none_passed j told past a i p h = ap core.is_passed_in (a.none i p h)

-- the saves of passed requests settle the same
passes_agree : (j : Job) (told : List Event) (past : List Entry) → Agrees j told past → (front : List Used) (k : ℕ) (plan : List ℕ) (rs : List Request) → From j past k plan rs → ArePassed j k rs
    → settled_by (passes j front k plan rs) ≡ settles_from j.task told k (length plan)
passes_agree j told past a front k [] [] f o = refl
passes_agree j told past a front k [] (r ∷ rs) f o = refl
passes_agree j told past a front k (c ∷ plan) [] f o =
    sym (settles_none j.task told k (length (c ∷ plan)) (λ i g h. none_passed j told past a i (let p = f.plan_is in omega (arith, h, p)) (let l = f.length_is in omega (arith, l, g))))
passes_agree j told past a front k (c ∷ plan) (r ∷ rs) f o = elim (cases_Bool (is_passed j k r)) [
  | inl e ↦
      ap settled_by (cond-true (is_passed j k r) (first_save ∷ passes j front_on (k + 1) plan rs) [] e)
      ∙ ap (λ m. (c + 1) ∷ settled_by (passes j front_on m plan rs)) one_more
      ∙ ap (λ v. (c + 1) ∷ v) (passes_agree j told past a front_on (suc k) plan rs (from_next j past k c plan r rs f) (passed_on rs o))
      ∙ ap (λ n. (n + 1) ∷ settles_from j.task told (suc k) (length plan)) (sym cell_is)
      ∙ sym (ap (λ b. cond b ((cell_of j.task k + 1) ∷ []) [] ++ settles_from j.task told (suc k) (length plan)) (known_now ∙ e))
  | inr e ↦
      let no : rs ≡ [] = alone rs o e in
      ap settled_by (cond-false (is_passed j k r) (first_save ∷ passes j front_on (k + 1) plan rs) [] e)
      ∙ sym (ap (λ b. cond b ((cell_of j.task k + 1) ∷ []) [] ++ settles_from j.task told (suc k) (length plan)) (known_now ∙ e)
      ∙ settles_none j.task told (suc k) (length plan) (λ i g h.
      none_passed j told past a i (let p = f.plan_is in omega (arith, h, p)) (let l = f.length_is in let z : length rs ≡ 0 = ap length no in omega (arith, l, z, g))))
]
  where
    first_save : Save
    first_save = save j (front ++ use_of c r ∷ []) (c + 1) None

    front_on : List Used
    front_on = front ++ use_of c r ∷ []

    one_more : k + 1 ≡ suc k
    one_more = omega arith

    here : k + 0 ≡ k
    here = omega arith

    cell_is : cell_of j.task k ≡ c
    cell_is = ap (cell_of j.task) (sym here) ∙ f.cells 0 c refl

    known_now : core.is_passed_in (core.after j.task k told) ≡ is_passed j k r
    known_now = known j k r (core.after j.task k told) (a.standing k r (ap (slice_get (requests j past)) (sym here) ∙ f.requests_are 0 r refl))

    passed_on : (rs : List Request) → ArePassed j k (r ∷ rs) → ArePassed j (suc k) rs
    passed_on [] o = tt
    passed_on (s ∷ rs) o = subst (λ m. ArePassed j m (s ∷ rs)) one_more o.1

    alone : (rs : List Request) → ArePassed j k (r ∷ rs) → is_passed j k r ≡ false → rs ≡ []
    alone [] o e = refl
    alone (s ∷ rs) o e = absurd (not_both (is_passed j k r) o.0 e)

index_is : (xs : List ℕ) (i x : ℕ) → slice_get xs i ≡ Some x → slice_index xs i ≡ x
index_is [] i x e = cc
index_is (y ∷ xs) zero x e = same_Some _ _ e
index_is (y ∷ xs) (suc i) x e = index_is xs i x e

from_start : (j : Job) (past : List Entry) → From j past 0 j.task.plan (requests j past)
from_start j past = record {
  cells = λ i c e. let n : 0 + i ≡ i = omega arith in ap (cell_of j.task) n ∙ index_is j.task.plan i c e;
  requests_are = λ i r e. let n : 0 + i ≡ i = omega arith in ap (slice_get (requests j past)) n ∙ e;
  length_is = omega arith;
  plan_is = omega arith;
}

-- the saves of passed requests are the same for both
pub passes_same : (j : Job) (told : List Event) (past : List Entry) → Agrees j told past → core_settles (core_saves.passes j.task (length j.task.plan) told) ≡ settled_by (passes j [] 0 j.task.plan (requests j past))
passes_same j told past a =
    let n : length j.task.plan ≡ 0 + length j.task.plan = omega arith in
    ap (λ m. core_settles (core_saves.passes j.task m told)) n
    ∙ passes_from j.task told 0 (length j.task.plan)
    ∙ sym (passes_agree j told past a [] 0 j.task.plan (requests j past) (from_start j past) (all_but_last j past))

-- ---- the whole plan

empty_plan : (n : ℕ) → (n == 0) ≡ (0 == n && (n == 0 || false))
empty_plan n = elim (cases_Bool (n == 0)) [
  | inl e ↦
      let z : n ≡ 0 = eqb-true n 0 e in
      e ∙ sym (ap (λ b. b && (n == 0 || false)) (eq-eqb 0 n (sym z)) ∙ ap (λ b. b || false) e)
  | inr e ↦ e ∙ sym (ap (λ b. b && (n == 0 || false)) (false_from_ne_true (0 == n) (λ f. not_both (n == 0) (eq-eqb n 0 (sym (eqb-true 0 n f))) e)))
]

some_plan : (m n : ℕ) (p : Bool) → (m + 1 == n && p) ≡ (suc m == n && (n == 0 || p))
some_plan m n p =
    let s : m + 1 ≡ suc m = omega arith in
    ap (λ i. i == n && p) s
    ∙ elim (cases_Bool (suc m == n)) [
      | inl e ↦
          let z : suc m ≡ n = eqb-true (suc m) n e in
          ap (λ b. suc m == n && (b || p)) (sym (false_from_ne_true (n == 0) (λ f. let y : n ≡ 0 = eqb-true n 0 f in absurd (omega (arith, z, y)))))
      | inr e ↦ ap (λ b. b && p) e ∙ sym (ap (λ b. b && (n == 0 || p)) e)
    ]

-- the last of the journal's requests is passed where the core's is
last_same : (j : Job) (past : List Entry) (m : ℕ) (q : Request) (later : List Event) → length (requests j past) ≡ suc m → slice_get (requests j past) m ≡ Some q → AgreesOn j m later q → core.is_passed later ≡ is_last_passed j 0 (requests j past)
last_same j past m q later l e b =
    let z : 0 + m ≡ m = omega arith in
    passed_agrees j m later q b ∙ ap (λ i. is_passed j i q) (sym z) ∙ sym (last_at j 0 m (requests j past) q e l)

-- the plan is executed for both
whole_same : (j : Job) (told : List Event) (past : List Entry) (o : Option core.Standing) → Stands j told past o → core_saves.is_whole j.task o ≡ is_complete j (requests j past)
whole_same j told past None (nothing l) =
    empty_plan (length j.task.plan) ∙ sym (ap (is_complete j) (nil_from_length (requests j past) l))
whole_same j told past (Some _) (last m q later l e b) =
    ap (λ x. m + 1 == length j.task.plan && x) (last_same j past m q later l e b)
    ∙ some_plan m (length j.task.plan) (is_last_passed j 0 (requests j past))
    ∙ ap (λ n. n == length j.task.plan && (length j.task.plan == 0 || is_last_passed j 0 (requests j past))) (sym l)

-- ---- the save of the whole notebook

-- the last of some numbers, or else this
abbrev last_num : ℕ → List ℕ → ℕ
last_num n [] = n
last_num n (x ∷ xs) = last_num x xs

last_settled_is : (n : ℕ) (ps : List core_saves.Prefix) → core_saves.last_settled n ps ≡ last_num n (core_settles ps)
last_settled_is n [] = refl
last_settled_is n (p ∷ ps) = last_settled_is p.settled ps

end_is : (n : ℕ) (plan : List ℕ) → last_num 0 (map (λ i. i + 1) plan) ≡ plan_end plan
end_is n [] = refl
end_is n (i ∷ []) = refl
end_is n (i ∷ k ∷ plan) = end_is n (k ∷ plan)

-- where each request is passed, each cell of the plan has its save
all_settle : (j : Job) (front : List Used) (k : ℕ) (plan : List ℕ) (rs : List Request) → length rs ≡ length plan → ArePassed j k rs → ((x : Request) (xs : List Request) → rs ≡ x ∷ xs → is_last_passed j k rs ≡ true)
    → settled_by (passes j front k plan rs) ≡ map (λ i. i + 1) plan
all_settle j front k [] [] l o h = refl
all_settle j front k [] (r ∷ rs) l o h = cc
all_settle j front k (c ∷ plan) [] l o h = cc
all_settle j front k (c ∷ plan) (r ∷ []) l o h =
    ap settled_by (cond-true (is_passed j k r) (save j (front ++ use_of c r ∷ []) (c + 1) None ∷ passes j (front ++ use_of c r ∷ []) (k + 1) plan []) [] (h r [] refl))
    ∙ ap (λ v. (c + 1) ∷ v) (all_settle j (front ++ use_of c r ∷ []) (k + 1) plan [] (omega (arith, l)) tt (λ x xs e. cc))
all_settle j front k (c ∷ plan) (r ∷ s ∷ rs) l o h =
    ap settled_by (cond-true (is_passed j k r) (save j (front ++ use_of c r ∷ []) (c + 1) None ∷ passes j (front ++ use_of c r ∷ []) (k + 1) plan (s ∷ rs)) [] o.0)
    ∙ ap (λ v. (c + 1) ∷ v) (all_settle j (front ++ use_of c r ∷ []) (k + 1) plan (s ∷ rs) (omega (arith, l)) o.1 (λ x xs e. h r (s ∷ rs) refl))

complete_settles : (j : Job) (past : List Entry) → is_complete j (requests j past) ≡ true → settled_by (passes j [] 0 j.task.plan (requests j past)) ≡ map (λ i. i + 1) j.task.plan
complete_settles j past e =
    let p = and_parts (length (requests j past) == length j.task.plan) (length j.task.plan == 0 || is_last_passed j 0 (requests j past)) e in
    let l : length (requests j past) ≡ length j.task.plan = eqb-true (length (requests j past)) (length j.task.plan) p.0 in
    all_settle j [] 0 j.task.plan (requests j past) l (all_but_last j past) (λ x xs f.
    or_rest (length j.task.plan == 0) (is_last_passed j 0 (requests j past)) p.1
    (false_from_ne_true (length j.task.plan == 0) (λ z. let n : length j.task.plan ≡ 0 = eqb-true (length j.task.plan) 0 z in let g : length (requests j past) ≡ suc (length xs) = ap length f in absurd (omega (arith, l, n, g)))))

-- the save of the whole notebook is due for both
closing_same : (j : Job) (told : List Event) (past : List Entry) → Agrees j told past → core_settles (core_saves.closing j.task told) ≡ settled_by (closing j (requests j past))
closing_same j told past a =
    ap (λ b. core_settles (cond (b && nat_lt (core_saves.last_settled 0 (core_saves.passes j.task (length j.task.plan) told)) j.task.cells) (record { settled = j.task.cells; stopping_cell = None } ∷ []) []))
    (whole_same j told past (core.standing j.task told) (stands j told past a))
    ∙ elim (cases_Bool (is_complete j (requests j past))) [
      | inl e ↦
          let n : core_saves.last_settled 0 (core_saves.passes j.task (length j.task.plan) told) ≡ plan_end j.task.plan
          = last_settled_is 0 (core_saves.passes j.task (length j.task.plan) told) ∙ ap (last_num 0) (passes_same j told past a ∙ complete_settles j past e) ∙ end_is 0 j.task.plan in
          ap (λ m. core_settles (cond (is_complete j (requests j past) && nat_lt m j.task.cells) (record { settled = j.task.cells; stopping_cell = None } ∷ []) [])) n
          ∙ by (is_complete j (requests j past) && nat_lt (plan_end j.task.plan) j.task.cells)
      | inr e ↦
          ap (λ b. core_settles (cond (b && nat_lt (core_saves.last_settled 0 (core_saves.passes j.task (length j.task.plan) told)) j.task.cells) (record { settled = j.task.cells; stopping_cell = None } ∷ []) [])) e
          ∙ sym (ap (λ b. settled_by (cond (b && nat_lt (plan_end j.task.plan) j.task.cells) (save j (used_of j.task.plan (requests j past)) j.task.cells None ∷ []) [])) e)
    ]
  where
    by : (b : Bool) → core_settles (cond b (record { settled = j.task.cells; stopping_cell = None } ∷ []) []) ≡ settled_by (cond b (save j (used_of j.task.plan (requests j past)) j.task.cells None ∷ []) [])
    by true = refl
    by false = refl

-- ---- the save of a stop

last_cell_is : (j : Job) (past : List Entry) (k m : ℕ) (plan : List ℕ) (rs : List Request) → From j past k plan rs → length rs ≡ suc m → k + m < length j.task.plan → last_cell plan rs ≡ Some (cell_of j.task (k + m))
last_cell_is j past k m [] rs f l h = let p = f.plan_is in absurd (omega (arith, p, h))
last_cell_is j past k m (c ∷ plan) [] f l h = cc
last_cell_is j past k zero (c ∷ plan) (r ∷ []) f l h = ap (λ x. Some x) (sym (f.cells 0 c refl))
last_cell_is j past k (suc m) (c ∷ plan) (r ∷ []) f l h = cc
last_cell_is j past k zero (c ∷ plan) (r ∷ s ∷ rs) f l h = absurd (omega (arith, l))
last_cell_is j past k (suc m) (c ∷ plan) (r ∷ s ∷ rs) f l h =
    let n : suc k + m ≡ k + suc m = omega arith in
    last_cell_is j past (suc k) m plan (s ∷ rs) (from_next j past k c plan r (s ∷ rs) f) (omega (arith, l)) (omega (arith, h)) ∙ ap (λ i. Some (cell_of j.task i)) n

stopping_same : (j : Job) (told : List Event) (past : List Entry) (o : Option core.Standing) → Stands j told past o → (w : Option Why) → core_settles (core_saves.stopping j.task o w) ≡ settled_by (stopping j (requests j past) w)
stopping_same j told past None (nothing l) w =
    sym (ap settled_by (ap (λ rs. stopping j rs w) (nil_from_length (requests j past) l) ∙ no_stop j w))
stopping_same j told past (Some _) (last m q later l e b) None = refl
stopping_same j told past (Some _) (last m q later l e b) (Some cause) =
    ap (λ x. core_settles (cond (core_saves.is_stop cause) (cond x [] (stop ∷ [])) [])) (last_same j past m q later l e b)
    ∙ by (core_saves.is_stop cause) (is_last_passed j 0 (requests j past))
    ∙ ap (λ x. settled_by (cond (core_saves.is_stop cause && not (is_last_passed j 0 (requests j past))) (stop_save j (requests j past) x) [])) (sym cell)
  where
    stop : core_saves.Prefix
    stop = record { settled = cell_of j.task m + 1; stopping_cell = Some (cell_of j.task m) }

    cell : last_cell j.task.plan (requests j past) ≡ Some (cell_of j.task m)
    cell =
        let few = few_requests j past in
        let z : 0 + m ≡ m = omega arith in
        last_cell_is j past 0 m j.task.plan (requests j past) (from_start j past) l (let g = few.1 in omega (arith, l, g)) ∙ ap (λ i. Some (cell_of j.task i)) z

    by : (s p : Bool) → core_settles (cond s (cond p [] (stop ∷ [])) []) ≡ settled_by (cond (s && not p) (stop_save j (requests j past) (Some (cell_of j.task m))) [])
    by true true = refl
    by true false = refl
    by false p = refl

-- ---- all saves

-- where the causes agree too, the saves that the core asks for settle what those that are due settle
pub saves_agree : (j : Job) (told : List Event) (past : List Entry) → Agrees j told past → core_saves.why j.task told ≡ why j past
    → core_settles (core_saves.saves j.task told) ≡ settled_by (run_saves j (requests j past) (why j past))
saves_agree j told past a w =
    let P = core_saves.passes j.task (length j.task.plan) told in
    let S = core_saves.stopping j.task (core.standing j.task told) (core_saves.why j.task told) in
    let C = core_saves.closing j.task told in
    map-append (λ (p : core_saves.Prefix). p.settled) ((core_saves.after_preparation ∷ P) ++ S) C
    ∙ ap (λ v. v ++ core_settles C) (map-append (λ (p : core_saves.Prefix). p.settled) (core_saves.after_preparation ∷ P) S)
    ∙ ap (λ v. ((0 ∷ v) ++ core_settles S) ++ core_settles C) (passes_same j told past a)
    ∙ ap (λ v. ((0 ∷ settled_by (passes j [] 0 j.task.plan (requests j past))) ++ v) ++ core_settles C)
    (ap (λ x. core_settles (core_saves.stopping j.task (core.standing j.task told) x)) w ∙ stopping_same j told past (core.standing j.task told) (stands j told past a) (why j past))
    ∙ ap (λ v. ((0 ∷ settled_by (passes j [] 0 j.task.plan (requests j past))) ++ settled_by (stopping j (requests j past) (why j past))) ++ v) (closing_same j told past a)
    ∙ sym (map-append (λ (s : Save). s.settled) ((save j [] 0 None ∷ passes j [] 0 j.task.plan (requests j past)) ++ stopping j (requests j past) (why j past)) (closing j (requests j past))
    ∙ ap (λ v. v ++ settled_by (closing j (requests j past))) (map-append (λ (s : Save). s.settled) (save j [] 0 None ∷ passes j [] 0 j.task.plan (requests j past)) (stopping j (requests j past) (why j past))))

-- ---- the causes that requests tell

-- the last request of the journal with its number
pub last_numbered : (k m : ℕ) (rs : List Request) (q : Request) → length rs ≡ suc m → slice_get rs m ≡ Some q → last_request k rs ≡ Some (k + m, q)
last_numbered k m [] q l e = cc
last_numbered k zero (x ∷ []) q l e = let n : k ≡ k + 0 = omega arith in ap (λ i. Some (i, x)) n ∙ ap (λ y. Some (k + 0, y)) (same_Some _ _ e)
last_numbered k (suc m) (x ∷ []) q l e = cc
last_numbered k zero (x ∷ y ∷ rs) q l e = absurd (omega (arith, l))
last_numbered k (suc m) (x ∷ y ∷ rs) q l e =
    let n : (k + 1) + m ≡ k + suc m = omega arith in
    last_numbered (k + 1) m (y ∷ rs) q (omega (arith, l)) e ∙ ap (λ i. Some (i, q)) n

-- a fatal end, by the core's events and by the journal
error_agrees : (j : Job) (k : ℕ) (later : List Event) (r : Request) → AgreesOn j k later r → (core.is_over later && core.is_fatal later) ≡ (is_over r && is_fatal j k (reply r))
error_agrees j k later r a =
    ap (λ b. (is_some (core.reply later) && b) && core.is_true_in (core.reply later)) a.idle
    ∙ ap (λ (o : Option Bool). (is_some o && has_idle r.io) && core.is_true_in o) a.reply
    ∙ by (has_idle r.io) (reply r)
  where
    by : (i : Bool) (o : Option (Arrival × ℕ)) → ((is_some (option_map (λ m. j.fatal k m.0.content) o) && i) && core.is_true_in (option_map (λ m. j.fatal k m.0.content) o)) ≡ ((i && is_some o) && is_fatal j k o)
    by true None = refl
    by true (Some m) = refl
    by false None = refl
    by false (Some m) = refl

-- a fatal reply stops both
pub error_same : (j : Job) (told : List Event) (past : List Entry) → Agrees j told past → core_saves.is_cell_error (core.standing j.task told) ≡ is_error j (last_request 0 (requests j past))
error_same j told past a = by (core.standing j.task told) (stands j told past a)
  where
    by : (o : Option core.Standing) → Stands j told past o → core_saves.is_cell_error o ≡ is_error j (last_request 0 (requests j past))
    by None (nothing l) = sym (ap (λ rs. is_error j (last_request 0 rs)) (nil_from_length (requests j past) l))
    by (Some _) (last m q later l e b) =
        let z : 0 + m ≡ m = omega arith in
        error_agrees j m later q b ∙ sym (ap (is_error j) (last_numbered 0 m (requests j past) q l e ∙ ap (λ i. Some (i, q)) z))

-- an executed plan stops both
pub done_same : (j : Job) (told : List Event) (past : List Entry) → Agrees j told past → 0 < length j.task.plan → core_saves.is_done j.task told ≡ is_done j (saves_of j past) (requests j past)
done_same j told past a p =
    let some : (length j.task.plan == 0) ≡ false = false_from_ne_true (length j.task.plan == 0) (λ f. let n : length j.task.plan ≡ 0 = eqb-true (length j.task.plan) 0 f in absurd (omega (arith, p, n))) in
    ap (λ b. core_saves.is_whole j.task (core.standing j.task told) && (b || length (core_saves.plan_saves j.task told) == events.ack_count told)) (lt-ltb 0 (length j.task.plan) p)
    ∙ and-true (core_saves.is_whole j.task (core.standing j.task told))
    ∙ whole_same j told past (core.standing j.task told) (stands j told past a)
    ∙ ap (λ b. length (requests j past) == length j.task.plan && (b || is_last_passed j 0 (requests j past))) some
    ∙ sym (cond-false (length j.task.plan == 0) (are_acked (plain_count j j.given) (saves_of j past)) (length (requests j past) == length j.task.plan && is_last_passed j 0 (requests j past)) some)
