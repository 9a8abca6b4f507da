-- How many of the saves that are due are those of passed requests.
use Rattle.std.proofs.Common.{◌≡◌, ℕ, zero, suc, ◌+◌, ◌<◌, ◌≤◌, List, [], ◌∷◌, ◌++◌, length, Bool, true, false, ◌&&◌, ◌||◌, not, cond, Option, Some, None, refl, sym, ◌∙◌, ap, arith, append_assoc, length-append}
use Rattle.std.specs.Prelude.{◌==◌, nat_lt, slice_get}
use Rattle.std.proofs.Math.Bool.{true≢false}
use Rattle.std.proofs.lemmas.Bool.{and_parts, cond-true, eqb-true, false_from_ne_true, lt-ltb}
use Rattle.std.proofs.lemmas.List.{append-nil}
use Rattle.world.specs.declared.entry.Entry.{Entry}
use Rattle.zmtp_wire.specs.Meaning.{Begins}
use Rattle.cell_core.specs.declared.why.Why.{Why}
use Rattle.out_fold.specs.declared.used.Used.{Used}
use Rattle.run_journal.specs.Job.{Job}
use Rattle.run_journal.specs.Parts.{saves_of, is_acknowledging}
use Rattle.run_journal.specs.Arrivals.{is_ready}
use Rattle.run_journal.specs.Requests.{Request, is_last_passed, is_next, is_passed, use_of, used_of}
use Rattle.run_journal.specs.Saves.{Save, closing, is_marked, last_cell, passes, run_saves, save, stop_save, stopping}
use Rattle.run_journal.specs.Why.{plan_end}
use Rattle.run_journal.specs.Grow.{ArePassed}
use Rattle.job_journal.specs.Made.{HasMade, passing_saves}

-- ---- what was made

-- of a list that begins another's front and more, what isn't longer than the front begins the front
begins_short : (made front more due : List Save) → due ≡ front ++ more → length made ≤ length front → Begins made due → Begins made front
begins_short made front more due e h b = by made front b.rest h (sym b.joined ∙ e)
  where
    head_is : {x y : Save} {xs ys : List Save} → x ∷ xs ≡ y ∷ ys → x ≡ y
    head_is e = cc

    rest_is : {x y : Save} {xs ys : List Save} → x ∷ xs ≡ y ∷ ys → xs ≡ ys
    rest_is e = cc

    by : (made front rest : List Save) → length made ≤ length front → made ++ rest ≡ front ++ more → Begins made front
    by [] front rest h e = record { rest = front; joined = refl }
    by (m ∷ made) [] rest h e = absurd (omega (arith, h))
    by (m ∷ made) (f ∷ front) rest h e =
        let b = by made front rest (omega (arith, h)) (rest_is e) in
        record { rest = b.rest; joined = ap (λ x. x ∷ front) (sym (head_is e)) ∙ ap (λ v. m ∷ v) b.joined }

-- the saves of passed requests, and those of a stop and of the whole
pub parts_of_run : (j : Job) (rs : List Request) (w : Option Why) → run_saves j rs w ≡ passing_saves j rs ++ (stopping j rs w ++ closing j rs)
parts_of_run j rs w = append_assoc (passing_saves j rs) (stopping j rs w) (closing j rs)

-- what was made of all saves that are due is of passed requests, where it isn't more than they are
pub made_of_passes : (j : Job) (rs : List Request) (w : Option Why) (n : ℕ) (now : List Entry) → n ≤ length (passing_saves j rs) → HasMade j (run_saves j rs w) n now
    → HasMade j (passing_saves j rs) n now
made_of_passes j rs w n now h m =
    let k : length m.made ≡ n = m.counted in
    record {
      made = m.made;
      texts = m.texts;
      counted = m.counted;
      are_first = begins_short m.made (passing_saves j rs) (stopping j rs w ++ closing j rs) (run_saves j rs w) (parts_of_run j rs w) (omega (arith, h, k)) m.are_first;
    }

-- no more were made than are due
pub made_few : (j : Job) (due : List Save) (n : ℕ) (now : List Entry) → HasMade j due n now → n ≤ length due
made_few j due n now m =
    let k : length m.made ≡ n = m.counted in
    let l : length due ≡ length m.made + length m.are_first.rest = ap (λ (v : List Save). length v) m.are_first.joined ∙ length-append m.made m.are_first.rest in
    omega (arith, k, l)

-- ---- how many there are

-- where the last request is passed there is a save for each
passes_long : (j : Job) (front : List Used) (k : ℕ) (plan : List ℕ) (rs : List Request) → length rs ≤ length plan → ArePassed j k rs → is_last_passed j k rs ≡ true
    → length (passes j front k plan rs) ≡ length rs
passes_long j front k plan [] h a e = absurd (true≢false (sym e))
passes_long j front k [] (r ∷ rs) h a e = absurd (omega (arith, h))
passes_long j front k (i ∷ plan) (r ∷ []) h a e =
    ap (λ (v : List Save). length v) (cond-true (is_passed j k r) (save j (front ++ use_of i r ∷ []) (i + 1) None ∷ passes j (front ++ use_of i r ∷ []) (k + 1) plan []) [] e)
    ∙ ap (λ (v : List Save). suc (length v)) (none_left (front ++ use_of i r ∷ []) (k + 1) plan)
  where
    none_left : (us : List Used) (k : ℕ) (plan : List ℕ) → passes j us k plan [] ≡ []
    none_left us k [] = refl
    none_left us k (i ∷ plan) = refl
passes_long j front k (i ∷ plan) (r ∷ s ∷ rs) h a e =
    ap (λ (v : List Save). length v)
    (cond-true (is_passed j k r) (save j (front ++ use_of i r ∷ []) (i + 1) None ∷ passes j (front ++ use_of i r ∷ []) (k + 1) plan (s ∷ rs)) [] a.0)
    ∙ ap (λ n. suc n) (passes_long j (front ++ use_of i r ∷ []) (k + 1) plan (s ∷ rs) (omega (arith, h)) a.1 e)

both_hold : (a b c : Bool) → a ≡ true → c ≡ true → ((a && b) && c) ≡ false → b ≡ false
both_hold true true true e f g = cc
both_hold true false true e f g = refl
both_hold true b false e f g = cc
both_hold false b c e f g = cc

-- A request comes to stand by an acknowledgement: so many saves were acknowledged by then as there are of passed requests.
pub saves_at_next : (j : Job) (entry : Entry) (past : List Entry) (rs : List Request) → length rs ≤ length j.task.plan → ArePassed j 0 rs
    → is_next j false (is_ready j past) (saves_of j past) rs ≡ false → is_ready j (entry ∷ past) ≡ is_ready j past → saves_of j (entry ∷ past) ≡ saves_of j past + 1
    → is_next j (is_acknowledging j (entry ∷ past)) (is_ready j (entry ∷ past)) (saves_of j (entry ∷ past)) rs ≡ true
    → saves_of j (entry ∷ past) ≤ length (passing_saves j rs)
saves_at_next j entry past [] few a before ready one e =
    let x = and_parts (is_ready j (entry ∷ past) && nat_lt 0 (saves_of j (entry ∷ past))) (nat_lt 0 (length j.task.plan)) e in
    let y = and_parts (is_ready j (entry ∷ past)) (nat_lt 0 (saves_of j (entry ∷ past))) x.0 in
    let none : nat_lt 0 (saves_of j past) ≡ false = both_hold (is_ready j past) (nat_lt 0 (saves_of j past)) (nat_lt 0 (length j.task.plan)) (sym ready ∙ y.0) x.1 before in
    let no : saves_of j past ≡ 0 = zero_is (saves_of j past) none in
    omega (arith, one, no)
  where
    zero_is : (n : ℕ) → nat_lt 0 n ≡ false → n ≡ 0
    zero_is zero f = refl
    zero_is (suc n) f = absurd (true≢false (sym (lt-ltb 0 (suc n) (omega arith)) ∙ f))
saves_at_next j entry past (r ∷ rs) few a before ready one e =
    let x = and_parts ((is_acknowledging j (entry ∷ past) && is_last_passed j 0 (r ∷ rs)) && saves_of j (entry ∷ past) == length (r ∷ rs) + 1)
    (nat_lt (length (r ∷ rs)) (length j.task.plan)) e in
    let y = and_parts (is_acknowledging j (entry ∷ past) && is_last_passed j 0 (r ∷ rs)) (saves_of j (entry ∷ past) == length (r ∷ rs) + 1) x.0 in
    let z = and_parts (is_acknowledging j (entry ∷ past)) (is_last_passed j 0 (r ∷ rs)) y.0 in
    let s : saves_of j (entry ∷ past) ≡ length (r ∷ rs) + 1 = eqb-true (saves_of j (entry ∷ past)) (length (r ∷ rs) + 1) y.1 in
    let l : length (passes j [] 0 j.task.plan (r ∷ rs)) ≡ length (r ∷ rs) = passes_long j [] 0 j.task.plan (r ∷ rs) few a z.1 in
    omega (arith, s, l)

-- ---- a further save

-- Where one more save is due than were made, those that were made are of passed requests.
pub further_save : (j : Job) → 0 < length j.task.plan → (rs : List Request) (w : Option Why) (n : ℕ) (s : Save) → slice_get (run_saves j rs w) n ≡ Some s → n ≤ length (passing_saves j rs)
further_save j runs rs w n s e =
    short n (passing_saves j rs) (stopping j rs w ++ closing j rs) s few (ap (λ v. slice_get v n) (sym (parts_of_run j rs w)) ∙ e)
  where
    short : (n : ℕ) (front more : List Save) (s : Save) → length more ≤ 1 → slice_get (front ++ more) n ≡ Some s → n ≤ length front
    short zero front more s h e = omega arith
    short (suc n) [] [] s h e = cc
    short (suc n) [] (m ∷ []) s h e = cc
    short (suc n) [] (m ∷ o ∷ more) s h e = absurd (omega (arith, h))
    short (suc n) (f ∷ front) more s h e = let k = short n front more s h e in omega (arith, k)

    stop_few : (o : Option ℕ) → length (stop_save j rs o) ≤ 1
    stop_few None = omega arith
    stop_few (Some i) = omega arith

    few_by : (m l a e t : Bool) (xs : List Save) (y : Save) → length xs ≤ 1 → e ≡ false → length (cond (m && not l) xs [] ++ cond ((a && (e || l)) && t) (y ∷ []) []) ≤ 1
    few_by m l a true t xs y h f = cc
    few_by true true true false true xs y h f = omega arith
    few_by true true true false false xs y h f = omega arith
    few_by true true false false t xs y h f = omega arith
    few_by false true true false true xs y h f = omega arith
    few_by false true true false false xs y h f = omega arith
    few_by false true false false t xs y h f = omega arith
    few_by true false true false t xs y h f = let k = ap (λ (v : List Save). length v) (append-nil xs) in omega (arith, h, k)
    few_by true false false false t xs y h f = let k = ap (λ (v : List Save). length v) (append-nil xs) in omega (arith, h, k)
    few_by false false true false t xs y h f = omega arith
    few_by false false false false t xs y h f = omega arith

    some : (length j.task.plan == 0) ≡ false
    some = false_from_ne_true (length j.task.plan == 0) (λ f. let n : length j.task.plan ≡ 0 = eqb-true (length j.task.plan) 0 f in absurd (omega (arith, runs, n)))

    few : length (stopping j rs w ++ closing j rs) ≤ 1
    few =
        few_by (is_marked w) (is_last_passed j 0 rs) (length rs == length j.task.plan) (length j.task.plan == 0) (nat_lt (plan_end j.task.plan) j.task.cells)
        (stop_save j rs (last_cell j.task.plan rs)) (save j (used_of j.task.plan rs) j.task.cells None) (stop_few (last_cell j.task.plan rs)) some
