-- What stops a job at once goes on to hold.
use Rattle.std.proofs.Common.{◌≡◌, ◌⊎◌, inl, inr, ℕ, suc, ◌+◌, ◌<◌, List, [], ◌∷◌, length, map, Bool, true, false, ◌&&◌, ◌||◌, not, Option, Some, None, refl, sym, ◌∙◌, ap, subst, arith}
use Rattle.std.specs.Prelude.{is_some, nat_lt, ◌==◌}
use Rattle.std.proofs.Math.Bool.{and-false}
use Rattle.std.proofs.lemmas.Bool.{and_parts, and_from, or_left, or_right, cond-false, eqb-true, eq-eqb, ltb-true, false_from_ne_true, not-true, or_cases, and_right}
use Rattle.std.proofs.lemmas.Option.{same_Some}
use Rattle.std.proofs.lemmas.List.{length-map}
use Rattle.world.specs.declared.chan.Chan.{Chan}
use Rattle.world.specs.declared.entry.Entry.{Entry}
use Rattle.cell_core.specs.declared.why.Why.{Why}
use Rattle.cell_core.specs.Events as events
use Rattle.run_journal.specs.Codec.{Arrival}
use Rattle.run_journal.specs.Job.{Job}
use Rattle.run_journal.specs.Parts.{saves_of, is_acknowledging}
use Rattle.run_journal.specs.Arrivals.{is_ready}
use Rattle.run_journal.specs.Looks.{is_lost}
use Rattle.run_journal.specs.Requests.{Request, has_idle, reply, is_over, is_fatal, is_last_passed, is_broken, is_next, goes_on, requests, last_request}
use Rattle.run_journal.specs.Why.{bad_stream, is_done, is_error, is_not_ready, is_no_idle, is_timed_out, why}
use Rattle.run_journal.specs.Due.{all_along}
use Rattle.run_journal.specs.Order.{begins_unread}
use Rattle.run_journal.specs.Decoding.{IsDecoding}
use Rattle.run_journal.specs.Grow.{GoOn, no_more, one_more}
use Rattle.run_journal.specs.Course.{course}
use Rattle.run_journal.specs.Agreement.{BeginsUnread, IsHeard, at_once, is_dated, hears_looks, HearsLooks, hears, Hears}
use Rattle.run_journal.proofs.Growth.{go_map, over_stays, reply_stays, passed_stays}
use Rattle.run_journal.proofs.Telling.{came_append, first_rows, journal_rows, bad_is, stays_broken, unread_before, heard_parts}
use Rattle.run_journal.proofs.Dropping.{dropped}
use Rattle.run_journal.proofs.Truths.{not_both}

-- ---- the last request

-- one that is as long as one has no more
only : (r s : Request) (ss : List Request) → length (s ∷ ss) ≡ length (r ∷ []) → ss ≡ []
only r s [] l = refl
only r s (t ∷ ts) l = absurd (omega (arith, l))

-- it stays passed, where as many stand
last_passed_on : (j : Job) (k : ℕ) {rs ss : List Request} → GoOn rs ss → length ss ≡ length rs → is_last_passed j k rs ≡ true → is_last_passed j k ss ≡ true
last_passed_on j k no_more l e = cc
last_passed_on j k (one_more {r} {s} g (no_more {rs})) l e = subst (λ v. is_last_passed j k (s ∷ v) ≡ true) (sym (only r s rs l)) (passed_stays r s g j k e)
last_passed_on j k (one_more {r} {s} g (one_more {r = t} {s = u} {rs} {ss} f fs)) l e =
    last_passed_on j (k + 1) (one_more f fs) (let m : length ss ≡ length rs = omega (arith, l) in ap (λ n. suc n) m) e

-- so where its reply was fatal
error_on : (j : Job) (k : ℕ) {rs ss : List Request} → GoOn rs ss → length ss ≡ length rs → is_error j (last_request k rs) ≡ true → is_error j (last_request k ss) ≡ true
error_on j k no_more l e = cc
error_on j k (one_more {r} {s} g (no_more {rs})) l e =
    let p = and_parts (is_over r) (is_fatal j k (reply r)) e in
    let q = and_parts (has_idle r.io) (is_some (reply r)) p.0 in
    subst (λ v. is_error j (last_request k (s ∷ v)) ≡ true) (sym (only r s rs l))
    (and_from (is_over s) (is_fatal j k (reply s)) (over_stays r s g p.0) (ap (is_fatal j k) (reply_stays r s g q.1) ∙ p.1))
error_on j k (one_more {r} {s} g (one_more {r = t} {s = u} {rs} {ss} f fs)) l e =
    error_on j (k + 1) (one_more f fs) (let m : length ss ≡ length rs = omega (arith, l) in ap (λ n. suc n) m) e

-- and then it isn't passed
error_unpassed : (j : Job) (k : ℕ) (rs : List Request) → is_error j (last_request k rs) ≡ true → is_last_passed j k rs ≡ false
error_unpassed j k [] e = cc
error_unpassed j k (r ∷ []) e = by (is_over r) (is_fatal j k (reply r)) (and_parts (is_over r) (is_fatal j k (reply r)) e).1
  where
    by : (o f : Bool) → f ≡ true → (o && not f) ≡ false
    by true true g = refl
    by false true g = refl
    by o false g = cc
error_unpassed j k (r ∷ s ∷ rs) e = error_unpassed j (k + 1) (s ∷ rs) e

-- ---- requests that nothing follows

module _ (j : Job) (entry : Entry) (past : List Entry) where
  abbrev mapped : List Request
  mapped = map (goes_on j entry past) (requests j past)

  abbrev next : Bool
  next = is_next j (is_acknowledging j (entry ∷ past)) (is_ready j (entry ∷ past)) (saves_of j (entry ∷ past)) mapped

  -- where none comes to stand
  pub none_next : next ≡ false → requests j (entry ∷ past) ≡ mapped
  none_next e = cond-false next _ mapped e

  full_next : (rs : List Request) (a r : Bool) (n : ℕ) → 0 < length j.task.plan → length rs ≡ length j.task.plan → is_next j a r n rs ≡ false
  full_next [] a r n p l = absurd (omega (arith, p, l))
  full_next (x ∷ rs) a r n p l = and_right ((a && is_last_passed j 0 (x ∷ rs)) && n == length (x ∷ rs) + 1) (nat_lt (length (x ∷ rs)) (length j.task.plan)) (ap (λ m. nat_lt m (length j.task.plan)) l ∙ self (length j.task.plan))
    where
      self : (m : ℕ) → nat_lt m m ≡ false
      self m = false_from_ne_true (nat_lt m m) (λ e. let z = ltb-true m m e in absurd (omega (arith, z)))

  unpassed_next : (rs : List Request) (a r : Bool) (n : ℕ) (x : Request) (xs : List Request) → rs ≡ x ∷ xs → is_last_passed j 0 rs ≡ false → is_next j a r n rs ≡ false
  unpassed_next [] a r n x xs f e = cc
  unpassed_next (y ∷ rs) a r n x xs f e = by a (is_last_passed j 0 (y ∷ rs)) (n == length (y ∷ rs) + 1) (nat_lt (length (y ∷ rs)) (length j.task.plan)) e
    where
      by : (a b c d : Bool) → b ≡ false → (((a && b) && c) && d) ≡ false
      by true true c d e = cc
      by true false c d e = refl
      by false b c d e = refl

  -- an executed plan stays so
  pub done_stays : 0 < length j.task.plan → is_done j (saves_of j past) (requests j past) ≡ true → is_done j (saves_of j (entry ∷ past)) (requests j (entry ∷ past)) ≡ true
  done_stays plan e =
      let some : (length j.task.plan == 0) ≡ false = false_from_ne_true (length j.task.plan == 0) (λ f. let z = eqb-true (length j.task.plan) 0 f in absurd (omega (arith, z, plan))) in
      let p = and_parts (length (requests j past) == length j.task.plan) (is_last_passed j 0 (requests j past)) (sym (cond-false (length j.task.plan == 0) _ _ some) ∙ e) in
      let full = eqb-true (length (requests j past)) (length j.task.plan) p.0 in
      let same = length-map (requests j past) (goes_on j entry past) in
      let is = none_next (full_next mapped (is_acknowledging j (entry ∷ past)) (is_ready j (entry ∷ past)) (saves_of j (entry ∷ past)) plan (same ∙ full)) in
      cond-false (length j.task.plan == 0) _ _ some
      ∙ ap (λ rs. length rs == length j.task.plan && is_last_passed j 0 rs) is
      ∙ and_from (length mapped == length j.task.plan) (is_last_passed j 0 mapped) (eq-eqb _ _ (same ∙ full)) (last_passed_on j 0 (go_map j entry past (requests j past)) same p.1)

  -- so a fatal reply
  pub error_stays : is_error j (last_request 0 (requests j past)) ≡ true → is_error j (last_request 0 (requests j (entry ∷ past))) ≡ true
  error_stays e =
      let f = error_on j 0 (go_map j entry past (requests j past)) (length-map (requests j past) (goes_on j entry past)) e in
      ap (λ rs. is_error j (last_request 0 rs)) (none_next (by mapped refl f)) ∙ f
    where
      by : (rs : List Request) → mapped ≡ rs → is_error j (last_request 0 mapped) ≡ true → next ≡ false
      by [] g f = absurd (not_both (is_error j (last_request 0 mapped)) f (ap (λ rs. is_error j (last_request 0 rs)) g))
      by (x ∷ xs) g f = unpassed_next mapped (is_acknowledging j (entry ∷ past)) (is_ready j (entry ∷ past)) (saves_of j (entry ∷ past)) x xs g (error_unpassed j 0 mapped f)

-- ---- causes at once

rows_some : (d e b : Bool) → is_some (first_rows d e b) ≡ (d || (e || b))
rows_some true e b = refl
rows_some false true b = refl
rows_some false false true = refl
rows_some false false false = refl

pub once_rows : (j : Job) (past : List Entry) → is_some (at_once (why j past)) ≡ (is_done j (saves_of j past) (requests j past) || (is_error j (last_request 0 (requests j past)) || is_broken j past))
once_rows j past =
    ap (λ (o : Option Why). is_some o) (journal_rows (is_done j (saves_of j past) (requests j past)) (is_error j (last_request 0 (requests j past))) (is_some (bad_stream j past)) (is_lost j past)
    (is_not_ready j (requests j past) past) (is_no_idle j (last_request 0 (requests j past)) past) (is_timed_out j (last_request 0 (requests j past)) past))
    ∙ rows_some (is_done j (saves_of j past) (requests j past)) (is_error j (last_request 0 (requests j past))) (is_some (bad_stream j past))
    ∙ ap (λ b. is_done j (saves_of j past) (requests j past) || (is_error j (last_request 0 (requests j past)) || b)) (bad_is j past)

-- a request without a reply stops nothing, and no job at once where no stream is broken
unreplied_last : (j : Job) (k : ℕ) (rs : List Request) (m : ℕ) (q : Request) → last_request k rs ≡ Some (m, q) → reply q ≡ None → (is_last_passed j k rs ≡ false) × (is_error j (last_request k rs) ≡ false)
unreplied_last j k [] m q e r = cc
unreplied_last j k (x ∷ []) m q e r =
    let same : reply x ≡ None = ap (λ (v : ℕ × Request). reply v.1) (same_Some _ _ e) ∙ r in
    (unpassed (has_idle x.io) (reply x) same, failed (has_idle x.io) (reply x) same)
  where
    unpassed : (i : Bool) (o : Option (Arrival × ℕ)) → o ≡ None → ((i && is_some o) && not (is_fatal j k o)) ≡ false
    unpassed true None g = refl
    unpassed false None g = refl
    unpassed i (Some v) g = cc

    failed : (i : Bool) (o : Option (Arrival × ℕ)) → o ≡ None → ((i && is_some o) && is_fatal j k o) ≡ false
    failed true None g = refl
    failed false None g = refl
    failed i (Some v) g = cc
unreplied_last j k (x ∷ y ∷ rs) m q e r = unreplied_last j (k + 1) (y ∷ rs) m q e r

pub unanswered_open : (j : Job) (past : List Entry) → 0 < length j.task.plan → is_broken j past ≡ false → (m : ℕ) (q : Request) → last_request 0 (requests j past) ≡ Some (m, q) → reply q ≡ None → is_some (at_once (why j past)) ≡ false
unanswered_open j past plan b m q e r =
    let some : (length j.task.plan == 0) ≡ false = false_from_ne_true (length j.task.plan == 0) (λ f. let z = eqb-true (length j.task.plan) 0 f in absurd (omega (arith, z, plan))) in
    let p = unreplied_last j 0 (requests j past) m q e r in
    once_rows j past
    ∙ ap (λ x. x || (is_error j (last_request 0 (requests j past)) || is_broken j past))
    (cond-false (length j.task.plan == 0) _ _ some ∙ ap (λ x. length (requests j past) == length j.task.plan && x) p.0 ∙ and-false (length (requests j past) == length j.task.plan))
    ∙ ap (λ x. x || is_broken j past) p.1 ∙ b

module _ (j : Job) (dec : IsDecoding j.codec) (plan : 0 < length j.task.plan) where
  -- one of these stays
  pub once_stays : (entry : Entry) (past : List Entry) → ((c : Chan) → begins_unread j c (entry ∷ past) ≡ true) → is_some (at_once (why j past)) ≡ true → is_some (at_once (why j (entry ∷ past))) ≡ true
  once_stays entry past u e = once_rows j (entry ∷ past) ∙ by (or_cases _ _ (sym (once_rows j past) ∙ e))
    where
      by_two : (is_error j (last_request 0 (requests j past)) ≡ true) ⊎ (is_broken j past ≡ true) → (is_error j (last_request 0 (requests j (entry ∷ past))) || is_broken j (entry ∷ past)) ≡ true
      by_two (inl f) = or_left _ _ (error_stays j entry past f)
      by_two (inr f) = or_right (is_error j (last_request 0 (requests j (entry ∷ past)))) _ (stays_broken j dec entry past u f)

      by : (is_done j (saves_of j past) (requests j past) ≡ true) ⊎ ((is_error j (last_request 0 (requests j past)) || is_broken j past) ≡ true)
          → (is_done j (saves_of j (entry ∷ past)) (requests j (entry ∷ past)) || (is_error j (last_request 0 (requests j (entry ∷ past))) || is_broken j (entry ∷ past))) ≡ true
      by (inl f) = or_left _ _ (done_stays j entry past plan f)
      by (inr f) = or_right (is_done j (saves_of j (entry ∷ past)) (requests j (entry ∷ past))) _ (by_two (or_cases _ _ f))

  pub open_before : (entry : Entry) (past : List Entry) → ((c : Chan) → begins_unread j c (entry ∷ past) ≡ true) → is_some (at_once (why j (entry ∷ past))) ≡ false → is_some (at_once (why j past)) ≡ false
  open_before entry past u e = false_from_ne_true (is_some (at_once (why j past))) (λ f. not_both (is_some (at_once (why j (entry ∷ past)))) (once_stays entry past u f) e)

  -- where nothing stops the job at once, neither a clock entry nor a look came after the stop
  pub hears_kept : (past : List Entry) → BeginsUnread j past → Hears j past → is_some (at_once (why j past)) ≡ false → events.came is_dated (dropped j past) ≡ false
  hears_kept [] u h e = refl
  hears_kept (entry ∷ past) u h e =
      let v = unread_before j entry past u in
      let p = and_parts (hears j (entry ∷ past)) (all_along (hears j) past) h in
      came_append is_dated (dropped j past) (course j (entry ∷ past)).unheard
      ∙ ap (λ b. b || events.came is_dated (course j (entry ∷ past)).unheard) (hears_kept past v.1 p.1 (open_before entry past v.0 e))
      ∙ by (or_cases (hears_looks j (entry ∷ past)) _ p.0)
    where
      by : (hears_looks j (entry ∷ past) ≡ true) ⊎ (is_some (at_once (why j (entry ∷ past))) ≡ true) → events.came is_dated (course j (entry ∷ past)).unheard ≡ false
      by (inl f) = not-true (events.came is_dated (course j (entry ∷ past)).unheard) f
      by (inr f) = absurd (not_both (is_some (at_once (why j (entry ∷ past)))) f e)

-- ---- what is weaker

pub heard_looks : (j : Job) (past : List Entry) → IsHeard j past → HearsLooks j past
heard_looks j [] h = refl
heard_looks j (entry ∷ past) h =
    let p = heard_parts j entry past h in
    and_from (hears_looks j (entry ∷ past)) (all_along (hears_looks j) past) (ap (λ es. not (events.came is_dated es)) p.0) (heard_looks j past p.1)

pub looks_hear : (j : Job) (past : List Entry) → HearsLooks j past → Hears j past
looks_hear j [] h = refl
looks_hear j (entry ∷ past) h =
    let p = and_parts (hears_looks j (entry ∷ past)) (all_along (hears_looks j) past) h in
    and_from (hears j (entry ∷ past)) (all_along (hears j) past) (or_left (hears_looks j (entry ∷ past)) _ p.0) (looks_hear j past p.1)
