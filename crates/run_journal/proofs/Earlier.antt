-- The requests at an earlier moment, before which a deadline had passed.
use Rattle.std.proofs.Common.{◌≡◌, ◌⊎◌, inl, inr, ℕ, suc, ◌+◌, ◌<◌, List, [], ◌∷◌, ◌++◌, length, map, Bool, true, false, ◌&&◌, Option, Some, None, refl, sym, ◌∙◌, ap, subst, arith}
use Rattle.std.specs.Prelude.{is_some, slice_get, nat_lt}
use Rattle.std.proofs.lemmas.Bool.{and_parts, and_from, cond-true, cond-false, cases_Bool, lt-ltb}
use Rattle.std.proofs.lemmas.Option.{slice_get_within}
use Rattle.world.specs.declared.entry.Entry.{Entry}
use Rattle.world.specs.Places.{time}
use Rattle.run_journal.specs.Codec.{Arrival}
use Rattle.run_journal.specs.Job.{Job}
use Rattle.run_journal.specs.Parts.{saves_of, is_acknowledging}
use Rattle.run_journal.specs.Arrivals.{ask_state, is_ready}
use Rattle.run_journal.specs.Looks.{ever, is_past}
use Rattle.run_journal.specs.Requests.{Request, reply, goes_on, is_next, fresh, count_queued, with_interrupt, requests, last_request}
use Rattle.run_journal.specs.Due.{all_along}
use Rattle.run_journal.specs.Grow.{GoesOn, GoOn, no_more, one_more}
use Rattle.run_journal.specs.Agreement.{rises}
use Rattle.run_journal.proofs.Growth.{goes, begins_then, reply_stays, requests_go_on, go_self, length_on, goes_self}
use Rattle.run_journal.proofs.Agreeing.{get_mapped, IsIn, before, last, get_pushed}
use Rattle.run_journal.proofs.Asking.{last_numbered}
use Rattle.run_journal.proofs.Clocks.{first_new}
use Rattle.run_journal.proofs.Lapse.{Before, here, earlier, ever_before, clock_from}
use Rattle.run_journal.proofs.Truths.{too_late}

-- ---- lists that go on

pub goes_then : {p q r : Request} → GoesOn p q → GoesOn q r → GoesOn p r
goes_then a b = record {
  number = b.number ∙ a.number;
  clock = b.clock ∙ a.clock;
  io = begins_then a.io b.io;
  replies = begins_then a.replies b.replies;
  interrupted = λ e. b.interrupted (a.interrupted e);
}

go_then : {ps qs rs : List Request} → GoOn ps qs → GoOn qs rs → GoOn ps rs
go_then no_more b = no_more
go_then (one_more g gs) (one_more f fs) = one_more (goes_then g f) (go_then gs fs)

pub go_before : (j : Job) {q past : List Entry} → Before q past → GoOn (requests j q) (requests j past)
go_before j {q} here = go_self (requests j q)
go_before j {q} (earlier {past} entry b) = go_then (go_before j b) (requests_go_on j entry past)

pub none_on : {rs ss : List Request} → GoOn rs ss → ss ≡ [] → rs ≡ []
none_on no_more e = refl
none_on (one_more g gs) e = cc

-- ---- one entry

-- a request that stands did before, or comes to stand now
pub data CameBy (j : Job) (entry : Entry) (past : List Entry) (i : ℕ) (r : Request) : Type 0 where
  stood : (q : Request) → slice_get (requests j past) i ≡ Some q → r ≡ goes_on j entry past q → CameBy j entry past i r
  anew : r ≡ with_interrupt j (entry ∷ past) (fresh (count_queued (length (ask_state j (entry ∷ past)).ids) (map (goes_on j entry past) (requests j past)) + 1) (time past)) → CameBy j entry past i r

pub came_by : (j : Job) (entry : Entry) (past : List Entry) (i : ℕ) (r : Request) → slice_get (requests j (entry ∷ past)) i ≡ Some r → CameBy j entry past i r
came_by j entry past i r e = by (cases_Bool next)
  where
    next : Bool
    next = is_next j (is_acknowledging j (entry ∷ past)) (is_ready j (entry ∷ past)) (saves_of j (entry ∷ past)) (map (goes_on j entry past) (requests j past))

    old : slice_get (map (goes_on j entry past) (requests j past)) i ≡ Some r → CameBy j entry past i r
    old f = let q = get_mapped (goes_on j entry past) (requests j past) i r f in stood q.0 q.1 q.2

    one_of : IsIn (map (goes_on j entry past) (requests j past)) (with_interrupt j (entry ∷ past) (fresh (count_queued (length (ask_state j (entry ∷ past)).ids) (map (goes_on j entry past) (requests j past)) + 1) (time past))) i r → CameBy j entry past i r
    one_of (before f) = old f
    one_of (last f g) = anew g

    by : (next ≡ true) ⊎ (next ≡ false) → CameBy j entry past i r
    by (inl n) = one_of (get_pushed _ _ i r (ap (λ rs. slice_get rs i) (sym (cond-true next _ _ n)) ∙ e))
    by (inr n) = old (ap (λ rs. slice_get rs i) (sym (cond-false next _ _ n)) ∙ e)

-- ---- earlier

-- a request that stands, as it was at an earlier moment
pub record Was (j : Job) (q : List Entry) (i : ℕ) (r : Request) : Type 0 where
  pub old : Request
  pub stands : slice_get (requests j q) i ≡ Some old
  pub on : GoesOn old r

was_on : (j : Job) (q : List Entry) (i : ℕ) (p r : Request) → GoesOn p r → Was j q i p → Was j q i r
was_on j q i p r g w = record { old = w.old; stands = w.stands; on = goes_then w.on g }

-- one that stood by then
pub stood_before : (j : Job) (d : ℕ) {q past : List Entry} → Before q past → all_along rises past ≡ true → ever (is_past d) q ≡ true → (i : ℕ) (r : Request) → slice_get (requests j past) i ≡ Some r → r.clock < d → Was j q i r
stood_before j d here e f i r g l = record { old = r; stands = g; on = goes_self r }
stood_before j d {q} (earlier {past} entry b) e f i r g l = by (λ o x y. stood_before j d b p.1 f i o x y) (came_by j entry past i r g)
  where
    p : (rises (entry ∷ past) ≡ true) × (all_along rises past ≡ true)
    p = and_parts (rises (entry ∷ past)) (all_along rises past) e

    by : ((o : Request) → slice_get (requests j past) i ≡ Some o → o.clock < d → Was j q i o) → CameBy j entry past i r → Was j q i r
    by ih (stood o s n) =
        let c : r.clock ≡ o.clock = ap (λ (v : Request). v.clock) n in
        subst (Was j q i) (sym n) (was_on j q i o (goes_on j entry past o) (goes j entry past o) (ih o s (subst (λ c. c < d) c l)))
    by ih (anew n) = absurd (too_late d (time past) r.clock (clock_from d past p.1 (ever_before (is_past d) b f)) (ap (λ (v : Request). v.clock) n) l)

-- and its reply had come
pub replied_before : (j : Job) (d : ℕ) {q past : List Entry} → Before q past → all_along rises past ≡ true → ever (is_past d) q ≡ true → (i : ℕ) (r : Request) (m : Arrival × ℕ)
    → slice_get (requests j past) i ≡ Some r → reply r ≡ Some m → m.1 < d → (w : Was j q i r) × (reply w.old ≡ Some m)
replied_before j d here e f i r m g h l = (record { old = r; stands = g; on = goes_self r }, h)
replied_before j d {q} (earlier {past} entry b) e f i r m g h l = by (λ o x y. replied_before j d b p.1 f i o m x y l) (came_by j entry past i r g)
  where
    p : (rises (entry ∷ past) ≡ true) × (all_along rises past ≡ true)
    p = and_parts (rises (entry ∷ past)) (all_along rises past) e

    late : m.1 ≡ time past → ⊥
    late c = too_late d (time past) m.1 (clock_from d past p.1 (ever_before (is_past d) b f)) c l

    by_reply : ((o : Request) → slice_get (requests j past) i ≡ Some o → reply o ≡ Some m → (w : Was j q i o) × (reply w.old ≡ Some m)) → (o : Request) → slice_get (requests j past) i ≡ Some o → r ≡ goes_on j entry past o → (v : Option (Arrival × ℕ)) → reply o ≡ v → (w : Was j q i r) × (reply w.old ≡ Some m)
    by_reply ih o s n (Some x) c =
        let same : reply o ≡ Some m = sym (reply_stays o (goes_on j entry past o) (goes j entry past o) (ap is_some c)) ∙ ap reply (sym n) ∙ h in
        let w = ih o s same in
        (record { old = w.0.old; stands = w.0.stands; on = subst (GoesOn w.0.old) (sym n) (goes_then w.0.on (goes j entry past o)) }, w.1)
    by_reply ih o s n None c = absurd (late (sym (first_new o.replies (time past) _ m c (ap reply (sym n) ∙ h))))

    no_reply : None ≡ Some m → ⊥
    no_reply c = cc

    by : ((o : Request) → slice_get (requests j past) i ≡ Some o → reply o ≡ Some m → (w : Was j q i o) × (reply w.old ≡ Some m)) → CameBy j entry past i r → (w : Was j q i r) × (reply w.old ≡ Some m)
    by ih (stood o s n) = by_reply ih o s n (reply o) refl
    by ih (anew n) = absurd (no_reply (sym (ap reply n) ∙ h))

-- the last request was the last
pub last_before : (j : Job) {q past : List Entry} → Before q past → (m : ℕ) (r : Request) → length (requests j past) ≡ suc m → (w : Was j q m r) → (length (requests j q) ≡ suc m) × (last_request 0 (requests j q) ≡ Some (m, w.old))
last_before j {q} {past} b m r l w =
    let a = length_on (go_before j b) in
    let c = slice_get_within (requests j q) m w.old w.stands in
    let n : length (requests j q) ≡ suc m = omega (arith, l, a, c) in
    let z : 0 + m ≡ m = omega arith in
    (n, last_numbered 0 m (requests j q) w.old n w.stands ∙ ap (λ i. Some (i, w.old)) z)

-- ---- readiness

-- once the first save is acknowledged a kernel that is ready has a request to run, where one is planned
pub ready_stands : (j : Job) (past : List Entry) → is_ready j past ≡ true → 0 < saves_of j past → 0 < length j.task.plan → requests j past ≡ [] → ⊥
ready_stands j [] r a p e = absurd (omega (arith, a))
ready_stands j (entry ∷ past) r a p e = by (requests j past) refl
  where
    none : (rs : List Request) (n : Request) → rs ++ n ∷ [] ≡ [] → ⊥
    none [] n f = cc
    none (x ∷ rs) n f = cc

    by : (rs : List Request) → requests j past ≡ rs → ⊥
    by [] f =
        let some : is_next j (is_acknowledging j (entry ∷ past)) (is_ready j (entry ∷ past)) (saves_of j (entry ∷ past)) (map (goes_on j entry past) (requests j past)) ≡ true
        = ap (λ rs. is_next j (is_acknowledging j (entry ∷ past)) (is_ready j (entry ∷ past)) (saves_of j (entry ∷ past)) (map (goes_on j entry past) rs)) f
        ∙ and_from (is_ready j (entry ∷ past) && nat_lt 0 (saves_of j (entry ∷ past))) (nat_lt 0 (length j.task.plan))
        (and_from (is_ready j (entry ∷ past)) (nat_lt 0 (saves_of j (entry ∷ past))) r (lt-ltb 0 (saves_of j (entry ∷ past)) a)) (lt-ltb 0 (length j.task.plan) p) in
        none (map (goes_on j entry past) (requests j past)) _ (sym (cond-true _ _ _ some) ∙ e)
    by (x ∷ rs) f = absurd (some (sym f ∙ none_on (requests_go_on j entry past) e))
      where
        some : ◌≡◌ {A = List Request} (x ∷ rs) [] → ⊥
        some g = cc
