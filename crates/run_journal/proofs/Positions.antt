-- What came for a request, by the positions at which it arrived.
use Rattle.std.proofs.Common.{◌≡◌, inl, inr, ℕ, zero, suc, ◌+◌, ◌<◌, ◌≤◌, List, [], ◌∷◌, ◌++◌, length, map, Bool, true, false, ◌&&◌, cond, Some, None, refl, sym, ◌∙◌, ap, subst, arith, length-append}
use Rattle.std.specs.Prelude.{filter, nat_lt, nat_le, if◌then◌else◌, slice_get, option_map}
use Rattle.std.proofs.lemmas.List.{map-append, length-map}
use Rattle.std.proofs.lemmas.List.Elements.{filter-append}
use Rattle.std.proofs.lemmas.Bool.{cond-true, cond-false, cond_both, cases_Bool, cases_lt, and_left, lt-ltb, le-ltb, lt-leb, le-leb}
use Rattle.std.proofs.lemmas.Option.{same_Some, slice_get-map}
use Rattle.world.specs.declared.chan.Chan.{Chan}
use Rattle.world.specs.declared.chan.Chan.TheVariants.{Shell, Iopub}
use Rattle.world.specs.declared.entry.Entry.{Entry}
use Rattle.world.specs.Places.{time}
use Rattle.run_journal.specs.Codec.{Arrival}
use Rattle.run_journal.specs.Job.{Job}
use Rattle.run_journal.specs.Parts.{saves_of, is_acknowledging}
use Rattle.run_journal.specs.Arrivals.{arrive, arrivals, ask_state, is_ready}
use Rattle.run_journal.specs.Requests.{Request, with_interrupt, goes_on, fresh, count_queued, is_next, requests, or_later}
use Rattle.run_journal.specs.Literal.{start_at, alone, later_with, is_for, is_reply_for, Literally}
use Rattle.run_journal.proofs.Growth.{requests_go_on, length_on}
use Rattle.jtext.proofs.Lists.{some_at}

-- each arrival stands at a position before this one
abbrev AllBelow : ℕ → List (ℕ × Arrival) → Type 0
AllBelow n [] = Unit {0}
AllBelow n (a ∷ rest) = (a.0 < n) × AllBelow n rest

below_more : (m n : ℕ) (xs : List (ℕ × Arrival)) → m ≤ n → AllBelow m xs → AllBelow n xs
below_more m n [] h a = tt
below_more m n (x ∷ xs) h a = (omega (arith, a.0, h), below_more m n xs h a.1)

below_append : (n : ℕ) (xs ys : List (ℕ × Arrival)) → AllBelow n xs → AllBelow n ys → AllBelow n (xs ++ ys)
below_append n [] ys a b = b
below_append n (x ∷ xs) ys a b = (a.0, below_append n xs ys a.1 b)

below_map : (n : ℕ) (ms : List Arrival) → AllBelow (suc n) (map (λ m. (n, m)) ms)
below_map n [] = tt
below_map n (m ∷ ms) = (omega arith, below_map n ms)

arrivals_below : (j : Job) (c : Chan) (past : List Entry) → AllBelow (length past) (arrivals j c past)
arrivals_below j c [] = tt
arrivals_below j c (entry ∷ past) = below_append (suc (length past)) (arrivals j c past) (map (λ m. (length past, m)) (arrive j c entry past))
    (below_more (length past) (suc (length past)) (arrivals j c past) (omega arith) (arrivals_below j c past)) (below_map (length past) (arrive j c entry past))

-- none of what arrived up to a position arrived later
later_none : (test : Arrival → Bool) (start : ℕ) (xs : List (ℕ × Arrival)) → AllBelow (suc start) xs → later_with test start xs ≡ []
later_none test start [] h = refl
later_none test start (x ∷ xs) h =
    let away : (nat_lt start x.0 && test x.1) ≡ false = and_left (nat_lt start x.0) _ (le-ltb start x.0 (omega (arith, h.0))) in
    ap alone (cond-false (nat_lt start x.0 && test x.1) _ _ away) ∙ later_none test start xs h.1

later_new : (test : Arrival → Bool) (start n : ℕ) (ms : List Arrival) → start < n → later_with test start (map (λ m. (n, m)) ms) ≡ filter test ms
later_new test start n [] h = refl
later_new test start n (m ∷ ms) h = by (nat_lt start n) (test m) (lt-ltb start n h) (filter (λ a. nat_lt start a.0 && test a.1) (map (λ x. (n, x)) ms)) _ (later_new test start n ms h)
  where
    by : (b p : Bool) → b ≡ true → (xs : List (ℕ × Arrival)) (ys : List Arrival) → map (λ a. a.1) xs ≡ ys → map (λ a. a.1) (cond (b && p) ((n, m) ∷ xs) xs) ≡ cond p (m ∷ ys) ys
    by true true e xs ys h = ap (λ v. m ∷ v) h
    by true false e xs ys h = h
    by false p e xs ys h = cc

later_append : (test : Arrival → Bool) (start : ℕ) (xs ys : List (ℕ × Arrival)) → later_with test start (xs ++ ys) ≡ later_with test start xs ++ later_with test start ys
later_append test start xs ys = ap alone (filter-append (λ a. nat_lt start a.0 && test a.1) xs ys) ∙ map-append (λ a. a.1) _ _

-- ---- a request's messages by their positions

-- so many requests don't stand before there are so many
not_started : (j : Job) (k : ℕ) (past : List Entry) → length (requests j past) < k → start_at j k past ≡ None
not_started j k [] h = refl
not_started j k (entry ∷ past) h =
    let fewer : length (requests j past) ≤ length (requests j (entry ∷ past)) = length_on (requests_go_on j entry past) in
    ap (λ o. or_later o (if nat_le k (length (requests j (entry ∷ past))) then Some (length past) else None)) (not_started j k past (omega (arith, h, fewer)))
    ∙ cond-false (nat_le k (length (requests j (entry ∷ past)))) _ _ (lt-leb k (length (requests j (entry ∷ past))) h)

get_front : (rs ss : List Request) (i : ℕ) (r : Request) → slice_get rs i ≡ Some r → slice_get (rs ++ ss) i ≡ Some r
get_front [] ss i r e = cc
get_front (x ∷ rs) ss zero r e = e
get_front (x ∷ rs) ss (suc i) r e = get_front rs ss i r e

get_last : (rs : List Request) (q r : Request) (i : ℕ) → length rs ≤ i → slice_get (rs ++ q ∷ []) i ≡ Some r → (r ≡ q) × (i ≡ length rs)
get_last [] q r zero h e = (cc, refl)
get_last [] q r (suc i) h e = cc
get_last (x ∷ rs) q r zero h e = absurd (omega (arith, h))
get_last (x ∷ rs) q r (suc i) h e = let p = get_last rs q r i (omega (arith, h)) e in (p.0, ap suc p.1)

get_past : (rs : List Request) (i : ℕ) (r : Request) → length rs ≤ i → slice_get rs i ≡ Some r → ⊥
get_past [] i r h e = cc
get_past (x ∷ rs) zero r h e = omega (arith, h)
get_past (x ∷ rs) (suc i) r h e = get_past rs i r (omega (arith, h)) e

drop_clock : (clock : ℕ) (ms : List Arrival) → map {B = Arrival} (λ m. m.0) (map {B = Arrival × ℕ} (λ m. (m, clock)) ms) ≡ ms
drop_clock clock [] = refl
drop_clock clock (m ∷ ms) = ap (λ v. m ∷ v) (drop_clock clock ms)

module _ (j : Job) where
  -- what came later, with the arrivals of one more entry
  later_more : (test : Arrival → Bool) (start : ℕ) (c : Chan) (entry : Entry) (past : List Entry) → start < length past
      → later_with test start (arrivals j c (entry ∷ past)) ≡ later_with test start (arrivals j c past) ++ filter test (arrive j c entry past)
  later_more test start c entry past h =
      later_append test start (arrivals j c past) (map (λ m. (length past, m)) (arrive j c entry past))
      ∙ ap (λ ys. later_with test start (arrivals j c past) ++ ys) (later_new test start (length past) (arrive j c entry past) h)

  literal_on : (i : ℕ) (entry : Entry) (past : List Entry) (r : Request) → Literally j i past r → Literally j i (entry ∷ past) (goes_on j entry past r)
  literal_on i entry past r l = record {
    start = l.start;
    stands = ap (λ o. or_later o (if nat_le (i + 1) (length (requests j (entry ∷ past))) then Some (length past) else None)) l.stands;
    early = omega (arith, l.early);
    io = ap (λ xs. xs ++ filter (is_for j r.number) (arrive j Iopub entry past)) l.io ∙ sym (later_more (is_for j r.number) l.start Iopub entry past l.early);
    replies = map-append (λ m. m.0) r.replies _
        ∙ ap (λ xs. map {B = Arrival} (λ m. m.0) r.replies ++ xs) (drop_clock (time past) (filter (is_reply_for j r.number) (arrive j Shell entry past)))
        ∙ ap (λ xs. xs ++ filter (is_reply_for j r.number) (arrive j Shell entry past)) l.replies
        ∙ sym (later_more (is_reply_for j r.number) l.start Shell entry past l.early);
  }

  literal_new : (i : ℕ) (entry : Entry) (past : List Entry) (r : Request) → r.io ≡ [] → r.replies ≡ [] → i ≡ length (requests j past) → i < length (requests j (entry ∷ past)) → Literally j i (entry ∷ past) r
  literal_new i entry past r none silent here more = record {
    start = length past;
    stands = ap (λ o. or_later o (if nat_le (i + 1) (length (requests j (entry ∷ past))) then Some (length past) else None)) (not_started j (i + 1) past (omega (arith, here)))
        ∙ cond-true (nat_le (i + 1) (length (requests j (entry ∷ past)))) _ _ (le-leb (i + 1) (length (requests j (entry ∷ past))) (omega (arith, more)));
    early = omega arith;
    io = none ∙ sym (later_none (is_for j r.number) (length past) (arrivals j Iopub (entry ∷ past)) (arrivals_below j Iopub (entry ∷ past)));
    replies = ap (map (λ m. m.0)) silent ∙ sym (later_none (is_reply_for j r.number) (length past) (arrivals j Shell (entry ∷ past)) (arrivals_below j Shell (entry ∷ past)));
  }

  -- each request has what arrived later with its parent
  pub literal : (past : List Entry) (i : ℕ) (r : Request) → slice_get (requests j past) i ≡ Some r → Literally j i past r
  literal [] i r e = cc
  literal (entry ∷ past) i r e = elim (cases_lt i (length (requests j past))) [
    | inl below ↦
        let old = some_at (requests j past) i below in
        let is : slice_get (requests j (entry ∷ past)) i ≡ Some (goes_on j entry past old.0) = kept (slice_get-map (goes_on j entry past) (requests j past) i ∙ ap (option_map (goes_on j entry past)) old.1) in
        let same : r ≡ goes_on j entry past old.0 = same_Some _ _ (sym e ∙ is) in
        subst (λ s. Literally j i (entry ∷ past) s) (sym same) (literal_on i entry past old.0 (literal past i old.0 old.1))
    | inr above ↦ fresh_one (omega (arith, above, length-map (requests j past) (goes_on j entry past))) e
  ]
    where
      rs : List Request
      rs = map (goes_on j entry past) (requests j past)

      next : Bool
      next = is_next j (is_acknowledging j (entry ∷ past)) (is_ready j (entry ∷ past)) (saves_of j (entry ∷ past)) rs

      q : Request
      q = with_interrupt j (entry ∷ past) (fresh (count_queued (length (ask_state j (entry ∷ past)).ids) rs + 1) (time past))

      kept : {s : Request} → slice_get rs i ≡ Some s → slice_get (requests j (entry ∷ past)) i ≡ Some s
      kept {s} h = cond_both next (rs ++ q ∷ []) rs (λ ss. slice_get ss i ≡ Some s) (λ e. get_front rs (q ∷ []) i s h) (λ e. h)

      fresh_one : length rs ≤ i → slice_get (requests j (entry ∷ past)) i ≡ Some r → Literally j i (entry ∷ past) r
      fresh_one h f = elim (cases_Bool next) [
        | inl e ↦
            let now : requests j (entry ∷ past) ≡ rs ++ q ∷ [] = cond-true next (rs ++ q ∷ []) rs e in
            let p = get_last rs q r i h (ap (λ ss. slice_get ss i) (sym now) ∙ f) in
            literal_new i entry past r (ap (λ (s : Request). s.io) p.0) (ap (λ (s : Request). s.replies) p.0) (p.1 ∙ length-map (requests j past) (goes_on j entry past))
            (omega (arith, p.1, ap length now, length-append rs (q ∷ [])))
        | inr e ↦
            let now : requests j (entry ∷ past) ≡ rs = cond-false next (rs ++ q ∷ []) rs e in
            absurd (get_past rs i r h (ap (λ ss. slice_get ss i) (sym now) ∙ f))
      ]
