-- What was so stays so as a journal grows: readiness, requests, and the saves that are due.
use Rattle.std.proofs.Common.{◌≡◌, inl, inr, ℕ, ◌+◌, ◌≤◌, List, [], ◌∷◌, ◌++◌, length, map, Bool, true, false, ◌&&◌, ◌||◌, not, cond, Option, Some, None, refl, sym, ◌∙◌, ap, subst, arith, append_assoc}
use Rattle.std.specs.Prelude.{is_some, nat_lt, ◌==◌}
use Rattle.std.proofs.lemmas.List.{append-nil}
use Rattle.std.proofs.lemmas.List.Folds.{list_any-append}
use Rattle.std.proofs.lemmas.Bool.{and_parts, and_from, and_left, and_right, or_left, not_from_true, cond-true, cond-false, cases_Bool, cond_both, eqb-true, or_right, or_from}
use Rattle.world.specs.declared.entry.Entry.{Entry}
use Rattle.world.specs.Places.{time}
use Rattle.world.specs.Waits.{moment_of}
use Rattle.world.specs.Jobs.{closes}
use Rattle.cell_core.specs.declared.why.Why.{Why}
use Rattle.cell_core.specs.declared.why.Why.TheVariants as cause
use Rattle.kernel_talk.specs.Asking.{Asked}
use Rattle.out_fold.specs.declared.used.Used.{Used}
use Rattle.out_fold.specs.Cells.{says_idle}
use Rattle.zmtp_wire.specs.Meaning.{Begins}
use Rattle.run_journal.specs.Codec.{Arrival}
use Rattle.run_journal.specs.Job.{Job, Given, Refuses, Prepares, Runs}
use Rattle.run_journal.specs.Parts.{saves_of, is_acknowledging, is_shut, before_shut}
use Rattle.run_journal.specs.Arrivals.{ask_on, ask_state, is_ready, is_asked, can_ask}
use Rattle.run_journal.specs.Requests.{Request, through_idle, has_idle, own, first, reply, reply_date, as_used, use_of, is_over, is_fatal, is_passed, is_last_passed, with_interrupt, goes_on, is_next, count_queued, fresh, and_next, requests, or_later}
use Rattle.run_journal.specs.Why.{cause_if, is_done, plan_end, why}
use Rattle.run_journal.specs.Saves.{Save, save, passes, is_marked, last_cell, stop_save, stopping, is_complete, closing, run_saves, saves_for, saves_by, saves}
use Rattle.run_journal.specs.Grow.{GoesOn, GoOn, no_more, one_more}
use Rattle.run_journal.proofs.Truths.{or_rest}

-- ---- readiness

both_stay : (a b x y : Bool) → (a && b) ≡ true → ((a || x) && (b || y)) ≡ true
both_stay a b x y e = let p = and_parts a b e in and_from (a || x) (b || y) (or_left a x p.0) (or_left b y p.1)

-- a kernel that is ready stays ready
pub ready_stays : (j : Job) (entry : Entry) (past : List Entry) → is_ready j past ≡ true → is_ready j (entry ∷ past) ≡ true
unfolding ask_on
ready_stays j entry past e = both_stay (ask_state j past).told (ask_state j past).heard _ _ e

not_asked : (can : Bool) (a : Asked) (clock : Option ℕ) → (a.told && a.heard) ≡ true → is_asked can a clock ≡ false
not_asked can a None e = refl
not_asked can a (Some ms) e = and_left (can && not (a.told && a.heard)) _ (and_right can _ (not_from_true (a.told && a.heard) e))

-- and isn't asked any more
pub asked_stays : (j : Job) (entry : Entry) (past : List Entry) → is_ready j past ≡ true → (ask_state j (entry ∷ past)).ids ≡ (ask_state j past).ids
unfolding ask_on
asked_stays j entry past e = cond-false (is_asked (can_ask j past) (ask_state j past) (moment_of entry)) _ _ (not_asked (can_ask j past) (ask_state j past) (moment_of entry) e)

-- ---- acknowledged saves

-- none is taken back, and one entry acknowledges at most one
pub acked_grows : (j : Job) (entry : Entry) (past : List Entry) → (saves_of j past ≤ saves_of j (entry ∷ past)) × (saves_of j (entry ∷ past) ≤ saves_of j past + 1)
acked_grows j entry past = cond_both (is_acknowledging j (entry ∷ past)) (saves_of j past + 1) (saves_of j past) (λ n. (saves_of j past ≤ n) × (n ≤ saves_of j past + 1)) (λ e. (omega arith, omega arith)) (λ e. (omega arith, omega arith))

-- ---- one request

idle_more : (b : Bool) (m : Arrival) (us vs : List Arrival) → (b ≡ false → us ≡ vs) → cond b (m ∷ []) (m ∷ us) ≡ cond b (m ∷ []) (m ∷ vs)
idle_more true m us vs h = refl
idle_more false m us vs h = ap (λ ms. m ∷ ms) (h refl)

-- what comes after an idle isn't used
pub through_idle_more : (xs ys : List Arrival) → has_idle xs ≡ true → through_idle (xs ++ ys) ≡ through_idle xs
through_idle_more [] ys e = cc
through_idle_more (x ∷ xs) ys e = idle_more (says_idle x.content) x (through_idle (xs ++ ys)) (through_idle xs) (λ f. through_idle_more xs ys (or_rest (says_idle x.content) (has_idle xs) e f))

-- an idle that came stays
pub has_idle_more : (xs ys : List Arrival) → has_idle xs ≡ true → has_idle (xs ++ ys) ≡ true
has_idle_more xs ys e = list_any-append (λ m. says_idle m.content) xs ys ∙ or_left (has_idle xs) (has_idle ys) e

first_more : {X : Type 0} (xs ys : List X) → is_some (first xs) ≡ true → first (xs ++ ys) ≡ first xs
first_more [] ys e = cc
first_more (x ∷ xs) ys e = refl

-- a request goes on
pub goes : (j : Job) (entry : Entry) (past : List Entry) (r : Request) → GoesOn r (goes_on j entry past r)
goes j entry past r = record {
  number = refl;
  clock = refl;
  io = record { rest = _; joined = refl };
  replies = record { rest = _; joined = refl };
  interrupted = λ e. or_left r.interrupted _ e;
}

passed_alike : (j : Job) (k : ℕ) (r s : Request) → has_idle s.io ≡ has_idle r.io → reply s ≡ reply r → is_passed j k s ≡ is_passed j k r
passed_alike j k r s i p =
    ap (λ h. (h && is_some (reply s)) && not (is_fatal j k (reply s))) i
    ∙ ap (λ (o : Option (Arrival × ℕ)). (has_idle r.io && is_some o) && not (is_fatal j k o)) p

module _ (r s : Request) (g : GoesOn r s) where
  -- an idle that came for it stays
  pub idle_stays : has_idle r.io ≡ true → has_idle s.io ≡ true
  idle_stays e = ap has_idle g.io.joined ∙ has_idle_more r.io g.io.rest e

  -- what is used of an ended request doesn't change
  pub own_stays : has_idle r.io ≡ true → own s ≡ own r
  own_stays e = ap through_idle g.io.joined ∙ through_idle_more r.io g.io.rest e

  -- the reply doesn't change
  pub reply_stays : is_some (reply r) ≡ true → reply s ≡ reply r
  reply_stays e = ap first g.replies.joined ∙ first_more r.replies g.replies.rest e

  -- a request that is over stays over
  pub over_stays : is_over r ≡ true → is_over s ≡ true
  over_stays e =
      let p = and_parts (has_idle r.io) (is_some (reply r)) e in
      and_from (has_idle s.io) (is_some (reply s)) (idle_stays p.0) (ap is_some (reply_stays p.1) ∙ p.1)

  -- what is used for it stays
  pub used_stays : (cell : ℕ) → is_over r ≡ true → use_of cell s ≡ use_of cell r
  used_stays cell e =
      let p = and_parts (has_idle r.io) (is_some (reply r)) e in
      ap (λ (ms : List Arrival). record { cell = cell; own = map as_used ms; reply = reply_date (reply s) }) (own_stays p.0)
      ∙ ap (λ (o : Option (Arrival × ℕ)). record { cell = cell; own = map as_used (own r); reply = reply_date o }) (reply_stays p.1)

  -- a request that is passed stays passed
  pub passed_stays : (j : Job) (k : ℕ) → is_passed j k r ≡ true → is_passed j k s ≡ true
  passed_stays j k e =
      let p = and_parts (is_over r) (not (is_fatal j k (reply r))) e in
      let q = and_parts (has_idle r.io) (is_some (reply r)) p.0 in
      passed_alike j k r s (idle_stays q.0 ∙ sym q.0) (reply_stays q.1) ∙ e

-- ---- lists that go on

-- each list begins itself
pub begins_self : {X : Type 0} (xs : List X) → Begins xs xs
begins_self xs = record { rest = []; joined = sym (append-nil xs) }

-- what begins a list that begins another begins that
pub begins_then : {X : Type 0} {xs ys zs : List X} → Begins xs ys → Begins ys zs → Begins xs zs
begins_then {xs = xs} a b = record { rest = a.rest ++ b.rest; joined = b.joined ∙ ap (λ v. v ++ b.rest) a.joined ∙ append_assoc xs a.rest b.rest }

-- the same list under another name
pub begins_as : {X : Type 0} {xs ys zs : List X} → Begins xs ys → zs ≡ ys → Begins xs zs
begins_as a e = record { rest = a.rest; joined = e ∙ a.joined }

-- with the same item before both
pub begins_front : {X : Type 0} (x : X) {xs ys : List X} → Begins xs ys → Begins (x ∷ xs) (x ∷ ys)
begins_front x a = record { rest = a.rest; joined = ap (λ v. x ∷ v) a.joined }

-- a request goes on as itself
pub goes_self : (r : Request) → GoesOn r r
goes_self r = record { number = refl; clock = refl; io = begins_self r.io; replies = begins_self r.replies; interrupted = λ e. e }

pub go_self : (rs : List Request) → GoOn rs rs
go_self [] = no_more
go_self (r ∷ rs) = one_more (goes_self r) (go_self rs)

-- there are as many at least
pub length_on : {rs ss : List Request} → GoOn rs ss → length rs ≤ length ss
length_on no_more = omega arith
length_on (one_more g gs) = let h = length_on gs in omega (arith, h)

pub go_map : (j : Job) (entry : Entry) (past : List Entry) (rs : List Request) → GoOn rs (map (goes_on j entry past) rs)
go_map j entry past [] = no_more
go_map j entry past (r ∷ rs) = one_more (goes j entry past r) (go_map j entry past rs)

-- with more requests behind them they go on
pub go_append : {rs ss : List Request} (ts : List Request) → GoOn rs ss → GoOn rs (ss ++ ts)
go_append ts no_more = no_more
go_append ts (one_more g gs) = one_more g (go_append ts gs)

-- each request that stands goes on
pub requests_go_on : (j : Job) (entry : Entry) (past : List Entry) → GoOn (requests j past) (requests j (entry ∷ past))
requests_go_on j entry past =
    let rs : List Request = map (goes_on j entry past) (requests j past) in
    cond_both (is_next j (is_acknowledging j (entry ∷ past)) (is_ready j (entry ∷ past)) (saves_of j (entry ∷ past)) rs)
    (rs ++ with_interrupt j (entry ∷ past) (fresh (count_queued (length (ask_state j (entry ∷ past)).ids) rs + 1) (time past)) ∷ []) rs
    (λ ss. GoOn (requests j past) ss)
    (λ e. go_append _ (go_map j entry past (requests j past)))
    (λ e. go_map j entry past (requests j past))

-- ---- the saves of passed requests

passes_none : (j : Job) (front : List Used) (k : ℕ) (plan : List ℕ) → passes j front k plan [] ≡ []
passes_none j front k [] = refl
passes_none j front k (i ∷ plan) = refl

cell_none : (plan : List ℕ) → last_cell plan [] ≡ None
cell_none [] = refl
cell_none (i ∷ plan) = refl

-- they go on
pub passes_grow : (j : Job) (front : List Used) (k : ℕ) (plan : List ℕ) {rs ss : List Request} → GoOn rs ss → Begins (passes j front k plan rs) (passes j front k plan ss)
passes_grow j front k [] g = begins_self []
passes_grow j front k (i ∷ plan) (no_more {rs}) = record { rest = passes j front k (i ∷ plan) rs; joined = refl }
passes_grow j front k (i ∷ plan) (one_more {r} {s} {rs} {ss} g gs) =
    elim (cases_Bool (is_passed j k r)) [
      | inl e ↦
          let a = passed_stays r s g j k e in
          let u = used_stays r s g i (and_parts (is_over r) (not (is_fatal j k (reply r))) e).0 in
          let more : Begins (with_pass (use_of i r) rs) (with_pass (use_of i s) ss)
          = subst (λ v. Begins (with_pass (use_of i r) rs) (with_pass v ss)) (sym u)
          (begins_front (save j (front ++ use_of i r ∷ []) (i + 1) None) (passes_grow j (front ++ use_of i r ∷ []) (k + 1) plan gs)) in
          grown (is_passed j k r) (is_passed j k s) _ _ e a more
      | inr e ↦ nothing (is_passed j k r) _ _ e
    ]
  where
    with_pass : Used → List Request → List Save
    with_pass u ts = save j (front ++ u ∷ []) (i + 1) None ∷ passes j (front ++ u ∷ []) (k + 1) plan ts

    grown : {X : Type 0} (p q : Bool) (xs ys : List X) → p ≡ true → q ≡ true → Begins xs ys → Begins (cond p xs []) (cond q ys [])
    grown true true xs ys e f more = more
    grown true false xs ys e f more = cc
    grown false q xs ys e f more = record { rest = cond q ys []; joined = refl }

    nothing : {X : Type 0} (p : Bool) (xs ys : List X) → p ≡ false → Begins (cond p xs []) ys
    nothing true xs ys e = cc
    nothing false xs ys e = record { rest = ys; joined = refl }

-- ---- the saves of a run

-- a first row that doesn't hold
no_row : (b : Bool) (w : Why) (later : Option Why) → or_later (cause_if b w) later ≡ None → b ≡ false
no_row true w later e = cc
no_row false w later e = refl

-- with an empty plan no request ever stands
pub no_requests : (j : Job) (past : List Entry) → length j.task.plan ≡ 0 → requests j past ≡ []
no_requests j [] e = refl
no_requests j (entry ∷ past) e =
    let not_next : is_next j (is_acknowledging j (entry ∷ past)) (is_ready j (entry ∷ past)) (saves_of j (entry ∷ past)) [] ≡ false
    = and_right (is_ready j (entry ∷ past) && nat_lt 0 (saves_of j (entry ∷ past))) (nat_lt 0 (length j.task.plan)) (ap (nat_lt 0) e) in
    ap (λ rs. and_next j entry past (map (goes_on j entry past) rs)) (no_requests j past e) ∙ cond-false _ _ _ not_next

-- where no request stands a stop makes no save
pub no_stop : (j : Job) (w : Option Why) → stopping j [] w ≡ []
no_stop j w = cond_both (is_marked w && not (is_last_passed j 0 [])) (stop_save j [] (last_cell j.task.plan [])) [] (λ xs. xs ≡ []) (λ e. ap (stop_save j []) (cell_none j.task.plan)) (λ e. refl)

-- the saves where no request stands, whatever stopped the job
pub plain_saves : (j : Job) (w : Option Why) → run_saves j [] w ≡ run_saves j [] None
plain_saves j w = ap (λ xs. save j [] 0 None ∷ passes j [] 0 j.task.plan [] ++ xs ++ closing j []) (no_stop j w)

-- the saves while nothing has stopped the job and not all cells are passed
-- with no stop and cells left, the first save and those of requests are due
pub open_saves : (j : Job) (rs : List Request) (w : Option Why) → is_complete j rs ≡ false → stopping j rs w ≡ [] → run_saves j rs w ≡ save j [] 0 None ∷ passes j [] 0 j.task.plan rs
open_saves j rs w e none =
    let last : closing j rs ≡ [] = cond-false (is_complete j rs && nat_lt (plan_end j.task.plan) j.task.cells) _ _ (and_left (is_complete j rs) _ e) in
    ap (λ xs. (save j [] 0 None ∷ passes j [] 0 j.task.plan rs ++ xs) ++ closing j rs) none
    ∙ ap (λ xs. ((save j [] 0 None ∷ passes j [] 0 j.task.plan rs) ++ []) ++ xs) last
    ∙ append-nil ((save j [] 0 None ∷ passes j [] 0 j.task.plan rs) ++ [])
    ∙ append-nil (save j [] 0 None ∷ passes j [] 0 j.task.plan rs)

-- whose like begin what is due later
pub run_begins : (j : Job) (rs ss : List Request) (w : Option Why) → GoOn rs ss → Begins (save j [] 0 None ∷ passes j [] 0 j.task.plan rs) (run_saves j ss w)
run_begins j rs ss w g =
    begins_then (begins_front (save j [] 0 None) (passes_grow j [] 0 j.task.plan g))
    (begins_then (record { rest = stopping j ss w; joined = refl }) (record { rest = closing j ss; joined = refl }))

run_saves_grow : (j : Job) (rs ss : List Request) (w : Option Why) → GoOn rs ss → is_complete j rs ≡ false → Begins (run_saves j rs None) (run_saves j ss w)
run_saves_grow j rs ss w g e = subst (λ xs. Begins xs (run_saves j ss w)) (sym (open_saves j rs None e refl)) (run_begins j rs ss w g)

not_complete : (j : Job) (count : ℕ) (rs : List Request) → (length j.task.plan == 0) ≡ false → is_done j count rs ≡ false → is_complete j rs ≡ false
not_complete j count rs some e = complete (length j.task.plan == 0) _ (length rs == length j.task.plan) (is_last_passed j 0 rs) some e
  where
    complete : (empty few all last : Bool) → empty ≡ false → cond empty few (all && last) ≡ false → (all && (empty || last)) ≡ false
    complete true few all last e f = cc
    complete false few all last e f = f

-- where no cell is to run, what is due stays
pub unplanned_grow : (j : Job) (entry : Entry) (past : List Entry) → (length j.task.plan == 0) ≡ true → Begins (run_saves j (requests j past) (why j past)) (run_saves j (requests j (entry ∷ past)) (why j (entry ∷ past)))
unplanned_grow j entry past empty =
    let z : length j.task.plan ≡ 0 = eqb-true (length j.task.plan) 0 empty in
    let old : run_saves j (requests j past) (why j past) ≡ run_saves j [] None
    = ap (λ rs. run_saves j rs (why j past)) (no_requests j past z) ∙ plain_saves j (why j past) in
    let new : run_saves j (requests j (entry ∷ past)) (why j (entry ∷ past)) ≡ run_saves j [] None
    = ap (λ rs. run_saves j rs (why j (entry ∷ past))) (no_requests j (entry ∷ past) z) ∙ plain_saves j (why j (entry ∷ past)) in
    begins_as (begins_self _) (new ∙ sym old)

-- what is due by what the job was given grows where a run's saves do
pub given_grow : (j : Job) (g : Given) (rs ss : List Request) (v w : Option Why) → Begins (run_saves j rs v) (run_saves j ss w) → Begins (saves_for j g rs v) (saves_for j g ss w)
given_grow j (Refuses status text) rs ss v w b = begins_self _
given_grow j (Prepares text) rs ss v w b = begins_self _
given_grow j Runs rs ss v w b = b

-- while nothing has stopped the job, its saves only grow
pub saves_by_grow : (j : Job) (entry : Entry) (past : List Entry) → why j past ≡ None → Begins (saves_by j past) (saves_by j (entry ∷ past))
saves_by_grow j entry past none = given_grow j j.given (requests j past) (requests j (entry ∷ past)) (why j past) (why j (entry ∷ past)) (elim (cases_Bool (length j.task.plan == 0)) [
  | inl empty ↦ unplanned_grow j entry past empty
  | inr some ↦
      subst (λ w. Begins (run_saves j (requests j past) w) (run_saves j (requests j (entry ∷ past)) (why j (entry ∷ past)))) (sym none)
      (run_saves_grow j (requests j past) (requests j (entry ∷ past)) (why j (entry ∷ past)) (requests_go_on j entry past)
      (not_complete j (saves_of j past) (requests j past) some (no_row (is_done j (saves_of j past) (requests j past)) cause.Done _ none)))
])

-- ---- up to the job's end

-- a job that isn't shut has its whole journal before it is
pub before_all : (j : Job) (past : List Entry) → is_shut j past ≡ false → before_shut j past ≡ past
before_all j [] e = refl
before_all j (entry ∷ past) e = cond-false (is_shut j (entry ∷ past)) _ _ e

-- after its first close nothing more is due
pub saves_end : (j : Job) (entry : Entry) (past : List Entry) → is_shut j past ≡ true → saves j (entry ∷ past) ≡ saves j past
saves_end j entry past e = ap (saves_by j) (cond-true (closes j.number entry || is_shut j past) _ _ (or_right (closes j.number entry) (is_shut j past) e))

-- a close makes nothing due
pub saves_close : (j : Job) (entry : Entry) (past : List Entry) → closes j.number entry ≡ true → saves j (entry ∷ past) ≡ saves j past
saves_close j entry past e = ap (saves_by j) (cond-true (closes j.number entry || is_shut j past) _ _ (or_left (closes j.number entry) (is_shut j past) e))

-- while nothing has stopped the job, its saves only grow
saves_grow_open : (j : Job) (entry : Entry) (past : List Entry) → (is_shut j past ≡ false → why j past ≡ None) → Begins (saves j past) (saves j (entry ∷ past))
saves_grow_open j entry past none = elim (cases_Bool (is_shut j past)) [
  | inl e ↦ begins_as (begins_self _) (saves_end j entry past e)
  | inr alive ↦ elim (cases_Bool (closes j.number entry)) [
    | inl e ↦ begins_as (begins_self _) (saves_close j entry past e)
    | inr on ↦
        let old = before_all j past alive in
        let new = before_all j (entry ∷ past) (or_from (closes j.number entry) (is_shut j past) on alive) in
        subst (λ xs. Begins xs (saves j (entry ∷ past))) (sym (ap (saves_by j) old))
        (begins_as (saves_by_grow j entry past (none alive)) (ap (saves_by j) new))
  ]
]

-- the same with what stopped the job up to its first close
pub saves_grow : (j : Job) (entry : Entry) (past : List Entry) → why j (before_shut j past) ≡ None → Begins (saves j past) (saves j (entry ∷ past))
saves_grow j entry past none = saves_grow_open j entry past (λ alive. ap (why j) (sym (before_all j past alive)) ∙ none)
