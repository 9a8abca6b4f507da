-- What is offered for one job, and how many connections are begun.
use Rattle.std.proofs.Common.{◌≡◌, ◌≢◌, inl, inr, ◌+◌, ◌*◌, ◌/◌, ◌<◌, ◌≤◌, ◌||◌, ℕ, zero, suc, Bool, true, false, List, [], ◌∷◌, Option, Some, None, Result, Err, slice_get, sum_by, arith, refl, sym, ◌∙◌, ap, subst}
use Rattle.std.proofs.lemmas.Bool.{cases_eq, eq-eqb, false≢true}
use Rattle.std.proofs.lemmas.List.Sums.{sum_by-cons}
use Rattle.world.specs.declared.chan.Chan.TheVariants.{Shell, Control, Iopub, Heart}
use Rattle.world.specs.declared.conn.Conn.{Conn}
use Rattle.world.specs.declared.entry.Entry.{Entry}
use Rattle.world.specs.Places.{is_at, place_of}
use Rattle.world.proofs.StatusLemmas.{at_own, chan_below}
use Rattle.ready_loop.specs.declared.fault.LoopFault.{LoopFault}
use Rattle.ready_loop.specs.declared.link.Link.{Link}
use Rattle.ready_loop.specs.declared.readiness.Loop.{Loop}
use Rattle.ready_loop.specs.declared.fault.LoopFault.TheVariants.{NetFault}
use Rattle.ready_loop.specs.Begins.{Closes, OnlyOfJob, is_of_job, unless_closed}
use Rattle.ready_loop.specs.History.{History, conn_on}
use Rattle.ready_loop.specs.Link.{is_begun}
use Rattle.ready_loop.specs.Offers.{OfferAt, JobMoment}
use Rattle.ready_loop.specs.Queues.{held_in}
use Rattle.ready_loop.specs.States.{IsOfferedAt, OnlyAt, SameKnown, begun_at, begun_in, flag, link_open, open_left}
use Rattle.ready_loop.proofs.BeginLemmas.{own_job}
use Rattle.ready_loop.proofs.LookLemmas.{job_at}

-- ---- the places of a job

pub in_job : (job n : ℕ) → 4 * job ≤ n → n < 4 * job + 4 → is_of_job job n ≡ true
in_job job n from to = elim (cases_eq n (4 * job)) [
  | inl e ↦ own_job job n Shell (eq-eqb n (place_of (conn_on job Shell)) (omega (arith, e)))
  | inr n0 ↦ elim (cases_eq n (4 * job + 1)) [
    | inl e ↦ own_job job n Control (eq-eqb n (place_of (conn_on job Control)) (omega (arith, e)))
    | inr n1 ↦ elim (cases_eq n (4 * job + 2)) [
      | inl e ↦ own_job job n Iopub (eq-eqb n (place_of (conn_on job Iopub)) (omega (arith, e)))
      | inr n2 ↦ own_job job n Heart (eq-eqb n (place_of (conn_on job Heart)) (omega (arith, from, to, n0, n1, n2)))
    ]
  ]
]

-- a connection of a job stands at a place of it
pub conn_in_job : (conn : Conn) (job : ℕ) → conn.job ≡ job → is_of_job job (place_of conn) ≡ true
conn_in_job conn job e = in_job job (place_of conn) (omega (arith, e)) (let low = chan_below conn.chan in omega (arith, e, low))

job_of : (conn : Conn) (job n : ℕ) → place_of conn ≡ n → 4 * job ≤ n → n < 4 * job + 4 → conn.job ≡ job
job_of conn job n place from to = let low = chan_below conn.chan in omega (arith, place, from, to, low)

-- what is offered there is of the job
pub job_moment : (n job : ℕ) → 4 * job ≤ n → n < 4 * job + 4 → (h : History) (now : List Entry) → OfferAt false n h now → JobMoment job h now
job_moment n job from to h [] o = absurd o
job_moment n job from to h (entry ∷ past) o = (o.0, job_of o.0 job n o.1 from to, o.2)

pub own_fault : (conn : Conn) (job n : ℕ) → place_of conn ≡ n → 4 * job ≤ n → n < 4 * job + 4 → conn.job ≡ job
own_fault conn job n place from to = job_of conn job n place from to

pub only_job_start : (job : ℕ) (l : Loop) → OnlyOfJob job l l
only_job_start job l = record { links = λ p none. refl; held = λ p none. refl; left = refl }

-- one place more
pub only_job_more : (job n : ℕ) {a b c : Loop} → 4 * job ≤ n → n < 4 * job + 4 → OnlyOfJob job a b → OnlyAt n b c → OnlyOfJob job a c
only_job_more job n from to was at = record {
  links = λ p none. at.links p (other p none) ∙ was.links p none;
  held = λ p none. at.held p (other p none) ∙ was.held p none;
  left = at.left ∙ was.left;
}
  where
    other : (p : ℕ) → is_of_job job p ≡ false → p ≢ n
    other p none e = false≢true (sym none ∙ subst (λ i. is_of_job job i ≡ true) (sym e) (in_job job n from to))

-- the four of a job
pub only_four : (job : ℕ) {a b c d e : Loop} → OnlyAt (place_of (conn_on job Shell)) a b → OnlyAt (place_of (conn_on job Control)) b c
    → OnlyAt (place_of (conn_on job Iopub)) c d → OnlyAt (place_of (conn_on job Heart)) d e → OnlyOfJob job a e
only_four job {a} shell control iopub heart =
    only_job_more job (place_of (conn_on job Heart)) (omega arith) (omega arith)
    (only_job_more job (place_of (conn_on job Iopub)) (omega arith) (omega arith)
    (only_job_more job (place_of (conn_on job Control)) (omega arith) (omega arith)
    (only_job_more job (place_of (conn_on job Shell)) (omega arith) (omega arith) (only_job_start job a) shell) control) iopub) heart

-- the one of a connection of it
pub only_conn : (conn : Conn) (job : ℕ) {a b : Loop} → conn.job ≡ job → OnlyAt (place_of conn) a b → OnlyOfJob job a b
only_conn conn job {a} e at =
    let low = chan_below conn.chan in
    only_job_more job (place_of conn) (omega (arith, e)) (omega (arith, e, low)) (only_job_start job a) at

pub only_job_then : {job : ℕ} {a b c : Loop} → OnlyOfJob job a b → OnlyOfJob job b c → OnlyOfJob job a c
only_job_then m n = record {
  links = λ p none. n.links p none ∙ m.links p none;
  held = λ p none. n.held p none ∙ m.held p none;
  left = n.left ∙ m.left;
}

-- nothing is left to be done at the places from this one up to that one
pub record OfferedFrom (from n last : ℕ) (l : Loop) : Type 0 where
  pub each : (p : ℕ) → from ≤ p → p < n → IsOfferedAt p last l

pub offered_none : (from n last : ℕ) (l : Loop) → n ≤ from → OfferedFrom from n last l
offered_none from n last l none = record { each = λ p low high. absurd (omega (arith, low, high, none)) }

pub offered_one : (from n last later : ℕ) (old new : Loop) → later ≡ last → OnlyAt n old new → IsOfferedAt n later new
    → OfferedFrom from n last old → OfferedFrom from (n + 1) later new
offered_one from n last later old new clock only here below = record {
  each = λ p low high. elim (cases_eq p n) [
    | inl e ↦ subst (λ i. IsOfferedAt i later new) (sym e) here
    | inr ne ↦
        let was = below.each p low (omega (arith, high, ne)) in
        record {
          calm = record { at = λ link found at refused. subst (λ k. k < at + 200) (sym clock) (was.calm.at link (sym (only.links p ne) ∙ found) at refused) };
          sent = λ link found may. ap (λ h. h.rest) (only.held p ne) ∙ was.sent link (sym (only.links p ne) ∙ found) may;
        }
  ];
}

-- ---- how many connections are begun

abbrev value_in : Option Link → ℕ
value_in None = 0
value_in (Some link) = link_open link

value_is : (o : Option Link) → value_in o ≡ flag (begun_in o)
value_is None = refl
value_is (Some link) = refl

sums_most : (xs ys : List Link) → ((p : ℕ) → value_in (slice_get xs p) ≤ value_in (slice_get ys p)) → sum_by link_open xs ≤ sum_by link_open ys
sums_most [] ys h = let none : sum_by link_open [] ≡ 0 = refl in omega (arith, none)
sums_most (x ∷ xs) [] h =
    let here : link_open x ≤ 0 = h zero in
    let rest : sum_by link_open xs ≤ 0 = sums_most xs [] (λ p. h (suc p)) in
    let all : sum_by link_open (x ∷ xs) ≡ link_open x + sum_by link_open xs = sum_by-cons link_open x xs in
    omega (arith, here, rest, all)
sums_most (x ∷ xs) (y ∷ ys) h =
    let here : link_open x ≤ link_open y = h zero in
    let rest : sum_by link_open xs ≤ sum_by link_open ys = sums_most xs ys (λ p. h (suc p)) in
    let all : sum_by link_open (x ∷ xs) ≡ link_open x + sum_by link_open xs = sum_by-cons link_open x xs in
    let them : sum_by link_open (y ∷ ys) ≡ link_open y + sum_by link_open ys = sum_by-cons link_open y ys in
    omega (arith, here, rest, all, them)

sums_less : (xs ys : List Link) (q : ℕ) → ((p : ℕ) → value_in (slice_get xs p) ≤ value_in (slice_get ys p))
    → value_in (slice_get xs q) < value_in (slice_get ys q) → sum_by link_open xs < sum_by link_open ys
sums_less xs [] q h less = let none : value_in (slice_get {X = Link} [] q) ≡ 0 = refl in absurd (omega (arith, less, none))
sums_less [] (y ∷ ys) zero h less =
    let here : 0 < link_open y = less in
    let none : sum_by link_open [] ≡ 0 = refl in
    let them : sum_by link_open (y ∷ ys) ≡ link_open y + sum_by link_open ys = sum_by-cons link_open y ys in
    omega (arith, here, none, them)
sums_less [] (y ∷ ys) (suc q) h less =
    let rest : sum_by link_open [] < sum_by link_open ys = sums_less [] ys q (λ p. h (suc p)) less in
    let them : sum_by link_open (y ∷ ys) ≡ link_open y + sum_by link_open ys = sum_by-cons link_open y ys in
    omega (arith, rest, them)
sums_less (x ∷ xs) (y ∷ ys) zero h less =
    let here : link_open x < link_open y = less in
    let rest : sum_by link_open xs ≤ sum_by link_open ys = sums_most xs ys (λ p. h (suc p)) in
    let all : sum_by link_open (x ∷ xs) ≡ link_open x + sum_by link_open xs = sum_by-cons link_open x xs in
    let them : sum_by link_open (y ∷ ys) ≡ link_open y + sum_by link_open ys = sum_by-cons link_open y ys in
    omega (arith, here, rest, all, them)
sums_less (x ∷ xs) (y ∷ ys) (suc q) h less =
    let here : link_open x ≤ link_open y = h zero in
    let rest : sum_by link_open xs < sum_by link_open ys = sums_less xs ys q (λ p. h (suc p)) less in
    let all : sum_by link_open (x ∷ xs) ≡ link_open x + sum_by link_open xs = sum_by-cons link_open x xs in
    let them : sum_by link_open (y ∷ ys) ≡ link_open y + sum_by link_open ys = sum_by-cons link_open y ys in
    omega (arith, here, rest, all, them)

-- as many are begun as before
pub open_same : {old new : Loop} → SameKnown old new → open_left new ≡ open_left old
open_same {old} {new} known =
    let up = sums_most new.links old.links (λ p. one p) in
    let down = sums_most old.links new.links (λ p. two p) in
    omega (arith, up, down)
  where
    same : (p : ℕ) → value_in (slice_get new.links p) ≡ value_in (slice_get old.links p)
    same p = value_is (slice_get new.links p) ∙ ap flag (known.begun p) ∙ sym (value_is (slice_get old.links p))

    one : (p : ℕ) → value_in (slice_get new.links p) ≤ value_in (slice_get old.links p)
    one p = omega (arith, same p)

    two : (p : ℕ) → value_in (slice_get old.links p) ≤ value_in (slice_get new.links p)
    two p = omega (arith, same p)

flag_less : (b was : Bool) → flag (unless_closed b was) ≤ flag was
flag_less true true = omega arith
flag_less true false = omega arith
flag_less false was = omega arith

value_closed : {at : ℕ → Bool} {old new : Loop} → Closes at old new → (p : ℕ) → value_in (slice_get new.links p) ≡ flag (unless_closed (at p) (begun_at old p))
value_closed {new = new} c p = value_is (slice_get new.links p) ∙ ap flag (c.begun p)

-- fewer are begun after a close of some
pub open_most : {at : ℕ → Bool} {old new : Loop} → Closes at old new → open_left new ≤ open_left old
open_most {at} {old} {new} c = sums_most new.links old.links (λ p.
    let less = flag_less (at p) (begun_at old p) in
    let now = value_closed c p in
    let was = value_is (slice_get old.links p) in
    omega (arith, less, now, was))

-- and where one of them was
pub open_less : {at : ℕ → Bool} {old new : Loop} → Closes at old new → (q : ℕ) → at q ≡ true → begun_at old q ≡ true → open_left new < open_left old
open_less {at} {old} {new} c q here begun = sums_less new.links old.links q
    (λ p.
    let less = flag_less (at p) (begun_at old p) in
    let now = value_closed c p in
    let was = value_is (slice_get old.links p) in
    omega (arith, less, now, was))
    (let now = value_closed c q ∙ ap (λ b. flag (unless_closed b (begun_at old q))) here in
    let was = value_is (slice_get old.links q) ∙ ap flag begun in
    omega (arith, now, was))
