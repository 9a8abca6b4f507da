-- What each call of the loop leaves of what is kept beside it.
use Rattle.std.proofs.Common.{◌≡◌, ◌≢◌, inl, inr, ◌+◌, ◌*◌, ◌<◌, ◌≤◌, ◌||◌, ℕ, Bool, true, false, List, length, replicate, set, suc, zero, Some, Result, Ok, Err, slice_get, arith, refl, sym, ◌∙◌, ap, subst}
use Rattle.std.specs.Prelude.{IsErr}
use Rattle.std.proofs.lemmas.Bool.{cases_eq, cases_lt, eq-eqb, ne_eqb, false≢true, or_from, or_left, or_right}
use Rattle.std.proofs.lemmas.List.{length-set}
use Rattle.std.proofs.lemmas.Option.{slice_get_within, same_Some}
use Rattle.world.specs.declared.chan.Chan.TheVariants.{Shell, Control, Iopub, Heart}
use Rattle.world.specs.Places.{place_of, is_at}
use Rattle.ready_loop.specs.declared.next.Next.{Next}
use Rattle.ready_loop.specs.declared.next.Next.TheVariants as next
use Rattle.ready_loop.specs.declared.readiness.Loop.{Loop}
use Rattle.ready_loop.specs.Begins.{IsFresh, IsBegun, is_of_job}
use Rattle.ready_loop.specs.History.{conn_on}
use Rattle.ready_loop.specs.States.{known_at}
use Rattle.batch_run.specs.Kept.{AreBegun, IsFreshFrom, NoPlaces, mark_job}
use Rattle.jtext.proofs.Lists.{slice_get-set_same, slice_get-set_other}

-- ---- places

-- the four places of a job are of it
pub of_job : (job p : ℕ) → 4 * job ≤ p → p < 4 * job + 4 → is_of_job job p ≡ true
of_job job p low high =
    let h = is_at p (conn_on job Heart) in
    let i = is_at p (conn_on job Iopub) in
    let c = is_at p (conn_on job Control) in
    let s = is_at p (conn_on job Shell) in
    elim (cases_eq p (4 * job + 3)) [
      | inl e3 ↦ or_left h (i || (c || s)) (eq-eqb p (4 * job + 3) e3)
      | inr n3 ↦ or_right h (i || (c || s)) (elim (cases_eq p (4 * job + 2)) [
        | inl e2 ↦ or_left i (c || s) (eq-eqb p (4 * job + 2) e2)
        | inr n2 ↦ or_right i (c || s) (elim (cases_eq p (4 * job + 1)) [
          | inl e1 ↦ or_left c s (eq-eqb p (4 * job + 1) e1)
          | inr n1 ↦ or_right c s (eq-eqb p (4 * job + 0) (omega (arith, low, high, n1, n2, n3)))
        ])
      ])
    ]

-- and no other
pub of_none : (job p : ℕ) → p ≢ 4 * job → p ≢ 4 * job + 1 → p ≢ 4 * job + 2 → p ≢ 4 * job + 3 → is_of_job job p ≡ false
of_none job p n0 n1 n2 n3 =
    let z : p ≢ 4 * job + 0 = λ e. n0 (omega (arith, e)) in
    let h = is_at p (conn_on job Heart) in
    let i = is_at p (conn_on job Iopub) in
    let c = is_at p (conn_on job Control) in
    let s = is_at p (conn_on job Shell) in
    or_from h (i || (c || s)) (ne_eqb p (4 * job + 3) n3)
    (or_from i (c || s) (ne_eqb p (4 * job + 2) n2) (or_from c s (ne_eqb p (4 * job + 1) n1) (ne_eqb p (4 * job + 0) z)))

pub of_before : (job p : ℕ) → p < 4 * job → is_of_job job p ≡ false
of_before job p low =
    let a : p ≢ 4 * job = λ e. omega (arith, e, low) in
    let b : p ≢ 4 * job + 1 = λ e. omega (arith, e, low) in
    let c : p ≢ 4 * job + 2 = λ e. omega (arith, e, low) in
    let d : p ≢ 4 * job + 3 = λ e. omega (arith, e, low) in
    of_none job p a b c d

pub of_after : (job p : ℕ) → 4 * (job + 1) ≤ p → is_of_job job p ≡ false
of_after job p high =
    let a : p ≢ 4 * job = λ e. omega (arith, e, high) in
    let b : p ≢ 4 * job + 1 = λ e. omega (arith, e, high) in
    let c : p ≢ 4 * job + 2 = λ e. omega (arith, e, high) in
    let d : p ≢ 4 * job + 3 = λ e. omega (arith, e, high) in
    of_none job p a b c d

-- ---- lists

set_is : (xs : List Bool) (q : ℕ) (a b : Bool) → slice_get (set xs q a) q ≡ Some b → q < length xs → a ≡ b
set_is xs q a b e low = same_Some _ _ (sym (slice_get-set_same xs q a low) ∙ e)

-- ---- the connections that were begun

pub begun_same : {begun : List Bool} {old new : Loop} → ((p : ℕ) → known_at new p ≡ known_at old p) → AreBegun begun old → AreBegun begun new
begun_same known are = record { each = λ p e. known p ∙ are.each p e }

-- where connects were called for no other connection
pub fresh_kept : {n : ℕ} {old new : Loop} → ((p : ℕ) → known_at new p ≡ known_at old p) → IsFreshFrom n old → IsFreshFrom n new
fresh_kept known f = record { each = λ p low. known p ∙ f.each p low }

pub fresh_job : {job : ℕ} {l : Loop} → IsFreshFrom job l → IsFresh job l
fresh_job {job} f = record { each = λ chan. f.each (place_of (conn_on job chan)) (omega arith) }

pub fresh_next : {job : ℕ} {old new : Loop} → IsFreshFrom job old
    → ((p : ℕ) → is_of_job job p ≡ false → known_at new p ≡ known_at old p) → IsFreshFrom (job + 1) new
fresh_next {job} f others = record { each = λ p high. others p (of_after job p high) ∙ f.each p (omega (arith, high)) }

-- where a job has begun no connection
pub fresh_later : {job : ℕ} {l : Loop} → IsFreshFrom job l → IsFreshFrom (job + 1) l
fresh_later {job} f = record { each = λ p low. f.each p (omega (arith, low)) }

-- where the begin of a job failed
pub begun_failed : {job : ℕ} {begun : List Bool} {old new : Loop} → IsFreshFrom job old
    → ((p : ℕ) → is_of_job job p ≡ false → known_at new p ≡ known_at old p) → AreBegun begun old → AreBegun begun new
begun_failed {job} f others are = record {
  each = λ p e. elim (cases_lt p (4 * job)) [
    | inl low ↦ others p (of_before job p low) ∙ are.each p e
    | inr high ↦ absurd (false≢true (sym (f.each p high) ∙ are.each p e))
  ];
}

-- and where it went well
pub begun_begun : {job : ℕ} {heart : Bool} {begun : List Bool} {old new : Loop} → 4 * job + 3 < length begun → IsBegun job heart new
    → ((p : ℕ) → is_of_job job p ≡ false → known_at new p ≡ known_at old p) → AreBegun begun old → AreBegun (mark_job job heart begun) new
begun_begun {job} {heart} {begun} {old} {new} room is others are = record {
  each = λ p e.
      let a = set begun (4 * job) true in
      let b = set a (4 * job + 1) true in
      let c = set b (4 * job + 2) true in
      elim (cases_eq p (4 * job + 3)) [
        | inl e3 ↦
            let size : length c ≡ length begun = length-set b (4 * job + 2) true ∙ length-set a (4 * job + 1) true ∙ length-set begun (4 * job) true in
            let long : 4 * job + 3 < length c = omega (arith, size, room) in
            let at = subst (λ q. slice_get (set c (4 * job + 3) heart) q ≡ Some true) e3 e in
            subst (λ q. known_at new q ≡ true) (sym e3) (is.heart_too (set_is c (4 * job + 3) heart true at long))
        | inr n3 ↦
            let e' = sym (slice_get-set_other c (4 * job + 3) p heart n3) ∙ e in
            elim (cases_eq p (4 * job + 2)) [
              | inl e2 ↦ subst (λ q. known_at new q ≡ true) (sym e2) is.iopub
              | inr n2 ↦
                  let e'' = sym (slice_get-set_other b (4 * job + 2) p true n2) ∙ e' in
                  elim (cases_eq p (4 * job + 1)) [
                    | inl e1 ↦ subst (λ q. known_at new q ≡ true) (sym e1) is.control
                    | inr n1 ↦
                        let e''' = sym (slice_get-set_other a (4 * job + 1) p true n1) ∙ e'' in
                        elim (cases_eq p (4 * job)) [
                          | inl e0 ↦
                              let z : p ≡ 4 * job + 0 = omega (arith, e0) in
                              subst (λ q. known_at new q ≡ true) (sym z) is.shell
                          | inr n0 ↦ others p (of_none job p n0 n1 n2 n3) ∙ are.each p (sym (slice_get-set_other begun (4 * job) p true n0) ∙ e''')
                        ]
                  ]
            ]
      ];
}

-- ---- the begin

pub none_of : (n p : ℕ) → p < n → slice_get (replicate n false) p ≡ Some false
none_of zero p low = absurd (omega arith)
none_of (suc n) zero low = refl
none_of (suc n) (suc p) low = none_of n p (omega arith)

pub none_begun : {begun : List Bool} {l : Loop} → NoPlaces begun → length begun ≡ 64 → AreBegun begun l
none_begun {begun} none size = record {
  each = λ p e.
      let low : p < 64 = subst (λ n. p < n) size (slice_get_within begun p true e) in
      absurd (false≢true (same_Some _ _ (sym (none.each p low) ∙ e)));
}

-- ---- answers

abbrev ok_or : {A E : Type 0} → A → Result A E → A
ok_or other (Ok x) = x
ok_or other (Err e) = other

pub ok_same : {A E F : Type 0} (x y : A) → ◌≡◌ {A = Result A E} (Ok x) (Ok y) → ◌≡◌ {A = Result A F} (Ok x) (Ok y)
ok_same x y is = ap Ok (ap (ok_or x) is)

-- an answer that is a fault, and one that tells of more
pub err_not : {A E B : Type 0} (r : Result A E) {x : A} → IsErr r → r ≡ Ok x → B
err_not r bad is = absurd (false≢true (subst IsErr is bad))

pub err_other : {A E : Type 0} (e : E) (x : A) → ◌≡◌ {A = Result A E} (Err e) (Ok x) → ⊥
err_other e x is = absurd (cc)

abbrev pub is_quiet : Next → Bool
is_quiet (next.Piece conn n) = false
is_quiet (next.Ended conn) = false
is_quiet (next.Refused conn) = false
is_quiet next.Quiet = true

pub not_quiet : {E : Type 0} (x y : Next) → x ≡ y → is_quiet y ≡ false → ◌≡◌ {A = Result Next E} (Ok x) (Ok next.Quiet) → ⊥
not_quiet x y same other is = false≢true (sym other ∙ ap is_quiet (sym same ∙ ap (ok_or x) is))
