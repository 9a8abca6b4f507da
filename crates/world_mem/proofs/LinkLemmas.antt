-- Which connections are up by the places that are kept, and by the journal.
use Rattle.std.specs.Prelude.{slice_set, unwrap_or}
use Rattle.std.proofs.Common.{◌≡◌, ◌≢◌, ◌∙◌, ◌&&◌, ℕ, ◌+◌, ◌*◌, ◌/◌, ◌%◌, ◌<◌, ◌≤◌, List, length, Bool, true, false, refl, sym, ap, subst, arith, inl, inr}
use Rattle.std.proofs.lemmas.Bool.{and_parts, cases_eq, cases_lt, false≢true}
use Rattle.std.proofs.lemmas.Option.{slice_get_past}
use Rattle.world.specs.declared.chan.Chan.{Chan}
use Rattle.world.specs.declared.chan.Chan.TheVariants.{Shell, Control, Iopub, Heart}
use Rattle.world.specs.declared.conn.Conn.{Conn}
use Rattle.world.specs.Places.{place_of, chan_number, is_reported}
use Rattle.world.proofs.StatusLemmas.{chan_below}
use Rattle.world_mem.specs.Links.{chan_at, conn_of}
use Rattle.jtext.proofs.Lists.{slice_get-set_same, slice_get-set_other}

pub reported_own : (p : ℕ) (xs : List Bool) (v : Bool) → p < length xs → is_reported p (slice_set xs p v) ≡ v
reported_own p xs v below = ap (λ o. unwrap_or o false) (slice_get-set_same xs p v below)

pub reported_other : (p q : ℕ) (xs : List Bool) (v : Bool) → q ≢ p
    → is_reported p (slice_set xs q v) ≡ is_reported p xs
reported_other p q xs v apart = ap (λ o. unwrap_or o false) (slice_get-set_other xs q p v (λ e. apart (sym e)))

pub unmarked_past : (p : ℕ) (xs : List Bool) → length xs ≤ p → is_reported p xs ≡ false
unmarked_past p xs above = ap (λ o. unwrap_or o false) (slice_get_past xs p above)

-- one more place was marked
pub marked_more : (n : ℕ) (f : ℕ → Bool) (old new : List Bool) → n < length old → new ≡ slice_set old n (f n)
    → ((p : ℕ) → p < n → is_reported p old ≡ f p) → (p : ℕ) → p < n + 1 → is_reported p new ≡ f p
marked_more n f old new within set so p below =
    ap (is_reported p) set
    ∙ elim (cases_eq n p) [
      | inl same ↦ subst (λ j. is_reported j (slice_set old n (f n)) ≡ f j) same (reported_own n old (f n) within)
      | inr apart ↦ reported_other p n old (f n) apart ∙ so p (omega arith)
    ]

chan_of_number : (chan : Chan) → chan_at (chan_number chan) ≡ chan
chan_of_number Shell = refl
chan_of_number Control = refl
chan_of_number Iopub = refl
chan_of_number Heart = refl

quarter : (j c : ℕ) → c < 4 → ((4 * j + c) / 4 ≡ j) × ((4 * j + c) % 4 ≡ c)
quarter j c below = (omega arith, omega arith)

-- a connection is the one at its place
pub conn_at_place : (conn : Conn) → conn_of (place_of conn) ≡ conn
conn_at_place conn =
    let parts = quarter conn.job (chan_number conn.chan) (chan_below conn.chan) in
    let chan : chan_at (place_of conn % 4) ≡ conn.chan = ap chan_at parts.1 ∙ chan_of_number conn.chan in
    let made : ℕ → Chan → Conn = λ j ch. record { job = j; chan = ch } in
    ap (λ j. made j (chan_at (place_of conn % 4))) parts.0 ∙ ap (made conn.job) chan

pub place_below : (conn : Conn) → conn.job < 16 → place_of conn < 64
place_below conn below = omega (arith, chan_below conn.chan)

-- what is marked at each place is marked at that of each connection
pub conn_marked : (ready : List Bool) (f : ℕ → Bool) (g : Conn → Bool)
    → ((p : ℕ) → p < 64 → is_reported p ready ≡ f p) → ((conn : Conn) → f (place_of conn) ≡ g conn)
    → (conn : Conn) → conn.job < 16 → is_reported (place_of conn) ready ≡ g conn
conn_marked ready f g marks is conn below = marks (place_of conn) (place_below conn below) ∙ is conn

-- only places that are up are marked
pub up_marked : (ready ups : List Bool) (f : ℕ → Bool) → length ready ≡ 64
    → ((p : ℕ) → p < 64 → is_reported p ready ≡ (is_reported p ups && f p)) → (p : ℕ)
    → is_reported p ready ≡ true → is_reported p ups ≡ true
up_marked ready ups f size marks p e =
    elim (cases_lt p 64) [
      | inl below ↦ (and_parts (is_reported p ups) (f p) (sym (marks p below) ∙ e)).0
      | inr above ↦
          absurd (false≢true (sym (unmarked_past p ready (omega arith)) ∙ e))
    ]
