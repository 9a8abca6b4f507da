-- Which outputs are live after one more message.
use Rattle.std.proofs.Common.{◌≡◌, Bool, true, false, cond, not, ◌&&◌, ◌||◌, List, [], ◌∷◌, ◌++◌, refl}
use Rattle.std.specs.List.{list_any}
use Rattle.std.proofs.Math.Bool.{or-true, and-false}
use Rattle.std.proofs.lemmas.Bool.{or_parts}
use Rattle.jcontent.specs.declared.content.Content.{Content}
use Rattle.jcontent.specs.declared.content.Content.TheVariants as content
use Rattle.out_fold.specs.Live.{appends, clears_now, clears_later, stays, live}
use Rattle.out_fold.specs.Held.{waits, ends_wait}
use Rattle.display_index.proofs.ListedLemmas.{any-snoc}

-- a message that appends clears nothing
appends_alone : (c : Content) → appends c ≡ true → (clears_now c ≡ false) × (clears_later c ≡ false)
appends_alone (content.Clear later) e = cc
appends_alone _ e = (refl, refl)

later_alone : (c : Content) → clears_later c ≡ true → appends c ≡ false
later_alone (content.Clear later) e = refl
later_alone _ e = cc

-- ---- without an end

none_ends : (a n b : Bool) → ((a || n) || b) ≡ false → (a ≡ false) × (b ≡ false)
none_ends true n b e = cc
none_ends false true b e = cc
none_ends false false b e = (refl, e)

live-none : (xs : List Content) → list_any ends_wait xs ≡ false → live xs ≡ []
live-none [] e = refl
live-none (x ∷ xs) e =
    let parts = none_ends (appends x) (clears_now x) (list_any ends_wait xs) e in
    rw parts.0 (live-none xs parts.1)

stays_parts : (n l s : Bool) → (not n && (not l && s)) ≡ true → (n ≡ false) × (s ≡ true)
stays_parts true l s e = cc
stays_parts false true s e = cc
stays_parts false false s e = (refl, e)

stays-ends : (xs : List Content) → stays xs ≡ true → list_any appends xs ≡ false → list_any ends_wait xs ≡ false
stays-ends [] s a = refl
stays-ends (x ∷ xs) s a =
    let first = stays_parts (clears_now x) (clears_later x && list_any appends xs) (stays xs) s in
    let rest = or_parts (appends x) (list_any appends xs) a in
    rw (rest.0, first.0) (stays-ends xs first.1 rest.1)

-- ---- one more that appends

stays_case : (n l a s w e : Bool) → (s ≡ true → a ≡ false → e ≡ false)
    → (not n && (not (l && true) && (s && not w))) ≡ ((not n && (not (l && a) && s)) && not (w || (l && not e)))
stays_case true l a s w e h = refl
stays_case false false a true true e h = refl
stays_case false false a true false e h = refl
stays_case false false a false w e h = refl
stays_case false true true s w e h = refl
stays_case false true false false w e h = refl
stays_case false true false true true e h = refl
stays_case false true false true false true h = cc (h refl refl)
stays_case false true false true false false h = refl

pub stays-appended : (xs : List Content) (c : Content) → appends c ≡ true → stays (xs ++ c ∷ []) ≡ (stays xs && not (waits xs))
stays-appended [] c e = let alone = appends_alone c e in rw (alone.0, alone.1) refl
stays-appended (x ∷ xs) c e =
    rw (any-snoc appends xs c, e, or-true (list_any appends xs), stays-appended xs c e)
    (stays_case (clears_now x) (clears_later x) (list_any appends xs) (stays xs) (waits xs) (list_any ends_wait xs) (stays-ends xs))

-- where the next one ends the wait, no clear waits after it
ended_case : (l : Bool) → (false || (l && not true)) ≡ false
ended_case true = refl
ended_case false = refl

pub waits-ended : (xs : List Content) (c : Content) → ends_wait c ≡ true → clears_later c ≡ false → waits (xs ++ c ∷ []) ≡ false
waits-ended [] c e l = rw l refl
waits-ended (x ∷ xs) c e l =
    rw (waits-ended xs c e l, any-snoc ends_wait xs c, e, or-true (list_any ends_wait xs)) (ended_case (clears_later x))

live_case : (a l s w e : Bool) (x c : Content) (ls : List Content) → (l ≡ true → a ≡ false) → (e ≡ false → ls ≡ [])
    → cond (a && (s && not w)) (x ∷ (cond w [] ls ++ c ∷ [])) (cond w [] ls ++ c ∷ []) ≡ cond (w || (l && not e)) [] (cond (a && s) (x ∷ ls) ls) ++ c ∷ []
live_case true l true true e x c ls h none = refl
live_case true l false true e x c ls h none = refl
live_case false l s true e x c ls h none = refl
live_case true true s false e x c ls h none = cc (h refl)
live_case false true s false true x c ls h none = refl
live_case false true s false false x c ls h none = rw (none refl) refl
live_case true false true false e x c ls h none = refl
live_case true false false false e x c ls h none = refl
live_case false false s false e x c ls h none = refl

pub live-appended : (xs : List Content) (c : Content) → appends c ≡ true → live (xs ++ c ∷ []) ≡ cond (waits xs) [] (live xs) ++ c ∷ []
live-appended [] c e = rw e refl
live-appended (x ∷ xs) c e =
    rw (stays-appended xs c e, live-appended xs c e)
    (live_case (appends x) (clears_later x) (stays xs) (waits xs) (list_any ends_wait xs) x c (live xs) (later_alone x) (live-none xs))

-- ---- one more that clears at once

cleared_case : (n l : Bool) → (not n && (l && false)) ≡ false
cleared_case true l = refl
cleared_case false true = refl
cleared_case false false = refl

pub stays-cleared : (xs : List Content) (c : Content) → clears_now c ≡ true → stays (xs ++ c ∷ []) ≡ false
stays-cleared [] c e = rw e refl
stays-cleared (x ∷ xs) c e = rw (stays-cleared xs c e) (cleared_case (clears_now x) (not (clears_later x && list_any appends (xs ++ c ∷ []))))

now_alone : (c : Content) → clears_now c ≡ true → (appends c ≡ false) × (clears_later c ≡ false)
now_alone (content.Clear true) e = cc
now_alone (content.Clear false) e = (refl, refl)
now_alone _ e = cc

pub live-cleared : (xs : List Content) (c : Content) → clears_now c ≡ true → live (xs ++ c ∷ []) ≡ []
live-cleared [] c e = rw (now_alone c e).0 refl
live-cleared (x ∷ xs) c e = rw (stays-cleared xs c e, and-false (appends x)) (live-cleared xs c e)

-- ---- one more that does neither

last_stays : (l : Bool) → (true && (not (l && false) && true)) ≡ true
last_stays true = refl
last_stays false = refl

other_stays : (n l a s : Bool) → (not n && (not (l && (a || false)) && s)) ≡ (not n && (not (l && a) && s))
other_stays n l true s = refl
other_stays n l false s = refl

pub stays-other : (xs : List Content) (c : Content) → appends c ≡ false → clears_now c ≡ false → stays (xs ++ c ∷ []) ≡ stays xs
stays-other [] c a n = rw n (last_stays (clears_later c))
stays-other (x ∷ xs) c a n =
    rw (any-snoc appends xs c, a, stays-other xs c a n) (other_stays (clears_now x) (clears_later x) (list_any appends xs) (stays xs))

pub live-other : (xs : List Content) (c : Content) → appends c ≡ false → clears_now c ≡ false → live (xs ++ c ∷ []) ≡ live xs
live-other [] c a n = rw a refl
live-other (x ∷ xs) c a n = rw (stays-other xs c a n, live-other xs c a n) refl

other_waits : (w l e k : Bool) → ((w || k) || (l && not (e || false))) ≡ ((w || (l && not e)) || k)
other_waits true l e k = refl
other_waits false true true true = refl
other_waits false false true true = refl
other_waits false true true false = refl
other_waits false false true false = refl
other_waits false true false true = refl
other_waits false false false true = refl
other_waits false true false false = refl
other_waits false false false false = refl

last_waits : (l : Bool) → (false || (l && true)) ≡ (false || l)
last_waits true = refl
last_waits false = refl

pub waits-other : (xs : List Content) (c : Content) → ends_wait c ≡ false → waits (xs ++ c ∷ []) ≡ (waits xs || clears_later c)
waits-other [] c e = last_waits (clears_later c)
waits-other (x ∷ xs) c e =
    rw (any-snoc ends_wait xs c, e, waits-other xs c e) (other_waits (waits xs) (clears_later x) (list_any ends_wait xs) (clears_later c))

-- ---- any one more

live_by : (xs : List Content) (c : Content) (n a : Bool) → clears_now c ≡ n → appends c ≡ a
    → live (xs ++ c ∷ []) ≡ cond n [] (cond a (cond (waits xs) [] (live xs) ++ c ∷ []) (live xs))
live_by xs c true a e f = live-cleared xs c e
live_by xs c false true e f = live-appended xs c f
live_by xs c false false e f = live-other xs c f e

-- what is live after one more message
pub live-snoc : (xs : List Content) (c : Content) → live (xs ++ c ∷ []) ≡ cond (clears_now c) [] (cond (appends c) (cond (waits xs) [] (live xs) ++ c ∷ []) (live xs))
live-snoc xs c = live_by xs c (clears_now c) (appends c) refl refl

ending_alone : (c : Content) → ends_wait c ≡ true → clears_later c ≡ false
ending_alone (content.Clear true) e = cc
ending_alone (content.Clear false) e = refl
ending_alone _ e = refl

waits_by : (xs : List Content) (c : Content) (b : Bool) → ends_wait c ≡ b → waits (xs ++ c ∷ []) ≡ cond b false (waits xs || clears_later c)
waits_by xs c true e = waits-ended xs c e (ending_alone c e)
waits_by xs c false e = waits-other xs c e

-- whether a clear waits after one more message
pub waits-snoc : (xs : List Content) (c : Content) → waits (xs ++ c ∷ []) ≡ cond (ends_wait c) false (waits xs || clears_later c)
waits-snoc xs c = waits_by xs c (ends_wait c) refl
