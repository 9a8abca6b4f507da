-- What is told of journals and paths.
use Rattle.std.proofs.Common.{◌≡◌, ◌↔◌, ◌^◌, ◌-◌, min, inl, inr, ℕ, ◌+◌, ◌<◌, ◌≤◌, ◌++◌, Bool, List, [], ◌∷◌, Option, Some, None, Result, Ok, Err, arith, refl, sym, ◌∙◌, ap, subst}
use Rattle.std.specs.Prelude.{IfSome}
use Rattle.std.proofs.lemmas.Bool.{cases_lt}
use Rattle.std.proofs.lemmas.Option.{same_Some}
use Rattle.save_course.proofs.CourseLemmas.{spared_other}
use Rattle.world.specs.declared.entry.Entry.{Entry}
use Rattle.world.specs.Counts.{Counts, CountsGrow, Rose}
use Rattle.world.proofs.CountsLemmas.{net_grows, wait_grows, grow_same}
use Rattle.ready_loop.specs.declared.fault.LoopFault.{LoopFault}
use Rattle.ready_loop.specs.declared.fault.LoopFault.TheVariants.{NetFault, Spent}
use Rattle.ready_loop.specs.Waits.{LookCounts, TurnCounts, left_after}
use Rattle.world.specs.Moments.{Since, start, more as later, Told}
use Rattle.world.specs.Parts.{OnDisk, OnSay, IsNotOf, IsOf}
use Rattle.world.specs.Touched.{Spares}
use Rattle.world.proofs.MomentsLemmas.{told_as, since_as}
use Rattle.said_lines.specs.Speech.{Says}
use Rattle.said_lines.proofs.SpeechLemmas.{says_since}
use Rattle.ready_loop.specs.Offers.{Extends}
use Rattle.world.specs.Places.{time}
use Rattle.batch_run.specs.Batch.{HasWaited}

-- ---- journals

pub extended : (front : List Entry) (x : List Entry) → Extends x (front ++ x)
extended [] x = start
extended (entry ∷ front) x = later (extended front x) tt

pub extension : {x y : List Entry} → Extends x y → (front : List Entry) × (y ≡ front ++ x)
extension start = ([], refl)
extension (later {past} {entry} s p) = let rest = extension s in (entry ∷ rest.0, ap (λ j. entry ∷ j) rest.1)

-- what was told of a call after which it is told
pub told_back : (p q : Option (List Entry)) (R : List Entry → List Entry → Type 0) (y : List Entry) → Told p q R → q ≡ Some y
    → (x : List Entry) × (p ≡ Some x) × R x y
told_back p None R y told e = absurd (cc)
told_back None (Some z) R y told e = absurd told.so
told_back (Some x) (Some z) R y told e = (x, refl, subst (λ w. R x w) (same_Some _ _ e) told.so)

pub told_at : (p q : Option (List Entry)) (R : List Entry → List Entry → Type 0) (x y : List Entry) → Told p q R → p ≡ Some x → q ≡ Some y → R x y
told_at p q R x y told e f =
    let back = told_back p q R y told f in
    subst (λ w. R w y) (same_Some _ _ (sym back.1 ∙ e)) back.2

-- ---- paths that no entry touches

elsewhere_spares : (path : List ℕ) (j : List Entry) → IsNotOf OnDisk j → Spares path j
elsewhere_spares path [] h = absurd h
elsewhere_spares path (entry ∷ past) h = spared_other path entry h

said_elsewhere : (j : List Entry) → IsOf OnSay j → IsNotOf OnDisk j
said_elsewhere [] h = absurd h
said_elsewhere (entry ∷ past) h = λ e. cc

-- what is said touches no path
pub says_touch : {p q : Option (List Entry)} {text : List ℕ} {failed : Type 0} → Told p q (Says text failed) → (path : List ℕ) → Told p q (Since (Spares path))
says_touch told path = told_as told (λ x y s. since_as (λ j h. elsewhere_spares path j (said_elsewhere j h)) (says_since s))

-- ---- counts

pub look_grows : (result : Result (List Bool) LoopFault) (old new : Counts) → LookCounts result old new → CountsGrow old new
look_grows (Ok names) old new h = wait_grows h
look_grows (Err (NetFault None)) old new h = wait_grows h
look_grows (Err (NetFault (Some conn))) old new h = net_grows h
look_grows (Err Spent) old new h = grow_same h

-- the last moment besides
later_grows : (old new : Counts) → CountsGrow old (record new { last = old.last }) → old.last ≤ new.last → CountsGrow old new
later_grows old new g goes = record {
  disk = g.disk;
  net = g.net;
  waits = g.waits;
  child = g.child;
  rand = g.rand;
  say = g.say;
  last = goes;
}

pub turn_grows : (result : Result ℕ LoopFault) (old new : Counts) → TurnCounts result old new → old.last ≤ new.last → CountsGrow old new
turn_grows (Ok ms) old new h goes =
    let waited : CountsGrow old (record new { last = old.last }) = wait_grows h.0 in
    later_grows old new waited goes
turn_grows (Err (NetFault None)) old new h goes = wait_grows h
turn_grows (Err (NetFault (Some conn))) old new h goes = absurd h
turn_grows (Err Spent) old new h goes = grow_same h

-- ---- waits

waited : (a b : ℕ) → b ≡ min (a + 1) (2 ^ 64 - 1) → (b ≤ a + 1) × (min (a + 1) (2 ^ 64 - 1) ≤ b)
waited a b is = (grind (arith, is), grind (arith, is))

-- what a call that waits, or may, does to the counts: so many waits came
pub record Counted (old new : Counts) (left rest : ℕ) : Type 0 where
  pub few : new.waits ≤ old.waits + (left - rest)
  pub all : HasWaited (old.waits + (left - rest)) new
  pub less : rest ≤ left

waits_once : (old new : Counts) (left rest : ℕ) → new.waits ≡ min (old.waits + 1) (2 ^ 64 - 1) → rest ≡ left - 1 → (left ≡ 0 → ⊥) → Counted old new left rest
waits_once old new left rest counted is some =
    let once = waited old.waits new.waits counted in
    let one : left - rest ≡ 1 = omega (arith, some, is) in
    record { few = omega (arith, one, once.0); all = subst (λ n. HasWaited (old.waits + n) new) (sym one) once.1; less = omega (arith, is) }

waits_never : (old new : Counts) (left rest : ℕ) → new.waits ≡ old.waits → left - rest ≡ 0 → rest ≤ left → Counted old new left rest
waits_never old new left rest still none less = record { few = omega (arith, still, none); all = omega (arith, still, none); less = less }

pub look_waits : (result : Result (List Bool) LoopFault) (old new : Counts) (left rest : ℕ) → LookCounts result old new → rest ≡ left_after result left
    → (result ≡ Err Spent) ↔ (left ≡ 0) → Counted old new left rest
look_waits (Ok names) old new left rest h is spent =
    waits_once old new left rest (ap (λ (c : Counts). c.waits) h.others) is (λ none. let e = spent.1 none in absurd (cc))
look_waits (Err (NetFault None)) old new left rest h is spent =
    waits_once old new left rest (ap (λ (c : Counts). c.waits) h.others) is (λ none. let e = spent.1 none in absurd (cc))
look_waits (Err (NetFault (Some conn))) old new left rest h is spent = waits_never old new left rest (ap (λ (c : Counts). c.waits) h.others) (omega (arith, is)) (omega (arith, is))
look_waits (Err Spent) old new left rest h is spent = waits_never old new left rest (ap (λ (c : Counts). c.waits) h) (omega (arith, is)) (omega (arith, is))

pub turn_waits : (result : Result ℕ LoopFault) (old new : Counts) (left rest : ℕ) → TurnCounts result old new → rest ≡ left - 1
    → (result ≡ Err Spent) ↔ (left ≡ 0) → Counted old new left rest
turn_waits (Ok ms) old new left rest h is spent =
    waits_once old new left rest (ap (λ (c : Counts). c.waits) h.0.others) is (λ none. let e = spent.1 none in absurd (cc))
turn_waits (Err (NetFault None)) old new left rest h is spent =
    waits_once old new left rest (ap (λ (c : Counts). c.waits) h.others) is (λ none. let e = spent.1 none in absurd (cc))
turn_waits (Err (NetFault (Some conn))) old new left rest h is spent = absurd h
turn_waits (Err Spent) old new left rest h is spent =
    let none = spent.0 refl in waits_never old new left rest (ap (λ (c : Counts). c.waits) h) (omega (arith, is, none)) (omega (arith, is))

-- ---- why a call of the loop failed

pub look_fails : (fault : LoopFault) (old new : Counts) → LookCounts (Err fault) old new → (fault ≡ Spent → ⊥) → Rose old.net new.net
look_fails (NetFault None) old new h other = h.net.cause tt
look_fails (NetFault (Some conn)) old new h other = h.net.cause tt
look_fails Spent old new h other = absurd (other refl)

pub turn_fails : (fault : LoopFault) (old new : Counts) → TurnCounts (Err fault) old new → (fault ≡ Spent → ⊥) → Rose old.net new.net
turn_fails (NetFault None) old new h other = h.net.cause tt
turn_fails (NetFault (Some conn)) old new h other = absurd h
turn_fails Spent old new h other = absurd (other refl)

-- a wait uses one up, where it wasn't answered that none is left
pub left_less : (left : ℕ) {rest : ℕ} {T : Type 0} {x : T} → (left ≡ 0 → ◌≡◌ {A = Result T LoopFault} (Ok x) (Err Spent)) → rest ≡ left - 1 → rest < left
left_less left spent is = elim (cases_lt 0 left) [
  | inl some ↦ omega (arith, is, some)
  | inr none ↦ let no = spent (omega (arith, none)) in absurd (cc)
]

-- ---- the clock

-- by what the world's clock gave before and after
pub clock_rises : {R : List Entry → List Entry → Type 0} (p q : Option (List Entry)) (a b : ℕ) → Told p q R → IfSome p (λ past. a ≡ time past) → IfSome q (λ past. b ≡ time past) → a ≤ b
    → Told p q (λ x y. time x ≤ time y)
clock_rises p None a b told old new low = record { so = tt }
clock_rises None (Some y) a b told old new low = absurd told.so
clock_rises (Some x) (Some y) a b told old new low = record { so = subst (λ n. n ≤ time y) old (subst (λ n. a ≤ n) new low) }
