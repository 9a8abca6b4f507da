-- Lemmas on the delimiter and the frames after it.
use Rattle.std.proofs.Common.{◌≡◌, ℕ, ◌+◌, ◌<◌, ◌≤◌, ◌≢◌, Bool, true, false, cond, not, List, [], ◌∷◌, ◌++◌, length, drop, get_or, Option, Some, None, IsTrue, Result, Ok, Err, refl, sym, ◌∙◌, ap, subst, arith, nat_lt, suc}
use Rattle.std.specs.List.{position, position_or_len}
use Rattle.std.specs.Array.{IsWholeChunk}
use Rattle.std.specs.Option.{IfSome}
use Rattle.std.specs.Result.{result_ok, MatchResult}
use Rattle.std.specs.Str.{bytes_eq}
use Rattle.std.proofs.lemmas.Bool.{ltb-true, ltb-false}
use Rattle.std.proofs.lemmas.Slice.Eq.{bytes_eq-Decides}
use Rattle.std.proofs.lemmas.Option.{cond_some}
use Rattle.jtext.proofs.Lists.{none_chosen}
use Rattle.jmsg.specs.Signed.{delimiter, AreRouting, Follow, Frames}

-- ---- the first delimiter

pub same_frame : (f : List ℕ) → bytes_eq delimiter f ≡ true → f ≡ delimiter
same_frame f h = sym ((bytes_eq-Decides delimiter f).0 h)

pub other_frame : (f : List ℕ) → bytes_eq delimiter f ≡ false → f ≢ delimiter
other_frame f h e = let found = (bytes_eq-Decides delimiter f).1 (sym e) in cc

pub follow_here : (f : List ℕ) (parts : List (List ℕ)) → f ≡ delimiter → Follow (f ∷ parts) parts
follow_here f parts e = record { routing = []; are_routing = tt; parts_are = ap (λ g. g ∷ parts) e }

pub follow_more : (f : List ℕ) (parts after : List (List ℕ)) → f ≢ delimiter → Follow parts after → Follow (f ∷ parts) after
follow_more f parts after apart follow = record { routing = f ∷ follow.routing; are_routing = (apart, follow.are_routing); parts_are = ap (λ fs. f ∷ fs) follow.parts_are }

follow_first : (parts : List (List ℕ)) → position_or_len (bytes_eq delimiter) parts < length parts → Follow parts (drop (position_or_len (bytes_eq delimiter) parts + 1) parts)
follow_first [] within = absurd (omega arith)
follow_first (f ∷ parts) within = step (bytes_eq delimiter f) refl within (λ w. follow_first parts w)
  where
    step : (b : Bool) → bytes_eq delimiter f ≡ b → cond (not b) (1 + position_or_len (bytes_eq delimiter) parts) 0 < length (f ∷ parts)
        → (position_or_len (bytes_eq delimiter) parts < length parts → Follow parts (drop (position_or_len (bytes_eq delimiter) parts + 1) parts))
        → Follow (f ∷ parts) (drop (cond (not b) (1 + position_or_len (bytes_eq delimiter) parts) 0 + 1) (f ∷ parts))
    step true e w more = follow_here f parts (same_frame f e)
    step false e w more =
        let p : ℕ = position_or_len (bytes_eq delimiter) parts in
        let inner : p < length parts = omega arith in
        let place : 1 + p + 1 ≡ suc (p + 1) = omega arith in
        rw place (follow_more f parts (drop (p + 1) parts) (other_frame f e) (more inner))

no_first : (parts : List (List ℕ)) → length parts ≤ position_or_len (bytes_eq delimiter) parts → AreRouting parts
no_first [] past = tt
no_first (f ∷ parts) past = step (bytes_eq delimiter f) refl past (λ w. no_first parts w)
  where
    step : (b : Bool) → bytes_eq delimiter f ≡ b → length (f ∷ parts) ≤ cond (not b) (1 + position_or_len (bytes_eq delimiter) parts) 0
        → (length parts ≤ position_or_len (bytes_eq delimiter) parts → AreRouting parts) → AreRouting (f ∷ parts)
    step true e p more = absurd (omega arith)
    step false e p more = (other_frame f e, more (omega arith))

pub follow_place : (parts : List (List ℕ)) (place : ℕ) → position (bytes_eq delimiter) parts ≡ Some place → Follow parts (drop (place + 1) parts)
follow_place parts place found =
    let p : ℕ = position_or_len (bytes_eq delimiter) parts in
    let given = cond_some (nat_lt p (length parts)) p place found in
    subst (λ (n : ℕ). Follow parts (drop (n + 1) parts)) given.1 (follow_first parts (ltb-true p (length parts) given.0))

pub routing_alone : (parts : List (List ℕ)) → position (bytes_eq delimiter) parts ≡ None → AreRouting parts
routing_alone parts e =
    let p : ℕ = position_or_len (bytes_eq delimiter) parts in
    no_first parts (ltb-false p (length parts) (none_chosen (nat_lt p (length parts)) p e))

-- ---- one delimiter is the first

split_once : (routing others after more : List (List ℕ)) → AreRouting routing → AreRouting others → routing ++ delimiter ∷ after ≡ others ++ delimiter ∷ more → after ≡ more
split_once [] [] after more r o e = cc
split_once [] (f ∷ fs) after more r o e = absurd (o.0 (cc))
split_once (f ∷ fs) [] after more r o e = absurd (r.0 (cc))
split_once (f ∷ fs) (g ∷ gs) after more r o e = split_once fs gs after more r.1 o.1 (cc)

pub follow_once : (parts after more : List (List ℕ)) → Follow parts after → Follow parts more → after ≡ more
follow_once parts after more f g = split_once f.routing g.routing after more f.are_routing g.are_routing (sym f.parts_are ∙ g.parts_are)

routing_only : (routing after : List (List ℕ)) → AreRouting (routing ++ delimiter ∷ after) → ⊥
routing_only [] after r = r.0 refl
routing_only (f ∷ fs) after r = routing_only fs after r.1

pub follow_or_not : (parts after : List (List ℕ)) → AreRouting parts → Follow parts after → ⊥
follow_or_not parts after r f = routing_only f.routing after (subst AreRouting f.parts_are r)

-- ---- the first five

first_five : (after : List (List ℕ)) (s h p m c : List ℕ) → 5 ≤ length after → s ≡ get_or after 0 s → h ≡ get_or after 1 h → p ≡ get_or after 2 p → m ≡ get_or after 3 m → c ≡ get_or after 4 c
    → after ≡ s ∷ h ∷ p ∷ m ∷ c ∷ drop 5 after
first_five [] s h p m c long s_is h_is p_is m_is c_is = absurd (omega arith)
first_five (a1 ∷ []) s h p m c long s_is h_is p_is m_is c_is = absurd (omega arith)
first_five (a1 ∷ a2 ∷ []) s h p m c long s_is h_is p_is m_is c_is = absurd (omega arith)
first_five (a1 ∷ a2 ∷ a3 ∷ []) s h p m c long s_is h_is p_is m_is c_is = absurd (omega arith)
first_five (a1 ∷ a2 ∷ a3 ∷ a4 ∷ []) s h p m c long s_is h_is p_is m_is c_is = absurd (omega arith)
first_five (a1 ∷ a2 ∷ a3 ∷ a4 ∷ a5 ∷ rest) s h p m c long s_is h_is p_is m_is c_is = cc

pub frames_there : (parts after : List (List ℕ)) (s : List ℕ) → Follow parts after → 5 ≤ length after → s ≡ get_or after 0 s → (f : Frames parts) × (f.signature ≡ s)
frames_there parts [] s follow long is = absurd (omega arith)
frames_there parts (a1 ∷ []) s follow long is = absurd (omega arith)
frames_there parts (a1 ∷ a2 ∷ []) s follow long is = absurd (omega arith)
frames_there parts (a1 ∷ a2 ∷ a3 ∷ []) s follow long is = absurd (omega arith)
frames_there parts (a1 ∷ a2 ∷ a3 ∷ a4 ∷ []) s follow long is = absurd (omega arith)
frames_there parts (a1 ∷ a2 ∷ a3 ∷ a4 ∷ a5 ∷ rest) s follow long is = (record { signature = a1; header = a2; parent = a3; metadata = a4; content = a5; buffers = rest; follow = follow }, sym is)

pub signature_at : (parts after : List (List ℕ)) (s : List ℕ) → Follow parts after → s ≡ get_or after 0 s → (f : Frames parts) → s ≡ f.signature
signature_at parts after s follow is f =
    let same = follow_once parts after (f.signature ∷ f.header ∷ f.parent ∷ f.metadata ∷ f.content ∷ f.buffers) follow f.follow in
    is ∙ ap (λ a. get_or a 0 s) same

-- ---- a slice as an array

pub array_some : {E : Type 0} (r : Result (List ℕ) E) (o : Option (List ℕ)) (b : List ℕ) (n : ℕ) → o ≡ result_ok r → MatchResult r (λ y. IsWholeChunk b y n) (λ x. length b ≢ n) → IfSome o (λ s. s ≡ b)
array_some (Ok y) o b n e h = rw e h.same
array_some (Err x) o b n e h = rw e tt

pub array_only : {E : Type 0} (r : Result (List ℕ) E) (o : Option (List ℕ)) (b : List ℕ) (n : ℕ) → o ≡ result_ok r → MatchResult r (λ y. IsWholeChunk b y n) (λ x. length b ≢ n) → length b ≡ n → o ≡ Some b
array_only (Ok y) o b n e h long = e ∙ ap Some h.same
array_only (Err x) o b n e h long = absurd (h long)

pub opened : (parts after : List (List ℕ)) (s h p m c : List ℕ) → Follow parts after → 5 ≤ length after → s ≡ get_or after 0 s → h ≡ get_or after 1 h → p ≡ get_or after 2 p → m ≡ get_or after 3 m → c ≡ get_or after 4 c
    → Follow parts (s ∷ h ∷ p ∷ m ∷ c ∷ drop 5 after)
opened parts after s h p m c follow long s_is h_is p_is m_is c_is = subst (Follow parts) (first_five after s h p m c long s_is h_is p_is m_is c_is) follow

pub not_true : {P : Type 0} → (P → IsTrue false) → P → ⊥
not_true w e = let f = w e in cc
