-- The loop over the properties of READY.
use Rattle.std.proofs.Common.{◌≡◌, ℕ, zero, suc, ◌+◌, ◌≤◌, ◌<◌, Bool, true, false, cond, nat_lt, nat_eq, List, [], ◌∷◌, length, take, drop, Option, None, Some, refl, ap, sym, ◌∙◌, arith, length-drop, get_or}
use Rattle.std.specs.Int.{w32, from_be_bytes}
use Rattle.std.proofs.lemmas.Bool.{cond-true, le-ltb, lt-ltb, eqb-true}
use Rattle.zmtp_wire.specs.declared.role.Role.{Role}
use Rattle.zmtp_wire.specs.declared.cause.Cause.{Cause}
use Rattle.zmtp_wire.specs.declared.cause.Cause.TheVariants as cause
use Rattle.zmtp_wire.specs.Command.{Property, is_type_name, is_peer, socket_type}
use Rattle.zmtp_wire.specs.Machine.{properties, properties_in, with_property, ready_cause, after_one}

abbrev pub found_or : Option Bool → Bool → Bool
found_or None b = b
found_or (Some a) b = a

-- the answer where the name was found so, and these properties follow
abbrev pub verdict : Role → Option Bool → Option (List Property) → Option Cause
verdict r fits None = Some cause.Command
verdict r fits (Some ps) = cond (found_or fits (is_peer r (socket_type ps))) None (Some cause.WrongPeer)

pub verdict-start : (r : Role) (x : Option (List Property)) → verdict r None x ≡ ready_cause r x
verdict-start r None = refl
verdict-start r (Some ps) = refl

choice : (r : Role) (p : Property) (ps : List Property) (b : Bool) → is_peer r (cond b (Some p.1) (socket_type ps)) ≡ found_or (cond b (Some (is_peer r (Some p.1))) None) (is_peer r (socket_type ps))
choice r p ps true = refl
choice r p ps false = refl

pub verdict-with : (r : Role) (fits : Option Bool) (p : Property) (x : Option (List Property)) → verdict r fits (with_property p x) ≡ verdict r (after_one r p fits) x
verdict-with r fits p None = refl
verdict-with r (Some a) p (Some ps) = refl
verdict-with r None p (Some ps) = ap (λ b. cond b None (Some cause.WrongPeer)) (choice r p ps (is_type_name p.0))

-- more steps than octets change nothing
pub steps_enough : (s t : ℕ) (b : List ℕ) → length b ≤ s → length b ≤ t → properties_in s b ≡ properties_in t b
unfolding properties_in
steps_enough s t [] p q = refl
steps_enough zero t (n ∷ r) p q = absurd (omega arith)
steps_enough (suc s) zero (n ∷ r) p q = absurd (omega arith)
steps_enough (suc s) (suc t) (n ∷ r) p q =
    let len = from_be_bytes w32 (drop n r) in
    let next : List ℕ = drop len (drop 4 (drop n r)) in
    let short : length next ≤ length r = omega (arith, length-drop len (drop 4 (drop n r)), length-drop 4 (drop n r), length-drop n r) in
    ap (λ x. cond (nat_lt (length r) (n + 4)) None (cond (nat_lt (length (drop 4 (drop n r))) len) None (with_property (take n r, take len (drop 4 (drop n r))) x)))
    (steps_enough s t next (omega arith) (omega arith))

pick_past : {A : Type 0} (b : Bool) (x y z : A) → b ≡ false → y ≡ z → cond b x y ≡ z
pick_past true x y z p q = absurd (cc)
pick_past false x y z p q = q

pub properties-one : (n : ℕ) (r : List ℕ) → n + 4 ≤ length r → from_be_bytes w32 (drop n r) ≤ length (drop 4 (drop n r))
    → properties (n ∷ r) ≡ with_property (take n r, take (from_be_bytes w32 (drop n r)) (drop 4 (drop n r))) (properties (drop (from_be_bytes w32 (drop n r)) (drop 4 (drop n r))))
unfolding properties_in
properties-one n r p q =
    let len = from_be_bytes w32 (drop n r) in
    let next : List ℕ = drop len (drop 4 (drop n r)) in
    let short : length next ≤ length r = omega (arith, length-drop len (drop 4 (drop n r)), length-drop 4 (drop n r), length-drop n r) in
    pick_past _ None _ _ (le-ltb _ _ p) (pick_past _ None _ _ (le-ltb _ _ q)
    (ap (with_property (take n r, take len (drop 4 (drop n r)))) (steps_enough (length r) (length next) next short (omega arith))))

pub properties-short : (n : ℕ) (r : List ℕ) → length r < n + 4 → properties (n ∷ r) ≡ None
unfolding properties_in
properties-short n r p = cond-true _ None _ (lt-ltb _ _ p)

pub properties-cut : (n : ℕ) (r : List ℕ) → n + 4 ≤ length r → length (drop 4 (drop n r)) < from_be_bytes w32 (drop n r) → properties (n ∷ r) ≡ None
unfolding properties_in
properties-cut n r p q = pick_past _ None _ None (le-ltb _ _ p) (cond-true _ None _ (lt-ltb _ _ q))

pub one_by_parts : (octets first rr name after rest value next : List ℕ) (n len : ℕ) → octets ≡ n ∷ rr → n + 4 ≤ length rr → name ≡ take n rr → after ≡ drop n rr → rest ≡ drop 4 after
    → len ≡ from_be_bytes w32 after → len ≤ length rest → value ≡ take len rest → next ≡ drop len rest
    → properties octets ≡ with_property (name, value) (properties next)
one_by_parts octets first rr name after rest value next n len e h na af re le w va ne =
    let w' : from_be_bytes w32 (drop n rr) ≤ length (drop 4 (drop n rr)) = rw (← af, ← re, ← le) w in
    let one = properties-one n rr h w' in
    cc

pub front_back : (octets front rr : List ℕ) → 0 < length octets → front ≡ take 1 octets → rr ≡ drop 1 octets → octets ≡ get_or front 0 0 ∷ rr
front_back [] front rr h f b = absurd (omega arith)
front_back (x ∷ octets) front rr h f b = cc

pub short_by_parts : (octets rr : List ℕ) (n : ℕ) → octets ≡ n ∷ rr → length rr < n + 4 → properties octets ≡ None
short_by_parts octets rr n e h = ap properties e ∙ properties-short n rr h

pub cut_by_parts : (octets rr after rest : List ℕ) (n len : ℕ) → octets ≡ n ∷ rr → n + 4 ≤ length rr → after ≡ drop n rr → rest ≡ drop 4 after → len ≡ from_be_bytes w32 after → length rest < len
    → properties octets ≡ None
cut_by_parts octets rr after rest n len e h af re le w =
    let w' : length (drop 4 (drop n rr)) < from_be_bytes w32 (drop n rr) = rw (← af, ← re, ← le) w in
    ap properties e ∙ properties-cut n rr h w'

at_end : (r : Role) (fits : Option Bool) (rest : List ℕ) (z : Option Cause) → nat_eq (length rest) 0 ≡ true → verdict r fits (properties rest) ≡ z
    → cond (found_or fits false) None (Some cause.WrongPeer) ≡ z
unfolding properties_in
at_end r fits [] z e v = v
at_end r fits (x ∷ rest) z e v = let k = eqb-true _ 0 e in absurd (omega arith)

pub end_true : (r : Role) (fits : Option Bool) (rest : List ℕ) (z : Option Cause) (b : Bool) → nat_eq (length rest) 0 ≡ true → verdict r fits (properties rest) ≡ z → fits ≡ Some b → b ≡ true → None ≡ z
end_true r fits rest z b e v f t = sym (ap (λ x. cond (found_or x false) None (Some cause.WrongPeer)) (f ∙ ap Some t)) ∙ at_end r fits rest z e v

pub end_false : (r : Role) (fits : Option Bool) (rest : List ℕ) (z : Option Cause) (b : Bool) → nat_eq (length rest) 0 ≡ true → verdict r fits (properties rest) ≡ z → fits ≡ Some b → b ≡ false
    → Some cause.WrongPeer ≡ z
end_false r fits rest z b e v f t = sym (ap (λ x. cond (found_or x false) None (Some cause.WrongPeer)) (f ∙ ap Some t)) ∙ at_end r fits rest z e v

pub end_none : (r : Role) (fits : Option Bool) (rest : List ℕ) (z : Option Cause) → nat_eq (length rest) 0 ≡ true → verdict r fits (properties rest) ≡ z → fits ≡ None
    → Some cause.WrongPeer ≡ z
end_none r fits rest z e v f = sym (ap (λ x. cond (found_or x false) None (Some cause.WrongPeer)) f) ∙ at_end r fits rest z e v

pub ruleset ready_laws = (verdict-start, verdict-with)
