-- The first command's tests are those of the grammar.
use Rattle.std.proofs.Common.{◌≡◌, ℕ, zero, suc, ◌+◌, ◌≤◌, Bool, true, false, cond, nat_lt, nat_eq, List, [], ◌∷◌, ◌++◌, length, take, drop, Option, None, Some, refl, ap, sym, ◌∙◌, arith, length-append, subst}
use Rattle.std.specs.List.{starts_with}
use Rattle.std.specs.Int.{w32, from_be_bytes}
use Rattle.std.proofs.lemmas.Bool.{cond-false, ltb-false}
use Rattle.std.proofs.Math.Seq.{take-append_seam, drop-append_seam}
use Rattle.std.proofs.lemmas.List.{take-append-drop, length-take-le, length-drop}
use Rattle.zmtp_wire.specs.declared.role.Role.{Role}
use Rattle.zmtp_wire.specs.declared.cause.Cause.{Cause}
use Rattle.zmtp_wire.specs.declared.cause.Cause.TheVariants as cause
use Rattle.zmtp_wire.specs.Command.{Property, SpellsProperties, none, one, SpellsNone, WrongReady, refused, unnamed, malformed, stranger, error_name, ready_name, is_peer, socket_type}
use Rattle.zmtp_wire.specs.Machine.{with_property, properties_in, properties, ready_cause, handshake_cause}
use Rattle.zmtp_wire.proofs.ListLemmas.{same_start}
use Rattle.zmtp_wire.proofs.ReadyLemmas.{one_by_parts}

-- ---- what properties spell is read

four : (size more : List ℕ) → length size ≡ 4 → from_be_bytes w32 (size ++ more) ≡ from_be_bytes w32 size
four [] more h = absurd (omega arith)
four (a ∷ []) more h = absurd (omega arith)
four (a ∷ b ∷ []) more h = absurd (omega arith)
four (a ∷ b ∷ c ∷ []) more h = absurd (omega arith)
four (a ∷ b ∷ c ∷ d ∷ []) more h = refl
four (a ∷ b ∷ c ∷ d ∷ e ∷ f) more h = absurd (omega arith)

pub spelled_read : (ps : List Property) (octets : List ℕ) → SpellsProperties ps octets → properties octets ≡ Some ps
unfolding properties_in
spelled_read _ _ none = refl
spelled_read _ _ (one name size value rest ps l e s) =
    let after : List ℕ = size ++ (value ++ rest) in
    let all : List ℕ = name ++ after in
    let back : (value ++ rest) ≡ drop 4 after = sym (drop-append_seam size (value ++ rest)) ∙ ap (λ k. drop k after) l in
    let first = one_by_parts (length name ∷ all) [] all name after (value ++ rest) value rest (length name) (length value) refl
    (omega (arith, length-append name after, length-append size (value ++ rest))) (sym (take-append_seam name after)) (sym (drop-append_seam name after)) back (sym (four size (value ++ rest) l ∙ e))
    (omega (arith, length-append value rest)) (sym (take-append_seam value rest)) (sym (drop-append_seam value rest)) in
    first ∙ ap (with_property (name, value)) (spelled_read ps rest s)

-- ---- what is read spells

-- the octets of one property and those after it
one_property : (n : ℕ) (r : List ℕ) (qs : List Property) → n + 4 ≤ length r → from_be_bytes w32 (drop n r) ≤ length (drop 4 (drop n r))
    → SpellsProperties qs (drop (from_be_bytes w32 (drop n r)) (drop 4 (drop n r)))
    → SpellsProperties ((take n r, take (from_be_bytes w32 (drop n r)) (drop 4 (drop n r))) ∷ qs) (n ∷ r)
one_property n r qs h w s =
    let after = drop n r in
    let len = from_be_bytes w32 after in
    let tail = drop 4 after in
    let cut : length after + n ≡ length r = omega (arith, length-drop n r) in
    let size : List ℕ = take 4 after in
    let four_long : length size ≡ 4 = length-take-le 4 after (omega arith) in
    let number : from_be_bytes w32 size ≡ length (take len tail) =
    sym (four size tail four_long) ∙ ap (from_be_bytes w32) (take-append-drop 4 after) ∙ sym (length-take-le len tail w) in
    let all = one (take n r) size (take len tail) (drop len tail) qs four_long number s in
    let name : length (take n r) ≡ n = length-take-le n r (omega arith) in
    let text : (take n r ++ (size ++ (take len tail ++ drop len tail))) ≡ r =
    ap (λ t. take n r ++ (size ++ t)) (take-append-drop len tail) ∙ ap (λ t. take n r ++ t) (take-append-drop 4 after) ∙ take-append-drop n r in
    subst (λ (t : List ℕ). SpellsProperties ((take n r, take len tail) ∷ qs) t) (ap (λ k. k ∷ (take n r ++ (size ++ (take len tail ++ drop len tail)))) name ∙ ap (λ t. n ∷ t) text) all

read_on : (a b : Bool) (p : Property) (x : Option (List Property)) (ps : List Property) → cond a None (cond b None (with_property p x)) ≡ Some ps
    → (a ≡ false) × (b ≡ false) × (qs : List Property) × (x ≡ Some qs) × ((p ∷ qs) ≡ ps)
read_on true b p x ps e = absurd (cc)
read_on false true p x ps e = absurd (cc)
read_on false false p None ps e = absurd (cc)
read_on false false p (Some qs) ps e = (refl, refl, qs, refl, cc)

read_spells : (steps : ℕ) (octets : List ℕ) (ps : List Property) → properties_in steps octets ≡ Some ps → SpellsProperties ps octets
unfolding properties_in
read_spells steps [] ps e = let nil : [] ≡ ps = cc in subst (λ (x : List Property). SpellsProperties x []) nil none
read_spells zero (n ∷ r) ps e = absurd (cc)
read_spells (suc steps) (n ∷ r) ps e =
    let k = read_on (nat_lt (length r) (n + 4)) (nat_lt (length (drop 4 (drop n r))) (from_be_bytes w32 (drop n r))) (take n r, take (from_be_bytes w32 (drop n r)) (drop 4 (drop n r)))
    (properties_in steps (drop (from_be_bytes w32 (drop n r)) (drop 4 (drop n r)))) ps e in
    let rest = read_spells steps (drop (from_be_bytes w32 (drop n r)) (drop 4 (drop n r))) k.2 k.3 in
    subst (λ (x : List Property). SpellsProperties x (n ∷ r)) k.4 (one_property n r k.2 (ltb-false _ _ k.0) (ltb-false _ _ k.1) rest)

none_spelled : (octets : List ℕ) → properties octets ≡ None → SpellsNone octets
none_spelled octets e = λ ps s. let k = sym e ∙ spelled_read ps octets s in absurd (cc)

none_read_on : (octets : List ℕ) (o : Option (List Property)) → properties octets ≡ o → SpellsNone octets → properties octets ≡ None
none_read_on octets None e h = e
none_read_on octets (Some ps) e h = absurd (h ps (read_spells (length octets) octets ps e))

none_read : (octets : List ℕ) → SpellsNone octets → properties octets ≡ None
none_read octets h = none_read_on octets _ refl h

-- ---- the tests

peer_of : (role : Role) (ps : List Property) (a : Bool) (c : Cause) → is_peer role (socket_type ps) ≡ a → cond a None (Some cause.WrongPeer) ≡ Some c → (a ≡ false) × (cause.WrongPeer ≡ c)
peer_of role ps true c e h = absurd (cc)
peer_of role ps false c e h = (refl, cc)

ready_tells : (role : Role) (octets : List ℕ) (o : Option (List Property)) (c : Cause) → properties octets ≡ o → ready_cause role o ≡ Some c → WrongReady role (ready_name ++ octets) c
ready_tells role octets None c e h = let k : cause.Command ≡ c = cc in subst (λ (x : Cause). WrongReady role (ready_name ++ octets) x) k (malformed octets (none_spelled octets e))
ready_tells role octets (Some ps) c e h =
    let k = peer_of role ps (is_peer role (socket_type ps)) c refl h in
    subst (λ (x : Cause). WrongReady role (ready_name ++ octets) x) k.1 (stranger octets ps (read_spells (length octets) octets ps e) k.0)

tells_on : (role : Role) (body : List ℕ) (c : Cause) (a b : Bool) → starts_with nat_eq body error_name ≡ a → starts_with nat_eq body ready_name ≡ b
    → cond a (Some cause.PeerError) (cond b (ready_cause role (properties (drop 6 body))) (Some cause.Command)) ≡ Some c → WrongReady role body c
tells_on role body c true b e f h =
    let k : cause.PeerError ≡ c = cc in
    subst (λ (x : Cause). WrongReady role body x) k (subst (λ (t : List ℕ). WrongReady role t cause.PeerError) (same_start error_name body e) (refused (drop 6 body)))
tells_on role body c false true e f h =
    subst (λ (t : List ℕ). WrongReady role t c) (same_start ready_name body f) (ready_tells role (drop 6 body) (properties (drop 6 body)) c refl h)
tells_on role body c false false e f h = let k : cause.Command ≡ c = cc in subst (λ (x : Cause). WrongReady role body x) k (unnamed body e f)

-- where the machine finds a cause, the grammar does
pub cause_tells : (role : Role) (body : List ℕ) (c : Cause) → handshake_cause role body ≡ Some c → WrongReady role body c
cause_tells role body c h = tells_on role body c (starts_with nat_eq body error_name) (starts_with nat_eq body ready_name) refl refl h

-- where the grammar finds a cause, the machine does
pub cause_told : (role : Role) (body : List ℕ) (c : Cause) → WrongReady role body c → handshake_cause role body ≡ Some c
cause_told role _ _ (refused text) = refl
cause_told role _ _ (unnamed body e f) = cond-false _ _ _ e ∙ cond-false _ _ _ f
cause_told role _ _ (malformed octets h) = ap (ready_cause role) (none_read octets h)
cause_told role _ _ (stranger octets ps s h) = ap (ready_cause role) (spelled_read ps octets s) ∙ cond-false _ _ _ h
