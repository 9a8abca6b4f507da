-- READY in front of octets, by what was read of it.
use Rattle.std.proofs.Common.{◌≡◌, ◌≢◌, ℕ, ◌+◌, ◌≤◌, ◌<◌, true}
use Rattle.std.proofs.Common.{List, [], ◌∷◌, ◌++◌, length, take, drop, None, Some, refl, ap, sym, ◌∙◌}
use Rattle.std.proofs.Common.{arith, length-append, subst}
use Rattle.std.proofs.lemmas.List.{take-append-drop, length-take-le}
use Rattle.zmtp_wire.specs.declared.role.Role.{Role}
use Rattle.zmtp_wire.specs.declared.fault.WireFault.{WireFault}
use Rattle.zmtp_wire.specs.declared.cause.Cause.{Cause}
use Rattle.zmtp_wire.specs.declared.cause.Cause.TheVariants as cause
use Rattle.zmtp_wire.specs.Fault.{clip, fault_at}
use Rattle.zmtp_wire.specs.Frame.{MOST, is_allowed, is_command, size_len, size_of}
use Rattle.zmtp_wire.specs.Front.{Takes, Fails}
use Rattle.zmtp_wire.specs.Stream.{Item, command, Spells, greeted, shaken}
use Rattle.zmtp_wire.specs.Stream.{ready, unit, IsPart}
use Rattle.zmtp_wire.specs.Stream as W
use Rattle.zmtp_wire.specs.Machine.{handshake_cause}
use Rattle.zmtp_wire.proofs.HandshakeLemmas.{cause_tells, cause_told}
use Rattle.zmtp_wire.proofs.ListLemmas.{len_of_some}
use Rattle.zmtp_wire.proofs.TurnLemmas.{shape_of, item_command, size_pos}
use Rattle.zmtp_wire.proofs.UnitLemmas.{one_unit}
use Rattle.zmtp_wire.proofs.FrontLemmas.{size_front, FirstFits, first_passes, first_part, fails_later, HasSize}
use Rattle.zmtp_wire.proofs.FrontLemmas.{heads, front_of, cut_body}

-- the flag of the first unit was passed
pub record HasCommandFlag (b : List ℕ) (f : ℕ) (r : List ℕ) : Type 0 where
  pub spelled : b ≡ f ∷ r
  pub allowed : is_allowed f ≡ true
  pub commands : is_command f ≡ true

pub first_size_part : (role : Role) (g b : List ℕ) (f : ℕ) (r : List ℕ) → HasCommandFlag b f r → length r < size_len f
    → IsPart role (greeted g) b
first_size_part role g b f r h w =
    subst (λ (t : List ℕ). IsPart role (greeted g) t) (sym h.spelled)
    (first_part role g f r (record { allowed = h.allowed; within = λ k. absurd (omega arith) }) h.commands
    (λ k. absurd (omega arith)))

pub first_body_part : (role : Role) (g b : List ℕ) (f : ℕ) (r : List ℕ) (size : ℕ) (rest : List ℕ) → HasCommandFlag b f r
    → HasSize f r size rest → size ≤ MOST → length rest < size → IsPart role (greeted g) b
first_body_part role g b f r size rest h s x l =
    let d = ap length s.2 in
    let within : length (drop (size_len f) r) < size_of (take (size_len f) r) = omega (arith, s.1) in
    subst (λ (t : List ℕ). IsPart role (greeted g) t) (sym h.spelled)
    (first_part role g f r (record { allowed = h.allowed; within = λ k. within }) h.commands
    (λ k. omega (arith, s.1)))

pub first_too_long : (role : Role) (g : List ℕ) (at : ℕ) (b : List ℕ) (f : ℕ) (r : List ℕ) (size n last : ℕ)
    (rest : List ℕ) (e : WireFault) → HasCommandFlag b f r → HasSize f r size rest → MOST < size → n ≡ size_len f
    → last ≡ clip (at + n)
    → e ≡ fault_at last (cause.TooLong size) → Fails role (greeted g) at b e
first_too_long role g at b f r size n last rest e h s w nn l x =
    let o = take (size_len f) r in
    let len : length o ≡ size_len f = length-take-le (size_len f) r s.0 in
    let much : MOST < size_of o = omega (arith, s.1) in
    let parts : (p m : List ℕ) → m ≢ [] → p ++ m ≡ o → IsPart role (greeted g) (f ∷ p) = λ p m ne q.
    let short : length p < size_len f = let k = ap length q in let j = len_of_some m ne in omega
    (arith, length-append p m) in
    first_part role g f p (record { allowed = h.allowed; within = λ k. absurd (omega arith) }) h.commands
    (λ k. absurd (omega arith)) in
    let place : last ≡ clip (at + length o) = omega arith in
    fails_later role (greeted g) at b f o (drop (size_len f) r) (cause.TooLong (size_of o)) e
    (h.spelled ∙ ap (λ u. f ∷ u) (sym (take-append-drop (size_len f) r))) (let k = size_pos f in omega arith)
    (W.too_long_first g (f ∷ o) f o (heads f r h.allowed s.0) much) parts
    (x ∙ ap (λ k. fault_at last (cause.TooLong k)) s.1 ∙ ap (λ k. fault_at k (cause.TooLong (size_of o))) place)

-- the whole first command
cut_command : (b : List ℕ) (f : ℕ) (r rest body after : List ℕ) (size : ℕ) → HasCommandFlag b f r → HasSize f r size rest
    → rest ≡ body ++ after → length body ≡ size
    → Spells (command body) (f ∷ (take (size_len f) r ++ body)) × (r ≡ (take (size_len f) r ++ body) ++ after)
cut_command b f r rest body after size h s e l =
    let k = cut_body f r rest body after size s e l h.allowed in
    (subst (λ (i : Item). Spells i (f ∷ (take (size_len f) r ++ body))) (item_command f body h.commands) k.0, k.1)

pub first_wrong : (role : Role) (g : List ℕ) (at : ℕ) (b : List ℕ) (f : ℕ) (r : List ℕ) (size n last place : ℕ)
    (rest body after : List ℕ) (c : Cause) (e : WireFault) → HasCommandFlag b f r → HasSize f r size rest → size ≤ MOST
    → rest ≡ body ++ after → length body ≡ size → handshake_cause role body ≡ Some c → n ≡ size_len f
    → last ≡ clip (at + n) → place ≡ clip (last + size) → e ≡ fault_at place c → Fails role (greeted g) at b e
first_wrong role g at b f r size n last place rest body after c e h s x cut l w nn ll pl er =
    let o = take (size_len f) r in
    let len : length o ≡ size_len f = length-take-le (size_len f) r s.0 in
    let k = cut_command b f r rest body after size h s cut l in
    let all : length (o ++ body) ≡ size_len f + size = length-append o body ∙ ap (λ y. y + length body) len
    ∙ ap (λ y. size_len f + y) l in
    let parts : (p m : List ℕ) → m ≢ [] → p ++ m ≡ o ++ body → IsPart role (greeted g) (f ∷ p) = λ p m ne q.
    let shape = shape_of (command body) f p m ne (subst (λ (t : List ℕ). Spells (command body) (f ∷ t))
    (sym q) k.0) in
    first_part role g f p shape h.commands (λ y. let z = front_of f p m o body ne q len y in let sz = ap size_of
    z.0 in omega (arith, s.1)) in
    let here : place ≡ clip (at + length (o ++ body)) = omega arith in
    fails_later role (greeted g) at b f (o ++ body) after c e (h.spelled ∙ ap (λ u. f ∷ u) k.1)
    (let y = size_pos f in omega arith) (W.handshake g (f ∷ (o ++ body)) body c k.0 (cause_tells role body c w))
    parts
    (er ∙ ap (λ y. fault_at y c) here)

pub first_takes : (role : Role) (g b : List ℕ) (f : ℕ) (r : List ℕ) (size : ℕ) (rest body after : List ℕ)
    → HasCommandFlag b f r → HasSize f r size rest → size ≤ MOST → rest ≡ body ++ after → length body ≡ size
    → handshake_cause role body ≡ None
    → Takes role (greeted g) (shaken g []) b after
first_takes role g b f r size rest body after h s x cut l w =
    let o = take (size_len f) r in
    let k = cut_command b f r rest body after size h s cut l in
    let t = size_front f (o ++ body) o body refl (length-take-le (size_len f) r s.0) in
    let fits : FirstFits role f (o ++ body) = record {
      allowed = h.allowed;
      command = h.commands;
      small = λ y. let z = ap size_of t.0 in omega (arith, s.1);
      agreed = λ q m body' c e u v.
          let one = one_unit (command body') (command body) q m u
          (subst (λ (z : List ℕ). Spells (command body) z) (sym e) k.0) in
          let same : W.command body' ≡ W.command body = one.1 in
          let bodies : body' ≡ body = cc in
          let no : Some c ≡ None = sym (cause_told role body' c v) ∙ ap (handshake_cause role) bodies ∙ w in
          absurd (cc);
    } in
    record {
      front = f ∷ (o ++ body);
      spelled = h.spelled ∙ ap (λ u. f ∷ u) k.1;
      completes = ready g (f ∷ (o ++ body)) body k.0;
      passes = first_passes role g f (o ++ body) fits;
    }
