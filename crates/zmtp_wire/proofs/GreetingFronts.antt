-- The greeting in front of octets, octet by octet.
use Rattle.std.proofs.Common.{◌≡◌, ℕ, ◌+◌, ◌-◌, ◌≤◌, ◌<◌, Bool, true, false, replicate}
use Rattle.std.proofs.Common.{List, [], ◌∷◌, ◌++◌, length, take, refl, ap, sym, ◌∙◌}
use Rattle.std.proofs.Common.{arith, length-append, append_assoc, append-nil, inl, inr, subst}
use Rattle.std.proofs.Math.Seq.{take-append_seam}
use Rattle.std.proofs.lemmas.List.{length_push, nil_from_length, same_from_push, length-replicate}
use Rattle.zmtp_wire.specs.declared.role.Role.{Role}
use Rattle.zmtp_wire.specs.declared.fault.WireFault.{WireFault}
use Rattle.zmtp_wire.specs.declared.cause.Cause.{Cause}
use Rattle.zmtp_wire.specs.Fault.{clip, fault_at}
use Rattle.zmtp_wire.specs.Front.{Takes, Fails}
use Rattle.zmtp_wire.specs.Greeting.{passes, greeting_cause, speaks}
use Rattle.zmtp_wire.specs.Stream.{nothing, greeted}
use Rattle.zmtp_wire.specs.Stream.{greeting, Wrong, IsPart, Passes}
use Rattle.zmtp_wire.specs.Stream as W
use Rattle.zmtp_wire.proofs.ListLemmas.{some_of_len}
use Rattle.zmtp_wire.proofs.OutcomeLemmas.{begins, take_snoc}

-- the first octets of b, no more than 64, and no test fails at them
pub record Greets (b : List ℕ) (i : ℕ) (rest : List ℕ) : Type 0 where
  pub front : List ℕ
  pub spelled : b ≡ front ++ rest
  pub len : length front ≡ i
  pub few : i ≤ 64
  pub fits : (role : Role) → Passes role nothing front

pub greets_none : (b : List ℕ) → Greets b 0 b
greets_none b = record {
  front = [];
  spelled = refl;
  len = refl;
  few = omega arith;
  fits = λ role.
      (begins role nothing).passes;
}

no_wrong : (role : Role) (p : List ℕ) (x : ℕ) → passes (length p) x ≡ true → (q : List ℕ) (c : Cause)
    → Wrong role nothing q c → q ≡ p ++ x ∷ [] → ⊥
no_wrong role p x h _ _ (W.greeting p' x' l f) e =
    let k = same_from_push p' p x' x e in
    let no : true ≡ false = sym h ∙ ap (λ q. passes (length q) x) (sym k.0) ∙ ap (passes (length p')) (sym k.1)
    ∙ f in
    absurd (cc)

passes_one : (role : Role) (p : List ℕ) (x : ℕ) → Passes role nothing p → passes (length p) x ≡ true
    → Passes role nothing (p ++ x ∷ [])
passes_one role p x ps h = λ k c w.
    elim (take_snoc k p x) [
      | inl j ↦ ps j.0 c (subst (λ (t : List ℕ). Wrong role nothing t c) j.1 w)
      | inr f ↦ no_wrong role p x h (take k (p ++ x ∷ [])) c w f
    ]

pub greets_more : (b : List ℕ) (i : ℕ) (rest : List ℕ) (x : ℕ) (after : List ℕ) → Greets b i rest → i < 64
    → rest ≡ x ∷ after → passes i x ≡ true → Greets b (i + 1) after
greets_more b i rest x after g h e p =
    let here : passes (length g.front) x ≡ true = ap (λ n. passes n x) g.len ∙ p in
    record {
      front = g.front ++ x ∷ [];
      spelled = g.spelled ∙ ap (λ t. g.front ++ t) e ∙ sym (append_assoc g.front (x ∷ []) after);
      len = length_push g.front x ∙ ap (λ n. n + 1) g.len;
      few = omega arith;
      fits = λ role. passes_one role g.front x (g.fits role) here;
    }

greeting_part : (role : Role) (p : List ℕ) → length p < 64 → Passes role nothing p → IsPart role nothing p
greeting_part role p h ps =
    let m = replicate (64 - length p) 0 in
    let len : length m ≡ 64 - length p = length-replicate (64 - length p) 0 in
    record {
      missing = m;
      some = some_of_len m (omega arith);
      next = greeted (p ++ m);
      completes = greeting
          (p ++ m) (omega (arith, length-append p m));
      passes = ps;
    }

pub greets_part : (role : Role) (b : List ℕ) (i : ℕ) (rest : List ℕ) → Greets b i rest → i < 64 → length rest ≡ 0
    → IsPart role nothing b
greets_part role b i rest g h e =
    let all : b ≡ g.front = g.spelled ∙ ap (λ t. g.front ++ t) (nil_from_length rest e) ∙ append-nil g.front in
    let len = g.len in
    subst (λ (t : List ℕ). IsPart role nothing t) (sym all) (greeting_part role g.front (omega arith) (g.fits role))

pub greets_wrong : (role : Role) (b : List ℕ) (i : ℕ) (rest : List ℕ) (x : ℕ) (after : List ℕ) (c : Cause)
    (e : WireFault) → Greets b i rest → i < 64 → rest ≡ x ∷ after → passes i x ≡ false → c ≡ greeting_cause i
    → e ≡ fault_at i c → Fails role nothing 0 b e
greets_wrong role b i rest x after c e g h s p cc' f =
    let len = g.len in
    let here : i ≡ clip (0 + length g.front) = omega arith in
    let same : c ≡ greeting_cause (length g.front) = cc' ∙ ap greeting_cause (sym len) in
    record {
      part = g.front;
      octet = x;
      after = after;
      broken = greeting_cause (length g.front);
      spelled = g.spelled ∙ ap (λ t. g.front ++ t) s;
      is_part = greeting_part role g.front (omega arith) (g.fits role);
      wrong = W.greeting g.front x (omega arith) (ap (λ n. passes n x) len ∙ p);
      fault = f ∙ ap (fault_at i) same ∙ ap (λ n. fault_at n (greeting_cause (length g.front))) here;
    }

pub greets_whole : (role : Role) (b : List ℕ) (i : ℕ) (rest first : List ℕ) (newer : Bool) → Greets b i rest
    → (i < 64 → ⊥) → first ≡ take 64 b → newer ≡ speaks first
    → (g : List ℕ) × Takes role nothing (greeted g) b rest × (newer ≡ speaks g)
greets_whole role b i rest first newer g h f n =
    let few = g.few in
    let len : length g.front ≡ 64 = omega (arith, g.len) in
    let front : first ≡ g.front = f ∙ ap (take 64) g.spelled ∙ ap (λ k. take k (g.front ++ rest)) (sym len)
    ∙ take-append_seam g.front rest in (
      g.front,
      record {
        front = g.front;
        spelled = g.spelled;
        completes = greeting g.front len;
        passes = g.fits role;
      },
      n ∙ ap speaks front,
    )

pub greets_len : (b : List ℕ) (i : ℕ) (rest : List ℕ) → Greets b i rest → length b ≡ i + length rest
greets_len b i rest g = ap length g.spelled ∙ length-append g.front rest ∙ ap (λ n. n + length rest) g.len
