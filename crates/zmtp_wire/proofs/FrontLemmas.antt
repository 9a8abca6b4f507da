-- What stands in front of octets: no test fails in it, or one fails.
use Rattle.std.proofs.Common.{◌≡◌, ◌≢◌, ℕ, suc, ◌+◌, ◌≤◌, ◌<◌, ◌^◌, Bool, true, false, nat_lt}
use Rattle.std.proofs.Common.{nat_eq, List, [], ◌∷◌, ◌++◌, length, take, drop, refl, ap, sym, ◌∙◌}
use Rattle.std.proofs.Common.{arith, length-append, append_assoc, subst, ◌&&◌}
use Rattle.std.proofs.lemmas.Bool.{and_parts, ltb-true, ltb-false, eqb-true}
use Rattle.std.proofs.lemmas.Bool.Decides.{nat_tests}
use Rattle.std.proofs.Math.Seq.{take-append_seam, drop-append_seam}
use Rattle.std.proofs.lemmas.List.{take-append-drop, length-take-le, take-append-le, drop-append-le, length_push, nil_from_length}
use Rattle.zmtp_wire.specs.declared.role.Role.{Role}
use Rattle.zmtp_wire.specs.declared.fault.WireFault.{WireFault}
use Rattle.zmtp_wire.specs.declared.cause.Cause.{Cause}
use Rattle.zmtp_wire.specs.declared.cause.Cause.TheVariants as cause
use Rattle.zmtp_wire.specs.Fault.{clip, fault_at}
use Rattle.zmtp_wire.specs.Command.{error_name, WrongReady}
use Rattle.zmtp_wire.specs.Frame.{MOST, is_allowed, is_command, is_more, size_len, size_of}
use Rattle.zmtp_wire.specs.Front.{Fails}
use Rattle.zmtp_wire.specs.Stream.{Item, command, item_of, Heads, Spells, Come, greeted, shaken}
use Rattle.zmtp_wire.specs.Stream.{ready, unit, open_after, Wrong, IsPart, Passes, room_for}
use Rattle.zmtp_wire.specs.Stream as W
use Rattle.zmtp_wire.proofs.ListLemmas.{some_of_len, len_of_some}
use Rattle.zmtp_wire.proofs.OutcomeLemmas.{begins}
use Rattle.zmtp_wire.proofs.TurnLemmas.{Fills, fill_size, fill_body, Shape, item_command}

-- ---- cuts

-- the size and what follows it, where octets as many as a size has stand in front
pub size_front : (f : ℕ) (r o m : List ℕ) → o ++ m ≡ r → length o ≡ size_len f
    → (take (size_len f) r ≡ o) × (drop (size_len f) r ≡ m) × (size_len f ≤ length r)
size_front f r o m e l =
    let n = ap length e in (
      ap (take (size_len f)) (sym e) ∙ ap (λ k. take k (o ++ m)) (sym l) ∙ take-append_seam o m,
      ap (drop (size_len f)) (sym e) ∙ ap (λ k. drop k (o ++ m)) (sym l) ∙ drop-append_seam o m,
      omega (arith, length-append o m),
    )

-- a unit in front is told by the flag and the size
pub unit_front : (item : Item) (q m : List ℕ) (f : ℕ) (r : List ℕ) → (s : Spells item q) → q ++ m ≡ f ∷ r
    → (take (size_len f) r ≡ s.octets) × (drop (size_len f) r ≡ s.body ++ m) × (size_len f ≤ length r)
unit_front item q m f r s e =
    let all : s.flag ∷ ((s.octets ++ s.body) ++ m) ≡ f ∷ r = ap (λ t. t ++ m) (sym s.spelled) ∙ e in
    let k : s.flag ≡ f = cc in
    let rest : (s.octets ++ s.body) ++ m ≡ r = cc in
    size_front f r s.octets (s.body ++ m) (sym (append_assoc s.octets s.body m) ∙ rest) (s.head.len ∙ ap size_len k)

-- a list's last octet
last_of : (t : List ℕ) → 0 < length t → (p : List ℕ) × (x : ℕ) × (t ≡ p ++ x ∷ [])
last_of [] h = absurd (omega arith)
last_of (x ∷ []) h = ([], x, refl)
last_of (x ∷ y ∷ t) h = let k = last_of (y ∷ t) (omega arith) in (x ∷ k.0, k.1, ap (λ z. x ∷ z) k.2)

-- ---- no test fails

-- no test fails in a first unit that begins so
pub record FirstFits (role : Role) (f : ℕ) (r : List ℕ) : Type 0 where
  pub allowed : is_allowed f ≡ true
  pub command : is_command f ≡ true
  pub small : size_len f ≤ length r → size_of (take (size_len f) r) ≤ MOST
  pub agreed : (q m body : List ℕ) (c : Cause) → q ++ m ≡ f ∷ r → Spells (W.command body) q
      → WrongReady role body c → ⊥

first_passes_at : (role : Role) (g : List ℕ) (f : ℕ) (r : List ℕ) → FirstFits role f r → (q m : List ℕ) (c : Cause)
    → Wrong role (greeted g) q c → q ++ m ≡ f ∷ r → ⊥
first_passes_at role g f r h _ m _ (W.flags_first _ f' x) e =
    let all : f' ∷ m ≡ f ∷ r = e in
    let k : f' ≡ f = cc in
    let no : true ≡ false = sym h.allowed ∙ ap is_allowed (sym k) ∙ x in
    absurd (cc)
first_passes_at role g f r h _ m _ (W.frame_first _ f' x y) e =
    let all : f' ∷ m ≡ f ∷ r = e in
    let k : f' ≡ f = cc in
    let no : true ≡ false = sym h.command ∙ ap is_command (sym k) ∙ y in
    absurd (cc)
first_passes_at role g f r h _ m _ (W.too_long_first _ p f' o d w) e =
    let all : f' ∷ (o ++ m) ≡ f ∷ r = ap (λ t. t ++ m) (sym d.spelled) ∙ e in
    let k : f' ≡ f = cc in
    let rest : o ++ m ≡ r = cc in
    let s = size_front f r o m rest (d.len ∙ ap size_len k) in
    let small = h.small s.2 in
    let same = ap size_of s.0 in
    absurd (omega arith)
first_passes_at role g f r h _ m _ (W.handshake _ p body c s w) e = h.agreed p m body c e s w

pub first_passes : (role : Role) (g : List ℕ) (f : ℕ) (r : List ℕ) → FirstFits role f r
    → Passes role (greeted g) (f ∷ r)
first_passes role g f r h = λ k c w. first_passes_at role g f r h (take k (f ∷ r)) (drop k (f ∷ r)) c w
    (take-append-drop k (f ∷ r))

-- no test fails in a later unit that begins so
pub record LaterFits (g : List ℕ) (items : List Item) (f : ℕ) (r : List ℕ) : Type 0 where
  pub allowed : is_allowed f ≡ true
  pub few : (is_more f && nat_eq (length (open_after [] items)) 63) ≡ false
  pub small : size_len f ≤ length r → size_of (take (size_len f) r) ≤ room_for (shaken g items) f
  pub harmless : (t : List ℕ) → is_command f ≡ true → size_len f ≤ length r → 6 ≤ size_of (take (size_len f) r)
      → drop (size_len f) r ≡ error_name ++ t → ⊥

later_passes_at : (role : Role) (g : List ℕ) (items : List Item) (f : ℕ) (r : List ℕ) → LaterFits g items f r
    → (q m : List ℕ) (c : Cause) → Wrong role (shaken g items) q c → q ++ m ≡ f ∷ r → ⊥
later_passes_at role g items f r h _ m _ (W.flags _ _ f' x) e =
    let all : f' ∷ m ≡ f ∷ r = e in
    let k : f' ≡ f = cc in
    let no : true ≡ false = sym h.allowed ∙ ap is_allowed (sym k) ∙ x in
    absurd (cc)
later_passes_at role g items f r h _ m _ (W.too_many _ _ f' x l) e =
    let all : f' ∷ m ≡ f ∷ r = e in
    let k : f' ≡ f = cc in
    let n : nat_eq (length (open_after [] items)) 63 ≡ true = grind (arith, nat_tests) in
    let no : true ≡ false = sym n ∙ ap (λ b. b && nat_eq (length (open_after [] items)) 63) (sym x ∙ ap is_more k)
    ∙ h.few in
    absurd (cc)
later_passes_at role g items f r h _ m _ (W.too_long _ _ p f' o d w) e =
    let all : f' ∷ (o ++ m) ≡ f ∷ r = ap (λ t. t ++ m) (sym d.spelled) ∙ e in
    let k : f' ≡ f = cc in
    let rest : o ++ m ≡ r = cc in
    let s = size_front f r o m rest (d.len ∙ ap size_len k) in
    let small = h.small s.2 in
    let same = ap size_of s.0 in
    let room = ap (room_for (shaken g items)) k in
    absurd (omega arith)
later_passes_at role g items f r h _ m _ (W.peer_error _ _ p f' o d x w t) e =
    let all : f' ∷ ((o ++ error_name) ++ m) ≡ f ∷ r = ap (λ u. u ++ m) (sym t) ∙ e in
    let k : f' ≡ f = cc in
    let rest : (o ++ error_name) ++ m ≡ r = cc in
    let s = size_front f r o (error_name ++ m) (sym (append_assoc o error_name m) ∙ rest) (d.len ∙ ap size_len k) in
    let same = ap size_of s.0 in
    h.harmless m (ap is_command (sym k) ∙ x) s.2 (omega arith) s.1

pub later_passes : (role : Role) (g : List ℕ) (items : List Item) (f : ℕ) (r : List ℕ) → LaterFits g items f r
    → Passes role (shaken g items) (f ∷ r)
later_passes role g items f r h = λ k c w. later_passes_at role g items f r h (take k (f ∷ r)) (drop k (f ∷ r)) c w
    (take-append-drop k (f ∷ r))

-- ---- unfinished units

fills_on : (f : ℕ) (r : List ℕ) (b : Bool) → nat_lt (length r) (size_len f) ≡ b → Shape f r → Fills f r
fills_on f r true e s = fill_size f r s.allowed (ltb-true _ _ e)
fills_on f r false e s = let k = ltb-false _ _ e in fill_body f r s.allowed k (s.within k)

fills : (f : ℕ) (r : List ℕ) → Shape f r → Fills f r
fills f r s = fills_on f r _ refl s

pub first_part : (role : Role) (g : List ℕ) (f : ℕ) (r : List ℕ) → Shape f r → is_command f ≡ true
    → (size_len f ≤ length r → size_of (take (size_len f) r) ≤ MOST) → IsPart role (greeted g) (f ∷ r)
first_part role g f r s c small =
    let k = fills f r s in
    let fits : FirstFits role f r = record {
      allowed = s.allowed;
      command = c;
      small = small;
      agreed = λ q m body x e u w.
          let t = unit_front (command body) q m f r u e in
          let within = s.within t.2 in
          let size = ap size_of t.0 ∙ u.size in
          let len = ap length t.1 in
          absurd (omega (arith, length-append u.body m));
    } in
    record {
      missing = k.missing;
      some = k.some;
      next = shaken g [];
      completes = ready g (f ∷ (r ++ k.missing)) k.body
          (subst (λ (i : Item). Spells i (f ∷ (r ++ k.missing))) (item_command f k.body c) k.spells);
      passes = first_passes role g f r fits;
    }

pub later_part : (role : Role) (g : List ℕ) (items : List Item) (f : ℕ) (r : List ℕ) → Shape f r
    → LaterFits g items f r → IsPart role (shaken g items) (f ∷ r)
later_part role g items f r s fits =
    let k = fills f r s in
    record {
      missing = k.missing;
      some = k.some;
      next = shaken g (items ++ item_of f k.body ∷ []);
      completes = unit g items (item_of f k.body) (f ∷ (r ++ k.missing)) k.spells;
      passes = later_passes role g items f r fits;
    }

-- ---- faults

-- at the flag
pub fails_flag : (role : Role) (come : Come) (at : ℕ) (b : List ℕ) (f : ℕ) (r : List ℕ) (c : Cause) (e : WireFault)
    → at < 2 ^ 64 → b ≡ f ∷ r → Wrong role come (f ∷ []) c → e ≡ fault_at at c → Fails role come at b e
fails_flag role come at b f r c e l s w t =
    let here : at ≡ clip (at + 0) = omega arith in
    record {
      part = [];
      octet = f;
      after = r;
      broken = c;
      spelled = s;
      is_part = begins role come;
      wrong = w;
      fault = t ∙ ap (λ n. fault_at n c) here;
    }

-- at a later octet
pub fails_later : (role : Role) (come : Come) (at : ℕ) (b : List ℕ) (f : ℕ) (t after : List ℕ) (c : Cause)
    (e : WireFault) → b ≡ f ∷ (t ++ after) → 0 < length t → Wrong role come (f ∷ t) c
    → ((p m : List ℕ) → m ≢ [] → p ++ m ≡ t → IsPart role come (f ∷ p)) → e ≡ fault_at (clip (at + length t)) c
    → Fails role come at b e
fails_later role come at b f t after c e s h w parts place =
    let k = last_of t h in
    let len : length t ≡ suc (length k.0) = ap length k.2 ∙ omega (arith, length_push k.0 k.1) in
    record {
      part = f ∷ k.0;
      octet = k.1;
      after = after;
      broken = c;
      spelled = s ∙ ap (λ u. f ∷ (u ++ after)) k.2 ∙ ap (λ u. f ∷ u) (append_assoc k.0 (k.1 ∷ []) after);
      is_part = parts k.0 (k.1 ∷ []) (some_of_len (k.1 ∷ []) (omega arith)) (sym k.2);
      wrong = subst (λ (u : List ℕ). Wrong role come (f ∷ u) c) k.2 w;
      fault = place ∙ ap (λ n. fault_at (clip (at + n)) c) len;
    }

-- ---- the first octet

pub none_part : (role : Role) (come : Come) (b : List ℕ) → length b ≡ 0 → IsPart role come b
none_part role come b e = subst (λ (t : List ℕ). IsPart role come t) (sym (nil_from_length b e)) (begins role come)

pub too_many_wrong : (role : Role) (g : List ℕ) (items : List Item) (f : ℕ) (frames : List (List ℕ))
    → open_after [] items ≡ frames → (is_more f && nat_eq (length frames) 63) ≡ true
    → Wrong role (shaken g items) (f ∷ []) cause.TooMany
too_many_wrong role g items f frames o e =
    let k = and_parts (is_more f) (nat_eq (length frames) 63) e in
    let n : length (open_after [] items) ≡ 63 = ap length o ∙ eqb-true (length frames) 63 k.1 in
    W.too_many g items f k.0 n

-- ---- a size, and what follows it

-- what was read: a size, and the octets after it
abbrev pub HasSize : ℕ → List ℕ → ℕ → List ℕ → Type 0
HasSize f r size rest = (size_len f ≤ length r) × (size ≡ size_of (take (size_len f) r)) ×
    (rest ≡ drop (size_len f) r)

pub heads : (f : ℕ) (r : List ℕ) → is_allowed f ≡ true → size_len f ≤ length r
    → Heads (f ∷ take (size_len f) r) f (take (size_len f) r)
heads f r a h = record { spelled = refl; allowed = a; len = length-take-le (size_len f) r h }

-- a proper front of a size and octets after it
pub front_of : (f : ℕ) (p m o u : List ℕ) → m ≢ [] → p ++ m ≡ o ++ u → length o ≡ size_len f → size_len f ≤ length p
    → (take (size_len f) p ≡ o) × (length (drop (size_len f) p) < length u)
front_of f p m o u ne e l h =
    let s = size_front f (p ++ m) o u (sym e) l in
    let k = len_of_some m ne in
    let d = ap length (sym (drop-append-le (size_len f) p m h) ∙ s.1) in
    (sym (take-append-le (size_len f) p m h) ∙ s.0, omega (arith, length-append (drop (size_len f) p) m))

-- a size, a body of that size and what follows
pub cut_body : (f : ℕ) (r rest body after : List ℕ) (size : ℕ) → HasSize f r size rest → rest ≡ body ++ after
    → length body ≡ size → is_allowed f ≡ true
    → Spells (item_of f body) (f ∷ (take (size_len f) r ++ body)) × (r ≡ (take (size_len f) r ++ body) ++ after)
cut_body f r rest body after size s e l a = (
  record {
    flag = f;
    octets = take (size_len f) r;
    body = body;
    head = heads f r a s.0;
    size = sym s.1
        ∙ sym l;
    means = refl;
    spelled = refl;
  },
  sym (take-append-drop (size_len f) r) ∙ ap (λ u. take (size_len f) r ++ u) (sym s.2 ∙ e)
      ∙ sym (append_assoc (take (size_len f) r) body after),
)
