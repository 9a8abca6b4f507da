-- Units as octets: how long one is, and that none begins another.
use Rattle.std.proofs.Common.{◌≡◌, ℕ, ◌+◌, ◌≤◌, true, List, [], ◌∷◌, ◌++◌, length, take, drop, refl, ap, sym, ◌∙◌, arith, length-append, append-nil, subst}
use Rattle.std.proofs.Math.Seq.{take-append_seam, drop-append_seam}
use Rattle.std.proofs.lemmas.List.{take-append-drop, length-take-le, take-append-le, length-drop, nil_from_length}
use Rattle.zmtp_wire.specs.Frame.{is_allowed, size_len, size_of}
use Rattle.zmtp_wire.specs.Stream.{Item, item_of, Spells, Come, greeted, shaken, Completes, greeting, ready, unit}

-- a unit by its cells
pub record Cells (item : Item) (f : ℕ) (r : List ℕ) : Type 0 where
  pub allowed : is_allowed f ≡ true
  pub headed : size_len f ≤ length r
  pub size : size_of (take (size_len f) r) ≡ length (drop (size_len f) r)
  pub means : item ≡ item_of f (drop (size_len f) r)

pub cells-of : (item : Item) (f : ℕ) (r : List ℕ) → Spells item (f ∷ r) → Cells item f r
cells-of item f r s =
    let same : f ≡ s.flag = cc (s.spelled) in
    let rest : r ≡ s.octets ++ s.body = cc (s.spelled) in
    let front : take (size_len s.flag) r ≡ s.octets = ap (λ n. take n r) (sym s.head.len) ∙ ap (λ x. take (length s.octets) x) rest ∙ take-append_seam s.octets s.body in
    let back : drop (size_len s.flag) r ≡ s.body = ap (λ n. drop n r) (sym s.head.len) ∙ ap (λ x. drop (length s.octets) x) rest ∙ drop-append_seam s.octets s.body in
    let len : length r ≡ length s.octets + length s.body = ap length rest ∙ length-append s.octets s.body in
    let here : Cells item s.flag r = record {
      allowed = s.head.allowed;
      headed = omega (arith, s.head.len);
      size = ap size_of front ∙ s.size ∙ ap length (sym back);
      means = s.means ∙ ap (item_of s.flag) (sym back);
    } in
    subst (λ (g : ℕ). Cells item g r) (sym same) here

pub of-cells : (item : Item) (f : ℕ) (r : List ℕ) → Cells item f r → Spells item (f ∷ r)
of-cells item f r c =
    record {
      flag = f;
      octets = take (size_len f) r;
      body = drop (size_len f) r;
      head = record { spelled = refl; allowed = c.allowed; len = length-take-le (size_len f) r c.headed };
      size = c.size;
      means = c.means;
      spelled = ap (λ t. f ∷ t) (sym (take-append-drop (size_len f) r));
    }

pub no_cells : (item : Item) → Spells item [] → ⊥
no_cells item s = absurd (cc (s.spelled))

-- a whole unit begins no other
pub one_unit : (a b : Item) (p m : List ℕ) → Spells a p → Spells b (p ++ m) → (m ≡ []) × (a ≡ b)
one_unit a b [] m s t = absurd (no_cells a s)
one_unit a b (f ∷ r) m s t =
    let c = cells-of a f r s in
    let d = cells-of b f (r ++ m) t in
    let same = take-append-le (size_len f) r m c.headed in
    let lr = length-drop (size_len f) r in
    let ld = length-drop (size_len f) (r ++ m) in
    let e : length (drop (size_len f) (r ++ m)) ≡ length (drop (size_len f) r) = sym d.size ∙ ap size_of same ∙ c.size in
    let nil : m ≡ [] = nil_from_length m (omega (arith, length-append r m)) in
    let whole : r ++ m ≡ r = ap (λ x. r ++ x) nil ∙ append-nil r in
    (nil, c.means ∙ ap (λ x. item_of f (drop (size_len f) x)) (sym whole) ∙ sym d.means)

pub one_next : (come next next' : Come) (p m : List ℕ) → Completes come p next → Completes come (p ++ m) next' → (m ≡ []) × (next ≡ next')
one_next _ _ _ _ m (greeting p h) (greeting _ h') =
    let nil : m ≡ [] = nil_from_length m (omega (arith, length-append p m)) in
    (nil, ap greeted (sym (append-nil p) ∙ ap (λ x. p ++ x) (sym nil)))
one_next _ _ _ _ m (ready g p body s) (ready _ _ body' s') = ((one_unit _ _ p m s s').0, refl)
one_next _ _ _ _ m (unit g items item p s) (unit _ _ item' _ s') =
    let k = one_unit _ _ p m s s' in (k.0, ap (λ i. shaken g (items ++ i ∷ [])) k.1)
