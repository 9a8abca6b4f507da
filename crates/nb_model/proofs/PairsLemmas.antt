-- Pairs of which one is taken out.
use Rattle.std.proofs.Common.{◌≡◌, ℕ, zero, suc, ◌+◌, ◌<◌, true, false, cond, List, [], ◌∷◌, ◌++◌, Option, Some, None, length, take, drop, get_or, refl, sym, ap, ◌∙◌, inl, inr, arith}
use Rattle.std.specs.List.{list_any, remove, position, position_from}
use Rattle.std.specs.Str.{bytes_eq}
use Rattle.std.proofs.lemmas.Bool.{cases_Bool, cond-true, cond-false, or_parts}
use Rattle.std.proofs.lemmas.List.Quantifiers.{position-Some}
use Rattle.std.proofs.lemmas.Iterator.Adapters.{position_from-zero}
use Rattle.std.proofs.lemmas.Slice.Eq.{bytes_eq-Decides}
use Rattle.jtext.specs.declared.json.Json.{Json}
use Rattle.jtext.specs.Find.{find}
use Rattle.jtext.proofs.Edits.{no_pair, not_first}
use Rattle.nb_model.specs.Pairs.{pairs_without}
use Rattle.nb_model.specs.declared.kind.Kind.{Kind}
use Rattle.nb_model.specs.declared.cell.Cell.{Cell}
use Rattle.nb_model.specs.declared.notebook.Notebook.{Notebook}

-- ---- the place of a key

rest_at : (key : List ℕ) (ps : List (List ℕ × Json)) (i : ℕ) → i < length ps → bytes_eq (get_or ps i no_pair).0 key ≡ true
    → ((k : ℕ) → k < i → bytes_eq (get_or ps k no_pair).0 key ≡ false) → take i ps ++ drop (suc i) ps ≡ pairs_without key ps
rest_at key [] i lt here none = absurd (omega arith)
rest_at key (q ∷ qs) zero lt here none = sym (cond-true (bytes_eq q.0 key) qs (q ∷ pairs_without key qs) here)
rest_at key (q ∷ qs) (suc i) lt here none =
    ap (λ l. q ∷ l) (rest_at key qs i (omega arith) here (λ k below. none (suc k) (omega arith)))
    ∙ sym (cond-false (bytes_eq q.0 key) qs (q ∷ pairs_without key qs) (none 0 (omega arith)))

pub without-at : (key : List ℕ) (ps : List (List ℕ × Json)) (i : ℕ) → position (λ q. bytes_eq q.0 key) ps ≡ Some i → remove ps i ≡ pairs_without key ps
without-at key ps i e = let is = position-Some (λ q. bytes_eq q.0 key) ps i no_pair e in rest_at key ps i is.0 is.1 is.2

absent_from : (key : List ℕ) (ps : List (List ℕ × Json)) (i : ℕ) → position_from (λ q. bytes_eq q.0 key) i ps ≡ None → pairs_without key ps ≡ ps
absent_from key [] i e = refl
absent_from key (q ∷ qs) i e =
    let h = not_first (bytes_eq q.0 key) i (position_from (λ q. bytes_eq q.0 key) (i + 1) qs) e in
    cond-false (bytes_eq q.0 key) qs (q ∷ pairs_without key qs) h.0 ∙ ap (λ l. q ∷ l) (absent_from key qs (i + 1) h.1)

pub without-none : (key : List ℕ) (ps : List (List ℕ × Json)) → position (λ q. bytes_eq q.0 key) ps ≡ None → ps ≡ pairs_without key ps
without-none key ps e = sym (absent_from key ps 0 (sym (position_from-zero (λ q. bytes_eq q.0 key) ps) ∙ e))

-- ---- the other keys

other : (xs ys zs : List ℕ) → bytes_eq xs ys ≡ true → bytes_eq ys zs ≡ false → bytes_eq xs zs ≡ false
other xs ys zs same ne = let e = (bytes_eq-Decides xs ys).0 same in ap (λ l. bytes_eq l zs) e ∙ ne

-- another key is found as before
pub find-without : (k key : List ℕ) (ps : List (List ℕ × Json)) → bytes_eq key k ≡ false → find k (pairs_without key ps) ≡ find k ps
find-without k key [] ne = refl
find-without k key (p ∷ ps) ne =
    elim (cases_Bool (bytes_eq p.0 key)) [
      | inl t ↦ ap (find k) (cond-true (bytes_eq p.0 key) ps (p ∷ pairs_without key ps) t) ∙ sym (cond-false (bytes_eq p.0 k) (Some p.1) (find k ps) (other p.0 key k t ne))
      | inr f ↦ ap (find k) (cond-false (bytes_eq p.0 key) ps (p ∷ pairs_without key ps) f) ∙ ap (λ o. cond (bytes_eq p.0 k) (Some p.1) o) (find-without k key ps ne)
    ]

-- the pairs with each of these taken out in turn
abbrev pub without_all : List (List ℕ) → List (List ℕ × Json) → List (List ℕ × Json)
without_all [] ps = ps
without_all (key ∷ keys) ps = without_all keys (pairs_without key ps)

pub find-without_all : (k : List ℕ) (keys : List (List ℕ)) (ps : List (List ℕ × Json)) → list_any (λ key. bytes_eq key k) keys ≡ false → find k (without_all keys ps) ≡ find k ps
find-without_all k [] ps ne = refl
find-without_all k (key ∷ keys) ps ne =
    let h = or_parts (bytes_eq key k) (list_any (λ q. bytes_eq q k) keys) ne in
    find-without_all k keys (pairs_without key ps) h.1 ∙ find-without k key ps h.0

-- ---- records of parts

pub same_cell : {k k' : Kind} {i i' : List ℕ} {m m' s s' : Json} {a a' : Option Json} {o o' : List Json} {n n' : Option (List ℕ)}
    → k ≡ k' → i ≡ i' → m ≡ m' → s ≡ s' → a ≡ a' → o ≡ o' → n ≡ n'
    → ◌≡◌ {A = Cell} (record { kind = k; id = i; metadata = m; source = s; attachments = a; outputs = o; count = n }) (record { kind = k'; id = i'; metadata = m'; source = s'; attachments = a'; outputs = o'; count = n' })
same_cell ek ei em es ea eo en = cc

pub same_notebook : {m m' : Json} {cs cs' : List Cell} → m ≡ m' → cs ≡ cs' → ◌≡◌ {A = Notebook} (record { metadata = m; cells = cs }) (record { metadata = m'; cells = cs' })
same_notebook em ec = cc
