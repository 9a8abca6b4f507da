-- The places that stand after one more call.
use Rattle.std.proofs.Common.{◌≡◌, ◌==◌, ℕ, Bool, true, false, cond, not, ◌&&◌, List, [], ◌∷◌, ◌++◌, refl, sym, ◌∙◌, ap, append-nil}
use Rattle.std.specs.Str.{bytes_eq}
use Rattle.std.proofs.Math.Bool.{and-true, and_assoc}
use Rattle.display_index.specs.declared.place.Place.{Place}
use Rattle.display_index.specs.Standing.{Call, stays, standing}
use Rattle.display_index.specs.Standing.Call.{added, cleared}
use Rattle.display_index.specs.declared.by_id.ById.{ById}
use Rattle.display_index.specs.Listed.{places_at, outside}

stays-added : (p : Place) (calls : List Call) (id : List ℕ) (q : Place) → stays p (calls ++ added id q ∷ []) ≡ stays p calls
stays-added p [] id q = refl
stays-added p (added other r ∷ rest) id q = stays-added p rest id q
stays-added p (cleared cell ∷ rest) id q = ap (λ b. not (p.cell == cell) && b) (stays-added p rest id q)

stays-cleared : (p : Place) (calls : List Call) (c : ℕ) → stays p (calls ++ cleared c ∷ []) ≡ (stays p calls && not (p.cell == c))
stays-cleared p [] c = and-true (not (p.cell == c))
stays-cleared p (added other r ∷ rest) c = stays-cleared p rest c
stays-cleared p (cleared cell ∷ rest) c =
    ap (λ b. not (p.cell == cell) && b) (stays-cleared p rest c) ∙ sym (and_assoc (not (p.cell == cell)) (stays p rest) (not (p.cell == c)))

alone : (b : Bool) (p : Place) → cond (b && true) (p ∷ []) [] ≡ [] ++ cond b (p ∷ []) []
alone true p = refl
alone false p = refl

one_more : (b : Bool) (q : Place) (ps more : List Place) → cond b (q ∷ (ps ++ more)) (ps ++ more) ≡ cond b (q ∷ ps) ps ++ more
one_more true q ps more = refl
one_more false q ps more = refl

pub standing-added : (id : List ℕ) (calls : List Call) (other : List ℕ) (p : Place)
    → standing id (calls ++ added other p ∷ []) ≡ standing id calls ++ cond (bytes_eq other id) (p ∷ []) []
standing-added id [] other p = alone (bytes_eq other id) p
standing-added id (added o q ∷ rest) other p =
    rw (stays-added q rest other p, standing-added id rest other p)
    (one_more (bytes_eq o id && stays q rest) q (standing id rest) (cond (bytes_eq other id) (p ∷ []) []))
standing-added id (cleared cell ∷ rest) other p = standing-added id rest other p

outside_by : (c : ℕ) (q : Place) (b s n : Bool) (ps : List Place) → not (q.cell == c) ≡ n
    → cond (b && (s && n)) (q ∷ outside c ps) (outside c ps) ≡ outside c (cond (b && s) (q ∷ ps) ps)
outside_by c q true true true ps e = rw e refl
outside_by c q true true false ps e = rw e refl
outside_by c q true false n ps e = refl
outside_by c q false s n ps e = refl

pub standing-cleared : (id : List ℕ) (calls : List Call) (c : ℕ) → standing id (calls ++ cleared c ∷ []) ≡ outside c (standing id calls)
standing-cleared id [] c = refl
standing-cleared id (added o q ∷ rest) c =
    rw (stays-cleared q rest c, standing-cleared id rest c)
    (outside_by c q (bytes_eq o id) (stays q rest) (not (q.cell == c)) (standing id rest) refl)
standing-cleared id (cleared cell ∷ rest) c = standing-cleared id rest c

-- ---- the index

split_add : (b : Bool) (ps : List Place) (p : Place) → cond b (ps ++ p ∷ []) ps ≡ ps ++ cond b (p ∷ []) []
split_add true ps p = refl
split_add false ps p = sym (append-nil ps)

pub added-stands : (ids ids' : ById) (id : List ℕ) (p : Place)
    → ((other : List ℕ) → places_at ids' other ≡ cond (bytes_eq id other) (places_at ids other ++ p ∷ []) (places_at ids other))
    → (calls : List Call) → ((other : List ℕ) → places_at ids other ≡ standing other calls)
    → (other : List ℕ) → places_at ids' other ≡ standing other (calls ++ added id p ∷ [])
added-stands ids ids' id p h calls s other =
    h other ∙ split_add (bytes_eq id other) (places_at ids other) p
    ∙ ap (λ ps. ps ++ cond (bytes_eq id other) (p ∷ []) []) (s other) ∙ sym (standing-added other calls id p)

pub cleared-stands : (ids ids' : ById) (cell : ℕ) → ((id : List ℕ) → places_at ids' id ≡ outside cell (places_at ids id))
    → (calls : List Call) → ((id : List ℕ) → places_at ids id ≡ standing id calls)
    → (id : List ℕ) → places_at ids' id ≡ standing id (calls ++ cleared cell ∷ [])
cleared-stands ids ids' cell h calls s id = h id ∙ ap (λ ps. outside cell ps) (s id) ∙ sym (standing-cleared id calls cell)
