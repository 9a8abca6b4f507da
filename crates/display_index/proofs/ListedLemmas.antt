-- Every id stays held for the cells of its places.
use Rattle.std.proofs.Common.{◌≡◌, ◌==◌, ℕ, Bool, true, false, cond, not, ◌||◌, List, [], ◌∷◌, ◌++◌, refl, sym, ◌∙◌, ap, eqb-true, arith, ◌⊎◌, inl, inr, Result, Ok, Err, ◌+◌, ◌<◌, length, take, get_or}
use Rattle.std.specs.List.{list_any, list_all}
use Rattle.std.specs.Result.{OnOk, OnErr}
use Rattle.std.specs.Str.{bytes_eq}
use Rattle.std.proofs.lemmas.List.{take_more}
use Rattle.std.proofs.lemmas.Slice.Eq.{bytes_eq-Decides}
use Rattle.std.proofs.lemmas.Bool.{and_parts, and_from, or_left, or_right, eq-eqb, false≢true}
use Rattle.std.proofs.Math.Bool.{or-false, or_assoc}
use Rattle.jtext.proofs.Lists.{all_more}
use Rattle.display_index.specs.declared.place.Place.{Place}
use Rattle.display_index.specs.declared.by_id.ById.{ById}
use Rattle.display_index.specs.declared.by_cell.ByCell.{ByCell}
use Rattle.display_index.specs.Listed.{places_at, ids_at, is_listed, AreListed, outside}

-- ---- tests over lists

all-snoc : {A : Type 0} (f : A → Bool) (xs : List A) (x : A) → list_all f xs ≡ true → f x ≡ true → list_all f (xs ++ x ∷ []) ≡ true
all-snoc f [] x e h = and_from (f x) true h refl
all-snoc f (y ∷ ys) x e h =
    let parts = and_parts (f y) (list_all f ys) e in
    and_from (f y) (list_all f (ys ++ x ∷ [])) parts.0 (all-snoc f ys x parts.1 h)

any_by : {A : Type 0} (f : A → Bool) (x : A) (xs ys : List A) (b : Bool) → f x ≡ b → (b || list_any f xs) ≡ true → (list_any f xs ≡ true → list_any f (xs ++ ys) ≡ true) → (b || list_any f (xs ++ ys)) ≡ true
any_by f x xs ys true e h more = refl
any_by f x xs ys false e h more = more h

any-before : {A : Type 0} (f : A → Bool) (xs ys : List A) → list_any f xs ≡ true → list_any f (xs ++ ys) ≡ true
any-before f [] ys e = cc
any-before f (x ∷ xs) ys e = any_by f x xs ys (f x) refl e (λ h. any-before f xs ys h)

any-last : {A : Type 0} (f : A → Bool) (xs : List A) (x : A) → f x ≡ true → list_any f (xs ++ x ∷ []) ≡ true
any-last f [] x e = or_left (f x) false e
any-last f (y ∷ ys) x e = or_right (f y) (list_any f (ys ++ x ∷ [])) (any-last f ys x e)

any_all_by : (n : ℕ) (h : ℕ → Bool) (p : Place) (ps : List Place) (b : Bool) → (p.cell == n) ≡ b → (b || list_any (λ q. q.cell == n) ps) ≡ true
    → h p.cell ≡ true → (list_any (λ q. q.cell == n) ps ≡ true → h n ≡ true) → h n ≡ true
any_all_by n h p ps true e f here rest = ap h (sym (eqb-true p.cell n e)) ∙ here
any_all_by n h p ps false e f here rest = rest f

-- what holds of the cell of each place holds of one of these cells
any-all : (n : ℕ) (h : ℕ → Bool) (ps : List Place) → list_any (λ p. p.cell == n) ps ≡ true → list_all (λ p. h p.cell) ps ≡ true → h n ≡ true
any-all n h [] e f = cc
any-all n h (p ∷ ps) e f =
    let parts = and_parts (h p.cell) (list_all (λ (q : Place). h q.cell) ps) f in
    any_all_by n h p ps (p.cell == n) refl e parts.0 (λ x. any-all n h ps x parts.1)

-- ---- one more place

still_by : (b : Bool) (f : List ℕ → Bool) (xs : List (List ℕ)) (id : List ℕ) → list_any f xs ≡ true → list_any f (cond b (xs ++ id ∷ []) xs) ≡ true
still_by true f xs id e = any-before f xs (id ∷ []) e
still_by false f xs id e = e

listed_place : (cells : ByCell) (ids : ById) (id : List ℕ) (place : Place)
    → (list_any (λ p. p.cell == place.cell) (places_at ids id) ≡ true) ⊎ (list_any (λ x. bytes_eq x id) (ids_at cells place.cell) ≡ true)
    → AreListed cells ids → list_any (λ x. bytes_eq x id) (ids_at cells place.cell) ≡ true
listed_place cells ids id place (inl e) h = any-all place.cell (λ n. list_any (λ x. bytes_eq x id) (ids_at cells n)) (places_at ids id) e (h id)
listed_place cells ids id place (inr e) h = e

more_by : (cells : ByCell) (id : List ℕ) (place : Place) (other : List ℕ) (b : Bool) → bytes_eq id other ≡ b → (ps : List Place)
    → list_any (λ x. bytes_eq x id) (ids_at cells place.cell) ≡ true → list_all (λ p. is_listed cells other p) ps ≡ true
    → list_all (λ p. is_listed cells other p) (cond b (ps ++ place ∷ []) ps) ≡ true
more_by cells id place other true e ps here h =
    let same : id ≡ other = (bytes_eq-Decides id other).0 e in
    all-snoc (λ p. is_listed cells other p) ps place h (ap (λ y. list_any (λ x. bytes_eq x y) (ids_at cells place.cell)) (sym same) ∙ here)
more_by cells id place other false e ps here h = h

-- more ids are held
pub listed-more : (cells cells' : ByCell) (ids : ById) → ((other : List ℕ) (p : Place) → is_listed cells other p ≡ true → is_listed cells' other p ≡ true)
    → AreListed cells ids → AreListed cells' ids
listed-more cells cells' ids more h other =
    all_more (λ p. is_listed cells other p) (λ p. is_listed cells' other p) (more other) (places_at ids other) (h other)

-- and one more place
pub listed-added : (cells : ByCell) (ids ids' : ById) (id : List ℕ) (place : Place)
    → (list_any (λ p. p.cell == place.cell) (places_at ids id) ≡ true) ⊎ (list_any (λ x. bytes_eq x id) (ids_at cells place.cell) ≡ true)
    → ((other : List ℕ) → places_at ids' other ≡ cond (bytes_eq id other) (places_at ids other ++ place ∷ []) (places_at ids other))
    → AreListed cells ids → AreListed cells ids'
listed-added cells ids ids' id place here p h other =
    rw (p other) (more_by cells id place other (bytes_eq id other) refl (places_at ids other) (listed_place cells ids id place here h) (h other))

-- and none
pub listed-same : (cells : ByCell) (ids ids' : ById) → ((other : List ℕ) → places_at ids' other ≡ places_at ids other) → AreListed cells ids → AreListed cells ids'
listed-same cells ids ids' p h other = rw (p other) (h other)

pub listed-tried : {T E : Type 0} (r : Result T E) (cells : ByCell) (ids ids' : ById) (id : List ℕ) (place : Place)
    → (list_any (λ p. p.cell == place.cell) (places_at ids id) ≡ true) ⊎ (list_any (λ x. bytes_eq x id) (ids_at cells place.cell) ≡ true)
    → OnOk r ((other : List ℕ) → places_at ids' other ≡ cond (bytes_eq id other) (places_at ids other ++ place ∷ []) (places_at ids other))
    → OnErr r ((other : List ℕ) → places_at ids' other ≡ places_at ids other)
    → AreListed cells ids → AreListed cells ids'
listed-tried (Ok x) cells ids ids' id place here ok err h = listed-added cells ids ids' id place here ok h
listed-tried (Err e) cells ids ids' id place here ok err h = listed-same cells ids ids' err h

-- ---- an id is listed

pub listed-new : (cells cells' : ByCell) (cell : ℕ) (id : List ℕ)
    → ((other : ℕ) → ids_at cells' other ≡ cond (cell == other) (ids_at cells other ++ id ∷ []) (ids_at cells other))
    → list_any (λ x. bytes_eq x id) (ids_at cells' cell) ≡ true
listed-new cells cells' cell id c = rw (c cell, eq-eqb cell cell refl) (any-last (λ x. bytes_eq x id) (ids_at cells cell) id ((bytes_eq-Decides id id).1 refl))

pub listed-kept : (cells cells' : ByCell) (cell : ℕ) (id : List ℕ)
    → ((other : ℕ) → ids_at cells' other ≡ cond (cell == other) (ids_at cells other ++ id ∷ []) (ids_at cells other))
    → (other : List ℕ) (p : Place) → is_listed cells other p ≡ true → is_listed cells' other p ≡ true
listed-kept cells cells' cell id c other p e = rw (c p.cell) (still_by (cell == p.cell) (λ x. bytes_eq x other) (ids_at cells p.cell) id e)

pub listed-unchanged : (cells cells' : ByCell) → ((other : ℕ) → ids_at cells' other ≡ ids_at cells other)
    → (other : List ℕ) (p : Place) → is_listed cells other p ≡ true → is_listed cells' other p ≡ true
listed-unchanged cells cells' c other p e = rw (c p.cell) e

-- ---- a cell is cleared

outside_same_by : (cell : ℕ) (h : ℕ → Bool) (p : Place) (ps : List Place) (b : Bool) → (p.cell == cell) ≡ b → h cell ≡ false → h p.cell ≡ true → outside cell ps ≡ ps → outside cell (p ∷ ps) ≡ p ∷ ps
outside_same_by cell h p ps true e none here rest = absurd (false≢true (sym none ∙ ap h (sym (eqb-true p.cell cell e)) ∙ here))
outside_same_by cell h p ps false e none here rest = rw e (ap (λ qs. p ∷ qs) rest)

outside-same : (cell : ℕ) (h : ℕ → Bool) (ps : List Place) → h cell ≡ false → list_all (λ p. h p.cell) ps ≡ true → outside cell ps ≡ ps
outside-same cell h [] none e = refl
outside-same cell h (p ∷ ps) none e =
    let parts = and_parts (h p.cell) (list_all (λ (q : Place). h q.cell) ps) e in
    outside_same_by cell h p ps (p.cell == cell) refl none parts.0 (outside-same cell h ps none parts.1)

-- a cell's ids are taken, and their places in it
pub record Clears (cells cells' : ByCell) (ids ids' : ById) (cell : ℕ) : Type 0 where
  pub taken : (other : ℕ) → ids_at cells' other ≡ cond (cell == other) [] (ids_at cells other)
  pub left : (id : List ℕ) → places_at ids' id ≡ cond (list_any (λ x. bytes_eq x id) (ids_at cells cell)) (outside cell (places_at ids id)) (places_at ids id)

cleared_by : (cells : ByCell) (ids : ById) (cell : ℕ) (id : List ℕ) (b : Bool) → list_any (λ x. bytes_eq x id) (ids_at cells cell) ≡ b
    → list_all (λ p. is_listed cells id p) (places_at ids id) ≡ true → cond b (outside cell (places_at ids id)) (places_at ids id) ≡ outside cell (places_at ids id)
cleared_by cells ids cell id true e h = refl
cleared_by cells ids cell id false e h = sym (outside-same cell (λ n. list_any (λ x. bytes_eq x id) (ids_at cells n)) (places_at ids id) e h)

pub cleared-outside : (cells cells' : ByCell) (ids ids' : ById) (cell : ℕ) → Clears cells cells' ids ids' cell → AreListed cells ids
    → (id : List ℕ) → places_at ids' id ≡ outside cell (places_at ids id)
cleared-outside cells cells' ids ids' cell c h id =
    c.left id ∙ cleared_by cells ids cell id (list_any (λ x. bytes_eq x id) (ids_at cells cell)) refl (h id)

differ : (a b : ℕ) → (a == b) ≡ false → (b == a) ≡ false
differ a b e = grind (arith, e)

all_outside_by : (cell : ℕ) (h h' : ℕ → Bool) → ((n : ℕ) → (cell == n) ≡ false → h' n ≡ h n) → (p : Place) (ps : List Place) (b : Bool) → (p.cell == cell) ≡ b
    → h p.cell ≡ true → list_all (λ q. h' q.cell) (outside cell ps) ≡ true → list_all (λ q. h' q.cell) (outside cell (p ∷ ps)) ≡ true
all_outside_by cell h h' same p ps true e here rest = rw e rest
all_outside_by cell h h' same p ps false e here rest =
    rw e (and_from (h' p.cell) (list_all (λ (q : Place). h' q.cell) (outside cell ps)) (same p.cell (differ p.cell cell e) ∙ here) rest)

all-outside : (cell : ℕ) (h h' : ℕ → Bool) → ((n : ℕ) → (cell == n) ≡ false → h' n ≡ h n) → (ps : List Place)
    → list_all (λ p. h p.cell) ps ≡ true → list_all (λ p. h' p.cell) (outside cell ps) ≡ true
all-outside cell h h' same [] e = refl
all-outside cell h h' same (p ∷ ps) e =
    let parts = and_parts (h p.cell) (list_all (λ (q : Place). h q.cell) ps) e in
    all_outside_by cell h h' same p ps (p.cell == cell) refl parts.0 (all-outside cell h h' same ps parts.1)

pub cleared-listed : (cells cells' : ByCell) (ids ids' : ById) (cell : ℕ) → Clears cells cells' ids ids' cell → AreListed cells ids → AreListed cells' ids'
cleared-listed cells cells' ids ids' cell c h id =
    rw (cleared-outside cells cells' ids ids' cell c h id)
    (all-outside cell (λ n. list_any (λ x. bytes_eq x id) (ids_at cells n)) (λ n. list_any (λ x. bytes_eq x id) (ids_at cells' n))
    (λ n e. ap (λ xs. list_any (λ x. bytes_eq x id) xs) (c.taken n ∙ ap (λ b. cond b [] (ids_at cells n)) e)) (places_at ids id) (h id))

-- ---- one id after another

twice_by : (cell : ℕ) (p : Place) (ps : List Place) (b : Bool) → not (p.cell == cell) ≡ b → outside cell (outside cell ps) ≡ outside cell ps → outside cell (outside cell (p ∷ ps)) ≡ outside cell (p ∷ ps)
twice_by cell p ps true e rest = rw (e, e) (ap (λ qs. p ∷ qs) rest)
twice_by cell p ps false e rest = rw e rest

pub outside-twice : (cell : ℕ) (ps : List Place) → outside cell (outside cell ps) ≡ outside cell ps
outside-twice cell [] = refl
outside-twice cell (p ∷ ps) = twice_by cell p ps (not (p.cell == cell)) refl (outside-twice cell ps)

pub cleared-more : (cell : ℕ) (a b : Bool) (ps : List Place)
    → cond b (outside cell (cond a (outside cell ps) ps)) (cond a (outside cell ps) ps) ≡ cond (a || b) (outside cell ps) ps
cleared-more cell true true ps = outside-twice cell ps
cleared-more cell true false ps = refl
cleared-more cell false true ps = refl
cleared-more cell false false ps = refl

pub any-snoc : {A : Type 0} (f : A → Bool) (xs : List A) (x : A) → list_any f (xs ++ x ∷ []) ≡ (list_any f xs || f x)
any-snoc f [] x = or-false (f x)
any-snoc f (y ∷ ys) x = ap (λ b. f y || b) (any-snoc f ys x) ∙ sym (or_assoc (f y) (list_any f ys) (f x))

pub cleared-next : {A : Type 0} (cell : ℕ) (f : A → Bool) (xs : List A) (i : ℕ) (x : A) (was now next : List Place) → i < length xs → x ≡ get_or xs i x
    → now ≡ cond (list_any f (take i xs)) (outside cell was) was → next ≡ cond (f x) (outside cell now) now
    → next ≡ cond (list_any f (take (i + 1) xs)) (outside cell was) was
cleared-next cell f xs i x was now next lt e h n =
    n ∙ ap (λ ps. cond (f x) (outside cell ps) ps) h ∙ cleared-more cell (list_any f (take i xs)) (f x) was
    ∙ ap (λ b. cond b (outside cell was) was) (sym (ap (λ ys. list_any f ys) (take_more xs i x lt) ∙ any-snoc f (take i xs) (get_or xs i x) ∙ ap (λ y. list_any f (take i xs) || f y) (sym e)))
