-- Cells in increasing order, with one more.
use Rattle.std.proofs.Common.{◌≡◌, ℕ, zero, suc, ◌==◌, ◌+◌, ◌<◌, ◌≤◌, Bool, true, false, cond, ◌||◌, nat_lt, nat_cmp, List, [], ◌∷◌, ◌++◌, length, get_or, take, drop, Result, Ok, Err, refl, sym, ◌∙◌, ap, arith, add-one}
use Rattle.std.specs.List.{list_any, list_all, insert, remove}
use Rattle.std.specs.List.Sorted.{IsBinarySearchResult}
use Rattle.std.specs.Result.{IfOk, IfErr}
use Rattle.std.proofs.lemmas.List.Sorted.{searched}
use Rattle.std.proofs.lemmas.Bool.{and_parts, and_from, or_parts, or_from, or_left, or_right, eq-eqb}
use Rattle.std.proofs.Math.Bool.{or_assoc}
use Rattle.std.proofs.lemmas.List.Folds.{list_any-append}
use Rattle.jtext.proofs.Lists.{all_more}
use Rattle.display_index.specs.declared.place.Place.{Place}
use Rattle.display_index.proofs.ListedLemmas.{any-snoc}
use Rattle.out_fold.specs.Plans.{is_in, increases, lead, Covers}
use Rattle.out_fold.proofs.ListTests.{no}

-- a cell in its place
abbrev ins : ℕ → List ℕ → List ℕ
ins x [] = x ∷ []
ins x (y ∷ ys) = cond (nat_lt y x) (y ∷ ins x ys) (x ∷ y ∷ ys)

insert_by : (x y : ℕ) (ys : List ℕ) (b : Bool) → nat_lt y x ≡ b → insert ys (lead ys x) x ≡ ins x ys → insert (y ∷ ys) (lead (y ∷ ys) x) x ≡ ins x (y ∷ ys)
insert_by x y ys true e h = rw (e, add-one) (ap (λ zs. y ∷ zs) h)
insert_by x y ys false e h = rw e refl

insert-ins : (x : ℕ) (ys : List ℕ) → insert ys (lead ys x) x ≡ ins x ys
insert-ins x [] = refl
insert-ins x (y ∷ ys) = insert_by x y ys (nat_lt y x) refl (insert-ins x ys)

or_swap : (a b c : Bool) → (a || (b || c)) ≡ (b || (a || c))
or_swap true true c = refl
or_swap true false c = refl
or_swap false true c = refl
or_swap false false c = refl

in_by : (x y n : ℕ) (ys : List ℕ) (b : Bool) → is_in (ins x ys) n ≡ ((x == n) || is_in ys n)
    → is_in (cond b (y ∷ ins x ys) (x ∷ y ∷ ys)) n ≡ ((x == n) || ((y == n) || is_in ys n))
in_by x y n ys true h = ap (λ b. (y == n) || b) h ∙ or_swap (y == n) (x == n) (is_in ys n)
in_by x y n ys false h = refl

in-ins : (x n : ℕ) (ys : List ℕ) → is_in (ins x ys) n ≡ ((x == n) || is_in ys n)
in-ins x n [] = refl
in-ins x n (y ∷ ys) = in_by x y n ys (nat_lt y x) (in-ins x n ys)

all_by : (f : ℕ → Bool) (x y : ℕ) (ys : List ℕ) (b : Bool) → f x ≡ true → f y ≡ true → list_all f ys ≡ true → list_all f (ins x ys) ≡ true
    → list_all f (cond b (y ∷ ins x ys) (x ∷ y ∷ ys)) ≡ true
all_by f x y ys true h i r q = and_from (f y) (list_all f (ins x ys)) i q
all_by f x y ys false h i r q = and_from (f x) (list_all f (y ∷ ys)) h (and_from (f y) (list_all f ys) i r)

all-ins : (f : ℕ → Bool) (x : ℕ) (ys : List ℕ) → f x ≡ true → list_all f ys ≡ true → list_all f (ins x ys) ≡ true
all-ins f x [] h e = and_from (f x) true h refl
all-ins f x (y ∷ ys) h e =
    let parts = and_parts (f y) (list_all f ys) e in
    all_by f x y ys (nat_lt y x) h parts.0 parts.1 (all-ins f x ys h parts.1)

above : (x y : ℕ) → nat_lt y x ≡ false → (y == x) ≡ false → nat_lt x y ≡ true
above x y e f = grind (arith, e, f)

below : (x y z : ℕ) → nat_lt x y ≡ true → nat_lt y z ≡ true → nat_lt x z ≡ true
below x y z e f = grind (arith, e, f)

sorted_by : (x y : ℕ) (ys : List ℕ) (b : Bool) → nat_lt y x ≡ b → (y == x) ≡ false → list_all (nat_lt y) ys ≡ true → increases ys ≡ true → increases (ins x ys) ≡ true
    → increases (cond b (y ∷ ins x ys) (x ∷ y ∷ ys)) ≡ true
sorted_by x y ys true e f h i q = and_from (list_all (nat_lt y) (ins x ys)) (increases (ins x ys)) (all-ins (nat_lt y) x ys e h) q
sorted_by x y ys false e f h i q =
    let up = above x y e f in
    and_from (list_all (nat_lt x) (y ∷ ys)) (increases (y ∷ ys))
    (and_from (nat_lt x y) (list_all (nat_lt x) ys) up (all_more (nat_lt y) (nat_lt x) (λ z g. below x y z up g) ys h))
    (and_from (list_all (nat_lt y) ys) (increases ys) h i)

sorted-ins : (x : ℕ) (ys : List ℕ) → is_in ys x ≡ false → increases ys ≡ true → increases (ins x ys) ≡ true
sorted-ins x [] a i = refl
sorted-ins x (y ∷ ys) a i =
    let apart = or_parts (y == x) (is_in ys x) a in
    let parts = and_parts (list_all (nat_lt y) ys) (increases ys) i in
    sorted_by x y ys (nat_lt y x) refl apart.0 parts.0 parts.1 (sorted-ins x ys apart.1 parts.1)

-- one more cell that isn't there yet
pub sorted-insert : (x : ℕ) (old new : List ℕ) → is_in old x ≡ false → new ≡ insert old (lead old x) x → increases old ≡ true → increases new ≡ true
sorted-insert x old new a e i = rw (e, insert-ins x old) (sorted-ins x old a i)

pub in-insert : (x : ℕ) (old new : List ℕ) → new ≡ insert old (lead old x) x → (n : ℕ) → is_in new n ≡ ((x == n) || is_in old n)
in-insert x old new e n = ap (λ ys. is_in ys n) (e ∙ insert-ins x old) ∙ in-ins x n old

-- one that is there
there_by : (x n : ℕ) (ys : List ℕ) (b : Bool) → (x == n) ≡ b → is_in ys x ≡ true → is_in ys n ≡ (b || is_in ys n)
there_by x n ys true e h = let same : x ≡ n = grind (arith, e) in ap (λ k. is_in ys k) (sym same) ∙ h
there_by x n ys false e h = refl

pub in-there : (x : ℕ) (old new : List ℕ) → is_in old x ≡ true → new ≡ old → (n : ℕ) → is_in new n ≡ ((x == n) || is_in old n)
in-there x old new h e n = ap (λ ys. is_in ys n) e ∙ there_by x n old (x == n) refl h

-- ---- all that are wanted

none_by : (p : Place) (ps : List Place) (plan : List ℕ) (n : ℕ) (b : Bool) → (p.cell == n) ≡ b → is_in plan p.cell ≡ true → is_in plan n ≡ false
    → list_any (λ q. q.cell == n) ps ≡ false → (b || list_any (λ q. q.cell == n) ps) ≡ false
none_by p ps plan n true e h f r = let same : p.cell ≡ n = grind (arith, e) in no (sym f ∙ ap (λ k. is_in plan k) (sym same) ∙ h)
none_by p ps plan n false e h f r = r

none_in : (ps : List Place) (plan : List ℕ) (n : ℕ) → list_all (λ p. is_in plan p.cell) ps ≡ true → is_in plan n ≡ false → list_any (λ p. p.cell == n) ps ≡ false
none_in [] plan n h e = refl
none_in (p ∷ ps) plan n h e =
    let parts = and_parts (is_in plan p.cell) (list_all (λ (q : Place). is_in plan q.cell) ps) h in
    none_by p ps plan n (p.cell == n) refl parts.0 e (none_in ps plan n parts.1 e)

-- one more cell, where those of the places are there
pub covers-one : (plan new : List ℕ) (cell : ℕ) (ps : List Place) → increases new ≡ true → list_all (λ p. is_in plan p.cell) ps ≡ true
    → ((n : ℕ) → is_in new n ≡ ((cell == n) || is_in plan n)) → Covers plan new cell ps
covers-one plan new cell ps i all h = record {
  sorted = i;
  kept = λ n e. (or_parts (cell == n) (is_in plan n) (sym (h n) ∙ e)).1;
  current = h cell ∙ or_left (cell == cell) (is_in plan cell) (eq-eqb cell cell refl);
  placed = λ n e. none_in ps plan n all (or_parts (cell == n) (is_in plan n) (sym (h n) ∙ e)).1;
  only = λ n e. or_left ((cell == n) || is_in plan n) (list_any (λ (p : Place). p.cell == n) ps) (sym (h n) ∙ e);
}

pub covers-union : (plan new : List ℕ) (cell : ℕ) (ps : List Place) → increases new ≡ true
    → ((n : ℕ) → is_in new n ≡ (((cell == n) || is_in plan n) || list_any (λ p. p.cell == n) ps)) → Covers plan new cell ps
covers-union plan new cell ps i h = record {
  sorted = i;
  kept = λ n e. (or_parts (cell == n) (is_in plan n) (or_parts ((cell == n) || is_in plan n) (list_any (λ (p : Place). p.cell == n) ps) (sym (h n) ∙ e)).0).1;
  current = h cell ∙ or_left ((cell == cell) || is_in plan cell) (list_any (λ (p : Place). p.cell == cell) ps) (or_left (cell == cell) (is_in plan cell) (eq-eqb cell cell refl));
  placed = λ n e. (or_parts ((cell == n) || is_in plan n) (list_any (λ (p : Place). p.cell == n) ps) (sym (h n) ∙ e)).1;
  only = λ n e. sym (h n) ∙ e;
}

-- ---- two lists that are put together

or_next : (p a r b c : Bool) → (a || r) ≡ (b || c) → ((p || a) || r) ≡ (b || (c || p))
or_next true a r true c h = refl
or_next true a r false true h = refl
or_next true a r false false h = refl
or_next false a r b true h = h
or_next false a r b false h = h

-- one more place
pub in-next : (cells rest cells₁ rest₁ cells₂ plan : List ℕ) (before after : List Place) (p : Place) → after ≡ before ++ p ∷ []
    → ((n : ℕ) → (is_in cells n || is_in rest n) ≡ (is_in plan n || list_any (λ q. q.cell == n) before))
    → ((n : ℕ) → (is_in cells₁ n || is_in rest₁ n) ≡ (is_in cells n || is_in rest n))
    → ((n : ℕ) → is_in cells₂ n ≡ ((p.cell == n) || is_in cells₁ n))
    → (n : ℕ) → (is_in cells₂ n || is_in rest₁ n) ≡ (is_in plan n || list_any (λ q. q.cell == n) after)
in-next cells rest cells₁ rest₁ cells₂ plan before after p e h f g n =
    ap (λ b. b || is_in rest₁ n) (g n)
    ∙ or_next (p.cell == n) (is_in cells₁ n) (is_in rest₁ n) (is_in plan n) (list_any (λ (q : Place). q.cell == n) before) (f n ∙ h n)
    ∙ ap (λ b. is_in plan n || b) (sym (any-snoc (λ (q : Place). q.cell == n) before p) ∙ ap (λ ps. list_any (λ (q : Place). q.cell == n) ps) (sym e))

-- the last of the plan, and the cell
pub in-all : (cells rest cells₁ cells₂ plan : List ℕ) (cell : ℕ) (ps : List Place)
    → ((n : ℕ) → (is_in cells n || is_in rest n) ≡ (is_in plan n || list_any (λ q. q.cell == n) ps))
    → ((n : ℕ) → is_in cells₁ n ≡ (is_in cells n || is_in rest n))
    → ((n : ℕ) → is_in cells₂ n ≡ ((cell == n) || is_in cells₁ n))
    → (n : ℕ) → is_in cells₂ n ≡ (((cell == n) || is_in plan n) || list_any (λ q. q.cell == n) ps)
in-all cells rest cells₁ cells₂ plan cell ps h f g n =
    g n ∙ ap (λ b. (cell == n) || b) (f n ∙ h n) ∙ sym (or_assoc (cell == n) (is_in plan n) (list_any (λ (q : Place). q.cell == n) ps))

take-drop : (k : ℕ) (xs : List ℕ) → take k xs ++ drop k xs ≡ xs
take-drop zero xs = refl
take-drop (suc k) [] = refl
take-drop (suc k) (x ∷ xs) = ap (λ ys. x ∷ ys) (take-drop k xs)

-- some of the rest
pub in-below : (cells cells₁ rest : List ℕ) (k : ℕ) → ((n : ℕ) → is_in cells₁ n ≡ (is_in cells n || is_in (take k rest) n))
    → (n : ℕ) → (is_in cells₁ n || is_in (drop k rest) n) ≡ (is_in cells n || is_in rest n)
in-below cells cells₁ rest k h n =
    ap (λ b. b || is_in (drop k rest) n) (h n)
    ∙ or_assoc (is_in cells n) (is_in (take k rest) n) (is_in (drop k rest) n)
    ∙ ap (λ b. is_in cells n || b) (sym (list_any-append (λ m. m == n) (take k rest) (drop k rest)) ∙ ap (λ ys. is_in ys n) (take-drop k rest))

or_more : (p a b : Bool) → (p || (a || b)) ≡ (a || (b || p))
or_more true true b = refl
or_more true false true = refl
or_more true false false = refl
or_more false true b = refl
or_more false false true = refl
or_more false false false = refl

-- one more of them
pub in-more : (cells cells₁ cells₂ before after : List ℕ) (x : ℕ) → after ≡ before ++ x ∷ []
    → ((n : ℕ) → is_in cells₁ n ≡ (is_in cells n || is_in before n)) → ((n : ℕ) → is_in cells₂ n ≡ ((x == n) || is_in cells₁ n))
    → (n : ℕ) → is_in cells₂ n ≡ (is_in cells n || is_in after n)
in-more cells cells₁ cells₂ before after x e h g n =
    g n ∙ ap (λ b. (x == n) || b) (h n) ∙ or_more (x == n) (is_in cells n) (is_in before n)
    ∙ ap (λ b. is_in cells n || b) (sym (any-snoc (λ m. m == n) before x) ∙ ap (λ ys. is_in ys n) (sym e))

-- ---- a cell taken out again

pub taken-out : (xs : List ℕ) (i x : ℕ) → i ≤ length xs → remove (insert xs i x) i ≡ xs
taken-out xs zero x l = refl
taken-out [] (suc i) x l = absurd (omega (arith, l))
taken-out (y ∷ ys) (suc i) x l = ap (λ zs. y ∷ zs) (taken-out ys i x (omega (arith, l)))

pub none-out : (xs : List ℕ) (i : ℕ) → length xs ≤ i → remove xs i ≡ xs
none-out [] zero l = refl
none-out [] (suc i) l = refl
none-out (y ∷ ys) zero l = absurd (omega (arith, l))
none-out (y ∷ ys) (suc i) l = ap (λ zs. y ∷ zs) (none-out ys i (omega (arith, l)))

-- ---- the place of a cell

all-at : (f : ℕ → Bool) (xs : List ℕ) (i : ℕ) → list_all f xs ≡ true → i < length xs → f (get_or xs i 0) ≡ true
all-at f [] i h l = absurd (omega (arith, l))
all-at f (x ∷ xs) zero h l = (and_parts (f x) (list_all f xs) h).0
all-at f (x ∷ xs) (suc i) h l = all-at f xs i (and_parts (f x) (list_all f xs) h).1 (omega (arith, l))

less : (x y : ℕ) → nat_lt x y ≡ true → x < y
less x y e = grind (arith, e)

rises : (xs : List ℕ) → increases xs ≡ true → (i j : ℕ) → i ≤ j → j < length xs → get_or xs i 0 ≤ get_or xs j 0
rises [] h i j le l = absurd (omega (arith, l))
rises (x ∷ xs) h zero zero le l = omega arith
rises (x ∷ xs) h zero (suc j) le l =
    let below : x < get_or xs j 0 = less x (get_or xs j 0) (all-at (nat_lt x) xs j (and_parts (list_all (nat_lt x) xs) (increases xs) h).0 (omega (arith, l))) in omega (arith, below)
rises (x ∷ xs) h (suc i) zero le l = absurd (omega (arith, le))
rises (x ∷ xs) h (suc i) (suc j) le l = rises xs (and_parts (list_all (nat_lt x) xs) (increases xs) h).1 i j (omega (arith, le)) (omega (arith, l))

in-at : (xs : List ℕ) (x i : ℕ) → i < length xs → get_or xs i 0 ≡ x → is_in xs x ≡ true
in-at [] x i l e = absurd (omega (arith, l))
in-at (y ∷ ys) x zero l e = or_left (y == x) (is_in ys x) (ap (λ k. k == x) e ∙ eq-eqb x x refl)
in-at (y ∷ ys) x (suc i) l e = or_right (y == x) (is_in ys x) (in-at ys x i (omega (arith, l)) e)

above_no : (y x : ℕ) → x < y → (y == x) ≡ false
above_no y x l = grind (arith, l)

below_no : (y x : ℕ) → y < x → (y == x) ≡ false
below_no y x l = grind (arith, l)

not_less : (y x : ℕ) → x < y → nat_lt y x ≡ false
not_less y x l = grind (arith, l)

is_less : (y x : ℕ) → y < x → nat_lt y x ≡ true
is_less y x l = grind (arith, l)

out-of : (xs : List ℕ) (x i : ℕ) → ((k : ℕ) → k < i → get_or xs k 0 < x) → ((k : ℕ) → i ≤ k → k < length xs → x < get_or xs k 0) → is_in xs x ≡ false
out-of [] x i b a = refl
out-of (y ∷ ys) x zero b a = or_from (y == x) (is_in ys x) (above_no y x (a 0 (omega arith) (omega arith))) (out-of ys x 0 (λ k l. absurd (omega (arith, l))) (λ k l m. a (suc k) (omega arith) (omega (arith, m))))
out-of (y ∷ ys) x (suc i) b a = or_from (y == x) (is_in ys x) (below_no y x (b 0 (omega arith))) (out-of ys x i (λ k l. b (suc k) (omega (arith, l))) (λ k l m. a (suc k) (omega (arith, l)) (omega (arith, m))))

lead_no : (y x : ℕ) (ys : List ℕ) → nat_lt y x ≡ false → lead (y ∷ ys) x ≡ 0
lead_no y x ys e = ap (λ b. cond b (lead ys x + 1) 0) e

lead_yes : (y x : ℕ) (ys : List ℕ) → nat_lt y x ≡ true → lead (y ∷ ys) x ≡ lead ys x + 1
lead_yes y x ys e = ap (λ b. cond b (lead ys x + 1) 0) e

leads : (xs : List ℕ) (x i : ℕ) → i ≤ length xs → ((k : ℕ) → k < i → get_or xs k 0 < x) → ((k : ℕ) → i ≤ k → k < length xs → x < get_or xs k 0) → i ≡ lead xs x
leads [] x i l b a = omega (arith, l)
leads (y ∷ ys) x zero l b a = sym (lead_no y x ys (not_less y x (a 0 (omega arith) (omega arith))))
leads (y ∷ ys) x (suc i) l b a =
    let rest : i ≡ lead ys x = leads ys x i (omega (arith, l)) (λ k m. b (suc k) (omega (arith, m))) (λ k m o. a (suc k) (omega (arith, m)) (omega (arith, o))) in
    let step : lead (y ∷ ys) x ≡ lead ys x + 1 = lead_yes y x ys (is_less y x (b 0 (omega arith))) in
    omega (arith, rest, step)

pub found-in : (xs : List ℕ) (x : ℕ) (r : Result ℕ ℕ) → increases xs ≡ true → IsBinarySearchResult (λ y. nat_cmp y x) xs r → IfOk r (λ i. is_in xs x ≡ true)
found-in xs x (Ok i) up h = let at = searched xs x (Ok i) h (rises xs up) in in-at xs x i at.0 at.1
found-in xs x (Err i) up h = tt

pub absent-in : (xs : List ℕ) (x : ℕ) (r : Result ℕ ℕ) → increases xs ≡ true → IsBinarySearchResult (λ y. nat_cmp y x) xs r → IfErr r (λ i. is_in xs x ≡ false)
absent-in xs x (Ok i) up h = tt
absent-in xs x (Err i) up h = let at = searched xs x (Err i) h (rises xs up) in out-of xs x i at.1 at.2

pub lead-in : (xs : List ℕ) (x : ℕ) (r : Result ℕ ℕ) → increases xs ≡ true → IsBinarySearchResult (λ y. nat_cmp y x) xs r → IfErr r (λ i. i ≡ lead xs x)
lead-in xs x (Ok i) up h = tt
lead-in xs x (Err i) up h = let at = searched xs x (Err i) h (rises xs up) in leads xs x i at.0 at.1 at.2
