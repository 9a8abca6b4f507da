-- The indented text of a tree, level by level.
use Rattle.std.proofs.Common.{◌≡◌, ◌⊎◌, inl, inr, ℕ, zero, suc, ◌+◌, ◌<◌, Bool, true, false, cond, List, [], ◌∷◌, ◌++◌, map, length, take, get_or, slice_get, Option, Some, refl, sym, ap, ◌∙◌, append_assoc, arith, rules, is_gt, Ordering}
use Rattle.std.proofs.lemmas.List.{append-nil, map-append, take_more, length-take-le, length-map}
use Rattle.std.proofs.lemmas.List.Concat.{flat_map-append}
use Rattle.std.specs.List.{flat_map}
use Rattle.std.specs.Prelude.{codes}
use Rattle.jtext.specs.declared.json.Json.{Json, the_lemmas}
use Rattle.jtext.specs.declared.json.Json.TheVariants as json
use Rattle.jtext.specs.Print.{quote, join, word}
use Rattle.jtext.specs.Sorting.{byte_order, insert_sorted, sort_by, by_key}
use Rattle.jtext.specs.Indent.{on_line, further, bracket, member, indent, indent_items, indent_fields}
use Rattle.jtext.proofs.Sorts.{sort_by-map}
use Rattle.std.proofs.lemmas.Option.{slice_get_within}
use Rattle.std.proofs.lemmas.Simd.{map-map}

length-insert_sorted : {X : Type 0} (cmp : X → X → Ordering) (x : X) (xs : List X) → length (insert_sorted cmp x xs) ≡ suc (length xs)
length-insert_sorted cmp x [] = refl
length-insert_sorted cmp x (y ∷ ys) = elim (is_gt (cmp x y)) as (λ b. length (cond b (y ∷ insert_sorted cmp x ys) (x ∷ y ∷ ys)) ≡ suc (suc (length ys))) [ true ↦ ap suc (length-insert_sorted cmp x ys) | false ↦ refl ]

pub length-sort_by : {X : Type 0} (cmp : X → X → Ordering) (xs : List X) → length (sort_by cmp xs) ≡ length xs
length-sort_by cmp [] = refl
length-sort_by cmp (x ∷ xs) = length-insert_sorted cmp x (sort_by cmp xs) ∙ ap suc (length-sort_by cmp xs)

pub indented-Null : (m : List ℕ) → indent json.Null m ≡ codes "null"
indented-Null m = search (rules, the_lemmas)

pub indented-Bool : (b : Bool) (m : List ℕ) → indent (json.Bool b) m ≡ word b
indented-Bool b m = search (rules, the_lemmas)

pub indented-Num : (s m : List ℕ) → indent (json.Num s) m ≡ s
indented-Num s m = search (rules, the_lemmas)

pub indented-Str : (s m : List ℕ) → indent (json.Str s) m ≡ quote s
indented-Str s m = search (rules, the_lemmas)

indented-Arr : (xs : List Json) (m : List ℕ) → indent (json.Arr xs) m ≡ bracket 91 93 m (map (λ f. f (further m)) (map indent xs))
indented-Arr xs m = search (rules, the_lemmas)

indented-Obj : (ps : List (List ℕ × Json)) (m : List ℕ) → indent (json.Obj ps) m ≡ bracket 123 125 m (map member (map (λ p. (p.0, p.1 (further m))) (by_key (map (λ p. (p.0, indent p.1)) ps))))
indented-Obj ps m = search (rules, the_lemmas)

pub indented-none : (m : List ℕ) → indent (json.Arr []) m ≡ 91 ∷ 93 ∷ []
indented-none m = indented-Arr [] m

pub indented-empty : (m : List ℕ) → indent (json.Obj []) m ≡ 123 ∷ 125 ∷ []
indented-empty m = indented-Obj [] m

bracketed-some : (a b : ℕ) (m : List ℕ) (bs : List (List ℕ)) → 0 < length bs → bracket a b m bs ≡ a ∷ (join (map (on_line (further m)) bs) ++ on_line m (b ∷ []))
bracketed-some a b m [] h = absurd (omega arith)
bracketed-some a b m (x ∷ xs) h = refl

pub array_text : (xs : List Json) (m : List ℕ) → 0 < length xs → indent (json.Arr xs) m ≡ 91 ∷ (indent_items (further m) xs ++ on_line m (93 ∷ []))
array_text xs m some =
    let texts : map (λ f. f (further m)) (map indent xs) ≡ map (λ x. indent x (further m)) xs = map-map (λ f. f (further m)) indent xs in
    let lines : map (on_line (further m)) (map (λ x. indent x (further m)) xs) ≡ map (λ x. on_line (further m) (indent x (further m))) xs = map-map (on_line (further m)) (λ x. indent x (further m)) xs in
    indented-Arr xs m ∙ ap (bracket 91 93 m) texts ∙ bracketed-some 91 93 m (map (λ x. indent x (further m)) xs) (omega (arith, length-map xs (λ x. indent x (further m))))
    ∙ ap (λ l. 91 ∷ (join l ++ on_line m (93 ∷ []))) lines

pub object_text : (ps : List (List ℕ × Json)) (m : List ℕ) → 0 < length ps → indent (json.Obj ps) m ≡ 123 ∷ (indent_fields (further m) (by_key ps) ++ on_line m (125 ∷ []))
object_text ps m some =
    let n = further m in
    let qs = by_key ps in
    let sorted : by_key (map (λ p. (p.0, indent p.1)) ps) ≡ map (λ p. (p.0, indent p.1)) qs = sort_by-map (λ p q. byte_order p.0 q.0) (λ p. (p.0, indent p.1)) ps in
    let texts : map member (map (λ p. (p.0, p.1 n)) (by_key (map (λ p. (p.0, indent p.1)) ps))) ≡ map (λ p. member (p.0, indent p.1 n)) qs =
    ap (λ l. map member (map (λ p. (p.0, p.1 n)) l)) sorted ∙ ap (map member) (map-map (λ p. (p.0, p.1 n)) (λ p. (p.0, indent p.1)) qs) ∙ map-map member (λ p. (p.0, indent p.1 n)) qs in
    let lines : map (on_line n) (map (λ p. member (p.0, indent p.1 n)) qs) ≡ map (λ p. on_line n (member (p.0, indent p.1 n))) qs = map-map (on_line n) (λ p. member (p.0, indent p.1 n)) qs in
    indented-Obj ps m ∙ ap (bracket 123 125 m) texts
    ∙ bracketed-some 123 125 m (map (λ p. member (p.0, indent p.1 n)) qs) (omega (arith, length-map qs (λ p. member (p.0, indent p.1 n)), length-sort_by (λ p q. byte_order p.0 q.0) ps))
    ∙ ap (λ l. 123 ∷ (join l ++ on_line m (125 ∷ []))) lines

-- ---- what a place picks

pub pick_within : {A B : Type 0} (f : A → Option B) (xs : List A) (ys : List B) (i : ℕ) (d : A) → map f xs ≡ map (λ y. Some y) ys → i < length xs → f (get_or xs i d) ≡ slice_get ys i
pick_within f [] ys i d e h = absurd (omega arith)
pick_within f (x ∷ xs) [] i d e h = cc
pick_within f (x ∷ xs) (y ∷ ys) zero d e h = cc
pick_within f (x ∷ xs) (y ∷ ys) (suc i) d e h = let t : map f xs ≡ map (λ y. Some y) ys = cc in pick_within f xs ys i d t (omega arith)

pub pick_lengths : {A B : Type 0} (f : A → Option B) (xs : List A) (ys : List B) → map f xs ≡ map (λ y. Some y) ys → length xs ≡ length ys
pick_lengths f xs ys e = sym (length-map xs f) ∙ ap length e ∙ length-map ys (λ y. Some y)

pub some_within : {B : Type 0} (ys : List B) (i : ℕ) → i < length ys → (y : B) × (slice_get ys i ≡ Some y) × (y ≡ get_or ys i y)
some_within [] i h = absurd (omega arith)
some_within (y ∷ ys) zero h = (y, refl, refl)
some_within (y ∷ ys) (suc i) h = let (z, e, is) = some_within ys i (omega arith) in (z, e, is)

-- ---- what a writer has appended

on_line-append : (m : List ℕ) (b : List ℕ) → on_line m [] ++ b ≡ on_line m b
on_line-append m b = ap (λ l. 10 ∷ l) (append_assoc m [] b)

pub array_done : (t : Json) (xs : List Json) (m m1 m2 out o1 o2 o3 : List ℕ) → t ≡ json.Arr xs → 0 < length xs → o1 ≡ out ++ 91 ∷ [] → m1 ≡ further m → o2 ≡ o1 ++ indent_items m1 xs → m2 ≡ m → o3 ≡ o2 ++ on_line m2 []
    → o3 ++ 93 ∷ [] ≡ out ++ indent t m
array_done t xs m m1 m2 out o1 o2 o3 is some a b d e f =
    let whole : o3 ≡ ((out ++ 91 ∷ []) ++ indent_items (further m) xs) ++ on_line m [] = rw (f, e, d, b, a) refl in
    ap (λ l. l ++ 93 ∷ []) whole
    ∙ append_assoc ((out ++ 91 ∷ []) ++ indent_items (further m) xs) (on_line m []) (93 ∷ [])
    ∙ ap (λ l. ((out ++ 91 ∷ []) ++ indent_items (further m) xs) ++ l) (on_line-append m (93 ∷ []))
    ∙ append_assoc (out ++ 91 ∷ []) (indent_items (further m) xs) (on_line m (93 ∷ []))
    ∙ append_assoc out (91 ∷ []) (indent_items (further m) xs ++ on_line m (93 ∷ []))
    ∙ ap (λ l. out ++ l) (sym (array_text xs m some) ∙ ap (λ u. indent u m) (sym is))

pub object_done : (t : Json) (ps : List (List ℕ × Json)) (m m1 m2 out o1 o2 o3 : List ℕ) → t ≡ json.Obj ps → 0 < length ps → o1 ≡ out ++ 123 ∷ [] → m1 ≡ further m → o2 ≡ o1 ++ indent_fields m1 (by_key ps) → m2 ≡ m
    → o3 ≡ o2 ++ on_line m2 [] → o3 ++ 125 ∷ [] ≡ out ++ indent t m
object_done t ps m m1 m2 out o1 o2 o3 is some a b d e f =
    let inner = indent_fields (further m) (by_key ps) in
    let whole : o3 ≡ ((out ++ 123 ∷ []) ++ indent_fields (further m) (by_key ps)) ++ on_line m [] = rw (f, e, d, b, a) refl in
    ap (λ l. l ++ 125 ∷ []) whole
    ∙ append_assoc ((out ++ 123 ∷ []) ++ inner) (on_line m []) (125 ∷ [])
    ∙ ap (λ l. ((out ++ 123 ∷ []) ++ inner) ++ l) (on_line-append m (125 ∷ []))
    ∙ append_assoc (out ++ 123 ∷ []) inner (on_line m (125 ∷ []))
    ∙ append_assoc out (123 ∷ []) (inner ++ on_line m (125 ∷ []))
    ∙ ap (λ l. out ++ l) (sym (object_text ps m some) ∙ ap (λ u. indent u m) (sym is))

-- one text more, with a comma before it unless it is the first
pub joined_first : {A : Type 0} (f : A → List ℕ) (xs : List A) (x : A) → length xs ≡ 0 → join (map f (xs ++ x ∷ [])) ≡ join (map f xs) ++ f x
joined_first f [] x e = append-nil (f x)
joined_first f (y ∷ ys) x e = absurd (omega (arith, e))

pub joined_later : {A : Type 0} (f : A → List ℕ) (xs : List A) (x : A) → 0 < length xs → join (map f (xs ++ x ∷ [])) ≡ (join (map f xs) ++ 44 ∷ []) ++ f x
joined_later f [] x e = absurd (omega (arith, e))
joined_later f (y ∷ ys) x e =
    ap (λ l. f y ++ flat_map (λ c. 44 ∷ c) l) (map-append f ys (x ∷ [])) ∙ ap (λ l. f y ++ l) (flat_map-append (λ c. 44 ∷ c) (map f ys) (f x ∷ []))
    ∙ ap (λ l. f y ++ (flat_map (λ c. 44 ∷ c) (map f ys) ++ 44 ∷ l)) (append-nil (f x)) ∙ simp append_assoc

-- a pair more, whose parts were appended one by one
pub field_done : (m out o0 o1 o2 o3 o4 : List ℕ) (ps : List (List ℕ × Json)) (i : ℕ) (p : List ℕ × Json) → slice_get ps i ≡ Some p
    → ((0 < i) × (o0 ≡ (out ++ indent_fields m (take i ps)) ++ 44 ∷ [])) ⊎ ((i ≡ 0) × (o0 ≡ out ++ indent_fields m (take i ps)))
    → o1 ≡ o0 ++ on_line m [] → o2 ≡ o1 ++ quote p.0 → o3 ≡ o2 ++ 58 ∷ 32 ∷ [] → o4 ≡ o3 ++ indent p.1 m → o4 ≡ out ++ indent_fields m (take (i + 1) ps)
field_done m out o0 o1 o2 o3 o4 ps i p at before a b d e =
    let lt = slice_get_within ps i p at in
    let len : length (take i ps) ≡ i = length-take-le i ps (omega (arith, lt)) in
    let (y, here, is) = some_within ps i lt in
    let same : y ≡ p = some_same y p (sym here ∙ at) in
    let front : take (i + 1) ps ≡ take i ps ++ p ∷ [] = take_more ps i y lt ∙ ap (λ q. take i ps ++ q ∷ []) (sym is ∙ same) in
    let F = λ (q : List ℕ × Json). on_line m (member (q.0, indent q.1 m)) in
    let whole : o4 ≡ o0 ++ F p = rw (e, d, b, a) (simp append_assoc) in
    elim before [
      | inl h ↦
          whole ∙ ap (λ l. l ++ F p) h.1 ∙ append_assoc (out ++ indent_fields m (take i ps)) (44 ∷ []) (F p) ∙ append_assoc out (indent_fields m (take i ps)) (44 ∷ F p)
          ∙ ap (λ l. out ++ l) (sym (append_assoc (join (map F (take i ps))) (44 ∷ []) (F p)) ∙ sym (joined_later F (take i ps) p (omega (arith, len, h.0))) ∙ ap (λ l. join (map F l)) (sym front))
      | inr h ↦
          whole ∙ ap (λ l. l ++ F p) h.1 ∙ append_assoc out (indent_fields m (take i ps)) (F p)
          ∙ ap (λ l. out ++ l) (sym (joined_first F (take i ps) p (omega (arith, len, h.0))) ∙ ap (λ l. join (map F l)) (sym front))
    ]
  where
    some_same : {A : Type 0} (x y : A) → ◌≡◌ {A = Option A} (Some x) (Some y) → x ≡ y
    some_same x y e = cc
