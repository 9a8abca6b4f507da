use Rattle.std.proofs.Common.{◌≡◌, ℕ, zero, suc, ◌+◌, ◌<◌, ◌-◌, Bool, true, false, ◌||◌, List, [], ◌∷◌, length, get_or, take, refl, sym, ap, ◌∙◌, arith, cond, codes}
use Rattle.std.proofs.lemmas.List.{length-map}
use Rattle.std.specs.List.{list_any}
use Rattle.std.specs.Str.{bytes_eq}
use Rattle.jtext.proofs.Equals.{turned_bytes}
use Rattle.nb_model.specs.declared.cell.Cell.{Cell}
use Rattle.nb_params.specs.Injected.{ids, numbered_id, free_from, fresh_id}

-- a test of the ids is a test of the cells
pub any_id : (q : List ℕ) (cells : List Cell) → list_any (bytes_eq q) (ids cells) ≡ list_any (λ c. bytes_eq q c.id) cells
any_id q [] = refl
any_id q (c ∷ cs) = ap (λ b. bytes_eq q c.id || b) (any_id q cs)

alone : (a : Bool) → (a || false) ≡ cond a true false
alone false = refl
alone true = refl

over : (a b x : Bool) → (a || cond b true x) ≡ cond b true (a || x)
over false b x = refl
over true false x = refl
over true true x = refl

-- the ids with one more cell
pub more_ids : (q : List ℕ) (cells : List Cell) (i : ℕ) (d : Cell) → i < length cells → list_any (bytes_eq q) (ids (take (i + 1) cells)) ≡ cond (bytes_eq (get_or cells i d).id q) true (list_any (bytes_eq q) (ids (take i cells)))
more_ids q [] i d h = absurd (omega (arith, h))
more_ids q (c ∷ cs) zero d h = alone (bytes_eq q c.id) ∙ ap (λ b. cond b true false) (turned_bytes q c.id)
more_ids q (c ∷ cs) (suc i) d h =
    let next : suc i + 1 ≡ suc (i + 1) = omega arith in
    rw next (ap (λ b. bytes_eq q c.id || b) (more_ids q cs i d (omega (arith, h))) ∙ over (bytes_eq q c.id) (bytes_eq (get_or cs i d).id q) (list_any (bytes_eq q) (ids (take i cs))))

-- the number is taken, and the search goes on
pub free_later : (k n : ℕ) (names : List (List ℕ)) → 0 < k → list_any (bytes_eq (numbered_id n)) names ≡ true → free_from k n names ≡ free_from (k - 1) (n + 1) names
free_later zero n names h t = absurd (omega (arith, h))
free_later (suc k) n names h t = rw t (ap (λ m. free_from m (n + 1) names) (omega arith))

-- the number is free
pub free_now : (k n : ℕ) (names : List (List ℕ)) → list_any (bytes_eq (numbered_id n)) names ≡ false → free_from k n names ≡ n
free_now zero n names f = refl
free_now (suc k) n names f = rw f refl

-- the plain id is taken
pub named_taken : (cells : List Cell) (free : List ℕ) → list_any (λ c. bytes_eq (codes "injected-parameters") c.id) cells ≡ true → free ≡ numbered_id (free_from (length cells) 1 (ids cells)) → free ≡ fresh_id (ids cells)
named_taken cells free t e =
    rw (any_id (codes "injected-parameters") cells ∙ t) (e ∙ ap (λ n. numbered_id (free_from n 1 (ids cells))) (sym (length-map cells (λ c. c.id))))

-- the plain id is free
pub named_free : (cells : List Cell) (free : List ℕ) → list_any (λ c. bytes_eq (codes "injected-parameters") c.id) cells ≡ false → free ≡ codes "injected-parameters" → free ≡ fresh_id (ids cells)
named_free cells free f e = rw (any_id (codes "injected-parameters") cells ∙ f) e
