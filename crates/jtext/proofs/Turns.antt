-- The turns of the reading on lists.
use Rattle.std.proofs.Common.{◌≡◌, ℕ, zero, suc, ◌-◌, ◌<◌, ◌≤◌, ◌≢◌, Bool, true, false, cond, ◌||◌, List, [], ◌∷◌, ◌++◌, length, Option, Some, None, Ok, Err, refl, sym, ap, ap₂, ◌∙◌, subst, ne_eqb, arith}
use Rattle.std.specs.Prelude.{codes}
use Rattle.std.specs.Str.{bytes_eq}
use Rattle.jtext.specs.declared.json.Json.{Json}
use Rattle.jtext.specs.declared.json.Json.TheVariants as json
use Rattle.jtext.specs.declared.fault.Fault.{Fault}
use Rattle.jtext.specs.declared.fault.Fault.TheVariants.{Bad, Deep, Repeated}
use Rattle.jtext.specs.Readings.{Reading, ◌>>=◌, strip_word}
use Rattle.jtext.specs.Strings.{string_at}
use Rattle.jtext.specs.Reading.{skip_spaces, word_at, items_at, after_item, begun_at, list_at, item_at, field_at, key_at, after_key, colon_at, has_key, as_array, as_object, as_string, value_with, value_at, number_to, number_stop, after_number, ascii_front, Items, Pairs}
use Rattle.jtext.specs.Gives.{Fails}
use Rattle.jtext.proofs.Binds.{fails_on}

-- ---- one value

-- what reads the items of an array
abbrev pub arrays_at : ℕ → List ℕ → Items
arrays_at zero cs = Err (Deep (suc (length cs)))
arrays_at (suc n) cs = list_at (codes "]") (item_at (value_at n)) cs

-- and the pairs of an object
abbrev pub objects_at : ℕ → List ℕ → Pairs
objects_at zero cs = Err (Deep (suc (length cs)))
objects_at (suc n) cs = list_at (codes "}") (field_at (value_at n)) cs

pub value_is : (n : ℕ) (s : List ℕ) → value_at n s ≡ value_with (arrays_at n) (objects_at n) s
unfolding value_at
value_is zero s = refl
value_is (suc n) s = refl

module _ (n : ℕ) (s t : List ℕ) where
  pub value_null : s ≡ 110 ∷ t → value_at n s ≡ word_at (codes "null") json.Null s (strip_word (codes "null") s)
  value_null e = value_is n s ∙ subst (λ x. value_with (arrays_at n) (objects_at n) x ≡ word_at (codes "null") json.Null x (strip_word (codes "null") x)) (sym e) refl

  pub value_true : s ≡ 116 ∷ t → value_at n s ≡ word_at (codes "true") (json.Bool true) s (strip_word (codes "true") s)
  value_true e = value_is n s ∙ subst (λ x. value_with (arrays_at n) (objects_at n) x ≡ word_at (codes "true") (json.Bool true) x (strip_word (codes "true") x)) (sym e) refl

  pub value_false : s ≡ 102 ∷ t → value_at n s ≡ word_at (codes "false") (json.Bool false) s (strip_word (codes "false") s)
  value_false e = value_is n s ∙ subst (λ x. value_with (arrays_at n) (objects_at n) x ≡ word_at (codes "false") (json.Bool false) x (strip_word (codes "false") x)) (sym e) refl

  pub value_string : s ≡ 34 ∷ t → value_at n s ≡ as_string (string_at s)
  value_string e = value_is n s ∙ subst (λ x. value_with (arrays_at n) (objects_at n) x ≡ as_string (string_at x)) (sym e) refl

  pub value_list : s ≡ 91 ∷ t → value_at n s ≡ as_array (arrays_at n t)
  value_list e = value_is n s ∙ ap (value_with (arrays_at n) (objects_at n)) e

  pub value_pairs : s ≡ 123 ∷ t → value_at n s ≡ as_object (objects_at n t)
  value_pairs e = value_is n s ∙ ap (value_with (arrays_at n) (objects_at n)) e

  pub list_deep : s ≡ 91 ∷ t → n ≡ 0 → value_at n s ≡ Err (Deep (length s))
  list_deep e z = value_list e ∙ ap (λ m. as_array (arrays_at m t)) z ∙ ap (λ x. Err (Deep (length x))) (sym e)

  pub pairs_deep : s ≡ 123 ∷ t → n ≡ 0 → value_at n s ≡ Err (Deep (length s))
  pairs_deep e z = value_pairs e ∙ ap (λ m. as_object (objects_at m t)) z ∙ ap (λ x. Err (Deep (length x))) (sym e)

  pub value_array : (m : ℕ) → s ≡ 91 ∷ t → n ≡ suc m → value_at n s ≡ as_array (list_at (codes "]") (item_at (value_at m)) t)
  value_array m e z = value_list e ∙ ap (λ k. as_array (arrays_at k t)) z

  pub value_object : (m : ℕ) → s ≡ 123 ∷ t → n ≡ suc m → value_at n s ≡ as_object (list_at (codes "}") (field_at (value_at m)) t)
  value_object m e z = value_pairs e ∙ ap (λ k. as_object (objects_at k t)) z

  pub value_other : (c : ℕ) → s ≡ c ∷ t → c ≢ 110 → c ≢ 116 → c ≢ 102 → c ≢ 34 → c ≢ 91 → c ≢ 123 → value_at n s ≡ number_to s (after_number s)
  value_other c e a b d f g h =
      value_is n s ∙ subst (λ x. value_with (arrays_at n) (objects_at n) x ≡ number_to x (after_number x)) (sym e)
      (rw (ne_eqb c 110 a, ne_eqb c 116 b, ne_eqb c 102 d, ne_eqb c 34 f, ne_eqb c 91 g, ne_eqb c 123 h) refl)

no_number : (c : ℕ) (cs : List ℕ) → 128 ≤ c → after_number (c ∷ cs) ≡ None
no_number c cs h = grind arith

no_stop : (c : ℕ) (cs : List ℕ) → 128 ≤ c → number_stop (c ∷ cs) ≡ length (c ∷ cs)
no_stop c cs h = grind arith

none_ascii : (c : ℕ) (cs : List ℕ) → ascii_front (c ∷ cs) ≡ None → 128 ≤ c
none_ascii c cs e = grind arith

pub value_none : (n : ℕ) (s : List ℕ) → ascii_front s ≡ None → value_at n s ≡ Err (Bad (length s))
value_none n [] e = value_is n []
value_none n (c ∷ cs) e =
    let h = none_ascii c cs e in
    value_other n (c ∷ cs) cs c refl (omega arith) (omega arith) (omega arith) (omega arith) (omega arith) (omega arith) ∙ ap (number_to (c ∷ cs)) (no_number c cs h) ∙ ap (λ k. Err (Bad k)) (no_stop c cs h)

-- ---- lists

module _ {A : Type 0} (close : List ℕ) (item : List A → List ℕ → Reading A) where
  -- s has been read up to rest, with these items
  abbrev pub SoFar : List A → List ℕ → List ℕ → Type 0
  SoFar found s rest = (n : ℕ) × (length rest < n) × (list_at close item s ≡ items_at close item n found rest)

  pub list_is : (s t : List ℕ) (o : Option (List ℕ)) → t ≡ skip_spaces s → strip_word close t ≡ o → list_at close item s ≡ begun_at close item t o
  list_is s t o e k = ap (λ y. begun_at close item y (strip_word close y)) (sym e) ∙ ap (begun_at close item t) k

  pub so_far_begins : (found : List A) (s t : List ℕ) → found ≡ [] → t ≡ skip_spaces s → strip_word close t ≡ None → SoFar found s t
  so_far_begins found s t none e closed = (suc (length t), omega arith, list_is s t None e closed ∙ ap (λ xs. items_at close item (suc (length t)) xs t) (sym none))

  pub list_empty : (found : List A) (s t rest : List ℕ) → found ≡ [] → t ≡ skip_spaces s → strip_word close t ≡ Some rest → list_at close item s ≡ Ok (found, rest)
  list_empty found s t rest none e closed = list_is s t (Some rest) e closed ∙ ap (λ xs. Ok (xs, rest)) (sym none)

  -- a turn, after its item was read
  pub turn : (n : ℕ) (found all : List A) (s after next : List ℕ) (x : A) (o q : Option (List ℕ)) → item found s ≡ Ok (x, after) → next ≡ skip_spaces after → all ≡ found ++ x ∷ []
      → strip_word close next ≡ o → strip_word (codes ",") next ≡ q → items_at close item (suc n) found s ≡ after_item (items_at close item n all) all next o q
  unfolding items_at
  turn n found all s after next x o q read e pushed k j =
      ap (λ r. r >>= (λ p. let next' = skip_spaces p.1 in let all' = found ++ p.0 ∷ [] in after_item (items_at close item n all') all' next' (strip_word close next') (strip_word (codes ",") next'))) read
      ∙ ap₂ (λ y z. after_item (items_at close item n z) z y (strip_word close y) (strip_word (codes ",") y)) (sym e) (sym pushed)
      ∙ ap₂ (after_item (items_at close item n all) all next) k j

  module _ (found all : List A) (x : A) (s rest after next : List ℕ) (far : SoFar found s rest) (read : item found rest ≡ Ok (x, after)) (e : next ≡ skip_spaces after) (pushed : all ≡ found ++ x ∷ []) where
    turned : (o q : Option (List ℕ)) → strip_word close next ≡ o → strip_word (codes ",") next ≡ q → list_at close item s ≡ after_item (items_at close item (far.0 - 1) all) all next o q
    turned o q k j =
        let more : far.0 ≡ suc (far.0 - 1) = omega (arith, far.1) in
        far.2 ∙ ap (λ m. items_at close item m found rest) more ∙ turn (far.0 - 1) found all rest after next x o q read e pushed k j

    pub list_ends : (t : List ℕ) → strip_word close next ≡ Some t → list_at close item s ≡ Ok (all, t)
    list_ends t k = turned (Some t) _ k refl

    pub list_bad : strip_word close next ≡ None → strip_word (codes ",") next ≡ None → list_at close item s ≡ Err (Bad (length next))
    list_bad k j = turned None None k j

    pub so_far_more : (t u : List ℕ) → strip_word close next ≡ None → strip_word (codes ",") next ≡ Some t → u ≡ skip_spaces t → length u < length rest → SoFar all s u
    so_far_more t u k j w less = (far.0 - 1, omega (arith, far.1, less), turned None (Some t) k j ∙ ap (items_at close item (far.0 - 1) all) (sym w))

  failed : (n : ℕ) (found : List A) (rest : List ℕ) (f : Fault) → item found rest ≡ Err f → items_at close item (suc n) found rest ≡ Err f
  unfolding items_at
  failed n found rest f e =
      ap (λ r. r >>= (λ p. let next = skip_spaces p.1 in let all = found ++ p.0 ∷ [] in after_item (items_at close item n all) all next (strip_word close next) (strip_word (codes ",") next))) e

  pub list_errs : (found : List A) (s rest : List ℕ) (f : Fault) → SoFar found s rest → item found rest ≡ Err f → list_at close item s ≡ Err f
  list_errs found s rest f far e =
      let more : far.0 ≡ suc (far.0 - 1) = omega (arith, far.1) in
      far.2 ∙ ap (λ m. items_at close item m found rest) more ∙ failed (far.0 - 1) found rest f e

  pub list_fails : (found : List A) (s rest : List ℕ) (f : Fault) → SoFar found s rest → Fails f (item found rest) → Fails f (list_at close item s)
  list_fails found s rest f far =
      let more : far.0 ≡ suc (far.0 - 1) = omega (arith, far.1) in
      fails_on f (item found rest) (list_at close item s) (λ e. far.2 ∙ ap (λ m. items_at close item m found rest) more ∙ failed (far.0 - 1) found rest f e)

-- ---- pairs

module _ (value : List ℕ → Reading Json) (found : List (List ℕ × Json)) (s : List ℕ) where
  pub field_key_fails : (f : Fault) → Fails f (key_at (has_key found) s) → Fails f (field_at value found s)
  field_key_fails f = fails_on f (key_at (has_key found) s) (field_at value found s) (λ e. ap (λ r. r >>= (λ k. value k.1 >>= (λ v. Ok ((k.0, v.0), v.1)))) e)

  pub field_value_fails : (key after : List ℕ) (f : Fault) → key_at (has_key found) s ≡ Ok (key, after) → Fails f (value after) → Fails f (field_at value found s)
  field_value_fails key after f is = fails_on f (value after) (field_at value found s)
      (λ e. ap (λ r. r >>= (λ k. value k.1 >>= (λ v. Ok ((k.0, v.0), v.1)))) is ∙ ap (λ r. r >>= (λ v. Ok ((key, v.0), v.1))) e)

  pub field_read : (key after rest : List ℕ) (x : Json) → key_at (has_key found) s ≡ Ok (key, after) → value after ≡ Ok (x, rest) → field_at value found s ≡ Ok ((key, x), rest)
  field_read key after rest x is e = ap (λ r. r >>= (λ k. value k.1 >>= (λ v. Ok ((k.0, v.0), v.1)))) is ∙ ap (λ r. r >>= (λ v. Ok ((key, v.0), v.1))) e

pub key_taken : (taken : List ℕ → Bool) (s key after : List ℕ) → string_at s ≡ Ok (key, after) → taken key ≡ true → key_at taken s ≡ Err (Repeated (length s))
key_taken taken s key after e is = ap (λ r. r >>= (λ p. cond (taken p.0) (Err (Repeated (length s))) (after_key p.0 p.1))) e ∙ ap (λ b. cond b (Err (Repeated (length s))) (after_key key after)) is

pub key_free : (taken : List ℕ → Bool) (s key after next : List ℕ) (o : Option (List ℕ)) → string_at s ≡ Ok (key, after) → taken key ≡ false → next ≡ skip_spaces after → strip_word (codes ":") next ≡ o
    → key_at taken s ≡ colon_at key next o
key_free taken s key after next o e is n k =
    ap (λ r. r >>= (λ p. cond (taken p.0) (Err (Repeated (length s))) (after_key p.0 p.1))) e ∙ ap (λ b. cond b (Err (Repeated (length s))) (after_key key after)) is
    ∙ ap (λ x. colon_at key x (strip_word (codes ":") x)) (sym n) ∙ ap (colon_at key next) k

pub has_key-push : (ps : List (List ℕ × Json)) (p : List ℕ × Json) (q : List ℕ) → has_key (ps ++ p ∷ []) q ≡ cond (bytes_eq p.0 q) true (has_key ps q)
has_key-push [] p q = last (bytes_eq p.0 q)
  where
    last : (b : Bool) → (b || false) ≡ cond b true false
    last true = refl
    last false = refl
has_key-push (r ∷ rs) p q = ap (λ b. bytes_eq r.0 q || b) (has_key-push rs p q) ∙ swap (bytes_eq r.0 q) (bytes_eq p.0 q) (has_key rs q)
  where
    swap : (a b c : Bool) → (a || cond b true c) ≡ cond b true (a || c)
    swap true true c = refl
    swap true false c = refl
    swap false b c = refl
