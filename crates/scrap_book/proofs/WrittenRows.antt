-- Rows of the form `scrap NAME = VALUE`, read and written.
use Rattle.std.proofs.Common.{◌≡◌, ◌==◌, ◌<◌, ℕ, zero, suc, ◌+◌, ◌&&◌, Bool, true, false, nat_eq, nat_lt, List, [], ◌∷◌, ◌++◌, Option, Some, None, length, take, drop, get_or, refl, sym, ◌∙◌, ap, subst, inl, inr, arith, codes, eqb-true, if◌then◌else◌}
use Rattle.std.specs.Prelude.{slice_index}
use Rattle.std.specs.List.{position_or_len, before_first, after_first, list_all, starts_with}
use Rattle.std.specs.Cmp.{second_so, first_so}
use Rattle.std.proofs.Math.ListN.{get_or-append}
use Rattle.std.proofs.Math.Seq.{get_or-append_seam, take-append_seam, drop-append_seam, drop-append-add}
use Rattle.std.proofs.lemmas.Bool.{cases_Bool, cond-true, true≢false}
use Rattle.std.proofs.lemmas.List.{length-drop, length-append}
use Rattle.std.proofs.lemmas.List.Sums.{position_or_len_is, split_at_first, passes_at_first}
use Rattle.std.proofs.lemmas.Slice.Eq.{bytes_eq-Decides}
use Rattle.jtext.specs.Names.{is_letter, is_name, is_name_byte}
use Rattle.jtext.specs.Readings.{strip_word}
use Rattle.jtext.proofs.Keys.{strip_sound}
use Rattle.scrap_book.specs.Scraps.{texts_named, texts_after, scrap_texts}
use Rattle.scrap_book.specs.Written.{IsScrapRow}

-- ---- read

-- a word is taken off the front of a text
strip_back : (word rest : List ℕ) → strip_word word (word ++ rest) ≡ Some rest
strip_back word rest =
    cond-true (starts_with nat_eq (word ++ rest) word) (Some (drop (length word) (word ++ rest))) None
    ((bytes_eq-Decides word (take (length word) (word ++ rest))).1 (sym (take-append_seam word rest)))
    ∙ ap Some (drop-append_seam word rest)

-- no octet of a name is a space
no_space : (c : ℕ) → is_name_byte c ≡ true → (c == 32) ≡ false
no_space c named =
    elim (cases_Bool (c == 32)) [
      | inl t ↦ absurd (true≢false (sym (sym (ap is_name_byte (eqb-true c 32 t)) ∙ named)))
      | inr f ↦ f
    ]

no_space_at : (name : List ℕ) → list_all is_name_byte name ≡ true → (k : ℕ) → k < length name → (get_or name k 0 == 32) ≡ false
no_space_at [] all k less = absurd (omega arith)
no_space_at (c ∷ cs) all zero less = no_space c (first_so (is_name_byte c) (list_all is_name_byte cs) all)
no_space_at (c ∷ cs) all (suc k) less =
    no_space_at cs (second_so (is_name_byte c) (list_all is_name_byte cs) all) k (omega arith)

-- the first space stands behind the name
space_place : (name rest : List ℕ) → list_all is_name_byte name ≡ true
    → position_or_len (λ c. c == 32) (name ++ 32 ∷ rest) ≡ length name
space_place name rest all =
    position_or_len_is (λ c. c == 32) (name ++ 32 ∷ rest) (length name) 0
    (omega (arith, length-append name (32 ∷ rest)))
    (λ k less. ap (λ c. c == 32) (get_or-append name (32 ∷ rest) 0 k less) ∙ no_space_at name all k less)
    (λ less. ap (λ c. c == 32) (get_or-append_seam name 32 rest 0))

name_before : (name rest : List ℕ) → list_all is_name_byte name ≡ true
    → before_first (λ c. c == 32) (name ++ 32 ∷ rest) ≡ name
name_before name rest all =
    ap (λ i. take i (name ++ 32 ∷ rest)) (space_place name rest all) ∙ take-append_seam name (32 ∷ rest)

rest_after : (name rest : List ℕ) → list_all is_name_byte name ≡ true
    → after_first (λ c. c == 32) (name ++ 32 ∷ rest) ≡ rest
rest_after name rest all =
    ap (λ i. drop (i + 1) (name ++ 32 ∷ rest)) (space_place name rest all) ∙ drop-append-add name (32 ∷ rest) 1

-- a row of the form gives its name and its value
pub row_read : (row name value : List ℕ) → IsScrapRow row name value → scrap_texts row ≡ Some (name, value)
row_read row name value written =
    let rest = codes "= " ++ value in
    let all = second_so (nat_lt 0 (length name) && is_letter (slice_index name 0)) (list_all is_name_byte name) written.named in
    ap (λ r. texts_after (strip_word (codes "scrap ") r)) written.is
    ∙ ap texts_after (strip_back (codes "scrap ") (name ++ 32 ∷ rest))
    ∙ ap (λ n. texts_named n (strip_word (codes "= ") (after_first (λ c. c == 32) (name ++ 32 ∷ rest)))) (name_before name rest all)
    ∙ ap (λ r. texts_named name (strip_word (codes "= ") r)) (rest_after name rest all)
    ∙ ap (texts_named name) (strip_back (codes "= ") value)
    ∙ cond-true (is_name name) (Some (name, value)) None written.named

-- ---- written

-- a text in which something follows the first space
around_space : (text : List ℕ) → 0 < length (after_first (λ c. c == 32) text)
    → text ≡ before_first (λ c. c == 32) text ++ 32 ∷ after_first (λ c. c == 32) text
around_space text more =
    let below : position_or_len (λ c. c == 32) text < length text =
    omega (arith, more, length-drop (position_or_len (λ c. c == 32) text + 1) text) in
    let end = eqb-true (get_or text (position_or_len (λ c. c == 32) text) 0) 32 (passes_at_first (λ c. c == 32) text 0 below) in
    split_at_first (λ c. c == 32) text 0 below
    ∙ ap (λ b. before_first (λ c. c == 32) text ++ (b ∷ after_first (λ c. c == 32) text)) end

same_pair : (a b c d : List ℕ) → ◌≡◌ {A = Option (List ℕ × List ℕ)} (Some (a, b)) (Some (c, d)) → (a ≡ c) × (b ≡ d)
same_pair a b c d e =
    let same : ◌≡◌ {A = List ℕ × List ℕ} (a, b) (c, d) = cc in (ap (λ p. p.0) same, ap (λ p. p.1) same)

never : (p : List ℕ × List ℕ) → ◌≡◌ {A = Option (List ℕ × List ℕ)} None (Some p) → ⊥
never p e = cc

-- the name and the value that are read, and the name is one
named_written : (n name value : List ℕ) (o : Option (List ℕ)) → texts_named n o ≡ Some (name, value)
    → (o ≡ Some value) × (n ≡ name) × (is_name name ≡ true)
named_written n name value None e = absurd (never (name, value) e)
named_written n name value (Some t) e = by (is_name n) refl e
  where
    by : (b : Bool) → is_name n ≡ b → if◌then◌else◌ {A = Option (List ℕ × List ℕ)} b (Some (n, t)) None ≡ Some (name, value)
        → (◌≡◌ {A = Option (List ℕ)} (Some t) (Some value)) × (n ≡ name) × (is_name name ≡ true)
    by true is e =
        let same = same_pair n t name value e in (ap Some same.1, same.0, sym (ap is_name same.0) ∙ is)
    by false is e = absurd (never (name, value) e)

rest_written : (rest name value : List ℕ) → texts_after (Some rest) ≡ Some (name, value)
    → (rest ≡ name ++ (codes " = " ++ value)) × (is_name name ≡ true)
rest_written rest name value e =
    let h = named_written (before_first (λ c. c == 32) rest) name value (strip_word (codes "= ") (after_first (λ c. c == 32) rest)) e in
    let after : after_first (λ c. c == 32) rest ≡ codes "= " ++ value =
    strip_sound (codes "= ") (after_first (λ c. c == 32) rest) value h.0 in
    let more : 0 < length (after_first (λ c. c == 32) rest) = subst (λ a. 0 < length a) (sym after) (omega arith) in (
      around_space rest more
          ∙ ap (λ a. before_first (λ c. c == 32) rest ++ 32 ∷ a) after
          ∙ ap (λ n. n ++ (codes " = " ++ value)) h.1,
      h.2,
    )

-- what gives a name and a value is a row of the form
pub row_written : (row name value : List ℕ) → scrap_texts row ≡ Some (name, value) → IsScrapRow row name value
row_written row name value e = by (strip_word (codes "scrap ") row) refl e
  where
    by : (o : Option (List ℕ)) → strip_word (codes "scrap ") row ≡ o → texts_after o ≡ Some (name, value) → IsScrapRow row name value
    by None is e = absurd (never (name, value) e)
    by (Some rest) is e =
        let h = rest_written rest name value e in
        record {
          is = strip_sound (codes "scrap ") row rest is ∙ ap (λ r. codes "scrap " ++ r) h.0;
          named = h.1;
        }
