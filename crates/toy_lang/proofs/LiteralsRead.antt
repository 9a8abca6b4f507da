-- What the grammar of literals has is read.
use Rattle.std.proofs.Common.{◌≡◌, ◌≢◌, ℕ, ◌+◌, ◌-◌, ◌*◌, ◌<◌, ◌≤◌, Bool, true, false, cond, ◌==◌, List, [], ◌∷◌, ◌++◌, length, Option, Some, None, option_map, refl, ap, ◌∙◌, append_assoc, inl, inr, arith}
use Rattle.std.specs.Prelude.{option_and_then, encode_utf8, nat_lt}
use Rattle.std.proofs.lemmas.Bool.{cond-true, cond-false}
use Rattle.std.proofs.lemmas.Bool.Decides.{nat_tests}
use Rattle.toy_lang.specs.declared.literal.Stage.{Stage}
use Rattle.toy_lang.specs.declared.literal.Stage.TheVariants.{Unopened, Open, Escape, Code, Closed}
use Rattle.toy_lang.specs.Literals.{escape_step, open_step, code_step, after_digit, longer, digit, is_scalar, bytes_of, text_from}
use Rattle.toy_lang.specs.Spellings.{short, code_from, IsCode, IsEscape, Letters, done, plain, escaped as in_escape, IsLiteral}

-- what is read on, where a character comes to this
abbrev pub onward : List ℕ → Option (Option ℕ × Stage) → Option (List ℕ)
onward cs r = option_and_then (λ s. option_map (λ text. bytes_of s.0 ++ text) (text_from s.1 cs)) r

-- the text with a character before it
abbrev pub with_char : ℕ → Option (List ℕ) → Option (List ℕ)
with_char c r = option_map (λ text. encode_utf8 c ++ text) r

same_text : (r : Option (List ℕ)) → option_map (λ text. [] ++ text) r ≡ r
same_text None = refl
same_text (Some t) = refl

-- ---- one character

plain_char : (c : ℕ) → c ≢ 34 → c ≢ 92 → open_step c ≡ (Some c, Open)
plain_char c a b =
    let quote : (c == 34) ≡ false = grind (arith, nat_tests) in
    let slash : (c == 92) ≡ false = grind (arith, nat_tests) in
    cond-false (c == 34) (None, Closed) (cond (c == 92) (None, Escape) (Some c, Open)) quote
    ∙ cond-false (c == 92) (None, Escape) (Some c, Open) slash

no_char : (c : ℕ) → ◌≡◌ {A = Option ℕ} None (Some c) → ⊥
no_char c e = cc

one_of_five : (a b d f g : Bool) (c : ℕ) (r : Option (Option ℕ × Stage))
    → cond a (Some 92) (cond b (Some 34) (cond d (Some 9) (cond f (Some 10) (cond g (Some 13) None)))) ≡ Some c
    → cond a (Some (Some 92, Open)) (cond b (Some (Some 34, Open))
    (cond d (Some (Some 9, Open)) (cond f (Some (Some 10, Open)) (cond g (Some (Some 13, Open)) r))))
    ≡ Some (Some c, Open)
one_of_five true b d f g c r e = ap (option_map (λ n. (Some n, Open))) e
one_of_five false true d f g c r e = ap (option_map (λ n. (Some n, Open))) e
one_of_five false false true f g c r e = ap (option_map (λ n. (Some n, Open))) e
one_of_five false false false true g c r e = ap (option_map (λ n. (Some n, Open))) e
one_of_five false false false false true c r e = ap (option_map (λ n. (Some n, Open))) e
one_of_five false false false false false c r e = absurd (no_char c e)

short_char : (l c : ℕ) → short l ≡ Some c → escape_step l ≡ Some (Some c, Open)
short_char l c e = one_of_five (l == 92) (l == 34) (l == 116) (l == 110) (l == 114) c _ e

-- ---- codes

grows : (k c : ℕ) (ds : List ℕ) → code_from k ds ≡ Some c → k ≤ c
grows k c [] e = let same : k ≡ c = cc in omega (arith, same)
grows k c (d ∷ ds) e = by_digit (λ v h. grows (16 * k + v) c ds h) (digit d) e
  where
    by_digit : ((v : ℕ) → code_from (16 * k + v) ds ≡ Some c → 16 * k + v ≤ c) → (r : Option ℕ)
        → option_and_then (λ v. code_from (16 * k + v) ds) r ≡ Some c → k ≤ c
    by_digit more None h = absurd (no_char c h)
    by_digit more (Some v) h = let le : 16 * k + v ≤ c = more v h in omega (arith, le)

scalar_range : (c : ℕ) → is_scalar c ≡ true → c ≤ 0x10FFFF
scalar_range c e = grind (arith, nat_tests)

longer_by : (k v : ℕ) → 16 * k + v ≤ 0x10FFFF → longer k v ≡ Some (16 * k + v)
longer_by k v le = cond-true _ (Some (16 * k + v)) None (grind (arith, nat_tests))

coded_by : (count k v d : ℕ) → digit d ≡ Some v → 16 * k + v ≤ 0x10FFFF
    → code_step count k d ≡ after_digit count (16 * k + v)
coded_by count k v d e le =
    ap (λ r. option_and_then (after_digit count) (option_and_then (longer k) r)) e
    ∙ ap (option_and_then (after_digit count)) (longer_by k v le)

code_read : (count k c : ℕ) (ds rest : List ℕ) → length ds ≡ count → 0 < count → code_from k ds ≡ Some c
    → is_scalar c ≡ true
    → text_from (Code count k) (ds ++ rest) ≡ with_char c (text_from Open rest)
code_read count k c [] rest len some e scalar = absurd (omega (arith, len))
code_read count k c (d ∷ ds) rest len some e scalar =
    by_digit (λ v h many. code_read (count - 1) (16 * k + v) c ds rest (omega (arith, len))
    (omega (arith, len, many)) h scalar) (digit d) refl e
  where
    by_rest : (v : ℕ) (es : List ℕ) → digit d ≡ Some v → length (d ∷ es) ≡ count → code_from (16 * k + v) es ≡ Some c
        → (0 < length es → text_from (Code (count - 1) (16 * k + v)) (es ++ rest) ≡ with_char c (text_from Open rest))
        → onward (es ++ rest) (code_step count k d) ≡ with_char c (text_from Open rest)
    by_rest v [] is len last more =
        let same : 16 * k + v ≡ c = cc in
        let le : 16 * k + v ≤ 0x10FFFF = omega (arith, same, scalar_range c scalar) in
        let one : nat_lt 1 count ≡ false = grind (arith, nat_tests, len) in
        ap (onward rest) (coded_by count k v d is le ∙ ap (after_digit count) same
        ∙ cond-false (nat_lt 1 count) _ (cond (is_scalar c) (Some (Some c, Open)) None) one
        ∙ cond-true (is_scalar c) (Some (Some c, Open)) None scalar)
    by_rest v (x ∷ xs) is len last more =
        let le : 16 * k + v ≤ 0x10FFFF = omega (arith, grows (16 * k + v) c (x ∷ xs) last, scalar_range c scalar) in
        let many : nat_lt 1 count ≡ true = grind (arith, nat_tests, len) in
        ap (onward ((x ∷ xs) ++ rest)) (coded_by count k v d is le
        ∙ cond-true (nat_lt 1 count) (Some (None, Code (count - 1) (16 * k + v))) _ many)
        ∙ same_text _ ∙ more (omega arith)

    by_digit : ((v : ℕ) → code_from (16 * k + v) ds ≡ Some c → 0 < length ds
        → text_from (Code (count - 1) (16 * k + v)) (ds ++ rest) ≡ with_char c (text_from Open rest))
        → (r : Option ℕ) → digit d ≡ r → option_and_then (λ v. code_from (16 * k + v) ds) r ≡ Some c
        → onward (ds ++ rest) (code_step count k d) ≡ with_char c (text_from Open rest)
    by_digit more None is h = absurd (no_char c h)
    by_digit more (Some v) is h = by_rest v ds is len h (more v h)

-- ---- escapes

code_escape : (letter count c : ℕ) (e rest : List ℕ) → 0 < count → escape_step letter ≡ Some (None, Code count 0)
    → IsCode letter count c e
    → text_from Escape (e ++ rest) ≡ with_char c (text_from Open rest)
code_escape letter count c e rest some begins is =
    ap (λ x. text_from Escape (x ++ rest)) is.text
    ∙ ap (onward (is.digits ++ rest)) begins ∙ same_text _
    ∙ code_read count 0 c is.digits rest is.number some is.code is.scalar

escape_read : (c : ℕ) (e rest : List ℕ) → IsEscape c e
    → text_from Escape (e ++ rest) ≡ with_char c (text_from Open rest)
escape_read c e rest (inl s) = ap (λ x. text_from Escape (x ++ rest)) s.2 ∙ ap (onward rest) (short_char s.0 c s.1)
escape_read c e rest (inr (inl s)) = code_escape 120 2 c e rest (omega arith) refl s
escape_read c e rest (inr (inr (inl s))) = code_escape 117 4 c e rest (omega arith) refl s
escape_read c e rest (inr (inr (inr s))) = code_escape 85 8 c e rest (omega arith) refl s

-- ---- the whole

letters_read : (text inner : List ℕ) → Letters text inner → text_from Open (inner ++ 34 ∷ []) ≡ Some text
letters_read text inner done = refl
letters_read text inner (plain c more cs a b ls) =
    ap (onward (cs ++ 34 ∷ [])) (ap Some (plain_char c a b)) ∙ ap (with_char c) (letters_read more cs ls)
letters_read text inner (in_escape c e more cs is ls) =
    same_text _ ∙ ap (text_from Escape) (append_assoc e cs (34 ∷ [])) ∙ escape_read c e (cs ++ 34 ∷ []) is
    ∙ ap (with_char c) (letters_read more cs ls)

-- a literal of the grammar is read as its text
pub literal_read : (text cs : List ℕ) → IsLiteral text cs → text_from Unopened cs ≡ Some text
literal_read text cs is =
    ap (text_from Unopened) is.2 ∙ same_text _ ∙ letters_read text is.0 is.1
