-- What is read as a literal is one of the grammar.
use Rattle.std.proofs.Common.{◌≡◌, ◌≢◌, ℕ, ◌+◌, ◌-◌, ◌*◌, ◌<◌, ◌⊎◌, Bool, true, false, cond, ◌==◌, List, [], ◌∷◌, ◌++◌, length, Option, Some, None, option_map, refl, sym, ap, subst, ◌∙◌, append_assoc, inl, inr, arith}
use Rattle.std.specs.Prelude.{option_and_then, encode_utf8, nat_lt, nat_le}
use Rattle.std.proofs.lemmas.Bool.Decides.{nat_tests}
use Rattle.toy_lang.specs.declared.literal.Stage.{Stage}
use Rattle.toy_lang.specs.declared.literal.Stage.TheVariants.{Unopened, Open, Escape, Code, Closed}
use Rattle.toy_lang.specs.Literals.{advance, opening, escape_step, open_step, code_step, after_digit, longer, digit, is_scalar, bytes_of, text_from}
use Rattle.toy_lang.specs.Spellings.{code_from, IsCode, IsEscape, Letters, done, plain, escaped as in_escape, IsLiteral}
use Rattle.toy_lang.proofs.LiteralsRead.{onward}

-- what a character comes to, if it may stand there
abbrev Step : Type 0
Step = Option ℕ × Stage

same_step : (p q : Step) → ◌≡◌ {A = Option Step} (Some p) (Some q) → p ≡ q
same_step p q e = cc

no_step : (p : Step) → ◌≡◌ {A = Option Step} None (Some p) → ⊥
no_step p e = cc

no_text : (t : List ℕ) → ◌≡◌ {A = Option (List ℕ)} None (Some t) → ⊥
no_text t e = cc

same_texts : (s t : List ℕ) → ◌≡◌ {A = Option (List ℕ)} (Some s) (Some t) → t ≡ s
same_texts s t e = cc

-- ---- what is left of a literal at a stage

-- the rest of an escape, and then letters and the closing quote
record Behind (P : ℕ → List ℕ → Type 0) (t cs : List ℕ) : Type 0 where
  char : ℕ
  escape : List ℕ
  more : List ℕ
  inner : List ℕ
  is : P char escape
  letters : Letters more inner
  text : t ≡ encode_utf8 char ++ more
  chars : cs ≡ escape ++ (inner ++ 34 ∷ [])

-- the digits that are left of a code
record IsRest (count code c : ℕ) (ds : List ℕ) : Type 0 where
  number : length ds ≡ count
  value : code_from code ds ≡ Some c
  scalar : is_scalar c ≡ true

-- letters and the closing quote
abbrev Opened : List ℕ → List ℕ → Type 0
Opened t cs = (inner : List ℕ) × Letters t inner × (cs ≡ inner ++ 34 ∷ [])

-- the characters spell the rest of a literal, with this text
abbrev Spells : Stage → List ℕ → List ℕ → Type 0
Spells Unopened t cs = IsLiteral t cs
Spells Open t cs = Opened t cs
Spells Escape t cs = Behind IsEscape t cs
Spells (Code count code) t cs = 0 < count → Behind (IsRest count code) t cs
Spells Closed t cs = (t ≡ []) × (cs ≡ [])

-- they do so after a step
abbrev Next : List ℕ → List ℕ → Step → Type 0
Next t cs p = (u : List ℕ) × (t ≡ bytes_of p.0 ++ u) × Spells p.1 u cs

moved : (t cs : List ℕ) (p q : Step) → ◌≡◌ {A = Option Step} (Some q) (Some p) → Next t cs p → Next t cs q
moved t cs p q e n = subst (Next t cs) (sym (same_step q p e)) n

-- ---- before the opening quote, and between characters

turn_unopened : (x : ℕ) (xs t : List ℕ) (p : Step) → opening x ≡ Some p → Next t xs p → IsLiteral t (x ∷ xs)
turn_unopened x xs t p e n = by_quote (x == 34) refl e
  where
    by_quote : (b : Bool) → (x == 34) ≡ b → cond b (Some (None, Open)) None ≡ Some p → IsLiteral t (x ∷ xs)
    by_quote false is h = absurd (no_step p h)
    by_quote true is h =
        let m = moved t xs p (None, Open) h n in
        let quote : x ≡ 34 = grind (arith, nat_tests) in
        (m.2.0, subst (λ z. Letters z m.2.0) (sym m.1) m.2.1, ap (λ c. c ∷ xs) quote ∙ ap (λ l. 34 ∷ l) m.2.2)

turn_open : (x : ℕ) (xs t : List ℕ) (p : Step) → ◌≡◌ {A = Option Step} (Some (open_step x)) (Some p) → Next t xs p
    → Opened t (x ∷ xs)
turn_open x xs t p e n = by_quote (x == 34) refl e
  where
    by_slash : (b : Bool) → (x == 34) ≡ false → (x == 92) ≡ b
        → ◌≡◌ {A = Option Step} (Some (cond b (None, Escape) (Some x, Open))) (Some p) → Opened t (x ∷ xs)
    by_slash true other is h =
        let m = moved t xs p (None, Escape) h n in
        let r = m.2 in
        let slash : x ≡ 92 = grind (arith, nat_tests) in (
          92 ∷ (r.escape ++ r.inner),
          subst (λ z. Letters z (92 ∷ (r.escape ++ r.inner))) (sym (m.1 ∙ r.text))
              (in_escape r.char r.escape r.more r.inner r.is r.letters),
          ap (λ c. c ∷ xs) slash ∙ ap (λ l. 92 ∷ l) (r.chars ∙ sym (append_assoc r.escape r.inner (34 ∷ []))),
        )
    by_slash false other is h =
        let m = moved t xs p (Some x, Open) h n in
        let quote : x ≢ 34 = grind (arith, nat_tests) in
        let slash : x ≢ 92 = grind (arith, nat_tests) in (
          x ∷ m.2.0,
          subst (λ z. Letters z (x ∷ m.2.0)) (sym m.1) (plain x m.0 m.2.0 quote slash m.2.1),
          ap
              (λ l. x ∷ l) m.2.2,
        )

    by_quote : (b : Bool) → (x == 34) ≡ b → ◌≡◌ {A = Option Step}
        (Some (cond b (None, Closed) (cond (x == 92) (None, Escape) (Some x, Open)))) (Some p) → Opened t (x ∷ xs)
    by_quote true is h =
        let m = moved t xs p (None, Closed) h n in
        let quote : x ≡ 34 = grind (arith, nat_tests) in
        ([], subst (λ z. Letters z []) (sym (m.1 ∙ m.2.0)) done, ap (λ c. c ∷ xs) quote ∙ ap (λ l. 34 ∷ l) m.2.1)
    by_quote false is h = by_slash (x == 92) is refl h

-- ---- after a backslash

five_back : (a b d f g : Bool) (r : Option Step) (p : Step)
    → cond a (Some (Some 92, Open)) (cond b (Some (Some 34, Open))
    (cond d (Some (Some 9, Open)) (cond f (Some (Some 10, Open)) (cond g (Some (Some 13, Open)) r)))) ≡ Some p
    → ((c : ℕ) × (cond a (Some 92) (cond b (Some 34) (cond d (Some 9) (cond f (Some 10) (cond g (Some 13) None))))
    ≡ Some c) × ◌≡◌ {A = Option Step} (Some (Some c, Open)) (Some p))
    ⊎ (r ≡ Some p)
five_back true b d f g r p e = inl (92, refl, e)
five_back false true d f g r p e = inl (34, refl, e)
five_back false false true f g r p e = inl (9, refl, e)
five_back false false false true g r p e = inl (10, refl, e)
five_back false false false false true r p e = inl (13, refl, e)
five_back false false false false false r p e = inr e

three_back : (a b d : Bool) (p : Step)
    → cond a (Some (None, Code 2 0)) (cond b (Some (None, Code 4 0)) (cond d (Some (None, Code 8 0)) None)) ≡ Some p
    → ((a ≡ true) × ◌≡◌ {A = Option Step} (Some (None, Code 2 0)) (Some p))
    ⊎ ((b ≡ true) × ◌≡◌ {A = Option Step} (Some (None, Code 4 0)) (Some p))
    ⊎ ((d ≡ true) × ◌≡◌ {A = Option Step} (Some (None, Code 8 0)) (Some p))
three_back true b d p e = inl (refl, e)
three_back false true d p e = inr (inl (refl, e))
three_back false false true p e = inr (inr (refl, e))
three_back false false false p e = absurd (no_step p e)

coded_behind : (letter count x : ℕ) (xs t : List ℕ) (p : Step)
    → ((c : ℕ) (e : List ℕ) → IsCode letter count c e → IsEscape c e)
    → 0 < count → x ≡ letter → ◌≡◌ {A = Option Step} (Some (None, Code count 0)) (Some p) → Next t xs p
    → Behind IsEscape t (x ∷ xs)
coded_behind letter count x xs t p into some same e n =
    let m = moved t xs p (None, Code count 0) e n in
    let r = m.2 some in
    record {
      char = r.char;
      escape = letter ∷ r.escape;
      more = r.more;
      inner = r.inner;
      is = into r.char (letter ∷ r.escape) (record
          { digits = r.escape; number = r.is.number; code = r.is.value; scalar = r.is.scalar; text = refl });
      letters = r.letters;
      text = m.1 ∙ r.text;
      chars = ap (λ c. c ∷ xs) same ∙ ap (λ l. letter ∷ l) r.chars;
    }

turn_escape : (x : ℕ) (xs t : List ℕ) (p : Step) → escape_step x ≡ Some p → Next t xs p → Behind IsEscape t (x ∷ xs)
turn_escape x xs t p e n =
    elim (five_back (x == 92) (x == 34) (x == 116) (x == 110) (x == 114) _ p e) [
      | inl s ↦
          let m = moved t xs p (Some s.0, Open) s.2 n in
          record {
            char = s.0;
            escape = x ∷ [];
            more = m.0;
            inner = m.2.0;
            is = inl (x, s.1, refl);
            letters = m.2.1;
            text = m.1;
            chars = ap (λ l. x ∷ l) m.2.2;
          }
      | inr h ↦ elim (three_back (x == 120) (x == 117) (x == 85) p h) [
        | inl s ↦ coded_behind 120 2 x xs t p (λ c e is. inr (inl is)) (omega arith)
            (let b = s.0 in grind (arith, nat_tests)) s.1 n
        | inr q ↦ elim q [
          | inl s ↦ coded_behind 117 4 x xs t p (λ c e is. inr (inr (inl is))) (omega arith)
              (let b = s.0 in grind (arith, nat_tests)) s.1 n
          | inr s ↦ coded_behind 85 8 x xs t p (λ c e is. inr (inr (inr is))) (omega arith)
              (let b = s.0 in grind (arith, nat_tests)) s.1 n
        ]
      ]
    ]

-- ---- within a code

turn_code : (count code x : ℕ) (xs t : List ℕ) (p : Step) → code_step count code x ≡ Some p → Next t xs p → 0 < count
    → Behind (IsRest count code) t (x ∷ xs)
turn_code count code x xs t p e n some = by_digit (digit x) refl e
  where
    read : (v c : ℕ) (ds : List ℕ) → digit x ≡ Some v → code_from (16 * code + v) ds ≡ Some c
        → code_from code (x ∷ ds) ≡ Some c
    read v c ds is h = ap (option_and_then (λ w. code_from (16 * code + w) ds)) is ∙ h

    by_scalar : (v : ℕ) (b : Bool) → digit x ≡ Some v → nat_lt 1 count ≡ false → is_scalar (16 * code + v) ≡ b
        → cond b (Some (Some (16 * code + v), Open)) None ≡ Some p → Behind (IsRest count code) t (x ∷ xs)
    by_scalar v false is one scalar h = absurd (no_step p h)
    by_scalar v true is one scalar h =
        let m = moved t xs p (Some (16 * code + v), Open) h n in
        let last : 1 ≡ count = grind (arith, nat_tests, some) in
        record {
          char = 16 * code + v;
          escape = x ∷ [];
          more = m.0;
          inner = m.2.0;
          is = record { number = last; value = read v (16 * code + v) [] is refl; scalar = scalar };
          letters = m.2.1;
          text = m.1;
          chars = ap (λ l. x ∷ l) m.2.2;
        }

    by_count : (v : ℕ) (b : Bool) → digit x ≡ Some v → nat_lt 1 count ≡ b
        → cond b (Some (None, Code (count - 1) (16 * code + v)))
        (cond (is_scalar (16 * code + v)) (Some (Some (16 * code + v), Open)) None) ≡ Some p
        → Behind (IsRest count code) t (x ∷ xs)
    by_count v false is one h = by_scalar v (is_scalar (16 * code + v)) is one refl h
    by_count v true is many h =
        let m = moved t xs p (None, Code (count - 1) (16 * code + v)) h n in
        let below : 1 < count = grind (arith, nat_tests) in
        let r = m.2 (omega (arith, below)) in
        let number = r.is.number in
        record {
          char = r.char;
          escape = x ∷ r.escape;
          more = r.more;
          inner = r.inner;
          is = record {
            number = omega (arith, number, below);
            value = read v r.char r.escape is r.is.value;
            scalar = r.is.scalar;
          };
          letters = r.letters;
          text = m.1 ∙ r.text;
          chars = ap (λ l. x ∷ l) r.chars;
        }

    by_range : (v : ℕ) (b : Bool) → digit x ≡ Some v
        → option_and_then (after_digit count) (cond b (Some (16 * code + v)) None) ≡ Some p
        → Behind (IsRest count code) t (x ∷ xs)
    by_range v false is h = absurd (no_step p h)
    by_range v true is h = by_count v (nat_lt 1 count) is refl h

    by_digit : (r : Option ℕ) → digit x ≡ r → option_and_then (after_digit count) (option_and_then (longer code) r)
        ≡ Some p → Behind (IsRest count code) t (x ∷ xs)
    by_digit None is h = absurd (no_step p h)
    by_digit (Some v) is h = by_range v (nat_le (16 * code + v) 0x10FFFF) is h

-- ---- all characters

turn : (stage : Stage) (x : ℕ) (xs t : List ℕ) (p : Step) → advance stage x ≡ Some p → Next t xs p
    → Spells stage t (x ∷ xs)
turn Unopened x xs t p e n = turn_unopened x xs t p e n
turn Open x xs t p e n = turn_open x xs t p e n
turn Escape x xs t p e n = turn_escape x xs t p e n
turn (Code count code) x xs t p e n = turn_code count code x xs t p e n
turn Closed x xs t p e n = absurd (no_step p e)

spelled : (cs : List ℕ) (stage : Stage) (t : List ℕ) → text_from stage cs ≡ Some t → Spells stage t cs
spelled [] Unopened t e = absurd (no_text t e)
spelled [] Open t e = absurd (no_text t e)
spelled [] Escape t e = absurd (no_text t e)
spelled [] (Code count code) t e = absurd (no_text t e)
spelled [] Closed t e = (same_texts [] t e, refl)
spelled (x ∷ xs) stage t e = by_step (λ p u h. spelled xs p.1 u h) (advance stage x) refl e
  where
    by_text : ((p : Step) (u : List ℕ) → text_from p.1 xs ≡ Some u → Spells p.1 u xs)
        → (p : Step) (r : Option (List ℕ))
        → advance stage x ≡ Some p → text_from p.1 xs ≡ r → option_map (λ text. bytes_of p.0 ++ text) r ≡ Some t
        → Spells stage t (x ∷ xs)
    by_text more p None is h k = absurd (no_text t k)
    by_text more p (Some u) is h k = turn stage x xs t p is (u, same_texts (bytes_of p.0 ++ u) t k, more p u h)

    by_step : ((p : Step) (u : List ℕ) → text_from p.1 xs ≡ Some u → Spells p.1 u xs) → (r : Option Step)
        → advance stage x ≡ r → onward xs r ≡ Some t → Spells stage t (x ∷ xs)
    by_step more None is h = absurd (no_text t h)
    by_step more (Some p) is h = by_text more p (text_from p.1 xs) is refl h

-- what is read as a literal is one of the grammar
pub literal_spelled : (text cs : List ℕ) → text_from Unopened cs ≡ Some text → IsLiteral text cs
literal_spelled text cs e = spelled cs Unopened text e
