-- The turns of a string's loop.
use Rattle.std.proofs.Common.{◌≡◌, ℕ, zero, suc, ◌+◌, ◌<◌, ◌≢◌, true, false, List, [], ◌∷◌, ◌++◌, length, None, Ok, Err, inl, inr, refl, sym, ap, ap₂, ◌∙◌, subst, append_assoc, arith}
use Rattle.std.proofs.lemmas.Bool.{cases_Bool}
use Rattle.std.proofs.lemmas.Bool.Decides.{nat_tests}
use Rattle.std.proofs.lemmas.List.{append-nil}
use Rattle.std.specs.List.{prefix_len}
use Rattle.std.specs.Char.{encode_utf8}
use Rattle.jtext.specs.declared.fault.Fault.{Fault}
use Rattle.jtext.specs.declared.fault.Fault.TheVariants.{Bad}
use Rattle.jtext.specs.Readings.{◌>>=◌}
use Rattle.jtext.specs.Reading.{ascii_front}
use Rattle.jtext.specs.Gives.{Fails}
use Rattle.jtext.specs.Strings.{is_plain, split_plain, escape_at, body_at}
use Rattle.jtext.proofs.Binds.{fails_on}

-- the first byte isn't plain
abbrev pub Stands : List ℕ → Type 0
Stands [] = Unit {0}
Stands (c ∷ cs) = is_plain c ≡ false

-- what the loop has read, and where it goes on
abbrev pub HasRead : ℕ → List ℕ → List ℕ → List ℕ → Type 0
HasRead n s out rest = (m : ℕ) × (length rest < m) × (body_at n [] s ≡ body_at m out rest)

pub body_plain : (n : ℕ) (out : List ℕ) (c : ℕ) (cs : List ℕ) → is_plain c ≡ true → body_at (suc n) out (c ∷ cs) ≡ body_at n (out ++ c ∷ []) cs
unfolding body_at
body_plain n out c cs h = rw h

run : (s : List ℕ) (n : ℕ) (out : List ℕ) → length s < n → let parts = split_plain s in (m : ℕ) × (length parts.1 < m) × (body_at n out s ≡ body_at m (out ++ parts.0) parts.1) × Stands parts.1
run s zero out h = absurd (omega arith)
run [] (suc n) out h = (suc n, omega arith, ap (λ x. body_at (suc n) x []) (sym (append-nil out)), tt)
run (c ∷ cs) (suc n) out h =
    elim (cases_Bool (is_plain c)) [
      | inl plain ↦
          let (m, room, more, stands) = run cs n (out ++ c ∷ []) (omega arith) in
          let k = prefix_len is_plain cs in
          let next : 1 + k ≡ suc k = omega arith in
          rw (plain, next) (m, room, body_plain n out c cs plain ∙ more ∙ ap (λ x. body_at m x (split_plain cs).1) (append_assoc out (c ∷ []) _), stands)
      | inr other ↦ rw other (suc n, omega arith, ap (λ x. body_at (suc n) x (c ∷ cs)) (sym (append-nil out)), other)
    ]

module _ (n : ℕ) (s out rest plain after : List ℕ) (far : HasRead n s out rest) (parts : (plain, after) ≡ split_plain rest) where
  piece : (m : ℕ) × (length after < m) × (body_at n [] s ≡ body_at m (out ++ plain) after) × Stands after
  piece =
      let (k, room, so) = far in
      let (m, fits, more, stands) = run rest k out room in
      let front : plain ≡ (split_plain rest).0 = ap (λ p. p.0) parts in
      let back : after ≡ (split_plain rest).1 = ap (λ p. p.1) parts in
      (m, subst (λ x. length x < m) (sym back) fits, so ∙ more ∙ ap₂ (λ x y. body_at m (out ++ x) y) (sym front) (sym back), subst Stands (sym back) stands)

  quote_next : (m : ℕ) (o t : List ℕ) → length (34 ∷ t) < m → body_at m o (34 ∷ t) ≡ Ok (o, t)
  unfolding body_at
  quote_next zero o t h = absurd (omega arith)
  quote_next (suc m) o t h = refl

  pub body_ends : (next : List ℕ) → after ≡ 34 ∷ next → body_at n [] s ≡ Ok (out ++ plain, next)
  body_ends next e =
      let (m, fits, more, stands) = piece in
      more ∙ ap (body_at m (out ++ plain)) e ∙ quote_next m (out ++ plain) next (subst (λ x. length x < m) e fits)

  bad_next : (m : ℕ) (o t : List ℕ) (c : ℕ) → length (c ∷ t) < m → is_plain c ≡ false → c ≢ 34 → c ≢ 92 → body_at m o (c ∷ t) ≡ Err (Bad (length (c ∷ t)))
  unfolding body_at
  bad_next zero o t c h a b d = absurd (omega arith)
  bad_next (suc m) o t c h a b d = rw a (grind (arith, nat_tests))

  none_next : (m : ℕ) (o t : List ℕ) → length t < m → Stands t → ascii_front t ≡ None → body_at m o t ≡ Err (Bad (length t))
  unfolding body_at
  none_next zero o t h a b = absurd (omega arith)
  none_next (suc m) o [] h a b = refl
  none_next (suc m) o (c ∷ cs) h a b = absurd (grind (arith, nat_tests))

  pub body_stops : (next : List ℕ) (c : ℕ) → after ≡ c ∷ next → c ≢ 34 → c ≢ 92 → body_at n [] s ≡ Err (Bad (length after))
  body_stops next c e a b =
      let (m, fits, more, stands) = piece in
      more ∙ ap (body_at m (out ++ plain)) e ∙ bad_next m (out ++ plain) next c (subst (λ x. length x < m) e fits) (subst Stands e stands) a b ∙ ap (λ x. Err (Bad (length x))) (sym e)

  pub body_cut : ascii_front after ≡ None → body_at n [] s ≡ Err (Bad (length after))
  body_cut e =
      let (m, fits, more, stands) = piece in
      more ∙ none_next m (out ++ plain) after fits stands e

  escape_next : (m : ℕ) (o t : List ℕ) → length (92 ∷ t) < m → (k : ℕ) × (suc k ≡ m) × (body_at m o (92 ∷ t) ≡ (escape_at (length (92 ∷ t)) t >>= (λ p. body_at k (o ++ encode_utf8 p.0) p.1)))
  unfolding body_at
  escape_next zero o t h = absurd (omega arith)
  escape_next (suc m) o t h = (m, refl, refl)

  at_escape : (next : List ℕ) → after ≡ 92 ∷ next → (k : ℕ) × (length after < suc k) × (body_at n [] s ≡ (escape_at (length after) next >>= (λ p. body_at k ((out ++ plain) ++ encode_utf8 p.0) p.1)))
  at_escape next e =
      let (m, fits, more, stands) = piece in
      let (k, is, read) = escape_next m (out ++ plain) next (subst (λ x. length x < m) e fits) in
      (k, omega (arith, fits, is), more ∙ ap (body_at m (out ++ plain)) e ∙ read ∙ ap (λ x. escape_at (length x) next >>= (λ p. body_at k ((out ++ plain) ++ encode_utf8 p.0) p.1)) (sym e))

  pub body_fails : (next : List ℕ) (f : Fault) → after ≡ 92 ∷ next → Fails f (escape_at (length after) next) → Fails f (body_at n [] s)
  body_fails next f e = let (k, room, read) = at_escape next e in fails_on f _ _ (λ h. read ∙ ap (λ r. r >>= (λ p. body_at k ((out ++ plain) ++ encode_utf8 p.0) p.1)) h)

  pub body_more : (next : List ℕ) (c : ℕ) (more : List ℕ) → after ≡ 92 ∷ next → escape_at (length after) next ≡ Ok (c, more) → length more < length after → HasRead n s ((out ++ plain) ++ encode_utf8 c) more
  body_more next c more e is less = let (k, room, read) = at_escape next e in (k, omega (arith, room, less), read ∙ ap (λ r. r >>= (λ p. body_at k ((out ++ plain) ++ encode_utf8 p.0) p.1)) is)
