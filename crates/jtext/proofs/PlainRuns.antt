-- Plain bytes are written as they stand.
use Rattle.std.proofs.Common.{◌≡◌, ℕ, true, false, inl, inr, suc, ◌+◌, List, [], ◌∷◌, ◌++◌, take, drop, refl, sym, ap, ap₂, ◌∙◌, append_assoc, arith}
use Rattle.std.proofs.lemmas.Bool.{cases_Bool}
use Rattle.std.proofs.lemmas.Bool.Decides.{nat_tests}
use Rattle.std.proofs.lemmas.List.{append-nil}
use Rattle.std.specs.Bool.{nat_lt}
use Rattle.std.specs.List.{flat_map, prefix_len}
use Rattle.jtext.specs.Print.{escape_letter, escape_byte}
use Rattle.jtext.specs.Strings.{is_plain}

plain_same : (c : ℕ) → is_plain c ≡ true → escape_byte c ≡ c ∷ []
unfolding escape_byte
plain_same c e =
    let no_letter : nat_lt 0 (escape_letter c) ≡ false = grind (arith, nat_tests) in
    let no_control : nat_lt c 32 ≡ false = grind (arith, nat_tests) in
    rw (no_letter, no_control) refl

-- a run, and then the rest
pub run_first : (s : List ℕ) → flat_map escape_byte s ≡ take (prefix_len is_plain s) s ++ flat_map escape_byte (drop (prefix_len is_plain s) s)
run_first [] = refl
run_first (c ∷ cs) =
    elim (cases_Bool (is_plain c)) [
      | inl t ↦ let k : 1 + prefix_len is_plain cs ≡ suc (prefix_len is_plain cs) = omega arith in rw (t, k) (ap₂ (λ (a b : List ℕ). a ++ b) (plain_same c t) (run_first cs))
      | inr t ↦ rw t refl
    ]

pub runs_more : (out o1 o2 rest plain after more whole : List ℕ) (byte : ℕ) → plain ≡ take (prefix_len is_plain rest) rest → after ≡ drop (prefix_len is_plain rest) rest → after ≡ byte ∷ more → out ++ flat_map escape_byte rest ≡ whole
    → o1 ≡ out ++ plain → o2 ≡ o1 ++ escape_byte byte → o2 ++ flat_map escape_byte more ≡ whole
runs_more out o1 o2 rest plain after more whole byte p a e so_far b d =
    let step : flat_map escape_byte rest ≡ plain ++ (escape_byte byte ++ flat_map escape_byte more) = run_first rest ∙ ap₂ (λ x y. x ++ flat_map escape_byte y) (sym p) (sym a ∙ e) in
    let parts : o2 ++ flat_map escape_byte more ≡ out ++ (plain ++ (escape_byte byte ++ flat_map escape_byte more)) = rw (d, b) (simp append_assoc) in
    parts ∙ ap (λ x. out ++ x) (sym step) ∙ so_far

pub runs_end : (out o1 rest plain after whole : List ℕ) → plain ≡ take (prefix_len is_plain rest) rest → after ≡ drop (prefix_len is_plain rest) rest → after ≡ [] → out ++ flat_map escape_byte rest ≡ whole → o1 ≡ out ++ plain → o1 ≡ whole
runs_end out o1 rest plain after whole p a e so_far b =
    let step : flat_map escape_byte rest ≡ plain = run_first rest ∙ ap₂ (λ x y. x ++ flat_map escape_byte y) (sym p) (sym a ∙ e) ∙ append-nil plain in
    b ∙ ap (λ x. out ++ x) (sym step) ∙ so_far
