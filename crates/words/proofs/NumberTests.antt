-- A word stands for a number where it is one, by the number grammar.
use Rattle.std.proofs.Common.{◌≡◌, ℕ, Bool, true, false, cond, List, Result, Ok, Err, IfOk, refl, sym, ap, ◌∙◌, subst}
use Rattle.std.specs.Prelude.{codes}
use Rattle.std.specs.Str.{bytes_eq}
use Rattle.std.proofs.lemmas.Bool.{false≢true}
use Rattle.jtext.specs.Number.{IsNumber}
use Rattle.jtext.specs.declared.json.Json.{Json}
use Rattle.jtext.specs.declared.json.Json.TheVariants as json
use Rattle.jtext.specs.declared.no_memory.NoMemory.{NoMemory}
use Rattle.jtext.proofs.Equals.{other_bytes}
use Rattle.jtext.specs.Names.{is_number}
use Rattle.jtext.proofs.NumberTests.{number_passes, number_fails}
use Rattle.words.specs.Values.{number_or_text, value_of, IsValue}

-- a number is taken as it stands
pub number_taken : (s n : List ℕ) → n ≡ s → IsNumber s → json.Num n ≡ number_or_text s
number_taken s n same is = ap (λ x. json.Num x) same ∙ ap (λ b. cond b (json.Num s) (json.Str s)) (sym (number_passes s is))

-- any other text is a string
pub text_taken : (s t : List ℕ) → t ≡ s → (IsNumber s → ⊥) → json.Str t ≡ number_or_text s
text_taken s t same none = ap (λ x. json.Str x) same ∙ ap (λ b. cond b (json.Num s) (json.Str s)) (sym (number_fails s none))

not_word : (t w : List ℕ) → is_number w ≡ false → IsNumber t → bytes_eq t w ≡ false
not_word t w other is = other_bytes t w (λ same. false≢true (sym other ∙ ap is_number (sym same) ∙ number_passes t is))

else_three : (a b c : Bool) (x y z n : Json) → a ≡ false → b ≡ false → c ≡ false → cond a x (cond b y (cond c z n)) ≡ n
else_three a b c x y z n ea eb ec = ap (λ k. cond k x (cond b y (cond c z n))) ea ∙ ap (λ k. cond k y (cond c z n)) eb ∙ ap (λ k. cond k z n) ec

plain : (t : List ℕ) → bytes_eq t (codes "True") ≡ false → bytes_eq t (codes "False") ≡ false → bytes_eq t (codes "None") ≡ false → value_of t ≡ number_or_text t
plain t a b c = else_three (bytes_eq t (codes "True")) (bytes_eq t (codes "False")) (bytes_eq t (codes "None")) (json.Bool true) (json.Bool false) json.Null (number_or_text t) a b c

-- the value is what the word stands for
pub is_value : (t : List ℕ) → IsValue t (value_of t)
is_value t = record {
  yes = λ e. ap value_of e;
  no = λ e. ap value_of e;
  none = λ e. ap value_of e;
  number = λ is. plain t (not_word t (codes "True") refl is) (not_word t (codes "False") refl is) (not_word t (codes "None") refl is) ∙ ap (λ b. cond b (json.Num t) (json.Str t)) (number_passes t is);
  text_else = λ a b c none.
      plain t (other_bytes t (codes "True") a) (other_bytes t (codes "False") b) (other_bytes t (codes "None") c)
      ∙ ap (λ b. cond b (json.Num t) (json.Str t)) (number_fails t none);
}

pub means : (t : List ℕ) (r : Result Json NoMemory) → IfOk r (λ v. v ≡ value_of t) → IfOk r (λ v. IsValue t v)
means t (Ok v) e = subst (IsValue t) (sym e) (is_value t)
means t (Err e) was = tt
