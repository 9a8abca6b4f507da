-- Words with their names replaced, put together from the left.
use Rattle.std.proofs.Common.{◌≡◌, ◌==◌, ℕ, suc, ◌<◌, false, Bool, List, [], ◌∷◌, ◌++◌, length, take, drop, ◌+◌, refl, sym, ap, ◌∙◌, append_assoc, subst, arith, codes, get_or}
use Rattle.std.proofs.lemmas.Bool.{eqb-true, eq-eqb, true≢false}
use Rattle.std.proofs.lemmas.List.{append-nil, take_more}
use Rattle.std.proofs.lemmas.List.Sums.{split_at_first, fails_before_first, passes_at_first}
use Rattle.std.proofs.lemmas.Grind.{common_steps}
use Rattle.std.proofs.lemmas.List.Elements.{AllZip-push}
use Rattle.std.specs.List.{AllZip, position_or_len, before_first, after_first}
use Rattle.kspec.specs.Arguments.{file_name, folder_name, Lacks, IsFilled, AreFilled, Puts}
use Rattle.kspec.specs.Arguments.IsFilled.{end, file_put, folder_put, byte_kept}

-- no name begins with another byte than a brace
lacks : (name : List ℕ) → get_or name 0 0 ≡ 123 → 0 < length name → (c : ℕ) (rest : List ℕ) → (c == 123) ≡ false → Lacks name (c ∷ rest)
lacks [] is some c rest other more e = absurd (omega arith)
lacks (b ∷ bs) is some c rest other more e = absurd (true≢false (sym (eq-eqb c 123 (ap (λ xs. get_or xs 0 0) e ∙ is)) ∙ other))

-- bytes without a brace stay as they are
plain : (file folder front rest out : List ℕ) → ((k : ℕ) → k < length front → (get_or front k 0 == 123) ≡ false)
    → IsFilled file folder rest out → IsFilled file folder (front ++ rest) (front ++ out)
plain file folder [] rest out none filled = filled
plain file folder (c ∷ cs) rest out none filled =
    byte_kept (lacks file_name refl (omega arith) c (cs ++ rest) (none 0 (omega arith))) (lacks folder_name refl (omega arith) c (cs ++ rest) (none 0 (omega arith)))
    (plain file folder cs rest out (λ k less. none (suc k) (omega arith)) filled)

-- what stands before the first brace stays, and what is put in for what follows it comes after
pub on_brace : (file folder text front after put rest out : List ℕ) → position_or_len (λ b. b == 123) text < length text
    → front ≡ before_first (λ b. b == 123) text → after ≡ after_first (λ b. b == 123) text → Puts file folder after put rest
    → IsFilled file folder rest out → IsFilled file folder text (front ++ (put ++ out))
on_brace file folder text front after put rest out some is_front is_after puts filled =
    let p : ℕ → Bool = λ b. b == 123 in
    let brace = eqb-true (get_or text (position_or_len p text) 0) 123 (passes_at_first p text 0 some) in
    let split : front ++ (123 ∷ after) ≡ text =
    sym (split_at_first p text 0 some ∙ ap (λ b. before_first p text ++ (b ∷ after_first p text)) brace ∙ ap (λ f. f ++ (123 ∷ after_first p text)) (sym is_front) ∙ ap (λ a. front ++ (123 ∷ a)) (sym is_after)) in
    subst (λ t. IsFilled file folder t (front ++ (put ++ out))) split
    (plain file folder front (123 ∷ after) (put ++ out) (subst (λ f. (k : ℕ) → k < length f → (get_or f k 0 == 123) ≡ false) (sym is_front) (before text)) (puts out filled))
  where
    before : (t : List ℕ) (k : ℕ) → k < length (before_first (λ b. b == 123) t) → (get_or (before_first (λ b. b == 123) t) k 0 == 123) ≡ false
    before t k less = let f = fails_before_first (λ b. b == 123) t k 0 (grind (arith, common_steps)) in grind (arith, common_steps)

-- a text without a brace stays as it is
pub no_brace : (file folder text : List ℕ) → position_or_len (λ b. b == 123) text ≡ length text → IsFilled file folder text text
no_brace file folder text none =
    let kept = plain file folder text [] [] (λ k less. fails_before_first (λ b. b == 123) text k 0 (omega arith)) end in
    subst (λ t. IsFilled file folder t t) (append-nil text) kept

-- a name behind a brace is replaced
pub file_named : (file folder after rest : List ℕ) → after ≡ codes "connection_file}" ++ rest → Puts file folder after file rest
file_named file folder after rest is out filled = subst (λ a. IsFilled file folder (123 ∷ a) (file ++ out)) (sym is) (file_put filled)

pub folder_named : (file folder after rest : List ℕ) → after ≡ codes "resource_dir}" ++ rest → Puts file folder after folder rest
folder_named file folder after rest is out filled = subst (λ a. IsFilled file folder (123 ∷ a) (folder ++ out)) (sym is) (folder_put filled)

-- a brace with no name behind it stays
pub brace_kept : (file folder after : List ℕ) → Lacks (codes "connection_file}") after → Lacks (codes "resource_dir}") after
    → Puts file folder after (codes "{") after
brace_kept file folder after no_file no_folder out filled =
    byte_kept (λ more e. no_file more (ap (λ xs. drop 1 xs) e)) (λ more e. no_folder more (ap (λ xs. drop 1 xs) e)) filled

-- one word more
pub one_more : (file folder : List ℕ) (words outs : List (List ℕ)) (i : ℕ) (word out default : List ℕ) → i < length words → word ≡ get_or words i default
    → IsFilled file folder word out → AreFilled file folder (take i words) outs → AreFilled file folder (take (i + 1) words) (outs ++ out ∷ [])
one_more file folder words outs i word out default within is filled before =
    subst (λ ws. AllZip (IsFilled file folder) ws (outs ++ out ∷ [])) (sym (take_more words i default within ∙ ap (λ w. take i words ++ w ∷ []) (sym is)))
    (AllZip-push (IsFilled file folder) (take i words) outs word out before filled)

pub regrouped : (whole out front put tail : List ℕ) → whole ≡ (out ++ front) ++ put → out ++ (front ++ (put ++ tail)) ≡ whole ++ tail
regrouped whole out front put tail is =
    sym (append_assoc out front (put ++ tail)) ∙ sym (append_assoc (out ++ front) put tail) ∙ ap (λ x. x ++ tail) (sym is)

pub same_texts : (file file' folder folder' word word' out : List ℕ) → file' ≡ file → folder' ≡ folder → word' ≡ word
    → IsFilled file' folder' word' out → IsFilled file folder word out
same_texts file file' folder folder' word word' out f d w filled =
    subst (λ x. IsFilled file folder x out) w (subst (λ x. IsFilled file x word' out) d (subst (λ x. IsFilled x folder' word' out) f filled))
