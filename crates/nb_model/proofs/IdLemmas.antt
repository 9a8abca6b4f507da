-- Ids among the earlier ones.
use Rattle.std.proofs.Common.{◌≡◌, ℕ, Bool, true, false, not, cond, ◌||◌, List, [], ◌∷◌, Some, refl, sym, ap, ◌∙◌}
use Rattle.std.specs.List.{list_any}
use Rattle.std.specs.Str.{bytes_eq}
use Rattle.std.proofs.lemmas.Bool.{cond-true, cond-false, not-true, not-false}
use Rattle.jtext.specs.declared.json.Json.{Json}
use Rattle.nb_model.specs.Valid.{id_of}
use Rattle.nb_model.specs.Faults.{repeated_id}

-- an id that was there
pub taken : (earlier : List (List ℕ)) (seen : List ℕ → Bool) (cells rest : List Json) (c : Json) (all : List Json) (id : List ℕ) → ((q : List ℕ) → seen q ≡ list_any (λ e. bytes_eq e q) earlier)
    → repeated_id earlier cells ≡ repeated_id [] all → cells ≡ c ∷ rest → id ≡ id_of c → false ≡ not (seen id) → Some id ≡ repeated_id [] all
taken earlier seen cells rest c all id h left split is new =
    let any : list_any (λ e. bytes_eq e (id_of c)) earlier ≡ true = sym (h (id_of c)) ∙ ap seen (sym is) ∙ not-false (seen id) (sym new) in
    ap Some is ∙ sym (cond-true (list_any (λ e. bytes_eq e (id_of c)) earlier) (Some (id_of c)) (repeated_id (id_of c ∷ earlier) rest) any) ∙ sym (ap (repeated_id earlier) split) ∙ left

-- one that wasn't
pub free : (earlier : List (List ℕ)) (seen : List ℕ → Bool) (cells rest : List Json) (c : Json) (all : List Json) (id : List ℕ) → ((q : List ℕ) → seen q ≡ list_any (λ e. bytes_eq e q) earlier)
    → repeated_id earlier cells ≡ repeated_id [] all → cells ≡ c ∷ rest → id ≡ id_of c → true ≡ not (seen id) → repeated_id (id ∷ earlier) rest ≡ repeated_id [] all
free earlier seen cells rest c all id h left split is new =
    let none : list_any (λ e. bytes_eq e (id_of c)) earlier ≡ false = sym (h (id_of c)) ∙ ap seen (sym is) ∙ not-true (seen id) (sym new) in
    ap (λ i. repeated_id (i ∷ earlier) rest) is ∙ sym (cond-false (list_any (λ e. bytes_eq e (id_of c)) earlier) (Some (id_of c)) (repeated_id (id_of c ∷ earlier) rest) none) ∙ sym (ap (repeated_id earlier) split) ∙ left

-- the set with one more
pub more : (earlier : List (List ℕ)) (seen new : List ℕ → Bool) (id : List ℕ) → ((q : List ℕ) → seen q ≡ list_any (λ e. bytes_eq e q) earlier)
    → ((q : List ℕ) → new q ≡ cond (bytes_eq id q) true (seen q)) → (q : List ℕ) → new q ≡ list_any (λ e. bytes_eq e q) (id ∷ earlier)
more earlier seen new id h n q = n q ∙ ap (λ b. cond (bytes_eq id q) true b) (h q) ∙ or_cond (bytes_eq id q) (list_any (λ e. bytes_eq e q) earlier)
  where
    or_cond : (a b : Bool) → cond a true b ≡ (a || b)
    or_cond true b = refl
    or_cond false b = refl
