-- Bodies and envelopes.
use Rattle.std.proofs.Common.{◌≡◌, ℕ, ◌<◌, true, false, cond, List, [], ◌∷◌, ◌++◌, length, take, drop, refl, ap, sym, ◌∙◌, arith, append_assoc, append-nil, map}
use Rattle.std.specs.List.{remove}
use Rattle.std.proofs.lemmas.List.{take-append-drop, map-id}
use Rattle.zmtp_wire.specs.declared.role.Role.{Role}
use Rattle.zmtp_wire.specs.Machine.{GrowsBy}
use Rattle.zmtp_peer.specs.Envelope.{has_envelope, starts_empty, body_in, bodies_of}

pub body_plain : (r : Role) (m : List (List ℕ)) → has_envelope r ≡ false → body_in r m ≡ m ∷ []
body_plain r m e = ap (λ b. cond b (cond (starts_empty m) (drop 1 m ∷ []) []) (m ∷ [])) e

pub body_none : (r : Role) (m : List (List ℕ)) → has_envelope r ≡ true → starts_empty m ≡ false → body_in r m ≡ []
body_none r m e f = ap (λ b. cond b (cond (starts_empty m) (drop 1 m ∷ []) []) (m ∷ [])) e ∙ ap (λ b. cond b (drop 1 m ∷ []) []) f

pub body_some : (r : Role) (m body : List (List ℕ)) → has_envelope r ≡ true → starts_empty m ≡ true → body ≡ remove m 0 → body_in r m ≡ body ∷ []
body_some r m body e f h = ap (λ b. cond b (cond (starts_empty m) (drop 1 m ∷ []) []) (m ∷ [])) e ∙ ap (λ b. cond b (drop 1 m ∷ []) []) f ∙ ap (λ x. x ∷ []) (sym h)

pub some_first : (m : List (List ℕ)) → starts_empty m ≡ true → 0 < length m
some_first [] e = absurd (cc)
some_first (x ∷ m) e = omega arith

pub ruleset body_laws = (body_plain, body_none, body_some, some_first)

pub bodies-append : (r : Role) (a b : List (List (List ℕ))) → bodies_of r (a ++ b) ≡ bodies_of r a ++ bodies_of r b
bodies-append r [] b = refl
bodies-append r (m ∷ a) b = ap (λ x. body_in r m ++ x) (bodies-append r a b) ∙ sym (append_assoc (body_in r m) (bodies_of r a) (bodies_of r b))

pub bodies-push : (r : Role) (xs : List (List (List ℕ))) (m : List (List ℕ)) → bodies_of r (xs ++ m ∷ []) ≡ bodies_of r xs ++ body_in r m
bodies-push r xs m = bodies-append r xs (m ∷ []) ∙ ap (λ x. bodies_of r xs ++ x) (append-nil (body_in r m))

-- ---- a loop over messages

pub some_body : (r : Role) (old out out' xs : List (List (List ℕ))) (m body : List (List ℕ)) → out ≡ old ++ bodies_of r xs → body_in r m ≡ body ∷ [] → out' ≡ out ++ body ∷ [] → out' ≡ old ++ bodies_of r (xs ++ m ∷ [])
some_body r old out out' xs m body e f g =
    g ∙ ap (λ x. x ++ body ∷ []) e ∙ append_assoc old (bodies_of r xs) (body ∷ []) ∙ ap (λ x. old ++ (bodies_of r xs ++ x)) (sym f) ∙ ap (λ x. old ++ x) (sym (bodies-push r xs m))

pub no_body : (r : Role) (old out xs : List (List (List ℕ))) (m : List (List ℕ)) → out ≡ old ++ bodies_of r xs → body_in r m ≡ [] → out ≡ old ++ bodies_of r (xs ++ m ∷ [])
no_body r old out xs m e f = e ∙ ap (λ x. old ++ x) (sym (append-nil (bodies_of r xs)) ∙ ap (λ x. bodies_of r xs ++ x) (sym f) ∙ sym (bodies-push r xs m))

-- where memory ran out after these messages
pub some_bodies : (r : Role) (old out out' all xs : List (List (List ℕ))) → map (λ y. y) xs ≡ take (length xs) all → out ≡ old ++ bodies_of r xs → out' ≡ out → GrowsBy old out' (bodies_of r all)
some_bodies r old out out' all xs e f g =
    let front : all ≡ xs ++ drop (length xs) all = sym (take-append-drop (length xs) all) ∙ ap (λ t. t ++ drop (length xs) all) (sym e ∙ map-id xs) in
    record { more = bodies_of r xs; left = bodies_of r (drop (length xs) all); grown = g ∙ f; first = ap (bodies_of r) front ∙ bodies-append r xs (drop (length xs) all) }
