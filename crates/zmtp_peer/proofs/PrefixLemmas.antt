-- The prefixes of a PUB.
use Rattle.std.proofs.Common.{◌≡◌, ℕ, suc, ◌+◌, ◌≤◌, ◌<◌, true, false, cond, nat_eq, List, [], ◌∷◌, ◌++◌, length, take, drop, get_or, refl, ap, sym, ◌∙◌, arith, subst, drop-cons, IsTrue, rules}
use Rattle.std.specs.Prelude.{eqb}
use Rattle.std.specs.List.{remove, starts_with}
use Rattle.std.proofs.lemmas.List.{take-append-drop, at_drop_all}
use lib.Pointwise.{pointwise}
use Rattle.std.proofs.Math.Seq.{take-append_seam}
use Rattle.jtext.proofs.Equals.{same_bytes}
use Rattle.zmtp_wire.proofs.ListLemmas.{same_start}
use Rattle.zmtp_wire.specs.declared.role.Role.{Role}
use Rattle.zmtp_wire.proofs.ShakenLemmas.{is_true}
use Rattle.zmtp_peer.specs.Subscription.{without, prefixes_after_one, prefixes_after, IsWanted}

pub prefixes-append : (r : Role) (prefixes : List (List ℕ)) (a b : List (List (List ℕ))) → prefixes_after r prefixes (a ++ b) ≡ prefixes_after r (prefixes_after r prefixes a) b
prefixes-append r prefixes [] b = refl
prefixes-append r prefixes (m ∷ a) b = prefixes-append r (prefixes_after_one r prefixes m) a b

pub prefixes-push : (r : Role) (old prefixes prefixes' : List (List ℕ)) (xs : List (List (List ℕ))) (m : List (List ℕ)) → prefixes ≡ prefixes_after r old xs → prefixes' ≡ prefixes_after_one r prefixes m
    → prefixes' ≡ prefixes_after r old (xs ++ m ∷ [])
prefixes-push r old prefixes prefixes' xs m e f = f ∙ ap (λ p. prefixes_after_one r p m) e ∙ sym (prefixes-append r old xs (m ∷ []))

-- ---- the first such prefix

pub found : (p q : List ℕ) (qs : List (List ℕ)) (i : ℕ) → without p qs ≡ take i qs ++ without p (drop i qs) → i < length qs → q ≡ get_or qs i q → pointwise nat_eq p q ≡ true → without p qs ≡ remove qs i
found p q qs i e h k s =
    let one : drop i qs ≡ q ∷ drop (suc i) qs = drop-cons qs i q h ∙ ap (λ x. x ∷ drop (suc i) qs) (sym k) in
    e ∙ ap (λ x. take i qs ++ without p x) one ∙ ap (λ b. take i qs ++ cond b (drop (suc i) qs) (q ∷ without p (drop (suc i) qs))) s

-- ---- what is wanted

starts_self : (p rest : List ℕ) → starts_with nat_eq (p ++ rest) p ≡ true
starts_self p rest = ap (pointwise eqb p) (take-append_seam p rest) ∙ same_bytes p

pub wanted_here : (prefixes : List (List ℕ)) (topic p : List ℕ) (i : ℕ) → i < length prefixes → p ≡ get_or prefixes i p → starts_with nat_eq topic p ≡ true → IsWanted prefixes topic
wanted_here prefixes topic p i h k s =
    let one : drop i prefixes ≡ p ∷ drop (suc i) prefixes = drop-cons prefixes i p h ∙ ap (λ x. x ∷ drop (suc i) prefixes) (sym k) in
    record {
      before = take i prefixes;
      prefix = p;
      after = drop (suc i) prefixes;
      rest = drop (length p) topic;
      stands = sym (take-append-drop i prefixes) ∙ ap (λ x. take i prefixes ++ x) one;
      begins = sym (same_start p topic s);
    }

wanted_on : (x : List ℕ) (qs before after : List (List ℕ)) (topic p rest : List ℕ) → starts_with nat_eq topic x ≡ false → x ∷ qs ≡ before ++ p ∷ after → topic ≡ p ++ rest → IsWanted qs topic
wanted_on x qs [] after topic p rest f e t =
    let same : x ≡ p = cc in
    let bad : starts_with nat_eq topic x ≡ true = ap (λ y. starts_with nat_eq y x) t ∙ ap (λ y. starts_with nat_eq (p ++ rest) y) same ∙ starts_self p rest in
    let no : true ≡ false = sym bad ∙ f in
    absurd (cc)
wanted_on x qs (y ∷ before) after topic p rest f e t =
    let k : qs ≡ before ++ p ∷ after = cc in
    record { before = before; prefix = p; after = after; rest = rest; stands = k; begins = t }

pub wanted_later : (prefixes : List (List ℕ)) (topic p : List ℕ) (i : ℕ) → i < length prefixes → p ≡ get_or prefixes i p → starts_with nat_eq topic p ≡ false → IsWanted (drop i prefixes) topic → IsWanted (drop (i + 1) prefixes) topic
wanted_later prefixes topic p i h k f w =
    let one : drop i prefixes ≡ p ∷ drop (suc i) prefixes = drop-cons prefixes i p h ∙ ap (λ x. x ∷ drop (suc i) prefixes) (sym k) in
    let n : suc i ≡ i + 1 = omega arith in
    subst (λ (j : ℕ). IsWanted (drop j prefixes) topic) n (wanted_on p (drop (suc i) prefixes) w.before w.after topic w.prefix w.rest f (sym one ∙ w.stands) w.begins)

no_member : (before after : List (List ℕ)) (p : List ℕ) → [] ≡ before ++ p ∷ after → ⊥
no_member [] after p e = absurd (cc)
no_member (x ∷ before) after p e = absurd (cc)

pub wanted_none : (prefixes : List (List ℕ)) (topic : List ℕ) (i : ℕ) → length prefixes ≤ i → IsWanted (drop i prefixes) topic → ⊥
wanted_none prefixes topic i h w =
    let none : drop i prefixes ≡ [] = at_drop_all (λ x. x) prefixes i h in
    no_member w.before w.after w.prefix (sym none ∙ w.stands)

pub yes : IsTrue true
yes = search rules

pub no : IsTrue false → ⊥
no h = let k : false ≡ true = is_true false h in absurd (cc)
