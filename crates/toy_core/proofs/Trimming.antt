-- What was all handed out may be let go.
use Rattle.std.proofs.Common.{◌≡◌, ℕ, ◌+◌, ◌-◌, ◌≤◌, Bool, true, false, cond, List, [], ◌++◌, length, drop, refl, sym, ap, ◌∙◌, arith}
use Rattle.std.proofs.lemmas.List.{length-append, drop_all, append-nil}
use Rattle.std.proofs.lemmas.Bool.{leb-true}
use Rattle.toy_core.specs.declared.outbox.Outbox.{Outbox}
use Rattle.toy_core.specs.Outboxes.{front, rest_due, is_handed_out, trim_box}
use Rattle.toy_core.proofs.Pourings.{drop-both}

-- all of a front is passed over
passed : (given : ℕ) (all coming : List ℕ) → length all ≤ given → drop given (all ++ coming) ≡ drop (given - length all) coming
passed given all coming h = drop-both given all coming ∙ ap (λ x. x ++ drop (given - length all) coming) (drop_all given all h)

let_go : (given : ℕ) (f octets coming : List ℕ) → length f + length octets ≤ given
    → drop (given - length octets) ((f ++ []) ++ coming) ≡ drop given ((f ++ octets) ++ coming)
let_go given f octets coming h =
    let n : length f ≤ given - length octets = omega arith in
    let m : length (f ++ octets) ≤ given = omega (arith, length-append f octets) in
    let k : given - length octets - length f ≡ given - length (f ++ octets) = omega (arith, length-append f octets) in
    ap (λ x. drop (given - length octets) (x ++ coming)) (append-nil f) ∙ passed (given - length octets) f coming n
    ∙ ap (λ i. drop i coming) k ∙ sym (passed given (f ++ octets) coming m)

trimmed_by : (b : Bool) (box : Outbox) (coming : List ℕ) → is_handed_out box ≡ b
    → rest_due (cond b (record { start = box.start; is_open = box.is_open; octets = []; given = box.given - length box.octets }) box) coming ≡ rest_due box coming
trimmed_by true box coming e = let_go box.given (front box) box.octets coming (leb-true _ _ e)
trimmed_by false box coming e = refl

pub trimmed_left : (box : Outbox) (coming : List ℕ) → rest_due (trim_box box) coming ≡ rest_due box coming
trimmed_left box coming = trimmed_by (is_handed_out box) box coming refl
