-- Decimal texts are made of bytes that an id may have.
use Rattle.std.proofs.Common.{◌≡◌, ℕ, ◌+◌, ◌<◌, ◌^◌, ◌%◌, true, ◌&&◌, [], ◌∷◌, ap, ap₂, ◌∙◌, arith}
use Rattle.std.specs.Fmt.{decimal}
use Rattle.std.specs.List.{list_all}
use Rattle.std.proofs.lemmas.Bool.Decides.{nat_tests}
use Rattle.std.proofs.lemmas.Fmt.{decimal_by_steps_wide}
use Rattle.std.proofs.lemmas.List.Folds.{list_all-append}
use Rattle.nb_model.specs.Values.{is_id_byte}

digit_in_id : (d : ℕ) → d < 10 → is_id_byte (48 + d) ≡ true
digit_in_id d h = grind (arith, nat_tests)

pub decimal_in_id : (n : ℕ) → n < 10 ^ 64 → list_all is_id_byte (decimal n) ≡ true
decimal_in_id = decimal_by_steps_wide (λ n ds. list_all is_id_byte ds ≡ true) (λ n h. ap (λ b. b && true) (digit_in_id n h))
    (λ n ds h all. list_all-append is_id_byte ds ((48 + n % 10) ∷ []) ∙ ap₂ (λ a b. a && (b && true)) all (digit_in_id (n % 10) (omega arith)))
