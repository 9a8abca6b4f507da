-- Without words a path is missing.
use Rattle.std.proofs.Common.{◌≡◌, List, [], ◌∷◌, length, None, map, string_bytes, sym, arith}
use Rattle.std.specs.declared.string.String.{String}
use Rattle.std.proofs.lemmas.Option.{none-some}
use Rattle.words.specs.Refusals.{refusal}
use Rattle.words.specs.declared.usage.Usage.TheVariants as usage

pub no_words_are_refused : {Z : Type 0} (words : List (String Z)) → length words ≡ 0 → refusal (map string_bytes words) ≡ None → ⊥
no_words_are_refused [] few taken = none-some usage.Missing (sym taken)
no_words_are_refused (word ∷ words) few taken = absurd (omega (arith, few))
