use Rattle.std.proofs.Common.{◌≡◌, drop, length, string_bytes}
use Rattle.std.specs.Str.{chars}
use Rattle.toy_lang.specs.Literals.{literal_text}
use Rattle.toy_lang.proofs.LiteralSteps.{text_with}
use Rattle.toy_lang.proofs.literal.literal_text.Given as goal

abbrev pub invariant-loop-c : goal.invariant-loop-c
invariant-loop-c l = text_with (string_bytes l.out) l.stage (drop (length l.yielded) (chars l.literal))
    ≡ literal_text l.fn.literal
