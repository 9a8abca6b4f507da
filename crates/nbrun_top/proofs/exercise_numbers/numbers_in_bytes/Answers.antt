use Rattle.std.proofs.Common.{◌∙◌, refl}
use Rattle.nbrun_top.proofs.NumberLemmas.{counted_so, refused_so}
use Rattle.nbrun_top.proofs.exercise_numbers.numbers_in_bytes.Goals as goal

pub returns-in-Ok : goal.returns-in-Ok
returns-in-Ok c = counted_so _ _ _ _ _ c.requires.asked (c.in_ok-bytes.ensures ∙ c.bytes.ensures) c.in-Ok.ensures.ok c.numbers.ensures

pub returns-in-Err-NotJson : goal.returns-in-Err-NotJson
returns-in-Err-NotJson c = refused_so _ _ _ _ _ c.in-Err-NotJson.field-0-is refl c.requires.asked (c.in_ok-bytes.ensures ∙ c.bytes.ensures) c.in-Err-NotJson.ensures.err

pub returns-in-Err-NotNotebook : goal.returns-in-Err-NotNotebook
returns-in-Err-NotNotebook c = refused_so _ _ _ _ _ c.in-Err-NotNotebook.field-0-is refl c.requires.asked (c.in_ok-bytes.ensures ∙ c.bytes.ensures) c.in-Err-NotNotebook.ensures.err

pub returns-in-Err-NoTranslator : goal.returns-in-Err-NoTranslator
returns-in-Err-NoTranslator c = refused_so _ _ _ _ _ c.in-Err-NoTranslator.field-0-is refl c.requires.asked (c.in_ok-bytes.ensures ∙ c.bytes.ensures) c.in-Err-NoTranslator.ensures.err
