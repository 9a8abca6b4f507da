use Rattle.jtext.proofs.NumberTests.{number_passes, number_of_test}
use Rattle.toy_lang.proofs.laws.numbers_are_those_of_json.Goals as goal

pub returns : goal.returns
returns c = λ text. (number_of_test text, number_passes text)
