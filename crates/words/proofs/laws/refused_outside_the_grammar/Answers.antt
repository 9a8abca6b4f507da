use Rattle.words.proofs.GrammarLaws.{all_commands, only_commands}
use Rattle.words.proofs.laws.refused_outside_the_grammar.Goals as goal

pub returns-clause-taken : goal.returns-clause-taken
returns-clause-taken c = λ words is. all_commands words is

pub returns-clause-only : goal.returns-clause-only
returns-clause-only c = λ words e. only_commands words e
