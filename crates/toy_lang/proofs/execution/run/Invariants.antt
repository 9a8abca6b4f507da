use Rattle.std.proofs.Common.{drop, length}
use Rattle.toy_lang.specs.Runs.{effects, variables_after, lines}
use Rattle.toy_lang.proofs.LineSteps.{Stands}
use Rattle.toy_lang.proofs.execution.run.Given as goal

abbrev pub invariant-loop-line : goal.invariant-loop-line
invariant-loop-line l = Stands l.s (drop (length l.yielded) (lines l.text)) l.effects (effects l.fn.s l.fn.text)
    (variables_after l.fn.s l.fn.text)
