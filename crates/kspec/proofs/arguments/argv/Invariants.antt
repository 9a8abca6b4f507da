use Rattle.std.proofs.Common.{take}
use Rattle.kspec.specs.Arguments.{AreFilled}
use Rattle.kspec.proofs.arguments.argv.Given as goal

abbrev pub invariant-loop-word : goal.invariant-loop-word
invariant-loop-word l = AreFilled l.fn.file l.fn.folder (take l.word-index l.fn.s.argv) l.words
