use Rattle.std.proofs.Common.{◌≡◌, ◌++◌, drop, map, string_bytes}
use Rattle.graph_run.specs.Words.{batch_words, texts}
use Rattle.graph_run.proofs.words_read.batch_words.Given as goal

abbrev pub invariant-loop-word : goal.invariant-loop-word
invariant-loop-word l = map string_bytes l.batch.items ++ map string_bytes (drop l.word-index l.words) ≡ batch_words (texts l.fn.words)
