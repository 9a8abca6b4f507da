use Rattle.std.proofs.Common.{ℕ, List, ◌++◌, length, string_bytes}
use denote.Text.{Utf8}
use denote.Shadow.{shadow}
use Rattle.kspec.specs.Arguments.{IsFilled}
use Rattle.kspec.proofs.arguments.fill.Given as goal

abbrev pub invariant-loop-front : goal.invariant-loop-front
invariant-loop-front l =
    record {
      text : shadow (Utf8 l.rest);
      so_far : (end : List ℕ) → IsFilled l.fn.file l.fn.folder l.rest end → IsFilled l.fn.file l.fn.folder l.fn.word (string_bytes l.out ++ end);
    }

abbrev pub decreases-loop-front : goal.decreases-loop-front
decreases-loop-front l = length l.rest
