use Rattle.std.proofs.Common.{map, ap, ◌∙◌}
use Rattle.std.specs.Prelude.{string_bytes}
use Rattle.words.specs.Asked.{command_of}
use Rattle.words.proofs.RunnableWords.{words_runnable}
use Rattle.words.proofs.command_line.read.Goals as goal

pub returns-clause-runnable : goal.returns-clause-runnable
returns-clause-runnable c =
    let words = map string_bytes c.args.words.now in
    words_runnable words c.in_ok-command.field-0
    (c.in_ok-command.ensures ∙ ap (command_of words) (c.as_slice-2.ensures ∙ c.in_ok-parts.ensures))
