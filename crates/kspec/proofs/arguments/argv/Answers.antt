use Rattle.std.proofs.Common.{◌∙◌, ◌<◌, sym, ap, subst, length, get_or}
use Rattle.kspec.specs.Arguments.{AreFilled}
use Rattle.kspec.proofs.Filled.{one_more, same_texts}
use Rattle.kspec.proofs.arguments.argv.Goals as goal

pub loop-word-preserved : goal.loop-word-preserved
loop-word-preserved c =
    subst (AreFilled c.args.file.now c.args.folder.now _) (sym c.in_ok-push.ensures.ok)
    (one_more c.args.file.now c.args.folder.now c.args.s.now.argv c.loop-word.words c.loop-word.word-index c.word-item.result c.in_ok-fill.field-0 c.word-item.result
    (subst (λ w. c.loop-word.word-index < length w) c.as_slice-word-items.ensures c.loop-word-test.true)
    (c.word-item.is ∙ ap (λ w. get_or w c.loop-word.word-index c.word-item.result) c.as_slice-word-items.ensures)
    (same_texts _ _ _ _ _ _ _ c.as_str-in-loop-word.ensures c.as_str-in-loop-word-2.ensures c.as_str.ensures c.in_ok-fill.ensures)
    c.loop-word.invariant)
