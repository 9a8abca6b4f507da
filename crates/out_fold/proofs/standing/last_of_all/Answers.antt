use Rattle.std.proofs.Common.{◌∙◌, ◌<◌, length, sym, ap, None, arith}
use Rattle.std.specs.Option.{option_copied}
use Rattle.out_fold.specs.Shown.{latest}
use Rattle.out_fold.specs.Cells.{all_contents}
use Rattle.out_fold.specs.Plain.{contents_of, data_of}
use Rattle.out_fold.proofs.FoldLemmas.{latest-through}
use Rattle.out_fold.proofs.PlainLemmas.{latest-next}
use Rattle.out_fold.proofs.standing.last_of_all.Goals as goal

pub loop-request-init : goal.loop-request-init
loop-request-init c =
    latest-through c.args.id.now None (contents_of c.args.after.now) (all_contents c.args.later.now)
    ∙ ap (λ o. latest c.args.id.now o (all_contents c.args.later.now)) (sym c.last_shown-last.ensures)

pub loop-request-preserved : goal.loop-request-preserved
loop-request-preserved c =
    let before = data_of (option_copied c.loop-request.last) in
    let below : c.loop-request.request-index < length c.args.later.now = omega arith in
    latest-next c.args.id.now c.args.later.now c.loop-request.request-index c.request-item.result _ before _ below c.request-item.is c.loop-request.invariant
    (c.last_shown-last-in-loop-request.ensures ∙ ap (λ ms. latest c.args.id.now before (contents_of ms)) c.as_slice.ensures)
