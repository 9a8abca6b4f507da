use Rattle.std.proofs.Common.{◌∙◌, ap, rules, if◌then◌else◌}
use Rattle.std.specs.Ordering.{is_gt}
use Rattle.jtext.specs.Sorting.{byte_order}
use Rattle.report_text.proofs.LeastKeys.{one_lesser}
use Rattle.report_text.proofs.output.least_key.Goals as goal

pub loop-pair-preserved : goal.loop-pair-preserved
loop-pair-preserved c =
    let cases = c.in-Some-split_last.ensures.cases in
    let least = c.loop-pair.least.now in
    let more = one_lesser c.args.pairs.now c.loop-pair.rest.now c.in-Some-split_last.others.now c.in-Some-split_last.pair.now least c.lesser-least.result.now
    c.loop-pair.invariant.below c.loop-pair.invariant.front cases.0 cases.1 c.loop-pair.invariant.least
    (c.lesser-least.ensures ∙ ap (λ k. if is_gt (byte_order k least) then least else k) c.as_str.ensures) in
    record { text = search rules; below = more.below; front = more.front; least = more.least }
