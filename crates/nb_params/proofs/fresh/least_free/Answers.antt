use Rattle.std.proofs.Common.{◌≡◌, ◌+◌, ◌-◌, sym, ap, ◌∙◌, arith, true, false}
use Rattle.std.specs.BTreeSet.{contains_text}
use Rattle.nb_params.specs.Injected.{numbered_id, free_from}
use Rattle.nb_params.proofs.Ids.{free_later, free_now}
use Rattle.nb_params.proofs.fresh.least_free.Goals as goal

pub returns-then-not-contains : goal.returns-then-not-contains
returns-then-not-contains c names same =
    let id = c.as_str.ensures.value ∙ c.in_ok-id.ensures in
    let free : contains_text c.args.taken.now (numbered_id (c.loop-i.i + 1)) ≡ false = rw id at (sym c.contains.ensures ∙ c.if-not-contains.true) in
    let now = free_now (c.args.steps - c.loop-i.i) (c.loop-i.i + 1) names (sym (same (numbered_id (c.loop-i.i + 1))) ∙ free) in
    c.of_string.ensures ∙ c.in_ok-id.ensures ∙ ap numbered_id (sym (c.loop-i.invariant names same ∙ now))

pub loop-i-preserved : goal.loop-i-preserved
loop-i-preserved c names same =
    let id = c.as_str.ensures.value ∙ c.in_ok-id.ensures in
    let taken : contains_text c.args.taken.now (numbered_id (c.loop-i.i + 1)) ≡ true = rw id at (sym c.contains.ensures ∙ c.if-not-contains.false) in
    let later = free_later (c.args.steps - c.loop-i.i) (c.loop-i.i + 1) names (omega (arith, c.loop-i-test.true)) (sym (same (numbered_id (c.loop-i.i + 1))) ∙ taken) in
    c.loop-i.invariant names same ∙ later ∙ ap (λ n. free_from n (c.loop-i.i + 1 + 1) names) (omega (arith, c.loop-i-test.true))
