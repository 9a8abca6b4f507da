use Rattle.std.proofs.Common.{◌∷◌, Some, sym, ap, ◌∙◌}
use Rattle.std.specs.BTreeSet.{contains_text}
use Rattle.nb_model.proofs.IdLemmas.{taken, free, more}
use Rattle.nb_model.proofs.accept.repeated_id.Goals as goal

pub returns-then-not-branch : goal.returns-then-not-branch
returns-then-not-branch c =
    let held = c.loop-first.invariant in
    ap Some c.in_ok-of.ensures
    ∙ taken held.0 (contains_text c.loop-first.seen) c.loop-first.rest.now c.in-Some.others.now c.in-Some.first.now c.args.cells.now c.id_of-id.result.now held.1.0 held.1.1 c.in-Some.ensures.cases.0 c.id_of-id.ensures
    (sym c.if-not-branch.true ∙ c.in_ok-add.ensures.added)

pub loop-first-preserved : goal.loop-first-preserved
loop-first-preserved c =
    let held = c.loop-first.invariant in
    let id = c.id_of-id.result.now in (
      id ∷ held.0,
      (
        more held.0 (contains_text c.loop-first.seen) (contains_text c.add.new.seen) id held.1.0 c.in_ok-add.ensures.seen,
        free held.0 (contains_text c.loop-first.seen) c.loop-first.rest.now c.in-Some.others.now c.in-Some.first.now c.args.cells.now id held.1.0 held.1.1 c.in-Some.ensures.cases.0 c.id_of-id.ensures
            (sym c.if-not-branch.false ∙ c.in_ok-add.ensures.added),
      ),
    )
