use Rattle.std.proofs.Common.{sym, subst, ap, ◌++◌, ◌∙◌, codes}
use Rattle.report_text.specs.declared.place.Place.TheVariants as place
use Rattle.report_text.specs.declared.draft.Draft.{Draft}
use Rattle.report_text.specs.Drafts.{Takes}
use Rattle.report_text.proofs.Taken.{prose_row, prose_end, prose_other, is_some_row, is_empty_row}
use Rattle.report_text.proofs.draft.Draft.take_prose.Goals as goal

pub returns-in-Some : goal.returns-in-Some
returns-in-Some c =
    let found = c.in-Some.ensures.cases in
    subst (Takes c.args.self.now c.args.row.now) (sym c.in_ok-add_row.ensures)
    (prose_row c.args.self.now c.args.row.now c.in-Some.own.now c.args.kind c.requires.prose c.requires.place (found.1.1 ∙ ap (λ r. codes "# " ++ r) (sym found.2)))

pub returns-then-not-is_empty : goal.returns-then-not-is_empty
returns-then-not-is_empty c =
    prose_other c.args.self.now c.args.row.now c.args.kind c.requires.prose c.requires.place (is_some_row c.args.row.now c.is_empty.result c.is_empty.ensures (cc))
    c.in_default.ensures.cases

pub returns : goal.returns
returns c =
    subst (Takes c.args.self.now c.args.row.now) (sym (ap (λ (d : Draft). record d { place = place.Gap }) c.in_ok-close.ensures))
    (prose_end c.args.self.now c.args.row.now c.args.kind c.requires.prose c.requires.place (is_empty_row c.args.row.now c.is_empty.result c.is_empty.ensures (cc)))
