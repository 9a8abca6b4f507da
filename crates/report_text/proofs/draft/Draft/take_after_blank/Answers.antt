use Rattle.std.proofs.Common.{sym, subst, ap, ◌∙◌}
use Rattle.nb_model.specs.declared.kind.Kind.TheVariants as kind
use Rattle.report_text.specs.declared.place.Place.{Place}
use Rattle.report_text.specs.declared.place.Place.TheVariants as place
use Rattle.report_text.specs.declared.draft.Draft.{Draft}
use Rattle.report_text.specs.Drafts.{Takes, with_row, closed}
use Rattle.report_text.proofs.Taken.{blank_marker, blank_empty, blank_row, is_some_row, is_empty_row}
use Rattle.report_text.proofs.draft.Draft.take_after_blank.Goals as goal

pub returns-in-Some : goal.returns-in-Some
returns-in-Some c =
    subst (Takes c.args.self.now c.args.row.now)
    (sym (ap (λ (d : Draft). record d { place = c.source_place-self.result }) c.in_ok-close.ensures
    ∙ ap (λ (p : Place). record (closed kind.Code c.args.self.now) { place = p }) c.source_place-self.ensures))
    (blank_marker c.args.self.now c.args.row.now c.in-Some.kind c.requires c.in-Some.ensures.some)

pub returns-in_ok-add_row-2 : goal.returns-in_ok-add_row-2
returns-in_ok-add_row-2 c =
    subst (Takes c.args.self.now c.args.row.now)
    (sym (ap (λ (d : Draft). record d { place = place.Code }) (c.in_ok-add_row-2.ensures ∙ ap (with_row c.args.row.now) c.in_ok-add_row.ensures)))
    (blank_row c.args.self.now c.args.row.now c.requires (is_some_row c.args.row.now c.is_empty.result c.is_empty.ensures (cc)) c.in_default.ensures.none)

pub returns-else-not-is_empty : goal.returns-else-not-is_empty
returns-else-not-is_empty c =
    subst (Takes c.args.self.now c.args.row.now) (sym c.in_ok-add_row.ensures)
    (blank_empty c.args.self.now c.args.row.now c.requires (is_empty_row c.args.row.now c.is_empty.result c.is_empty.ensures (cc)))
