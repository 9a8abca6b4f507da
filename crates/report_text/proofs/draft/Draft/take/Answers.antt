use Rattle.report_text.specs.declared.place.Place.TheVariants as place
use Rattle.report_text.proofs.Taken.{entered, begun, between_empty, between_other, is_some_row, is_empty_row}
use Rattle.report_text.proofs.draft.Draft.take.Goals as goal

pub returns-in-Between : goal.returns-in-Between
returns-in-Between c =
    let old = c.args.self.now in
    let row = c.args.row.now in
    entered old c.enter-in-Between.new.self row place.Gap c.is_empty.result c.enter-in-Between.result c.enter-in-Between.ensures.fits c.enter-in-Between.ensures.new
    (λ e. between_empty old row c.in-Between.is (is_empty_row row c.is_empty.result c.is_empty.ensures e))
    (λ e. between_other old row c.in-Between.is (is_some_row row c.is_empty.result c.is_empty.ensures e))

pub returns-in-Gap : goal.returns-in-Gap
returns-in-Gap c = begun c.args.self.now c.begin.new.self c.args.row.now c.begin.result c.in-Gap.is c.begin.ensures
