use Rattle.std.proofs.Common.{[], ◌∙◌, ◌++◌, ap, map, string_bytes}
use Rattle.nb_model.specs.Planned.{code}
use Rattle.report_text.specs.Rows.{rows, ended, text_of_rows}
use Rattle.report_text.specs.Script.{marker, row_front}
use Rattle.report_text.proofs.Grown.{three}
use Rattle.report_text.proofs.writing.put_cell.Goals as goal

pub returns : goal.returns
returns c =
    let cell = c.args.cell.now in
    three (string_bytes c.args.out.now) (ended []) (ended (marker cell.kind)) (text_of_rows (map (λ row. row_front cell.kind ++ row) (rows (code cell))))
    (string_bytes c.put_row.new.out) (string_bytes c.put_row-2.new.out) (string_bytes c.put_rows.new.out)
    c.in_ok-put_row.ensures (c.in_ok-put_row-2.ensures ∙ ap (λ r. string_bytes c.put_row.new.out ++ ended r) c.marker.ensures)
    (c.in_ok-put_rows.ensures
    ∙ ap (λ f. string_bytes c.put_row-2.new.out ++ text_of_rows (map (λ row. f ++ row) (rows c.as_str.result.now))) c.row_front.ensures
    ∙ ap (λ t. string_bytes c.put_row-2.new.out ++ text_of_rows (map (λ row. row_front cell.kind ++ row) (rows t))) (c.as_str.ensures ∙ c.in_ok-source.ensures))
