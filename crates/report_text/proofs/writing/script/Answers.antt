use Rattle.std.proofs.Common.{◌∙◌, ◌++◌, ap, sym, subst}
use Rattle.std.specs.List.{flat_map}
use Rattle.std.specs.Str.{IsUtf8}
use Rattle.std.proofs.lemmas.Str.{IsUtf8-string_bytes}
use Rattle.report_text.specs.Rows.{ended}
use Rattle.report_text.specs.Script.{head_row, cell_text}
use Rattle.report_text.proofs.Grown.{script_made}
use Rattle.report_text.proofs.writing.script.Goals as goal

pub returns-clause-script : goal.returns-clause-script
returns-clause-script c =
    c.of_vec.ensures ∙ ap (λ v. v.items) c.into_bytes.ensures.value ∙ c.in_ok-put_cells.ensures
    ∙ ap (λ o. o ++ flat_map cell_text c.as_slice.result.now) (c.in_ok-put_row.ensures ∙ ap (λ o. o ++ ended head_row) c.new-out.ensures.bytes)
    ∙ ap (λ cells. ended head_row ++ flat_map cell_text cells) c.as_slice.ensures ∙ script_made c.args.n.now

pub returns-clause-utf8 : goal.returns-clause-utf8
returns-clause-utf8 c =
    subst IsUtf8 (sym (c.of_vec.ensures ∙ ap (λ v. v.items) c.into_bytes.ensures.value)) (IsUtf8-string_bytes c.put_cells.new.out)
