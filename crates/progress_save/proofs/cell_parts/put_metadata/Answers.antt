use Rattle.std.proofs.Common.{◌∙◌, sym, ap, set}
use Rattle.std.proofs.lemmas.Option.{same_Some}
use Rattle.nb_model.specs.declared.cell.Cell.{Cell}
use Rattle.progress_save.proofs.PutLemmas.{put_back}
use Rattle.progress_save.proofs.cell_parts.put_metadata.Goals as goal

pub returns-clause-cell : goal.returns-clause-cell
returns-clause-cell c old at =
    put_back _ _ _ _ _ _ c.put-cell.ensures.new c.put.ensures.new
    ∙ ap (λ (k : Cell). set c.args.cells.now c.args.i (record k { metadata = c.args.metadata })) (same_Some _ _ (sym c.put-cell.ensures.old ∙ at))
