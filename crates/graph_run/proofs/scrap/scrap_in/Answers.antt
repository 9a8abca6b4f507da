use Rattle.std.proofs.Common.{◌∙◌, inr, sym, ap, option_map}
use Rattle.graph_run.proofs.TestLemmas.{has_scrap, lacks_scrap, scrap_fine}
use Rattle.graph_run.proofs.scrap.scrap_in.Goals as goal

pub returns-in-Some-clause-found : goal.returns-in-Some-clause-found
returns-in-Some-clause-found c =
    has_scrap c.args.bytes.now c.args.take.now.scrap c.as_str.result.now c.in_ok-notebook.notebook c.in_ok-scraps.field-0 c.in-Some.value.now c.in_ok-copy-in-Some.field-0
    c.in_ok-notebook.ensures.read c.in_ok-scraps.ensures c.as_str.ensures (sym (ap (option_map (λ r. r.now)) c.in-Some.is) ∙ c.field.ensures) c.in_ok-copy-in-Some.ensures

pub returns-in-Some-clause-parameter : goal.returns-in-Some-clause-parameter
returns-in-Some-clause-parameter c =
    scrap_fine c.args.bytes.now c.args.take.now.scrap c.in_ok-copy-in-Some.field-0
    (has_scrap c.args.bytes.now c.args.take.now.scrap c.as_str.result.now c.in_ok-notebook.notebook c.in_ok-scraps.field-0 c.in-Some.value.now c.in_ok-copy-in-Some.field-0
    c.in_ok-notebook.ensures.read c.in_ok-scraps.ensures c.as_str.ensures (sym (ap (option_map (λ r. r.now)) c.in-Some.is) ∙ c.field.ensures) c.in_ok-copy-in-Some.ensures)

pub returns-clause-refused : goal.returns-clause-refused
returns-clause-refused c =
    inr (
      c.in_ok-copy-in-None.ensures,
      c.in_ok-of-in-None.ensures ∙ c.name_of.ensures,
      lacks_scrap c.args.bytes.now c.args.take.now.scrap c.as_str.result.now c.in_ok-notebook.notebook c.in_ok-scraps.field-0
          c.in_ok-notebook.ensures.read c.in_ok-scraps.ensures c.as_str.ensures (sym (ap (option_map (λ r. r.now)) c.in-None.is) ∙ c.field.ensures),
    )
