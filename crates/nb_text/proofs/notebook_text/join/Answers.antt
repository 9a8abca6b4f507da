use Rattle.std.proofs.Common.{◌++◌, ap, ◌∙◌}
use Rattle.nb_text.specs.Notebooks.{cells_line, notebook_text}
use Rattle.nb_text.proofs.Texts.{text_done, printed}
use Rattle.nb_text.proofs.notebook_text.join.Goals as goal

pub returns-clause-joined : goal.returns-clause-joined
returns-clause-joined c =
    text_done c.args.n.now.metadata c.args.texts.now _ _ _ _ c.new-out.ensures c.in_ok-add.ensures.ok
    (c.in_ok-put_texts.ensures ∙ ap (λ ts. c.add.new.self ++ cells_line ts) c.as_slice.ensures) c.in_ok-put_rest.ensures

pub returns-clause-text : goal.returns-clause-text
returns-clause-text c is =
    returns-clause-joined c ∙ ap (notebook_text c.args.n.now.metadata) is ∙ printed c.args.n.now
