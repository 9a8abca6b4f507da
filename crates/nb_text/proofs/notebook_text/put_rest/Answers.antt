use Rattle.nb_text.proofs.Texts.{rest_done}
use Rattle.nb_text.proofs.notebook_text.put_rest.Goals as goal

pub returns : goal.returns
returns c =
    rest_done c.args.out.now _ _ _ _ _ _ _ c.args.metadata.now c.in_ok-add.ensures.ok c.in_ok-put_pair.ensures c.in_ok-add-2.ensures.ok c.in_ok-put_line.ensures
    c.in_ok-add-3.ensures.ok c.in_ok-put_line-2.ensures c.in_ok-add-4.ensures.ok
