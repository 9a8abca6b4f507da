use Rattle.std.proofs.Common.{◌∙◌, ◌++◌, ap, length}
use Rattle.std.proofs.lemmas.List.{drop-replicate}
use Rattle.jsign.proofs.key_block.fill_block.Goals as goal

pub returns : goal.returns
returns c = c.put_front.ensures ∙ ap (λ t. c.args.bytes.now ++ t) (drop-replicate (length c.args.bytes.now) 64 0)
