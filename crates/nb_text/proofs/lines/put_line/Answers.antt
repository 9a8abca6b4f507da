use Rattle.std.proofs.Common.{replicate}
use Rattle.nb_text.proofs.Texts.{line_done}
use Rattle.nb_text.proofs.lines.put_line.Goals as goal

pub returns : goal.returns
returns c = line_done (replicate c.args.level 32) c.args.out.now _ _ c.args.key.now _ c.in_ok-put_name.ensures c.in_ok-add.ensures.ok
