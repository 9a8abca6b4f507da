use Rattle.std.proofs.Common.{◌++◌, ◌∙◌, ap, sym, replicate}
use Rattle.jtext.proofs.Indented.{indented-Str}
use Rattle.nb_text.specs.Lines.{named_line}
use Rattle.nb_text.proofs.Texts.{line_done}
use Rattle.nb_text.proofs.lines.put_text_pair.Goals as goal

pub returns : goal.returns
returns c =
    let m = replicate c.args.level 32 in
    line_done m c.args.out.now _ _ c.args.key.now _ c.in_ok-put_name.ensures c.in_ok-put_string.ensures
    ∙ ap (λ v. c.args.out.now ++ named_line m c.args.key.now v) (sym (indented-Str c.args.value.now m))
