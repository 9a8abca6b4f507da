use Rattle.std.proofs.Common.{◌++◌, ◌∙◌, ap, sym, subst, arith, replicate}
use Rattle.std.specs.Str.{IsUtf8}
use Rattle.nb_model.specs.Tree.{cell_tree}
use Rattle.nb_text.specs.Cells.{cell_text}
use Rattle.nb_text.proofs.SoundTexts.{sound_utf8}
use Rattle.nb_text.proofs.cell_lines.cell_text.Goals as goal

pub text_of-requires : goal.text_of-requires
text_of-requires c =
    subst IsUtf8 (sym (c.in_ok-put_cell.ensures ∙ ap (λ o. o ++ cell_text c.args.c.now) c.new-out.ensures))
    (sound_utf8 (cell_tree c.args.c.now) c.sound_cell.ensures (replicate 2 32) (omega arith, (omega arith, tt)))
