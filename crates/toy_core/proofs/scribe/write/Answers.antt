use Rattle.toy_core.proofs.Numbering.{written_more, numbered_more}
use Rattle.toy_core.proofs.scribe.write.Goals as goal

pub loop-note-preserved : goal.loop-note-preserved
loop-note-preserved c = record {
  acts =
      written_more c.args.key.now c.args.parent.now c.args.number.now c.loop-note.number c.args.out.now c.loop-note.out _ c.loop-note.yielded c.in-Some.note
      c.loop-note.invariant.acts c.loop-note.invariant.number c.in_ok-write_one.ensures.act;
  number = numbered_more c.args.number.now c.loop-note.number _ c.loop-note.yielded c.in-Some.note c.loop-note.invariant.number c.in_ok-write_one.ensures.number;
}
