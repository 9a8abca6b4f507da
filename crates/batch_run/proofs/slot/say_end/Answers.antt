use Rattle.std.proofs.Common.{ap, subst}
use Rattle.std.specs.Prelude.{IfSome}
use Rattle.said_lines.specs.Between.{SayFailed}
use Rattle.batch_run.specs.Stands.{EndsSaying}
use Rattle.batch_run.proofs.SlotLemmas.{told_saying}
use Rattle.world.specs.Counts.{Counts}
use Rattle.world.proofs.CountsLemmas.{say_grows}
use Rattle.batch_run.proofs.StandLemmas.{saying_keeps}
use Rattle.batch_run.proofs.slot.say_end.Goals as goal

pub returns-clause-keeps : goal.returns-clause-keeps
returns-clause-keeps g c = saying_keeps c.args.answer.now c.bytes.ensures c.say.ensures.tells c.say.ensures.silent (record { grow = say_grows c.say.ensures.counts; waits = ap (λ (n : Counts). n.waits) c.say.ensures.counts.others })

pub returns-clause-said : goal.returns-clause-said
returns-clause-said g c =
    let p = g.W.Journal.journal c.args.w.now in
    let q = g.W.Journal.journal c.say.new.w in
    subst (λ line. IfSome q (EndsSaying line (SayFailed g.W.Journal.counts c.say.new.w))) c.bytes.ensures (told_saying p q c.say.ensures.tells)
