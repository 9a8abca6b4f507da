use Rattle.std.proofs.Common.{◌≡◌, ◌<◌, sym, ap, subst, arith}
use Rattle.words.specs.Asked.{command_of_words}
use Rattle.world.proofs.MomentsLemmas.{told_then, told_as}
use Rattle.world.specs.Counts.{Counts}
use Rattle.world.specs.Moments.{Told}
use Rattle.said_lines.specs.Speech.{heard}
use Rattle.nbrun_top.specs.Said.{input_of, output_of}
use Rattle.nbrun_top.proofs.Heard.{ran_silent}
use Rattle.nbrun_top.proofs.Runs.{said_text, ended_at}
use Rattle.nbrun_top.proofs.CodeLemmas.{plain_status}
use Rattle.nbrun_top.proofs.plain_run.run_plain.Goals as goal

pub returns-clause-causes : goal.returns-clause-causes
returns-clause-causes g c words is =
    let a = c.answer_of-answer in
    told_then (a.ensures.ran words is) c.say.ensures.tells (λ x y z ran says.
    ended_at words a.result.end c.lines.result.now c.code-code.result c.unless_not_said.result c.say_faults-faults.result (g.W.Journal.counts c.args.w.now).say (g.W.Journal.counts c.say.new.w).say
    (said_text (input_of (command_of_words words)) (output_of (command_of_words words)) a.result.end a.result.text c.lines.result.now (a.ensures.text words is) c.lines.ensures.memory c.lines.ensures.text)
    c.code-code.ensures c.say_faults-faults.ensures.is c.unless_not_said.ensures.answers x y z ran says)

pub returns-clause-silent : goal.returns-clause-silent
returns-clause-silent g c words is some =
    let a = c.answer_of-answer in
    let same = c.say.ensures.silent (subst (λ n. 0 < n) (sym (ap (λ k. Counts.say k) a.ensures.counts.others)) some) in
    subst (λ j. Told (g.W.Journal.journal c.args.w.now) j (λ before after. heard after ≡ heard before)) (sym same)
    (told_as (a.ensures.ran words is) (λ x y ran. ran_silent words a.result.end x y ran))

pub returns-clause-kind : goal.returns-clause-kind
returns-clause-kind g c = plain_status c.answer_of-answer.result.end _ c.code-code.result c.unless_not_said.result c.code-code.ensures c.unless_not_said.ensures.answers

pub returns-clause-waits : goal.returns-clause-waits
returns-clause-waits g c = omega (arith, ap (λ k. Counts.waits k) c.answer_of-answer.ensures.counts.others, ap (λ k. Counts.waits k) c.say.ensures.counts.others)
