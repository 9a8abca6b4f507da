use Rattle.std.proofs.Common.{◌≡◌, ◌<◌, sym, ap, subst}
use Rattle.world.proofs.MomentsLemmas.{told_then, told_as}
use Rattle.world.specs.Counts.{Counts}
use Rattle.world.specs.Moments.{Told}
use Rattle.said_lines.specs.Speech.{heard}
use Rattle.report_run.specs.Ended.{input_of, output_of}
use Rattle.report_run.specs.Words.{texts}
use Rattle.report_run.proofs.Heard.{ran_silent}
use Rattle.report_run.proofs.Runs.{said_text, ended_at}
use Rattle.report_run.proofs.command.status.Goals as goal

pub returns-clause-causes : goal.returns-clause-causes
returns-clause-causes g c =
    let a = c.answer_of-answer in
    let words = texts c.args.words.now in
    told_then a.ensures.ran c.say.ensures.tells (λ x y z ran says.
    ended_at words a.result.end c.line.result.now c.code-code.result c.unless_not_said.result c.say_faults-faults.result (g.W.Journal.counts c.args.w.now).say (g.W.Journal.counts c.say.new.w).say
    (said_text (input_of words) (output_of words) a.result.end a.result.text c.line.result.now a.ensures.text c.line.ensures.memory c.line.ensures.text)
    c.code-code.ensures c.say_faults-faults.ensures.is c.unless_not_said.ensures.answers x y z ran says)

pub returns-clause-silent : goal.returns-clause-silent
returns-clause-silent g c some =
    let a = c.answer_of-answer in
    let same = c.say.ensures.silent (subst (λ n. 0 < n) (sym (ap (λ k. Counts.say k) a.ensures.counts.others)) some) in
    subst (λ j. Told (g.W.Journal.journal c.args.w.now) j (λ before after. heard after ≡ heard before)) (sym same)
    (told_as a.ensures.ran (λ x y ran. ran_silent (texts c.args.words.now) a.result.end x y ran))
