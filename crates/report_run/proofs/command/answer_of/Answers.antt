use Rattle.world.proofs.MomentsLemmas.{told_start, told_as}
use Rattle.report_run.specs.Ran.{request}
use Rattle.report_run.specs.Words.{texts}
use Rattle.report_run.proofs.Runs.{usage_at, usage_of, refused_of, usage_spoken, spoken_at}
use Rattle.report_run.proofs.command.answer_of.Goals as goal

pub returns-in-Ok-clause-ran : goal.returns-in-Ok-clause-ran
returns-in-Ok-clause-ran g c = told_as c.carry_out.ensures.entries (λ x y makes. request c.in-Ok.request c.carry_out.result.end y c.in-Ok.ensures.asked makes)

pub returns-in-Ok-clause-text : goal.returns-in-Ok-clause-text
returns-in-Ok-clause-text g c = spoken_at (texts c.args.words.now) c.in-Ok.request c.carry_out.result.end c.carry_out.result.text c.in-Ok.ensures.asked c.carry_out.ensures.text

pub returns-in-Err-clause-ran : goal.returns-in-Err-clause-ran
returns-in-Err-clause-ran g c = told_start (usage_at (texts c.args.words.now) c.in-Err.usage c.refused.result.end c.refused.ensures.end c.refused.ensures.memory c.in-Err.ensures.refused)

pub returns-in-Err-clause-text : goal.returns-in-Err-clause-text
returns-in-Err-clause-text g c = usage_spoken (texts c.args.words.now) c.in-Err.usage c.refused.result.end c.refused.result.text c.refused.ensures.end c.refused.ensures.text

pub returns-in-Err-clause-usage : goal.returns-in-Err-clause-usage
returns-in-Err-clause-usage g c = usage_of (texts c.args.words.now) c.in-Err.usage c.refused.result.end c.refused.ensures.end c.refused.ensures.memory c.in-Err.ensures.refused

pub returns-in-Err-clause-refused : goal.returns-in-Err-clause-refused
returns-in-Err-clause-refused g c = refused_of (texts c.args.words.now) c.in-Err.usage c.refused.result.end c.refused.ensures.end c.refused.ensures.memory c.in-Err.ensures.refused
