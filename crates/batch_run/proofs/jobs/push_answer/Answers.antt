use Rattle.batch_run.proofs.SlotLemmas.{waiting_none_more, running_none_more}
use Rattle.batch_run.proofs.jobs.push_answer.Goals as goal

pub returns-in-Waiting : goal.returns-in-Waiting
returns-in-Waiting c = waiting_none_more c.args.answers.now c.args.slot c.in-Waiting.is

pub returns-in-Running : goal.returns-in-Running
returns-in-Running c = running_none_more c.args.answers.now c.args.slot c.in-Running.job c.in-Running.is
