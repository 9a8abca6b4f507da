use Rattle.std.proofs.Common.{◌≡◌, take}
use Rattle.job_journal.specs.Talk.{heard_on_shell}
use Rattle.job_run.specs.Heard.{arrivals_of}
use Rattle.job_run.proofs.execution.Execution.note_replies.Given as goal

abbrev pub invariant-loop-message : goal.invariant-loop-message
invariant-loop-message l =
    l.self ≡ record l.fn.self { asking = heard_on_shell l.fn.self.asking (arrivals_of (take l.message-index l.messages)) }
