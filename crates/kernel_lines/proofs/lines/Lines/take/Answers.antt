use Rattle.std.proofs.Common.{ℕ, List, ◌++◌}
use Rattle.world.specs.declared.chan.Chan.TheVariants as channel
use Rattle.kernel_lines.specs.Happened.{History}
use Rattle.kernel_lines.specs.Line.{StandsFor, queue_of}
use Rattle.kernel_lines.proofs.ChannelLemmas.{on_channel}
use Rattle.kernel_lines.proofs.lines.Lines.take.Goals as goal

pub returns-in-Shell-clause-stands : goal.returns-in-Shell-clause-stands
returns-in-Shell-clause-stands c = on_channel c.args.self.now (record c.args.self.now { shell = c.take.new.self }) c.args.chan channel.Shell (λ o n. (h : History) (out : List ℕ) → StandsFor o h out → StandsFor n h (out ++ queue_of o)) c.in-Shell.is c.take.ensures.stands

pub returns-in-Control-clause-stands : goal.returns-in-Control-clause-stands
returns-in-Control-clause-stands c = on_channel c.args.self.now (record c.args.self.now { control = c.take-in-Control.new.self }) c.args.chan channel.Control (λ o n. (h : History) (out : List ℕ) → StandsFor o h out → StandsFor n h (out ++ queue_of o)) c.in-Control.is c.take-in-Control.ensures.stands

pub returns-in-Iopub-clause-stands : goal.returns-in-Iopub-clause-stands
returns-in-Iopub-clause-stands c = on_channel c.args.self.now (record c.args.self.now { iopub = c.take-in-Iopub.new.self }) c.args.chan channel.Iopub (λ o n. (h : History) (out : List ℕ) → StandsFor o h out → StandsFor n h (out ++ queue_of o)) c.in-Iopub.is c.take-in-Iopub.ensures.stands

pub returns-in-Heart-clause-stands : goal.returns-in-Heart-clause-stands
returns-in-Heart-clause-stands c = on_channel c.args.self.now (record c.args.self.now { heart = c.take-in-Heart.new.self }) c.args.chan channel.Heart (λ o n. (h : History) (out : List ℕ) → StandsFor o h out → StandsFor n h (out ++ queue_of o)) c.in-Heart.is c.take-in-Heart.ensures.stands
