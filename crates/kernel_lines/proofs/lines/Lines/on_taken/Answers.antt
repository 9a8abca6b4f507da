use Rattle.std.proofs.Common.{ℕ, List}
use Rattle.world.specs.declared.chan.Chan.TheVariants as channel
use Rattle.kernel_lines.specs.Happened.{History}
use Rattle.kernel_lines.specs.Line.{StandsFor}
use Rattle.kernel_lines.proofs.ChannelLemmas.{on_channel}
use Rattle.kernel_lines.proofs.lines.Lines.on_taken.Goals as goal

pub returns-in-Shell-clause-stands : goal.returns-in-Shell-clause-stands
returns-in-Shell-clause-stands c = on_channel c.args.self.now (record c.args.self.now { shell = c.on_taken.new.self }) c.args.chan channel.Shell (λ o n. (h : History) (out : List ℕ) → StandsFor o h out → StandsFor n h out) c.in-Shell.is c.on_taken.ensures.stands

pub returns-in-Control-clause-stands : goal.returns-in-Control-clause-stands
returns-in-Control-clause-stands c = on_channel c.args.self.now (record c.args.self.now { control = c.on_taken-in-Control.new.self }) c.args.chan channel.Control (λ o n. (h : History) (out : List ℕ) → StandsFor o h out → StandsFor n h out) c.in-Control.is c.on_taken-in-Control.ensures.stands

pub returns-in-Iopub-clause-stands : goal.returns-in-Iopub-clause-stands
returns-in-Iopub-clause-stands c = on_channel c.args.self.now (record c.args.self.now { iopub = c.on_taken-in-Iopub.new.self }) c.args.chan channel.Iopub (λ o n. (h : History) (out : List ℕ) → StandsFor o h out → StandsFor n h out) c.in-Iopub.is c.on_taken-in-Iopub.ensures.stands

pub returns-in-Heart-clause-stands : goal.returns-in-Heart-clause-stands
returns-in-Heart-clause-stands c = on_channel c.args.self.now (record c.args.self.now { heart = c.on_taken-in-Heart.new.self }) c.args.chan channel.Heart (λ o n. (h : History) (out : List ℕ) → StandsFor o h out → StandsFor n h out) c.in-Heart.is c.on_taken-in-Heart.ensures.stands
