use Rattle.std.proofs.Common.{ℕ, List, ◌∷◌}
use Rattle.std.specs.Result.{OnOk}
use Rattle.world.specs.declared.chan.Chan.TheVariants as channel
use Rattle.kernel_lines.specs.Happened.{History, Came}
use Rattle.kernel_lines.specs.Line.{StandsFor}
use Rattle.kernel_lines.proofs.ChannelLemmas.{on_channel}
use Rattle.kernel_lines.proofs.lines.Lines.feed.Goals as goal

pub returns-in-Shell-clause-stands : goal.returns-in-Shell-clause-stands
returns-in-Shell-clause-stands c = on_channel c.args.self.now (record c.args.self.now { shell = c.feed.new.self }) c.args.chan channel.Shell (λ o n. OnOk c.feed.result ((h : History) (out : List ℕ) → StandsFor o h out → StandsFor n (Came c.args.piece.now ∷ h) out)) c.in-Shell.is c.feed.ensures.stands

pub returns-in-Control-clause-stands : goal.returns-in-Control-clause-stands
returns-in-Control-clause-stands c = on_channel c.args.self.now (record c.args.self.now { control = c.feed-in-Control.new.self }) c.args.chan channel.Control (λ o n. OnOk c.feed-in-Control.result ((h : History) (out : List ℕ) → StandsFor o h out → StandsFor n (Came c.args.piece.now ∷ h) out)) c.in-Control.is c.feed-in-Control.ensures.stands

pub returns-in-Iopub-clause-stands : goal.returns-in-Iopub-clause-stands
returns-in-Iopub-clause-stands c = on_channel c.args.self.now (record c.args.self.now { iopub = c.feed-in-Iopub.new.self }) c.args.chan channel.Iopub (λ o n. OnOk c.feed-in-Iopub.result ((h : History) (out : List ℕ) → StandsFor o h out → StandsFor n (Came c.args.piece.now ∷ h) out)) c.in-Iopub.is c.feed-in-Iopub.ensures.stands

pub returns-in-Heart-clause-stands : goal.returns-in-Heart-clause-stands
returns-in-Heart-clause-stands c = on_channel c.args.self.now (record c.args.self.now { heart = c.feed-in-Heart.new.self }) c.args.chan channel.Heart (λ o n. OnOk c.feed-in-Heart.result ((h : History) (out : List ℕ) → StandsFor o h out → StandsFor n (Came c.args.piece.now ∷ h) out)) c.in-Heart.is c.feed-in-Heart.ensures.stands
