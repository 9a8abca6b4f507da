use Rattle.std.proofs.Common.{[]}
use Rattle.kernel_lines.specs.Line.{StandsFor}
use Rattle.kernel_lines.proofs.ChannelLemmas.{on_every_channel}
use Rattle.kernel_lines.proofs.lines.Lines.new.Goals as goal

pub returns-clause-stands : goal.returns-clause-stands
returns-clause-stands c = on_every_channel (λ l. StandsFor l [] [])
    (record { shell = c.in_ok-new.field-0; control = c.in_ok-new-2.field-0; iopub = c.in_ok-new-3.field-0; heart = c.in_ok-new-4.field-0 })
    c.in_ok-new.ensures.stands c.in_ok-new-2.ensures.stands c.in_ok-new-3.ensures.stands c.in_ok-new-4.ensures.stands
