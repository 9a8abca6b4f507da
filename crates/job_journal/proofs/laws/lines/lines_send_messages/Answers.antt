use Rattle.job_journal.proofs.Lines.{line_sends, line_skips, octets_are}
use Rattle.job_journal.proofs.laws.lines.lines_send_messages.Goals as goal

pub returns : goal.returns
returns c = record {
  sent = line_sends;
  others = line_skips;
  octets = octets_are;
}
