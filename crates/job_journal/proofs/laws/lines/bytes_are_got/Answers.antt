use Rattle.job_journal.proofs.Bytes.{got_more, got_elsewhere, no_bytes}
use Rattle.job_journal.proofs.laws.lines.bytes_are_got.Goals as goal

pub returns : goal.returns
returns c = record {
  own = got_more;
  elsewhere = got_elsewhere;
  none = no_bytes;
}
