use Rattle.world.specs.declared.chan.Chan.TheVariants as chan
use Rattle.job_journal.proofs.Pieces.{none_waits, silent_now, some_wait}
use Rattle.job_journal.proofs.Readying.{stays_silent}
use Rattle.job_journal.proofs.laws.pieces.pieces_begin.Goals as goal

pub returns : goal.returns
returns c = record {
  control = λ p number x ms entry past h. silent_now p number x chan.Control ms entry past h (stays_silent p number x chan.Control ms entry past h h.iopub h.shell) h.iopub h.shell;
  heart = λ p number x ms entry past h. silent_now p number x chan.Heart ms entry past h (stays_silent p number x chan.Heart ms entry past h h.iopub h.shell) h.iopub h.shell;
  none = none_waits;
  some = some_wait;
}
