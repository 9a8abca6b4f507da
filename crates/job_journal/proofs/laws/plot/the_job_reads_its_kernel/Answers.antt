use Rattle.job_journal.proofs.Plots.{reads_shell, reads_iopub, reads_heart, codec_is, ids_are}
use Rattle.job_journal.proofs.laws.plot.the_job_reads_its_kernel.Goals as goal

pub returns : goal.returns
returns c = record {
  shell = reads_shell;
  iopub = reads_iopub;
  heart = reads_heart;
  codec = codec_is;
  ids = ids_are;
}
