use Rattle.ready_loop.proofs.ReadAllLemmas.{reads_all}
use Rattle.ready_loop.proofs.laws.served_connections_were_read.Goals as goal

pub returns : goal.returns
returns c = reads_all
