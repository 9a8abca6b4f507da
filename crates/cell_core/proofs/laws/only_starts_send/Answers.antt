use Rattle.cell_core.proofs.Answering.{sent_at_start}
use Rattle.cell_core.proofs.laws.only_starts_send.Goals as goal

pub returns : goal.returns
returns c = λ task event past cell h. sent_at_start task event past cell h
