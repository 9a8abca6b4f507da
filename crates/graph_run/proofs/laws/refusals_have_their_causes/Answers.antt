use Rattle.graph_run.proofs.LawLemmas.{ran_failed, skipped_only, skipped_all}
use Rattle.graph_run.proofs.laws.refusals_have_their_causes.Goals as goal

pub returns : goal.returns
returns c = record { failed = ran_failed; skipped = skipped_only; only = skipped_all }
