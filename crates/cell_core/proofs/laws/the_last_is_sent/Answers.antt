use Rattle.std.proofs.Common.{refl}
use Rattle.cell_core.proofs.OverRuns.{sent_last}
use Rattle.cell_core.proofs.laws.the_last_is_sent.Goals as goal

pub returns : goal.returns
returns c = λ task event past cell h.
    let r = sent_last task event past cell h in
    record { request = r.0.request; comes = record { last = r.0; stands = r.1; request_is = refl; new = r.2 }; cell_is = r.3 }
