use Rattle.std.proofs.Common.{◌∙◌, sym, []}
use Rattle.world.specs.declared.chan.Chan.TheVariants as chan
use Rattle.toy_core.proofs.Wanting.{hears_iopub}
use Rattle.toy_core.proofs.lane.hears.Goals as goal

pub returns-in-Iopub : goal.returns-in-Iopub
returns-in-Iopub c = rw c.in-Iopub.is (λ heard role stands.
    let whole = sym (c.is_broken.ensures chan.Iopub heard role stands) ∙ c.if-is_broken.false in
    hears_iopub _ heard whole (rw role at (c.wants.ensures.is heard [] stands)))
