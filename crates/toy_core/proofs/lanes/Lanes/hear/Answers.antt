use Rattle.std.proofs.Common.{refl}
use Rattle.toy_core.proofs.Keeping.{keeps_boxes}
use Rattle.toy_core.proofs.lanes.Lanes.hear.Goals as goal

pub returns-in-Shell-clause-keeps : goal.returns-in-Shell-clause-keeps
returns-in-Shell-clause-keeps c = keeps_boxes _ _ c.hear.ensures.outbox refl refl refl

pub returns-in-Control-clause-keeps : goal.returns-in-Control-clause-keeps
returns-in-Control-clause-keeps c = keeps_boxes _ _ refl c.hear-in-Control.ensures.outbox refl refl

pub returns-in-Iopub-clause-keeps : goal.returns-in-Iopub-clause-keeps
returns-in-Iopub-clause-keeps c = keeps_boxes _ _ refl refl c.hear-in-Iopub.ensures.outbox refl

pub returns-in-Heart-clause-keeps : goal.returns-in-Heart-clause-keeps
returns-in-Heart-clause-keeps c = keeps_boxes _ _ refl refl refl c.hear-in-Heart.ensures.outbox
