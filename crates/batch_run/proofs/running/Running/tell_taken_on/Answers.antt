use Rattle.std.proofs.Common.{◌∙◌, refl}
use Rattle.batch_run.specs.Owed.{none}
use Rattle.batch_run.specs.Stands.{owing}
use Rattle.batch_run.proofs.running.Running.tell_taken_on.Goals as goal

pub returns-clause-stands : goal.returns-clause-stands
returns-clause-stands c = λ asks start from journal counts s. c.on_taken.ensures.stands asks start (owing none from) journal counts refl s

pub returns-clause-over : goal.returns-clause-over
returns-clause-over c = c.on_taken.ensures.over

pub returns-clause-others : goal.returns-clause-others
returns-clause-others c = c.on_taken.ensures.others

pub returns-clause-taken : goal.returns-clause-taken
returns-clause-taken c = λ j got h journal stands. (c.on_taken.ensures.taken j got).notes.taken ∙ c.taken-taken.ensures h journal stands
