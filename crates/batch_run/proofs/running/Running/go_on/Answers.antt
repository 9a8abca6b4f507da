use Rattle.std.proofs.Common.{refl, sym, ◌∙◌}
use Rattle.batch_run.proofs.LookLemmas.{none_found}
use Rattle.batch_run.proofs.running.Running.go_on.Goals as goal

pub returns-else-contains-clause-stands : goal.returns-else-contains-clause-stands
returns-else-contains-clause-stands g c = λ none_over taken.
    let none = sym c.contains.ensures.value ∙ c.if-contains.false in
    c.wait.ensures.stands none_over taken (none_found _ c.args.self.now.jobs.slots.items c.looks-looks.result refl c.args.self.now.jobs.few none c.looks-looks.ensures)
