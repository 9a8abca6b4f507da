use Rattle.std.proofs.Common.{◌∙◌, ap, subst}
use Rattle.std.specs.Prelude.{List}
use Rattle.toy_core.specs.declared.act.Act.{Act}
use Rattle.toy_core.specs.Standing.{perform_all, number_notes, acts_for}
use Rattle.toy_core.specs.Toy.{AreLines}
use Rattle.toy_core.proofs.Keeping.{keeps_self, keeps_sent}
use Rattle.toy_core.proofs.machine.Machine.do_at_once.Goals as goal

pub returns-in-Ok-clause-stands : goal.returns-in-Ok-clause-stands
returns-in-Ok-clause-stands c = λ s a.
    let acts = c.as_slice.ensures ∙ c.in_ok-acts.ensures.acts ∙ ap (acts_for c.args.key.now c.args.parent.now c.args.notes) a.kernel in
    record {
      kernel = c.in_ok-acts.ensures.numbered ∙ ap (number_notes c.args.notes) a.kernel;
      lines = subst (λ (x : List Act). AreLines c.perform.new.self (perform_all x s.lines)) acts (c.in-Ok.ensures.lines s.lines a.lines);
    }

pub returns-in-Ok-clause-keeps : goal.returns-in-Ok-clause-keeps
returns-in-Ok-clause-keeps c = keeps_sent _ _ _ c.in-Ok.ensures.sends

pub returns-clause-keeps : goal.returns-clause-keeps
returns-clause-keeps c = keeps_sent _ _ _ c.in-Err.ensures.part

pub returns-in_err-acts-clause-keeps : goal.returns-in_err-acts-clause-keeps
returns-in_err-acts-clause-keeps c = keeps_self _
