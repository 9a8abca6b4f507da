use Rattle.std.proofs.Common.{◌≡◌, ◌∙◌, ◌-◌, ap, min, subst, sym, None, Some, Option, ℕ}
use Rattle.ready_loop.specs.Waits.{IsLeast}
use Rattle.ready_loop.proofs.WaitLemmas.{due_none, due_some}
use Rattle.ready_loop.proofs.timer.ms_to_due.Goals as goal

pub returns-in-None-clause-least : goal.returns-in-None-clause-least
returns-in-None-clause-least c = subst (λ (d : Option ℕ). IsLeast 0 d c.args.last (λ p. None) 500) (sym c.in-None.is) (due_none c.args.last)

pub returns-in-Some-clause-least : goal.returns-in-Some-clause-least
returns-in-Some-clause-least c =
    let ms : c.min.result ≡ min (c.in-Some.due - c.args.last) 500 = c.min.ensures ∙ ap (λ (n : ℕ). min n 500) c.saturating_sub.ensures in
    subst (λ (d : Option ℕ). IsLeast 0 d c.args.last (λ p. None) c.min.result) (sym c.in-Some.is)
    (subst (λ (n : ℕ). IsLeast 0 (Some c.in-Some.due) c.args.last (λ p. None) n) (sym ms) (due_some c.in-Some.due c.args.last))
