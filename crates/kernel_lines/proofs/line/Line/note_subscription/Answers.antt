use Rattle.std.proofs.Common.{refl, ap, ◌∙◌}
use Rattle.kernel_lines.specs.Ends.{end_with}
use Rattle.kernel_lines.proofs.line.Line.note_subscription.Goals as goal

pub returns : goal.returns
returns c =
    let l = c.args.self.now in
    record {
      same = refl;
      end = λ b sent s. c.end_after-self.ensures ∙ ap (λ x. end_with l.subscription_end l.due x) (c.subscription-subscription.ensures.is b sent s);
    }
