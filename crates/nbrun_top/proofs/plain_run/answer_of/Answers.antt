use Rattle.std.proofs.Common.{◌≡◌, ◌⊎◌, subst, sym}
use Rattle.world.proofs.MomentsLemmas.{told_start, told_as}
use Rattle.nbrun_top.specs.declared.end.End.TheVariants as end
use Rattle.nbrun_top.specs.Asked.{IsJob, IsPlainOf}
use Rattle.nbrun_top.specs.Lines.{all_lines}
use Rattle.nbrun_top.specs.Ran.{job}
use Rattle.nbrun_top.specs.Said.{input_of, output_of}
use Rattle.nbrun_top.proofs.Runs.{usage_at}
use Rattle.nbrun_top.proofs.plain_run.answer_of.Goals as goal

pub returns-in-Prepare-clause-ran : goal.returns-in-Prepare-clause-ran
returns-in-Prepare-clause-ran g c words is =
    let asks : IsJob words c.in-Prepare.ask = subst (λ p. IsPlainOf words p) c.in-Prepare.is is in
    told_as c.prepare.ensures.entries (λ x y prepares. job c.in-Prepare.ask c.prepare.result.end y asks prepares)

pub returns-in-Prepare-clause-text : goal.returns-in-Prepare-clause-text
returns-in-Prepare-clause-text g c words is =
    let asks : IsJob words c.in-Prepare.ask = subst (λ p. IsPlainOf words p) c.in-Prepare.is is in
    subst (λ k. (c.prepare.result.end ≡ end.NoMemory) ⊎ (c.prepare.result.text ≡ all_lines (input_of k) (output_of k) c.prepare.result.end)) (sym asks.asks) c.prepare.ensures.text

pub returns-in-Refused-clause-ran : goal.returns-in-Refused-clause-ran
returns-in-Refused-clause-ran g c words is =
    told_start (usage_at words c.in-Refused.usage c.refusal.result.end c.refusal.ensures.end c.refusal.ensures.memory
    (subst (λ p. IsPlainOf words p) c.in-Refused.is is))
