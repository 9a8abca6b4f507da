use Rattle.std.proofs.Common.{inl, inr, ◌∙◌, ap}
use Rattle.std.specs.Prelude.{slice_get}
use Rattle.std.proofs.lemmas.Bool.{cases_eq}
use Rattle.progress_save.specs.State.{kept_text, Fits}
use Rattle.test_save.proofs.kept_texts.change.Goals as goal
use Rattle.jtext.proofs.Lists.{slice_get-set_other}

pub returns : goal.returns
returns c =
    let marked : Fits c.mark.new.self c.args.n.now.cells =
    c.kept_texts_fit.ensures.fewer c.args.progress.now c.mark.new.self c.args.n.now.cells
    (λ i. elim (cases_eq i 1) [ inl e ↦ inl (ap (kept_text c.mark.new.self) e ∙ c.mark.ensures.gone) | inr ne ↦ inr (c.mark.ensures.others i ne) ])
    c.requires.kept in
    c.kept_texts_fit.ensures.others c.mark.new.self c.args.n.now.cells c.put.new.self
    (λ i. elim (cases_eq i 1) [
      | inl e ↦ inl (ap (kept_text c.mark.new.self) e ∙ c.mark.ensures.gone)
      | inr ne ↦ inr (ap (λ l. slice_get l i) c.put.ensures.new ∙ slice_get-set_other c.args.n.now.cells 1 i _ ne)
    ])
    marked
