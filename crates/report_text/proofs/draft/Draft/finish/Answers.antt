use Rattle.std.proofs.Common.{[], sym, subst, ap, ◌∙◌}
use Rattle.nb_model.specs.declared.kind.Kind.TheVariants as kind
use Rattle.report_text.specs.declared.draft.Draft.{Draft}
use Rattle.report_text.specs.Drafts.{Makes}
use Rattle.report_text.proofs.Whole.{finish_between, finish_source, finish_blank, finish_gap}
use Rattle.report_text.proofs.draft.Draft.finish.Goals.{in-Between, in-Raw+in_ok-close-in-Raw, in-Markdown+in_ok-close-in-Markdown, in-Code+in_ok-close-in-Code, in-Blank+in_ok-close_after_blank-in-Blank}
use Rattle.report_text.proofs.draft.Draft.finish.Goals as goal

pub returns-in-Gap : goal.returns-in-Gap
returns-in-Gap c = finish_gap c.args.self c.in-Gap.is

pub returns : goal.returns
returns c =
    elim c.match-self.branch [
      | in-Between w ↦ subst (Makes c.args.self []) (sym (ap (λ (d : Draft). d.cells) w.self-is)) (finish_between c.args.self w.in-Between.is)
      | in-Raw+in_ok-close-in-Raw w ↦
          subst (Makes c.args.self []) (sym (ap (λ (d : Draft). d.cells) (w.self-is ∙ w.in_ok-close-in-Raw.ensures))) (finish_source c.args.self kind.Raw w.in-Raw.is)
      | in-Markdown+in_ok-close-in-Markdown w ↦
          subst (Makes c.args.self []) (sym (ap (λ (d : Draft). d.cells) (w.self-is ∙ w.in_ok-close-in-Markdown.ensures))) (finish_source c.args.self kind.Markdown w.in-Markdown.is)
      | in-Code+in_ok-close-in-Code w ↦
          subst (Makes c.args.self []) (sym (ap (λ (d : Draft). d.cells) (w.self-is ∙ w.in_ok-close-in-Code.ensures))) (finish_source c.args.self kind.Code w.in-Code.is)
      | in-Blank+in_ok-close_after_blank-in-Blank w ↦
          subst (Makes c.args.self []) (sym (ap (λ (d : Draft). d.cells) (w.self-is ∙ w.in_ok-close_after_blank-in-Blank.ensures))) (finish_blank c.args.self w.in-Blank.is)
    ]
