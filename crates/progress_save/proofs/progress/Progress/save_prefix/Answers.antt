use Rattle.world.proofs.MomentsLemmas.{told_as}
use Rattle.nb_text.specs.Notebooks.{text_of}
use Rattle.progress_save.proofs.SavedLemmas.{ended, moments, parts, others}
use Rattle.progress_save.proofs.SafeLemmas.{stays_safe}
use Rattle.progress_save.proofs.progress.Progress.save_prefix.Goals as goal

pub returns-clause-end : goal.returns-clause-end
returns-clause-end g c = told_as c.replace.ensures.entries (λ x. ended c.args.self.now.output (text_of c.args.n.now) _ _ x c.replace.result)

pub returns-clause-any_moment : goal.returns-clause-any_moment
returns-clause-any_moment g c = told_as c.replace.ensures.entries (λ x. moments c.args.self.now.output (text_of c.args.n.now) _ _ x c.replace.result)

pub returns-clause-safe : goal.returns-clause-safe
returns-clause-safe g c texts = told_as c.replace.ensures.entries (λ x y s safe next. stays_safe c.args.self.now.output texts (text_of c.args.n.now) x safe next _ _ c.replace.result y s)

pub returns-clause-others : goal.returns-clause-others
returns-clause-others g c q not_out not_tmp = told_as c.replace.ensures.entries (λ x. others c.args.self.now.output (text_of c.args.n.now) _ _ q not_out not_tmp x c.replace.result)

pub returns-clause-part : goal.returns-clause-part
returns-clause-part g c = told_as c.replace.ensures.entries (λ x. parts c.args.self.now.output (text_of c.args.n.now) _ _ x c.replace.result)
