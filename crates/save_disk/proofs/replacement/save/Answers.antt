use Rattle.world.proofs.MomentsLemmas.{told_as}
use Rattle.save_disk.proofs.Laws.{end_of, moments_of, others_of_save, part_of_save}
use Rattle.save_disk.proofs.replacement.save.Goals as goal

pub returns-clause-end : goal.returns-clause-end
returns-clause-end g c = told_as c.replace.ensures.entries (λ before. end_of c.args.path.now c.args.text.now before c.replace.result)

pub returns-clause-any_moment : goal.returns-clause-any_moment
returns-clause-any_moment g c = told_as c.replace.ensures.entries (λ before. moments_of c.args.path.now c.args.text.now before c.replace.result)

pub returns-clause-others : goal.returns-clause-others
returns-clause-others g c q not_out not_tmp =
    told_as c.replace.ensures.entries (λ before. others_of_save c.args.path.now c.args.text.now q not_out not_tmp before c.replace.result)

pub returns-clause-part : goal.returns-clause-part
returns-clause-part g c = told_as c.replace.ensures.entries (λ before. part_of_save c.args.path.now c.args.text.now before c.replace.result)
