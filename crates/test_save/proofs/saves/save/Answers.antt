use Rattle.test_save.proofs.StaysFit.{stays_fit}
use Rattle.test_save.proofs.saves.save.Goals as goal

pub returns : goal.returns
returns g c =
    stays_fit c.save_prefix.result c.args.n.now.cells c.args.progress.now c.save_prefix.new.self
    c.kept_texts_fit.ensures.saved c.kept_texts_fit.ensures.fewer c.save_prefix.ensures.kept c.requires
