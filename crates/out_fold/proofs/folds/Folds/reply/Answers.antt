use Rattle.std.proofs.Common.{refl, ap}
use Rattle.std.specs.Option.{option_copied}
use Rattle.out_fold.proofs.FoldLemmas.{reply-stands}
use Rattle.out_fold.proofs.folds.Folds.reply.Goals as goal

pub returns-clause-stands : goal.returns-clause-stands
returns-clause-stands c =
    reply-stands c.args.self.now _ (option_copied c.args.date) refl refl refl (ap (λ d. record c.args.self.now.current { reply = d }) c.in_ok-date.ensures)
