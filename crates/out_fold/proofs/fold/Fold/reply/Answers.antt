use Rattle.std.proofs.Common.{refl, [], ◌∙◌}
use Rattle.std.specs.Option.{option_copied}
use Rattle.out_fold.proofs.StandLemmas.{last-cell, current-within, reply-stands-for, kept-stands-for, reply-rested}
use Rattle.out_fold.proofs.fold.Fold.reply.Goals as goal

pub returns-in-Ok-clause-stands : goal.returns-in-Ok-clause-stands
returns-in-Ok-clause-stands c = λ us u s.
    reply-stands-for c.args.self.now _ us u (option_copied c.args.date) (c.in-Ok.ensures.stands us u s.held) refl
    c.current-cell.result (current-within c.args.self.now.held c.current-cell.result c.current-cell.ensures) c.reply.ensures.shape.len
    c.in_ok-before.ensures.covers s

pub returns-in-Ok-clause-rested : goal.returns-in-Ok-clause-rested
returns-in-Ok-clause-rested c = λ was us u s r.
    let same = last-cell c.args.self.now.held us u c.current-cell.result c.current-cell.ensures s.held in
    reply-rested c.args.self.now c.touch.new.plan _ was us u (option_copied c.args.date) c.current-cell.result [] same
    c.in_ok-before.ensures.covers c.reply.ensures.shape.merge r

pub returns-in-Err-clause-still : goal.returns-in-Err-clause-still
returns-in-Err-clause-still c = λ us s.
    kept-stands-for c.args.self.now _ us (c.in-Err.ensures.still us s.held) refl c.reply.ensures.shape.len (c.restore.ensures ∙ c.in_ok-before.ensures.before) s
