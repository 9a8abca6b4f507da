use Rattle.std.proofs.Common.{◌∙◌}
use Rattle.std.specs.Option.{option_copied}
use Rattle.out_fold.proofs.StandLemmas.{last-cell, current-within, message-stands-for, message-rested, grown-stands-for}
use Rattle.out_fold.proofs.fold.Fold.take.Goals as goal

pub returns-in-Ok-clause-stands : goal.returns-in-Ok-clause-stands
returns-in-Ok-clause-stands c = λ us u s.
    let same = last-cell c.args.self.now.held us u c.current-cell.result c.current-cell.ensures s.held in
    message-stands-for c.args.self.now _ us u c.args.c.now (option_copied c.args.date) c.current-cell.result same
    (c.in-Ok.ensures.stands us u s.held) s (c.in-Ok.ensures.settled s.calls s.told)
    (current-within c.args.self.now.held c.current-cell.result c.current-cell.ensures) c.take_placed.ensures.shape.len
    (rw (← c.name_of-name.ensures) (c.in_ok-before.ensures.covers s.calls s.told))

pub returns-in-Ok-clause-rested : goal.returns-in-Ok-clause-rested
returns-in-Ok-clause-rested c = λ was us u s r.
    let same = last-cell c.args.self.now.held us u c.current-cell.result c.current-cell.ensures s.held in
    message-rested c.args.self.now c.touch_named.new.touched _ was us u c.args.c.now (option_copied c.args.date) c.current-cell.result same s
    (rw (← c.name_of-name.ensures) (c.in_ok-before.ensures.covers s.calls s.told))
    c.take_placed.ensures.shape.merge r

pub returns-in-Err-clause-still : goal.returns-in-Err-clause-still
returns-in-Err-clause-still c = λ us s.
    grown-stands-for c.args.self.now _ us c.current-cell.result (c.in-Err.ensures.still us s.held) s (c.in-Err.ensures.grown s.calls s.told)
    (current-within c.args.self.now.held c.current-cell.result c.current-cell.ensures) c.take_placed.ensures.shape.len
    (c.restore.ensures ∙ c.in_ok-before.ensures.before)
