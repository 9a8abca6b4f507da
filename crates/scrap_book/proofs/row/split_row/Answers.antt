use Rattle.std.proofs.Common.{arith, length, sym, ◌∙◌}
use Rattle.std.proofs.lemmas.Bool.{eqb-false}
use Rattle.scrap_book.proofs.RowLemmas.{rows-split, rows-one}
use Rattle.scrap_book.proofs.row.split_row.Goals as goal

pub returns-in-Some-clause-first : goal.returns-in-Some-clause-first
returns-in-Some-clause-first c =
    let byte = c.in-Some.ensures.byte (omega arith) (λ w o found. found) in
    rows-split c.args.text.now c.in-Some.row.now c.in-Some.rest.now byte.2 byte.0 byte.1

pub returns-in-None-clause-first : goal.returns-in-None-clause-first
returns-in-None-clause-first c =
    rows-one c.args.text.now (omega (arith, eqb-false (length c.args.text.now) 0 (sym c.is_empty.ensures ∙ c.if-is_empty.false))) (c.in-None.ensures.byte (omega arith) (λ w o found. found))
