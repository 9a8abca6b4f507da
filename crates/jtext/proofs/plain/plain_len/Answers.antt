use Rattle.std.proofs.Common.{sym, ap, ◌∙◌, arith}
use lib.Count.{count_trailing_zeros}
use Rattle.jtext.proofs.Vectors.{run_bound, run_through, run_stops}
use Rattle.jtext.proofs.plain.plain_len.Goals as goal

pub returns-then-stops-ne0-clause-len : goal.returns-then-stops-ne0-clause-len
returns-then-stops-ne0-clause-len c =
    let found = c.stops-stops in
    let run = run_stops c.args.bytes.now c.loop-at.at 32 (omega arith) (omega arith) (omega (arith, found.ensures)) ∙ ap (count_trailing_zeros 64) (sym found.ensures) in
    omega (arith, run, c.loop-at.invariant.0)

pub returns-then-stops-ne0-clause-within : goal.returns-then-stops-ne0-clause-within
returns-then-stops-ne0-clause-within c =
    let found = c.stops-stops in
    let run = run_stops c.args.bytes.now c.loop-at.at 32 (omega arith) (omega arith) (omega (arith, found.ensures)) ∙ ap (count_trailing_zeros 64) (sym found.ensures) in
    omega (arith, run, run_bound c.args.bytes.now c.loop-at.at c.loop-at.invariant.1)

pub loop-at-preserved : goal.loop-at-preserved
loop-at-preserved c =
    let run = run_through c.args.bytes.now c.loop-at.at 32 (omega arith) (omega (arith, c.stops-stops.ensures)) in
    (omega (arith, run, c.loop-at.invariant.0), omega arith)
