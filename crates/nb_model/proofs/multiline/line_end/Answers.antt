use Rattle.std.proofs.Common.{◌<◌, get_or, arith}
use Rattle.std.proofs.lemmas.Str.{IsCharBoundary-after_ascii}
use Rattle.nb_model.proofs.LinesLemmas.{IsLineEnd, lines_of-some, lines_of-none}
use Rattle.nb_model.proofs.multiline.line_end.Goals as goal

-- the place that was found
found : (c : goal.In-Some) → IsLineEnd c.args.text.now c.in-Some.at
found c = lines_of-some c.args.text.now c.in-Some.at (cc)

pub returns-in-Some-clause-boundary : goal.returns-in-Some-clause-boundary
returns-in-Some-clause-boundary c =
    let is = found c in
    let ascii : get_or c.args.text.now c.in-Some.at 0 < 128 = omega (arith, is.here) in
    IsCharBoundary-after_ascii c.args.text.now c.in-Some.at c.utf8.text is.below ascii

pub returns-in-Some-clause-first : goal.returns-in-Some-clause-first
returns-in-Some-clause-first c = (found c).cut

pub returns-in-None-clause-last : goal.returns-in-None-clause-last
returns-in-None-clause-last c = lines_of-none c.args.text.now (cc)
