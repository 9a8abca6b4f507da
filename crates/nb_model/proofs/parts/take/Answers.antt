use Rattle.std.proofs.Common.{◌≡◌, Some, None, sym, ◌∙◌}
use Rattle.std.specs.Prelude.{position}
use Rattle.std.specs.Str.{bytes_eq}
use Rattle.jtext.proofs.Edits.{find-at, find-none}
use Rattle.nb_model.proofs.PairsLemmas.{without-at, without-none}
use Rattle.nb_model.proofs.parts.take.Goals as goal

pub returns-in-Some-clause-value : goal.returns-in-Some-clause-value
returns-in-Some-clause-value c =
    let at : position (λ q. bytes_eq q.0 c.args.key.now) c.args.pairs.now ≡ Some c.in-Some.i = cc in
    sym (find-at c.args.key.now c.args.pairs.now c.in-Some.i c.take.result at c.take.ensures.item)

pub returns-in-Some-clause-rest : goal.returns-in-Some-clause-rest
returns-in-Some-clause-rest c =
    let at : position (λ q. bytes_eq q.0 c.args.key.now) c.args.pairs.now ≡ Some c.in-Some.i = cc in
    c.take.ensures.rest ∙ without-at c.args.key.now c.args.pairs.now c.in-Some.i at

pub returns-in-None-clause-value : goal.returns-in-None-clause-value
returns-in-None-clause-value c =
    let at : position (λ q. bytes_eq q.0 c.args.key.now) c.args.pairs.now ≡ None = cc in
    sym (find-none c.args.key.now c.args.pairs.now at)

pub returns-in-None-clause-rest : goal.returns-in-None-clause-rest
returns-in-None-clause-rest c =
    let at : position (λ q. bytes_eq q.0 c.args.key.now) c.args.pairs.now ≡ None = cc in
    without-none c.args.key.now c.args.pairs.now at
