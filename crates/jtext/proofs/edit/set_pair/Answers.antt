use Rattle.std.proofs.Common.{◌≡◌, ◌∷◌, ◌++◌, [], Some, None, set, OnOk, ap, subst, ◌∙◌}
use Rattle.std.specs.Prelude.{position}
use Rattle.std.specs.Str.{bytes_eq}
use Rattle.jtext.proofs.Edits.{set_pair-at, set_pair-none}
use Rattle.jtext.proofs.edit.set_pair.Goals as goal

pub returns-in-Some : goal.returns-in-Some
returns-in-Some c =
    let key = c.args.key.now in
    let at : position (λ q. bytes_eq q.0 key) c.args.pairs.now ≡ Some c.in-Some.i = cc in
    c.put.ensures.new ∙ ap (λ p. set c.args.pairs.now c.in-Some.i p) c.in_ok-named.ensures
    ∙ set_pair-at key c.args.value c.args.pairs.now c.in-Some.i at

pub returns-in-None : goal.returns-in-None
returns-in-None c =
    let key = c.args.key.now in
    let at : position (λ q. bytes_eq q.0 key) c.args.pairs.now ≡ None = cc in
    let added = ap (λ p. c.args.pairs.now ++ p ∷ []) c.in_ok-named.ensures
    ∙ set_pair-none key c.args.value c.args.pairs.now at in
    subst (λ z. OnOk c.push.result (c.push.new.self ≡ z)) added c.push.ensures.ok
