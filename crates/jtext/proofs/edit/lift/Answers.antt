use Rattle.std.proofs.Common.{◌≡◌, Some, None, set, sym, ap, ◌∙◌}
use Rattle.std.specs.Prelude.{position, unwrap_or}
use Rattle.std.specs.Str.{bytes_eq}
use Rattle.jtext.specs.declared.json.Json.TheVariants as json
use Rattle.jtext.specs.Edit.{set_pair}
use Rattle.jtext.proofs.Edits.{find-at, find-none, set_pair-at, set_pair-twice}
use Rattle.jtext.proofs.edit.lift.Goals as goal

pub returns-in-Some-clause-value : goal.returns-in-Some-clause-value
returns-in-Some-clause-value c =
    let key = c.args.key.now in
    let at : position (λ q. bytes_eq q.0 key) c.args.pairs.now ≡ Some c.in-Some.i = cc in
    ap (λ o. unwrap_or o json.Null)
    (sym (find-at key c.args.pairs.now c.in-Some.i c.put.result at c.put.ensures.old))

pub returns-in-Some-clause-rest : goal.returns-in-Some-clause-rest
returns-in-Some-clause-rest c v =
    let key = c.args.key.now in
    let at : position (λ q. bytes_eq q.0 key) c.args.pairs.now ≡ Some c.in-Some.i = cc in
    let blank = c.put.ensures.new
    ∙ ap (λ p. set c.args.pairs.now c.in-Some.i p) c.in_ok-blank.ensures
    ∙ set_pair-at key json.Null c.args.pairs.now c.in-Some.i at in
    ap (set_pair key v) blank ∙ set_pair-twice key v json.Null c.args.pairs.now

pub returns-in-None-clause-value : goal.returns-in-None-clause-value
returns-in-None-clause-value c =
    let at : position (λ q. bytes_eq q.0 c.args.key.now) c.args.pairs.now ≡ None = cc in
    ap (λ o. unwrap_or o json.Null) (sym (find-none c.args.key.now c.args.pairs.now at))
