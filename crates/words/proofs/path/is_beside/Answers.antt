use Rattle.std.proofs.Common.{ap, sym, ◌∙◌, ◌&&◌, length, drop}
use Rattle.std.specs.Str.{bytes_eq}
use Rattle.std.proofs.lemmas.List.{take_rest}
use Rattle.words.proofs.Fronts.{beside}
use Rattle.words.proofs.path.is_beside.Goals as goal

pub returns-then-starts_with : goal.returns-then-starts_with
returns-then-starts_with c =
    let path = c.args.path.now in
    let output = c.args.output.now in
    let ending = c.args.ending.now in
    c.eq.ensures ∙ ap (λ rest. bytes_eq rest ending) (take_rest path (length output)) ∙ sym (beside output path ending ∙ ap (λ b. b && bytes_eq (drop (length output) path) ending) (sym c.starts_with.ensures.value ∙ c.if-starts_with.true))

pub returns-else-starts_with : goal.returns-else-starts_with
returns-else-starts_with c =
    let path = c.args.path.now in
    let output = c.args.output.now in
    let ending = c.args.ending.now in
    c.if-starts_with.false ∙ sym (beside output path ending ∙ ap (λ b. b && bytes_eq (drop (length output) path) ending) (sym c.starts_with.ensures.value ∙ c.if-starts_with.false))
