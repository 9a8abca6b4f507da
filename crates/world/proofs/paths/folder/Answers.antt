use Rattle.std.proofs.Common.{◌∙◌, None, Some, take, ap, sym, arith}
use Rattle.std.proofs.lemmas.Str.Pattern.{rfind_char}
use Rattle.world.proofs.Folders.{no_folder, root_folder, named_folder}
use Rattle.world.proofs.paths.folder.Goals as goal

pub returns-in-None : goal.returns-in-None
returns-in-None c =
    let none = rfind_char 47 c.args.path.now None c.in-None.ensures.cases (omega arith) in
    sym (no_folder c.args.path.now (λ i l w. none i w))

pub returns-in-Some-eq0 : goal.returns-in-Some-eq0
returns-in-Some-eq0 c =
    let at = c.in-Some-eq0.field-0 in
    let found = rfind_char 47 c.args.path.now (Some at) c.in-Some-eq0.ensures.cases (omega arith) in
    sym (root_folder c.args.path.now at c.in-Some-eq0.field-0-test found.0 found.1 (λ i l w. found.2 i (omega arith) w))

pub returns-in-Some : goal.returns-in-Some
returns-in-Some c =
    let at = c.in-Some.at in
    let found = rfind_char 47 c.args.path.now (Some at) c.in-Some.ensures.cases (omega arith) in
    c.range.ensures.value ∙ ap (λ n. take n c.args.path.now) (omega arith) ∙ sym (named_folder c.args.path.now at (omega arith) found.0 found.1 (λ i l w. found.2 i (omega arith) w))
