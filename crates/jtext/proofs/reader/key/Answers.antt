use Rattle.std.proofs.Common.{cond, true, Some, None, Ok, sym, ap, ◌∙◌}
use Rattle.std.specs.Str.{bytes_eq}
use Rattle.jtext.specs.Reading.{has_key}
use Rattle.jtext.proofs.Turns.{key_taken, key_free}
use Rattle.jtext.proofs.reader.key.Goals as goal

pub returns-then-branch-clause-exact : goal.returns-then-branch-clause-exact
returns-then-branch-clause-exact c =
    let k = c.in_ok-key in
    let taken = ap (has_key c.args.found.now) (sym c.as_str.ensures) ∙ sym c.in_ok-is_taken.ensures.taken ∙ c.if-branch.true in
    key_taken (has_key c.args.found.now) c.args.s.now k.key k.after.now k.ensures.exact taken

pub returns-in-Some-clause-kept : goal.returns-in-Some-clause-kept
returns-in-Some-clause-kept c many q = c.in_ok-is_taken.ensures.kept many q ∙ ap (λ x. cond (bytes_eq x q) true (has_key c.args.found.now q)) c.as_str.ensures

pub returns-in-Some-clause-exact : goal.returns-in-Some-clause-exact
returns-in-Some-clause-exact c =
    let k = c.in_ok-key in
    let free = ap (has_key c.args.found.now) (sym c.as_str.ensures) ∙ sym c.in_ok-is_taken.ensures.taken ∙ c.if-branch.false in
    key_free (has_key c.args.found.now) c.args.s.now k.key k.after.now c.skip_spaces-next.result.now (Some c.in-Some.rest.now) k.ensures.exact free c.skip_spaces-next.ensures.exact (sym c.in-Some.ensures.exact)
    ∙ ap (λ x. Ok (k.key, x)) (sym c.skip_spaces.ensures.exact)

pub returns-clause-exact : goal.returns-clause-exact
returns-clause-exact c =
    let k = c.in_ok-key in
    let free = ap (has_key c.args.found.now) (sym c.as_str.ensures) ∙ sym c.in_ok-is_taken.ensures.taken ∙ c.if-branch.false in
    key_free (has_key c.args.found.now) c.args.s.now k.key k.after.now c.skip_spaces-next.result.now None k.ensures.exact free c.skip_spaces-next.ensures.exact (sym c.in-None.ensures.exact)
