use Rattle.std.proofs.Common.{◌∙◌, ap, cond, true, string_bytes}
use Rattle.std.specs.Str.{bytes_eq}
use Rattle.std.specs.BTreeSet.{contains_text}
use Rattle.std.proofs.lemmas.Map.Text.{btree_set_updates_text}
use Rattle.jtext.proofs.key_set.is_taken.Goals as goal

pub returns-clause-kept : goal.returns-clause-kept
returns-clause-kept c many q =
    let text = string_bytes c.in_ok-from_str.field-0 in
    btree_set_updates_text text c.complete.new.many c.insert.new.self true c.in_ok-added.ensures.updates q
    ∙ ap (λ x. cond (bytes_eq x q) true (contains_text c.complete.new.many q)) c.in_ok-from_str.ensures.ok
    ∙ ap (cond (bytes_eq c.args.key.now q) true) (c.in_ok-complete.ensures many q)
