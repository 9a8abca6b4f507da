use Rattle.std.proofs.Common.{◌≡◌, cond, true, ap, ◌∙◌, string_bytes}
use Rattle.std.specs.Str.{bytes_eq}
use Rattle.std.specs.BTreeSet.{contains_text}
use Rattle.std.proofs.lemmas.Map.Text.{btree_set_updates_text}
use Rattle.nb_model.proofs.accept.add.Goals as goal

pub returns-clause-seen : goal.returns-clause-seen
returns-clause-seen c q =
    let owned = c.in_ok-owned.owned in
    let text : string_bytes owned ≡ c.args.id.now = c.in_ok-owned.ensures.ok in
    btree_set_updates_text (string_bytes owned) c.args.seen.now c.insert.new.self true c.in_ok-added.ensures.updates q ∙ ap (λ x. cond (bytes_eq x q) true (contains_text c.args.seen.now q)) text
