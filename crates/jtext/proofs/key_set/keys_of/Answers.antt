use Rattle.std.proofs.Common.{◌≡◌, ◌∙◌, ◌+◌, ◌++◌, ◌∷◌, [], ap, sym, cond, take, true, string_bytes}
use Rattle.std.specs.Str.{bytes_eq}
use Rattle.std.specs.BTreeSet.{contains_text}
use Rattle.std.proofs.lemmas.List.{take_more}
use Rattle.std.proofs.lemmas.Map.Text.{btree_set_updates_text}
use Rattle.jtext.specs.Reading.{has_key}
use Rattle.jtext.proofs.Turns.{has_key-push}
use Rattle.jtext.proofs.key_set.keys_of.Goals as goal

pub loop-pair-preserved : goal.loop-pair-preserved
loop-pair-preserved c q =
    let l = c.loop-pair in
    let ps = c.args.pairs.now in
    let p = c.pair-item.result in
    let text = string_bytes c.in_ok-from_str.field-0 in
    let front : take (l.pair-index + 1) ps ≡ take l.pair-index ps ++ p ∷ [] = take_more ps l.pair-index p c.loop-pair-test.true ∙ ap (λ x. take l.pair-index ps ++ x ∷ []) (sym c.pair-item.is) in
    btree_set_updates_text text l.keys c.insert.new.self true c.in_ok-insert.ensures.updates q
    ∙ ap (λ x. cond (bytes_eq x q) true (contains_text l.keys q)) (c.in_ok-from_str.ensures.ok ∙ c.as_str.ensures)
    ∙ ap (cond (bytes_eq p.0 q) true) (l.invariant q)
    ∙ sym (has_key-push (take l.pair-index ps) p q)
    ∙ ap (λ xs. has_key xs q) (sym front)
