use Rattle.std.proofs.Common.{rules, ◌≡◌, [], ◌∷◌, ◌++◌, ◌+◌, ◌<◌, length, map, drop, sym, ap, ◌∙◌, arith}
use Rattle.std.specs.Prelude.{string_bytes}
use Rattle.std.proofs.lemmas.List.{at_drop_more}
use Rattle.std.proofs.lemmas.Grind.{common_steps}
use Rattle.words.specs.Options.{arity}
use Rattle.words.specs.Parts as spec
use Rattle.words.proofs.PartSteps.{passed, added}
use Rattle.words.proofs.part.parts_of.Goals as goal
use Rattle.words.proofs.part.parts_of.Goals.{then-values-gt0, else-values-gt0+in_ok-push}

pub loop-at-preserved : goal.loop-at-preserved
loop-at-preserved c =
    let l = c.loop-at in
    let words = c.args.words.now in
    let word = string_bytes c.index-words-at.result in
    let below : l.at < length words = c.loop-at-test.true in
    let front : map string_bytes (drop l.at words) ≡ word ∷ map string_bytes (drop (l.at + 1) words) =
    at_drop_more (map string_bytes) words l.at c.index-words-at.result below ∙ ap (λ x. string_bytes x ∷ map string_bytes (drop (l.at + 1) words)) (sym c.index-words-at.is) in
    elim c.if-values-gt0.branch [
      | then-values-gt0 w ↦
          passed l.parts c.if-values-gt0.parts l.ended c.if-values-gt0.ended l.values c.if-values-gt0.values l.at word (map string_bytes (drop (l.at + 1) words)) (map string_bytes (drop l.at words)) _
          w.if-values-gt0.true w.parts-is w.ended-is w.values-is front l.invariant
      | else-values-gt0+in_ok-push w ↦
          let text = w.as_str.ensures.value in
          let of = w.of-kind.ensures in
          let kind : w.of-kind.result ≡ spec.kind_of l.ended word = of ∙ ap (spec.kind_of l.ended) text in
          let part = w.part_at.ensures in
          let item : w.part_at.result ≡ spec.part_at l.at (spec.kind_of l.ended word) = part ∙ ap (spec.part_at l.at) kind in
          let pushed = w.in_ok-push.ensures.ok in
          let parts_is = w.parts-is in
          let ends = w.ends-ended.ensures in
          let ended_is = w.ended-is in
          let values = w.arity-values.ensures in
          let values_is = w.values-is in
          let more : c.if-values-gt0.parts ≡ l.parts ++ spec.part_at l.at (spec.kind_of l.ended word) ∷ [] = first_of (cc, first_of (search rules, grind (arith, common_steps))) in
          let end : c.if-values-gt0.ended ≡ spec.ends l.ended (spec.kind_of l.ended word) = ended_is ∙ ends ∙ ap (spec.ends l.ended) kind in
          let count : c.if-values-gt0.values ≡ arity (spec.takes_of (spec.kind_of l.ended word)) = values_is ∙ values ∙ ap (λ k. arity (spec.takes_of k)) kind in
          added l.parts c.if-values-gt0.parts l.ended c.if-values-gt0.ended l.values c.if-values-gt0.values l.at word (map string_bytes (drop (l.at + 1) words)) (map string_bytes (drop l.at words)) _
          w.if-values-gt0.false more end count front l.invariant
    ]
