use Rattle.std.proofs.Common.{◌≡◌, ◌∙◌, ap, subst, IfOk}
use Rattle.uuid.specs.Text.{hyphenated_text, lower}
use Rattle.uuid.specs.Parts.{with_version, with_variant}
use Rattle.uuid.specs.declared.Version.TheVariants.{Random}
use Rattle.uuid.specs.declared.Variant.TheVariants.{RFC4122}
use Rattle.kernel_talk.proofs.identifiers.identifier.Goals as goal

pub returns : goal.returns
returns c =
    subst (λ t. IfOk c.of.result (λ text. text ≡ t))
    (c.encode_lower-text.ensures.text
    ∙ ap (λ u. hyphenated_text lower u) (c.hyphenated.ensures ∙ c.into_uuid-id.ensures ∙ c.from_random_bytes.ensures.value
    ∙ ap (λ b. with_version (with_variant b RFC4122) Random) (c.into_bytes-bits.ensures ∙ c.from_u64_pair.ensures)))
    c.of.ensures
