use Rattle.std.proofs.Common.{subst, ◌∙◌}
use Rattle.std.specs.Str.{IsUtf8}
use Rattle.nb_model.proofs.laws.sound_id.Goals as goal

pub returns : goal.returns
returns c = subst IsUtf8 (c.as_bytes.ensures.value ∙ c.as_str.ensures) c.as_bytes.ensures.utf8
