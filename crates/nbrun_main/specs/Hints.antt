-- What a hint names.
use Rattle.std.specs.Prelude.{ℕ, Option, Some, None}
use Rattle.words.specs.declared.usage.Usage.{Usage}
use Rattle.words.specs.declared.usage.Usage.TheVariants as usage

-- the index of the word that is refused, where a refusal has one
abbrev pub refused_at : Usage → Option ℕ
refused_at (usage.Unknown i) = Some i
refused_at (usage.NoValue i) = Some i
refused_at (usage.BadNumber i) = Some i
refused_at (usage.Twice i) = Some i
refused_at (usage.Extra i) = Some i
refused_at (usage.SamePath i) = Some i
refused_at (usage.BadName i) = Some i
refused_at usage.Missing = None
refused_at (usage.BadJobs pointer) = None
refused_at usage.NoMemory = None
