-- What a refusal of words or of a jobs file says: what is wrong, and at which word or value.
use Rattle.std.specs.Prelude.{List, ℕ, ◌++◌, codes}
use Rattle.jtext.specs.Messages.{at_place, memory_message}
use Rattle.words.specs.declared.usage.Usage.{Usage}
use Rattle.words.specs.declared.usage.Usage.TheVariants as usage

-- why words are refused: with the index of the word, or the JSON pointer (RFC 6901) to the value
abbrev pub usage_message : Usage → List ℕ
usage_message usage.Missing = codes "missing"
usage_message (usage.Unknown i) = at_place (codes "unknown") i
usage_message (usage.NoValue i) = at_place (codes "no value") i
usage_message (usage.BadNumber i) = at_place (codes "bad number") i
usage_message (usage.Twice i) = at_place (codes "twice") i
usage_message (usage.Extra i) = at_place (codes "extra") i
usage_message (usage.SamePath i) = at_place (codes "same path") i
usage_message (usage.BadName i) = at_place (codes "bad name") i
usage_message (usage.BadJobs pointer) = codes "bad jobs at " ++ pointer
usage_message usage.NoMemory = memory_message
