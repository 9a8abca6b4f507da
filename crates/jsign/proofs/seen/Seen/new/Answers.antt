use Rattle.std.proofs.Common.{rules}
use Rattle.jsign.specs.History.{fresh_of}
use Rattle.jsign.proofs.seen.Seen.new.Goals as goal

pub returns-clause-stands : goal.returns-clause-stands
unfolding fresh_of
returns-clause-stands c = search rules
