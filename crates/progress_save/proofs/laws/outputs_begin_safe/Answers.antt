use Rattle.std.proofs.Common.{inl}
use Rattle.progress_save.proofs.ManySaves.{untouched_held, weaker_place}
use Rattle.progress_save.proofs.laws.outputs_begin_safe.Goals as goal

pub returns-clause-untouched : goal.returns-clause-untouched
returns-clause-untouched c output texts now e a = untouched_held output texts now e a

pub returns-clause-held : goal.returns-clause-held
returns-clause-held c output texts now h = weaker_place (λ o t. inl t) h
