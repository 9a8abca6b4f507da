use Rattle.std.proofs.Common.{inl, inr}
use Rattle.ready_loop.proofs.ReadAllLemmas.{some_awake}
use Rattle.ready_loop.proofs.laws.hurries_only_where_something_is_due.Goals as goal

pub returns : goal.returns
returns c = λ due h past rule. elim (some_awake past) [ inl some ↦ inl some | inr none ↦ inr ((rule.limit.rests none).one) ]
