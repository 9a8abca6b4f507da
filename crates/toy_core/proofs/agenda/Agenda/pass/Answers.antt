use Rattle.std.proofs.Common.{◌≡◌, ◌∙◌, arith}
use Rattle.std.proofs.Math.Nat.{min-eq_left}
use Rattle.toy_core.proofs.Reaching.{passed, reached_short}
use Rattle.toy_core.proofs.agenda.Agenda.pass.Goals as goal

pub returns-clause-rest : goal.returns-clause-rest
returns-clause-rest c = λ h t le.
    let a = c.args.self.now in
    let short = reached_short c.args.now a.since a.acts in
    let all : c.min-done.result ≡ c.args.done = c.min-done.ensures ∙ min-eq_left (omega (arith, c.len.ensures, h, short)) in
    rw (c.reach_of-reach.ensures.moment, c.without_front.ensures, c.replace-acts.ensures.value, c.as_slice.ensures, all) (passed c.args.done c.args.now a.since a.acts h t le)
