use Rattle.std.proofs.Common.{subst}
use Rattle.std.proofs.lemmas.Result.{on_ok_weaker}
use Rattle.kernel_lines.specs.Line.{IsPut}
use Rattle.kernel_lines.proofs.LineLemmas.{early, late}
use Rattle.kernel_lines.proofs.line.Line.reply.Goals as goal

pub returns-then-shaken-clause-stands : goal.returns-then-shaken-clause-stands
returns-then-shaken-clause-stands c =
    let l = c.args.self.now in
    let put : IsPut c.take_owed.new.self c.put.new.self c.in_ok-owed.owed = subst (λ x. IsPut c.take_owed.new.self c.put.new.self x) c.bytes.ensures c.in_ok-put.ensures.ok in
    on_ok_weaker c.release.result
    (λ freed. λ h out piece s. late l c.note_subscription.new.self c.take_owed.new.self c.put.new.self c.release.new.self h out piece c.in_ok-owed.owed c.shaken.result
    c.note_subscription.ensures c.in_ok-owed.ensures.is put freed c.shaken.ensures.is c.if-shaken.true s) c.release.ensures.ok

pub returns-clause-stands : goal.returns-clause-stands
returns-clause-stands c =
    let l = c.args.self.now in
    let put : IsPut c.take_owed.new.self c.put.new.self c.in_ok-owed.owed = subst (λ x. IsPut c.take_owed.new.self c.put.new.self x) c.bytes.ensures c.in_ok-put.ensures.ok in
    λ h out piece s. early l c.note_subscription.new.self c.take_owed.new.self c.put.new.self h out piece c.in_ok-owed.owed c.shaken.result
    c.note_subscription.ensures c.in_ok-owed.ensures.is put c.shaken.ensures.is c.if-shaken.false s
