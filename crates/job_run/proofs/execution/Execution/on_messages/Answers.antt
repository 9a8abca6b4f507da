use Rattle.std.proofs.Common.{◌≡◌, ◌+◌, ◌<◌, ◌≤◌, get_or, length, drop, subst, take}
use Rattle.world.proofs.MomentsLemmas.{told_as, told_start, told_then}
use Rattle.job_run.specs.Heard.{arrivals_of}
use Rattle.job_run.proofs.MessageLemmas.{all_done, one_done, one_next, uses_ended}
use Rattle.job_run.proofs.StepLemmas.{goes_err, goes_still, goes_then}
use Rattle.job_run.proofs.execution.Execution.on_messages.Goals as goal

pub loop-message-init : goal.loop-message-init
loop-message-init g c = record { goes = goes_still c.requires.holds c.requires.calm; uses = λ p number. told_start (λ before u. u) }

pub loop-message-preserved : goal.loop-message-preserved
loop-message-preserved g c =
    let i = c.loop-message.message-index in
    let m = c.message-item.result in
    let ms = c.args.messages in
    let within : i < length ms = subst (λ xs. i < length xs) c.as_slice-message-items.ensures c.loop-message-test.true in
    let is : m ≡ get_or ms i m = subst (λ xs. m ≡ get_or xs i m) c.as_slice-message-items.ensures c.message-item.is in
    record {
      goes = goes_then c.loop-message.invariant.goes c.in_ok-on_message.ensures.goes;
      uses = λ p number. told_then (c.loop-message.invariant.uses p number) (c.in_ok-on_message.ensures.uses p number (arrivals_of (take i ms)) (arrivals_of (drop (i + 1) ms)))
          (λ x y z first then u. one_done p number c.on_message.new.self c.args.standing c.args.chan ms i m z within is
          (then (one_next p number c.loop-message.self c.args.standing c.args.chan ms i m y within is (first u))));
    }

pub returns-clause-goes : goal.returns-clause-goes
returns-clause-goes g c = c.loop-message.invariant.goes

pub returns-clause-uses : goal.returns-clause-uses
returns-clause-uses g c p number =
    told_as (c.loop-message.invariant.uses p number)
    (λ before after first u. all_done p number c.loop-message.self c.args.standing c.args.chan c.args.messages c.loop-message.message-index after
    (subst (λ xs. length xs ≤ c.loop-message.message-index) c.as_slice-message-items.ensures c.loop-message-test.false) (first u))

pub returns-in_err-on_message-clause-goes : goal.returns-in_err-on_message-clause-goes
returns-in_err-on_message-clause-goes g c = goes_err c.from_residual.ensures.1 (goes_then c.loop-message.invariant.goes c.in_err-on_message.ensures.goes)

pub returns-in_err-on_message-clause-uses : goal.returns-in_err-on_message-clause-uses
returns-in_err-on_message-clause-uses g c p number =
    let i = c.loop-message.message-index in
    let m = c.message-item.result in
    let ms = c.args.messages in
    let within : i < length ms = subst (λ xs. i < length xs) c.as_slice-message-items.ensures c.loop-message-test.true in
    let is : m ≡ get_or ms i m = subst (λ xs. m ≡ get_or xs i m) c.as_slice-message-items.ensures c.message-item.is in
    told_then (c.loop-message.invariant.uses p number) (c.in_err-on_message.ensures.uses p number (arrivals_of (take i ms)) (arrivals_of (drop (i + 1) ms)))
    (λ x y z first then u. uses_ended p number _ c.from_residual.result _ _ _ _ _ z c.from_residual.ensures.1
    (then (one_next p number c.loop-message.self c.args.standing c.args.chan ms i m y within is (first u))))
