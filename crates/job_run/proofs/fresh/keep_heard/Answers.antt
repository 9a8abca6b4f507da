use Rattle.std.proofs.Common.{◌≡◌, ◌∙◌, ap, sym, subst}
use Rattle.std.specs.Prelude.{IfSome, OnOk}
use Rattle.job_journal.specs.Seen.{and_heard}
use Rattle.job_run.specs.Heard.{AreContents, IsContent, arrivals_of}
use Rattle.job_run.proofs.ListenLemmas.{all_more, arrivals_more, on_then}
use Rattle.job_run.proofs.fresh.keep_heard.Goals as goal

pub returns-in-Some-clause-arrivals : goal.returns-in-Some-clause-arrivals
returns-in-Some-clause-arrivals c =
    subst (λ o. OnOk c.push.result (arrivals_of c.push.new.self ≡ and_heard (arrivals_of c.args.messages.now) o)) (sym c.in-Some.is)
    (on_then c.push.result (λ is. ap arrivals_of is ∙ arrivals_more c.args.messages.now c.in-Some.message) c.push.ensures.ok)

pub returns-in-Some-clause-contents : goal.returns-in-Some-clause-contents
returns-in-Some-clause-contents c =
    on_then c.push.result (λ is one all. subst AreContents (sym is)
    (all_more c.args.messages.now c.in-Some.message all (subst (λ o. IfSome o (λ m. IsContent m.content)) c.in-Some.is one))) c.push.ensures.ok
