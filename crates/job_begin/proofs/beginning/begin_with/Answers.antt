use Rattle.job_begin.proofs.CauseLemmas.{saving_caused}
use Rattle.std.proofs.Common.{◌≡◌, true, false, if◌then◌else◌, refl, sym, ◌∙◌, ap, subst}
use Rattle.nb_model.specs.Prepared.{prepared_notebook}
use Rattle.job_begin.proofs.CountLemmas.{prepared_counts, uncaused_counts}
use Rattle.job_begin.specs.Steps.{EndsCounted}
use Rattle.job_saves.specs.Reads.{first_of}
use Rattle.job_begin.specs.Begun.{counted_task, StartsWith, KernelEnds}
use Rattle.std.specs.Prelude.{IfErr}
use Rattle.job_begin.proofs.BeginLemmas.{none_started_in, input_prepared, end_unsaved, only_given, saving_told}
use Rattle.job_begin.specs.Standing.{IsToBeginWith}
use Rattle.job_run.specs.Beginning.{StartsOrEnds}
use Rattle.job_run.proofs.EndLemmas.{uncaused_ends}
use Rattle.job_run.proofs.StartLemmas.{fresh_ends}
use Rattle.world.specs.Moments.{Told}
use Rattle.world.proofs.MomentsLemmas.{told_as, told_start}
use Rattle.job_saves.specs.Course.{Ends}
use Rattle.job_end.specs.declared.end.End.TheVariants as end
use Rattle.job_begin.proofs.EndLemmas.{saving_in, uncaused_in, saving_ends}
use Rattle.job_begin.proofs.beginning.begin_with.Goals as goal

pub returns-then-ask-clause-course : goal.returns-then-ask-clause-course
returns-then-ask-clause-course g c o for s fresh =
    let n = c.args.notebook in
    let first : o.first ≡ n = for.first_is ∙ ap (λ b. if b then n else prepared_notebook n) c.if-ask.true in
    subst (λ b. Ends o b (g.W.Journal.journal c.save_alone-saved.new.w) (g.W.Journal.counts c.save_alone-saved.new.w)) (sym c.end_of.ensures.open)
    (c.save_alone-saved.ensures.course o (record { output_is = for.output_is; merge_is = for.merge_is; first_is = first }) s)

pub returns-in_default-clause-course : goal.returns-in_default-clause-course
returns-in_default-clause-course g c o for s fresh = end_unsaved o end.NoMemory _ _ refl s

pub returns-clause-course : goal.returns-clause-course
returns-clause-course g c o for s fresh =
    let n = c.args.notebook in
    let same : c.in-Ok.notebook ≡ first_of c.args.ask n = c.in-Ok.ensures ∙ sym (ap (λ b. if b then n else prepared_notebook n) c.if-ask.false) in
    c.execute.ensures.course o (record { output_is = for.output_is; merge_is = for.merge_is; first_is = for.first_is ∙ sym same }) s fresh

pub returns-then-ask-clause-cause : goal.returns-then-ask-clause-cause
returns-then-ask-clause-cause g c = saving_caused (g.W.Journal.counts c.args.w.now) (g.W.Journal.counts c.save_alone-saved.new.w) c.end_of.result (c.end_of.ensures.kind c.save_alone-saved.ensures.kind)

pub returns-then-ask-clause-task : goal.returns-then-ask-clause-task
returns-then-ask-clause-task g c = saving_in c.args.ask (first_of c.args.ask c.args.notebook) c.end_of.result (λ p some. let no : true ≡ false = sym c.if-ask.true ∙ p in absurd (cc)) (c.end_of.ensures.kind c.save_alone-saved.ensures.kind)

pub returns-in_default-clause-task : goal.returns-in_default-clause-task
returns-in_default-clause-task g c = uncaused_in c.args.ask (first_of c.args.ask c.args.notebook) 12 refl

pub returns-clause-task : goal.returns-clause-task
returns-clause-task g c =
    let a = c.args.ask in
    let n = c.args.notebook in
    let same : c.in-Ok.notebook ≡ first_of a n = c.in-Ok.ensures ∙ sym (ap (λ b. if b then n else prepared_notebook n) c.if-ask.false) in
    subst (λ first. StartsWith a first c.execute.result) same (c.execute.ensures.task c.if-ask.false)

pub returns-then-ask-clause-calls : goal.returns-then-ask-clause-calls
returns-then-ask-clause-calls g c read cast since from who childless portless lacks so =
    c.save_alone-saved.ensures.calls cast c.args.number since from who.has (λ clean. only_given c.args.ask c.args.notebook _ c.if-ask.true read (lacks clean)) so

pub returns-then-ask-clause-left : goal.returns-then-ask-clause-left
returns-then-ask-clause-left g c = none_started_in c.args.ask c.args.notebook c.args.number _ _ _ _ c.save_alone-saved.ensures.calls

pub returns-in_default-clause-calls : goal.returns-in_default-clause-calls
returns-in_default-clause-calls g c read cast since from who childless portless lacks so = so

pub returns-in_default-clause-left : goal.returns-in_default-clause-left
returns-in_default-clause-left g c = λ h. h

pub returns-clause-calls : goal.returns-clause-calls
returns-clause-calls g c read cast since from who childless portless lacks so =
    c.execute.ensures.calls (input_prepared c.args.ask c.args.notebook c.in-Ok.notebook _ c.in-Ok.ensures read) c.if-ask.false cast since from who childless portless lacks so

pub returns-clause-left : goal.returns-clause-left
returns-clause-left g c = c.execute.ensures.left

pub returns-then-ask-clause-kernel : goal.returns-then-ask-clause-kernel
returns-then-ask-clause-kernel g c = saving_ends c.args.ask (first_of c.args.ask c.args.notebook) _ _ c.end_of.result (c.end_of.ensures.kind c.save_alone-saved.ensures.kind)

pub returns-in_default-clause-kernel : goal.returns-in_default-clause-kernel
returns-in_default-clause-kernel g c = saving_ends c.args.ask (first_of c.args.ask c.args.notebook) _ _ _ tt

pub returns-clause-kernel : goal.returns-clause-kernel
returns-clause-kernel g c =
    let a = c.args.ask in
    let n = c.args.notebook in
    let same : c.in-Ok.notebook ≡ first_of a n = c.in-Ok.ensures ∙ sym (ap (λ b. if b then n else prepared_notebook n) c.if-ask.false) in
    subst (λ first. IfErr c.execute.result (KernelEnds a first (g.W.Journal.journal c.args.w.now) (g.W.Journal.journal c.execute.new.w))) same c.execute.ensures.kernel

pub returns-clause-ports : goal.returns-clause-ports
returns-clause-ports g c = c.execute.ensures.ports

pub returns-then-ask-clause-counted : goal.returns-then-ask-clause-counted
returns-then-ask-clause-counted g c o for s fresh =
    prepared_counts c.args.ask (first_of c.args.ask c.args.notebook) o (g.W.Journal.journal c.save_alone-saved.new.w) c.end_of.result c.if-ask.true

pub returns-in_default-clause-counted : goal.returns-in_default-clause-counted
returns-in_default-clause-counted g c o for s fresh =
    uncaused_counts o (counted_task c.args.ask (first_of c.args.ask c.args.notebook)) (g.W.Journal.journal c.args.w.now) end.NoMemory refl

pub returns-clause-counted : goal.returns-clause-counted
returns-clause-counted g c o for s fresh =
    let a = c.args.ask in
    let n = c.args.notebook in
    let same : c.in-Ok.notebook ≡ first_of a n = c.in-Ok.ensures ∙ sym (ap (λ b. if b then n else prepared_notebook n) c.if-ask.false) in
    subst (λ first. IfErr c.execute.result (EndsCounted o (counted_task a first) (g.W.Journal.journal c.execute.new.w))) same
    (c.execute.ensures.counted o (record { output_is = for.output_is; merge_is = for.merge_is; first_is = for.first_is ∙ sym same }) s fresh)

pub returns-clause-pings : goal.returns-clause-pings
returns-clause-pings g c = c.execute.ensures.pings

-- ---- what the job stands for

pub returns-then-ask-clause-stands : goal.returns-then-ask-clause-stands
returns-then-ask-clause-stands g c p =
    told_as (saving_told c.args.ask c.args.notebook _ _ _ _ c.save_alone-saved.ensures.calls) (λ x y s t.
    let no : true ≡ false = sym c.if-ask.true ∙ t.executes in absurd (cc))

pub returns-in_default-clause-stands : goal.returns-in_default-clause-stands
returns-in_default-clause-stands g c p = told_start (λ now t. uncaused_ends p end.NoMemory now refl (fresh_ends p now t.fresh))

pub returns-clause-stands : goal.returns-clause-stands
returns-clause-stands g c p =
    let a = c.args.ask in
    let n = c.args.notebook in
    let same : c.in-Ok.notebook ≡ first_of a n = c.in-Ok.ensures ∙ sym (ap (λ b. if b then n else prepared_notebook n) c.if-ask.false) in
    subst (λ first. Told (g.W.Journal.journal c.args.w.now) (g.W.Journal.journal c.execute.new.w) (λ before after. IsToBeginWith p c.args.number a first before → StartsOrEnds p c.execute.result after)) same
    (c.execute.ensures.stands p)
