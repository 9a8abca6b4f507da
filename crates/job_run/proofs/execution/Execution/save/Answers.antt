use Rattle.std.proofs.Common.{◌≡◌, true, List, None, subst}
use Rattle.nb_model.specs.declared.notebook.Notebook.{Notebook}
use Rattle.out_fold.specs.declared.used.Used.{Used}
use Rattle.progress_save.specs.Prefix.{prefix}
use Rattle.job_notebook.specs.State.{Keeps, merge_of, notebook_of}
use Rattle.job_saves.specs.Saving.{OnTried}
use Rattle.std.specs.Prelude.{IfSome, OnOk}
use Rattle.job_saves.specs.Course.{Origin, Stands}
use Rattle.job_saves.specs.Left.{IsLeft, output_at}
use Rattle.job_run.proofs.CauseLemmas.{calls_output}
use Rattle.job_run.proofs.execution.Execution.save.Goals as goal

pub returns-clause-saves : goal.returns-clause-saves
returns-clause-saves g c = c.save_next.ensures.saves

pub returns-clause-output : goal.returns-clause-output
returns-clause-output g c =
    let s = c.save_next in
    calls_output c.args.self.now.book s.new.book (g.W.Journal.journal c.args.w.now) (g.W.Journal.journal s.new.w) (g.W.Journal.counts c.args.w.now) (g.W.Journal.counts s.new.w) s.ensures.calls

pub returns-clause-left : goal.returns-clause-left
returns-clause-left g c =
    subst (λ stop. OnOk c.save_next.result ((o : Origin) → o.is_watched ≡ true → Stands o c.args.self.now.book true (g.W.Journal.journal c.args.w.now) (g.W.Journal.counts c.args.w.now)
    → IfSome (g.W.Journal.journal c.save_next.new.w) (λ past. IsLeft (output_at o past) c.args.settled stop)))
    c.failing-stop.ensures.names c.save_next.ensures.left

pub returns-clause-prefix : goal.returns-clause-prefix
returns-clause-prefix g c =
    subst (λ stop. OnTried c.save_next.result ((first : Notebook) (us : List Used) → Keeps c.args.self.now.book first us
    → notebook_of c.save_next.new.book ≡ prefix (merge_of c.args.self.now.book) us c.args.settled stop first))
    c.failing-stop.ensures.names c.save_next.ensures.prefix

pub returns-clause-keeps : goal.returns-clause-keeps
returns-clause-keeps g c =
    subst (λ stop. OnOk c.save_next.result (stop ≡ None → (first : Notebook) (us : List Used) → Keeps c.args.self.now.book first us → Keeps c.save_next.new.book first us))
    c.failing-stop.ensures.names c.save_next.ensures.keeps
