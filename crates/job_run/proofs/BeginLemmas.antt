-- How a job begins with its course.
use Rattle.std.proofs.Common.{◌≡◌, ℕ, ◌<◌, Bool, true, false, List, ◌++◌, length, Option, Some, sym, ap, ◌∙◌, arith, length-append}
use Rattle.std.specs.Prelude.{codes}
use Rattle.std.specs.Str.{bytes_eq}
use Rattle.std.proofs.lemmas.Bool.{false_from_ne_true}
use Rattle.std.proofs.lemmas.Slice.Eq.{bytes_eq-Decides}
use Rattle.nb_model.specs.declared.notebook.Notebook.{Notebook}
use Rattle.world.specs.declared.entry.Entry.{Entry}
use Rattle.world.specs.Counts.{Counts}
use Rattle.words.specs.declared.ask.Ask.{Ask}
use Rattle.words.specs.Paths.{connection_of}
use Rattle.job_notebook.specs.declared.notebook.JobNotebook.{JobNotebook}
use Rattle.job_notebook.specs.State.{notebook_of, output_of, merge_of, KeepsRead}
use Rattle.cell_core.specs.StandsFor.{task_of}
use Rattle.cell_core.specs.Task.{Task}
use Rattle.job_saves.specs.Course.{Origin, IsFor, IsSaved, HasSaved, Begins, Stands, Ends, HasPart, HasCalled}
use Rattle.job_saves.specs.Calls.{Cast}
use Rattle.job_saves.proofs.CourseLemmas.{job_begins, told_as}
use Rattle.job_saves.proofs.TellingLemmas.{tells_first}
use Rattle.job_run.specs.declared.execution.Execution.{Execution}
use Rattle.job_run.specs.Held.{IsFirst}
use Rattle.job_run.specs.Run.{OnlyReads}
use Rattle.job_run.specs.Task.{task_for}

pub ends_unsaved : (o : Origin) (journal : Option (List Entry)) (counts : Counts) → Begins o journal counts → Ends o true journal counts
ends_unsaved o journal counts b = record {
  told = λ on. told_as journal (IsSaved o true 0) (HasSaved o true) (λ past h. record { settled = 0; is = h }) (b.told on);
  grow = b.grow;
  cause = λ e. absurd (cc);
}

pub stands_first : (book : JobNotebook) (output : List ℕ) (merge : Bool) (first : Notebook) (o : Origin) (journal : Option (List Entry)) (counts : Counts)
    → output_of book ≡ output → merge_of book ≡ merge → KeepsRead book first → IsFor output merge first o → Begins o journal counts → Stands o book true journal counts
stands_first book output merge first o journal counts out mer keeps for b =
    job_begins book first o journal counts keeps
    (record { output_is = for.output_is ∙ sym out; merge_is = for.merge_is ∙ sym mer; first_is = for.first_is }) b

pub part_first : (book : JobNotebook) (ask : Ask) (first : Notebook) (cast : Cast) (number : ℕ) (since : List Entry) (from : Counts) (journal : Option (List Entry)) (counts : Counts)
    → output_of book ≡ ask.output → merge_of book ≡ ask.merge → length (notebook_of book).cells ≡ length first.cells → KeepsRead book first
    → cast.job number ≡ Some ask → OnlyReads cast ask first journal → HasCalled cast since from journal counts → HasPart cast since from book journal counts
part_first book ask first cast number since from journal counts out mer size keeps has reads u = record {
  number = number;
  ask = ask;
  has = has;
  output = out;
  so = u;
  told = λ e. tells_first ask book first journal counts size mer keeps (reads e);
}

-- an execution of the cells of a notebook has as many
pub cells_first : (x : Execution) (a : Ask) (n : Notebook) → IsFirst x → task_of x.core ≡ task_for a n → length (notebook_of x.book).cells ≡ length n.cells
cells_first x a n first task = first.holds.cells ∙ ap (λ (t : Task). t.cells) task

-- ---- the connection file is not the output

longer : (path tail : List ℕ) → 0 < length tail → path ++ tail ≡ path → ⊥
longer path tail some same = omega (arith, some, length-append path tail, ap (λ (xs : List ℕ). length xs) same)

pub apart_first : (connection output other : List ℕ) → connection ≡ connection_of output → other ≡ output → bytes_eq connection other ≡ false
apart_first connection output other is same =
    false_from_ne_true (bytes_eq connection other) (λ e.
    longer output (codes ".nbrun-kernel.json") (omega arith) (sym is ∙ (bytes_eq-Decides connection other).0 e ∙ same))
