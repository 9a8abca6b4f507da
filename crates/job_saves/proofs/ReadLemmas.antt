-- What was read stays read.
use Rattle.std.proofs.Common.{ℕ, List, ◌∷◌, Option, Some, None, ap}
use Rattle.std.specs.Prelude.{IfSome}
use Rattle.nb_model.specs.declared.notebook.Notebook.{Notebook}
use Rattle.words.specs.declared.ask.Ask.{Ask}
use Rattle.world.specs.declared.entry.Entry.{Entry}
use Rattle.world.specs.Moments.{Since, start, more as later, Told}
use Rattle.kernel_start.specs.declared.kernel.Kernel.{Kernel}
use Rattle.job_saves.specs.Reads.{WasRead, IsInputOf, IsNotebookOf, IsKernelOf}

pub read_later : {P : List Entry → Type 0} {path : List ℕ} {most : ℕ} {bytes : List ℕ} {before after : List Entry} → Since P before after → WasRead path most bytes before
    → WasRead path most bytes after
read_later start r = r
read_later (later {past} {entry} since p) r =
    let s = read_later since r in
    record { later = entry ∷ s.later; before = s.before; is = ap (λ xs. entry ∷ xs) s.is }

pub input_later : {P : List Entry → Type 0} (a : Ask) (n : Notebook) {before after : List Entry} → Since P before after → IsInputOf a before n → IsInputOf a after n
input_later a n since h = record { bytes = h.bytes; read = read_later since h.read; accepted = h.accepted }

pub notebook_later : {P : List Entry → Type 0} (a : Ask) (n : Notebook) {before after : List Entry} → Since P before after → IsNotebookOf a before n → IsNotebookOf a after n
notebook_later a n since h = record { given = h.given; input = input_later a h.given since h.input; is = h.is }

pub kernel_later : {P : List Entry → Type 0} (a : Ask) (kernel : Kernel) {before after : List Entry} → Since P before after → IsKernelOf a before kernel → IsKernelOf a after kernel
kernel_later a kernel since h = record {
  notebook = h.notebook;
  own = notebook_later a h.notebook since h.own;
  named = h.named;
  bytes = h.bytes;
  read = read_later since h.read;
  says = h.says;
  folder = h.folder;
}

-- the same where it is told
pub told_notebook : {P : List Entry → Type 0} (a : Ask) (n : Notebook) (j k : Option (List Entry)) → Told j k (Since P) → IfSome j (λ past. IsNotebookOf a past n)
    → IfSome k (λ past. IsNotebookOf a past n)
told_notebook a n j None told h = tt
told_notebook a n None (Some y) told h = absurd told.so
told_notebook a n (Some x) (Some y) told h = notebook_later a n told.so h

pub told_kernel : {P : List Entry → Type 0} (a : Ask) (kernel : Kernel) (j k : Option (List Entry)) → Told j k (Since P) → IfSome j (λ past. IsKernelOf a past kernel)
    → IfSome k (λ past. IsKernelOf a past kernel)
told_kernel a kernel j None told h = tt
told_kernel a kernel None (Some y) told h = absurd told.so
told_kernel a kernel (Some x) (Some y) told h = kernel_later a kernel told.so h
