-- From the read of a jobs file to what it gives.
use Rattle.std.proofs.Common.{◌≡◌, ◌⊎◌, inl, inr, List, ℕ, sym, subst}
use Rattle.words.specs.declared.usage.Usage.{Usage}
use Rattle.words.specs.declared.usage.Usage.TheVariants as usage_fault
use Rattle.words.specs.JobsFaults.{Refused}
use Rattle.world.specs.declared.entry.Entry.{Entry}
use Rattle.world.specs.declared.read_file.ReadFile.{ReadFile}
use Rattle.world.specs.declared.read_file.ReadFile.TheVariants as found
use Rattle.nbrun_top.specs.declared.end.End.{End}
use Rattle.nbrun_top.specs.declared.end.End.TheVariants as end
use Rattle.nbrun_top.specs.Executed.{GivesNone, file_read}
use Rattle.nbrun_top.specs.Executed as gives

pub none_at : (file : List ℕ) (answer : ReadFile) (e given : End) → (given ≡ e) ⊎ (given ≡ end.NoMemory) → (past : List Entry) → GivesNone file past e (file_read file answer past)
    → GivesNone file past given (file_read file answer past)
none_at file answer e given (inl same) past it = subst (λ x. GivesNone file past x (file_read file answer past)) (sym same) it
none_at file answer e given (inr memory) past it = subst (λ x. GivesNone file past x (file_read file answer past)) (sym memory) (gives.no_memory answer)

pub memory_at : (file : List ℕ) (answer : ReadFile) (given : End) → given ≡ end.NoMemory → (past : List Entry) → GivesNone file past given (file_read file answer past)
memory_at file answer given memory past = subst (λ x. GivesNone file past x (file_read file answer past)) (sym memory) (gives.no_memory answer)

pub refused_at : (file bytes given_bytes : List ℕ) (u : Usage) (given : End) → given_bytes ≡ bytes → (given ≡ end.Refused u) ⊎ (given ≡ end.NoMemory)
    → (u ≡ usage_fault.NoMemory → given ≡ end.NoMemory) → (u ≡ usage_fault.NoMemory) ⊎ Refused file given_bytes u → (past : List Entry)
    → GivesNone file past given (file_read file (found.Whole bytes) past)
refused_at file bytes given_bytes u given same is memory (inl none) past = memory_at file (found.Whole bytes) given (memory none) past
refused_at file bytes given_bytes u given same is memory (inr why) past =
    none_at file (found.Whole bytes) (end.Refused u) given is past (gives.refused bytes u (subst (λ b. Refused file b u) same why))
