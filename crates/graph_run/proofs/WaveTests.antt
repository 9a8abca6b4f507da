-- The tests of the jobs of a wave, one job more.
use Rattle.std.proofs.Common.{◌≡◌, ◌<◌, ◌≤◌, ℕ, ◌+◌, List, [], ◌∷◌, ◌++◌, length, take, get_or, Option, refl, sym, subst, arith}
use Rattle.std.specs.Prelude.{Ok, Err}
use Rattle.std.specs.List.{AllByRecursion}
use Rattle.words.specs.declared.ask.Ask.{Ask}
use Rattle.words.specs.Runnable.{IsRunnable}
use Rattle.world.specs.declared.entry.Entry.{Entry}
use Rattle.world.specs.Counts.{Counts, DiskCause, Rose}
use Rattle.world.specs.Moments.{Since, Told}
use Rattle.world.proofs.CountsLemmas.{disk_grows, grow_start, rose_since}
use Rattle.world.proofs.MomentsLemmas.{since_then, told_then}
use Rattle.graph_run.specs.declared.ended.Ended.{Ended}
use Rattle.graph_run.specs.declared.refusal.Refusal.{Refusal}
use Rattle.graph_run.specs.declared.refusal.Refusal.TheVariants as refusal
use Rattle.graph_run.specs.declared.tested.Tested.{Tested}
use Rattle.graph_run.specs.declared.workflow.Workflow.{Workflow}
use Rattle.graph_run.specs.Lines.{status_of_refusal}
use Rattle.graph_run.specs.Ran.{AreCaused}
use Rattle.graph_run.specs.Tests.{IsTakeRead, Tests, TestsWave, one_is_refused, one_passes}
use Rattle.graph_run.proofs.CauseLemmas.{all_both, all_since, refusal_caused}
use Rattle.graph_run.proofs.TestLemmas.{one_passes_more, one_refused_more, test_reads}

-- what comes of the test of one job
pub data Step (f : Workflow) (ended : List Ended) (job : ℕ) (i j : Option (List Entry)) (old new : Counts) (was now : Tested) : Type 0 where
  passed : (a : Ask) → Told i j (λ x y. Tests f ended job x (Ok a) y) → (AllByRecursion IsRunnable f.asks → IsRunnable a) → now ≡ one_passes was job a → Step f ended job i j old new was now
  refused : (why : Refusal) → Told i j (λ x y. Tests f ended job x (Err why) y) → ((path : List ℕ) → why ≡ refusal.NotRead path → Rose old.disk new.disk) → (why ≡ refusal.NoMemory → ⊥)
      → now ≡ one_is_refused f was job why → Step f ended job i j old new was now

pub step_tests : {f : Workflow} {ended : List Ended} {job : ℕ} {h i j : Option (List Entry)} {old new : Counts} {was now : Tested} (wave : List ℕ) (k : ℕ) → k < length wave → job ≡ get_or wave k job
    → Told h i (λ x y. TestsWave f ended x (take k wave) was y) → Step f ended job i j old new was now → Told h j (λ x y. TestsWave f ended x (take (k + 1) wave) now y)
step_tests {f} {ended} {job} {was = was} {now} wave k below is told (Step.passed a test runs same) =
    told_then told test (λ x y z so_far one. one_passes_more f ended wave k job a was now (Ok a) x y z below is so_far refl one same)
step_tests {f} {ended} {job} {was = was} {now} wave k below is told (Step.refused why test read some same) =
    told_then told test (λ x y z so_far one. one_refused_more f ended wave k job why was now (Err why) x y z below is so_far refl one some same)

pub step_reads : {f : Workflow} {ended : List Ended} {job : ℕ} {h i j : Option (List Entry)} {old new : Counts} {was now : Tested} → Told h i (Since (IsTakeRead f))
    → Step f ended job i j old new was now → Told h j (Since (IsTakeRead f))
step_reads told (Step.passed a test runs same) = told_then told test (λ x y z b d. since_then b (test_reads d))
step_reads told (Step.refused why test read some same) = told_then told test (λ x y z b d. since_then b (test_reads d))

all_last : {A : Type 0} (P : A → Type 0) (xs : List A) (x : A) → AllByRecursion P xs → P x → AllByRecursion P (xs ++ x ∷ [])
all_last P [] x all here = (here, tt)
all_last P (y ∷ ys) x all here = (all.0, all_last P ys x all.1 here)

length_last : {A : Type 0} (xs : List A) (x : A) → length (xs ++ x ∷ []) ≡ length xs + 1
length_last [] x = refl
length_last (y ∷ ys) x = let e = length_last ys x in omega (arith, e)

pub step_runnable : {f : Workflow} {ended : List Ended} {job : ℕ} {i j : Option (List Entry)} {old new : Counts} {was now : Tested} → (AllByRecursion IsRunnable f.asks → AllByRecursion IsRunnable was.asks)
    → Step f ended job i j old new was now → AllByRecursion IsRunnable f.asks → AllByRecursion IsRunnable now.asks
step_runnable {was = was} all (Step.passed a test runs same) each =
    subst (λ (t : Tested). AllByRecursion IsRunnable t.asks) (sym same) (all_last IsRunnable was.asks a (all each) (runs each))
step_runnable all (Step.refused why test read some same) each = subst (λ (t : Tested). AllByRecursion IsRunnable t.asks) (sym same) (all each)

pub step_few : {f : Workflow} {ended : List Ended} {job : ℕ} {i j : Option (List Entry)} {old new : Counts} {was now : Tested} (k : ℕ) → length was.asks ≤ k → Step f ended job i j old new was now
    → length now.asks ≤ k + 1
step_few {was = was} k few (Step.passed a test runs same) =
    let e = length_last was.asks a in
    subst (λ (t : Tested). length t.asks ≤ k + 1) (sym same) (omega (arith, few, e))
step_few k few (Step.refused why test read some same) = subst (λ (t : Tested). length t.asks ≤ k + 1) (sym same) (omega (arith, few))

pub step_caused : {f : Workflow} {ended : List Ended} {job : ℕ} {i j : Option (List Entry)} {mid new : Counts} {was now : Tested} (most : ℕ) (old : Counts) → DiskCause old mid ⊥ → DiskCause mid new ⊥
    → AreCaused most old mid was.refused → Step f ended job i j mid new was now → AreCaused most old new now.refused
step_caused {mid = mid} {new} {was} most old before after all (Step.passed a test runs same) =
    subst (λ (t : Tested). AreCaused most old new t.refused) (sym same) (all_since most old old mid new was.refused (grow_start old) (disk_grows after) all)
step_caused {job = job} {mid = mid} {new} {was} most old before after all (Step.refused why test read some same) =
    subst (λ (t : Tested). AreCaused most old new t.refused) (sym same)
    (all_both most old new was.refused ((record { job = job; status = status_of_refusal why }) ∷ []) (all_since most old old mid new was.refused (grow_start old) (disk_grows after) all)
    (refusal_caused most old new why (λ path is. rose_since old.disk mid.disk new.disk before.disk.later (read path is)), tt))
