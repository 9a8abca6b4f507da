-- What a run of one job makes, and what is told of a world that was opened.
use Rattle.std.proofs.Common.{
  ◌≡◌,
  ◌+◌,
  ℕ,
  zero,
  suc,
  List,
  [],
  ◌∷◌,
  ◌++◌,
  refl,
  subst,
  sym,
  Option,
  Some,
  Result,
  Ok,
  Err,
}
use Rattle.std.specs.Prelude.{IfOk, OnOk, IfSome, IsSomeAnd, slice_get}
use Rattle.batch_run.specs.Batch.{IsApart, LeavesOthers, Makes, numbered}
use Rattle.job_end.specs.declared.answer.Answer.{Answer}
use Rattle.save_course.specs.Course.{IsRested}
use Rattle.words.specs.declared.ask.Ask.{Ask}
use Rattle.world.specs.declared.entry.Entry.{Entry}
use Rattle.world.specs.Counts.{Counts, no_counts}
use Rattle.world.specs.Moments.{Told}
use Rattle.world.proofs.MomentsLemmas.{told_as}
use Rattle.world_mem.specs.declared.near.Near.{Near}
use Rattle.world_mem.specs.Folder.{file_at}
use Rattle.world_mem.specs.Near.{journal_of, counts_of}
use Rattle.world_mem.specs.Store.{files_of}
use Rattle.nbrun_top.specs.declared.tally.Tally.{Tally}
use Rattle.nbrun_top.specs.ExerciseNumbers.{AreNumbers}
use Rattle.nbrun_top.specs.Exercise.{ask, output, IsOpened}
use Rattle.nbrun_top.specs.ExerciseRun.{HasRun, IsTally, IsWhole}

-- a job alone has no other beside it
pub alone : (a : Ask) → IsApart (numbered 0 (a ∷ [])) 0 a
alone a zero b at other = absurd (other refl)
alone a (suc k) b at other = absurd (cc)

-- what a run makes of each output, where these are its answers
abbrev MakesBy : List Ask → List Answer → Counts → Counts → List Entry → List Entry → Type 0
MakesBy asks answers old new before after = (i : ℕ) (a : Ask) → slice_get asks i ≡ Some a → IsApart (numbered 0 asks) i a → IsRested a.output before
    → Makes (0 + i) a (slice_get answers i) old new before after

-- what a run makes of the output of its one job
pub one_job : (asks : List Ask) (a : Ask) (answers : List Answer) (answer : Answer) (i j : Option (List Entry))
    (old new : Counts) → asks ≡ a ∷ [] → slice_get answers 0 ≡ Some answer → Told i j (MakesBy asks answers old new)
    → Told i j (λ before after. IsRested a.output before → Makes 0 a (Some answer) old new before after)
one_job asks a answers answer i j old new one at told =
    told_as (subst (λ all. Told i j (MakesBy all answers old new)) one told)
    (λ x y each rested. subst (λ o. Makes 0 a o old new x y) at (each 0 a refl (alone a) rested))

-- one ask was added to none
pub one_ask : (new old : List Ask) (x a : Ask) → new ≡ old ++ x ∷ [] → old ≡ [] → x ≡ a → new ≡ a ∷ []
one_ask new old x a added none is = subst (λ y. new ≡ y ∷ []) is (subst (λ o. new ≡ o ++ x ∷ []) none added)

-- what is told from one journal to another
pub told_at : {i j : Option (List Entry)} {R : List Entry → List Entry → Type 0} (x y : List Entry) → i ≡ Some x
    → j ≡ Some y → Told i j R → R x y
told_at {i} {j} {R} x y e f told =
    subst (λ p. IfSome (Some y) (λ after. IsSomeAnd p (λ before. R before after))) e
    (subst (λ q. IfSome q (λ after. IsSomeAnd i (λ before. R before after))) f told.so)

-- the job has run over a world that was opened, where it ended so and was tallied so
pub has_run : {E : Type 0} (n : ℕ) (old new : Near) (answer : Answer) (r : Result Tally E) → IsOpened n old
    → Told (journal_of old) (journal_of new) (λ before after. IsRested output before
    → Makes 0 ask (Some answer) (counts_of old) (counts_of new) before after)
    → Told (journal_of old) (journal_of new) (LeavesOthers (ask ∷ []))
    → IfOk r (λ t. t.answer ≡ answer) → OnOk r (IsWhole new)
    → IfOk r (λ t. AreNumbers (file_at output (files_of new.store)) t.cells t.outputs) → IfOk r (HasRun new)
has_run n old new answer (Err e) o job others is whole numbers = tt
has_run n old new answer (Ok t) o job others is whole numbers =
    let made = told_at [] whole.journal o.journal whole.told job refl in
    record {
      journal = whole.journal;
      told = whole.told;
      fed = whole.fed;
      job =
          subst (λ a. Makes 0 ask (Some a) no_counts (counts_of new) [] whole.journal) (sym is)
          (subst (λ c. Makes 0 ask (Some answer) c (counts_of new) [] whole.journal) o.counts made);
      others = told_at [] whole.journal o.journal whole.told others;
      numbers = numbers;
    }

-- what a run over an opened world tallies
pub is_tally : {E : Type 0} (n : ℕ) (opened near : Near) (r : Result Tally E) → IsOpened n opened
    → IfOk r (HasRun near) → IfOk r (IsTally n)
is_tally n opened near (Err e) o run = tt
is_tally n opened near (Ok t) o run = record { opened = opened; is_opened = o; near = near; run = run }
