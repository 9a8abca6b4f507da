-- The promise of a run: what `run` makes of the world, for every list of words and every world.
use Rattle.std.specs.Prelude.{◌≡◌, ◌⊎◌, ℕ, List, Option, Some, None}
use Rattle.words.specs.declared.ask.Ask.{Ask}
use Rattle.words.specs.declared.usage.Usage.{Usage}
use Rattle.words.specs.Refusals.{refusal}
use Rattle.world.specs.declared.entry.Entry.{Entry}
use Rattle.world.specs.Counts.{Counts}
use Rattle.world.specs.Told.{Between}
use Rattle.said_lines.specs.Between.{FromStart, DiskRose, SayRose, SayFailed}
use Rattle.said_lines.specs.Speech.{heard}
use Rattle.save_disk.specs.Places.{save_count}
use Rattle.nbrun_top.specs.Asked.{IsJob, IsPlain, IsExecuting, IsExecuted, IsExercise, IsNoExercise}
use Rattle.nbrun_top.specs.Crash.{IsSafe}
use Rattle.nbrun_top.specs.Ended.{Ended, IsHeard, acks_of}
use Rattle.nbrun_top.specs.Executed.{Executed, IsSavedAlone, DoesNotWrite, StartRose, NetRose, WaitsAll, WaitsAtMost}
use Rattle.nbrun_top.specs.Exercised.{Exercised}
use Rattle.nbrun_top.specs.ExerciseLine.{IsOutcome}
use Rattle.nbrun_top.specs.Ran.{IsDelivered, IsOther, IsUntouched}

-- A run of these words in this working folder, with at most so many waits, answered `result`. `journal` and `counts` are what a
-- world tells of itself. A clause over the journal holds where it is told; `FromStart` has the premise that it was empty before.
pub record Promise {W : Type 0} (journal : W → Option (List Entry)) (counts : W → Counts) (old new : W) (words : List (List ℕ)) (here : List ℕ) (turns result : ℕ) : Type 0 where
  -- words that execute nothing: each status has its cause, with all that was asked of the world and all that was said
  pub causes : IsPlain words → Between journal old new (Ended words result (SayRose counts old new) (SayFailed counts new))
  -- after 0 and 11 a crash leaves at the output just the notebook with its parameters
  pub delivered : IsPlain words → FromStart journal old new (λ j. (result ≡ 0) ⊎ (result ≡ 11) → IsDelivered words j)
  -- at every moment a crash leaves at the output what was there before, or the whole new text
  pub crash : FromStart journal old new (λ j. (a : Ask) → IsJob words a → IsSafe a j)
  -- a save is acknowledged exactly with status 0 or 11, and then one
  pub acknowledged : FromStart journal old new (λ j. (a : Ask) → IsJob words a → save_count a.output j ≡ acks_of result)
  -- at every moment a crash leaves every other file as it was
  pub untouched : IsPlain words → FromStart journal old new (λ j. (path : List ℕ) → IsOther words path → IsUntouched path j)
  -- at every moment a crash leaves the input as it was
  pub input : FromStart journal old new (λ j. (a : Ask) → IsJob words a → IsUntouched a.input j)
  -- what is said are the lines of how this run ended, or a front of them where a say failed
  pub said : IsPlain words → FromStart journal old new (IsHeard words result (SayRose counts old new) (SayFailed counts new))
  -- where a say had failed before, nothing is said
  pub silent : IsPlain words → SayFailed counts old → Between journal old new (λ before after. heard after ≡ heard before)
  -- words that execute notebooks: the jobs ran, those of a jobs file by the bytes that were read, each call was one of theirs or of
  -- the loop, and each child that was started has its end; or why they did not run is said
  pub executed : IsExecuting words → FromStart journal old new (Executed words here (SayRose counts old new) (SayFailed counts new) result)
  -- The one job of the words: at every moment a crash leaves at the output what was there before, or a prefix of the notebook that
  -- was read, the one that was acknowledged last or the next. 0, 1, 7, 8, 9, 13 and 15 come only where there are events that stop
  -- the job for that cause.
  pub prefixes : FromStart journal old new (λ j. (a : Ask) → IsExecuted words a → IsSavedAlone a result j)
  -- the one job of the words: at every moment a crash leaves every file as it was that the job doesn't write
  pub others : FromStart journal old new (λ j. (a : Ask) (path : List ℕ) → IsExecuted words a → DoesNotWrite a.output path → IsUntouched path j)
  -- the one job of the words: at every moment a crash leaves its input as it was
  pub read_only : FromStart journal old new (λ j. (a : Ask) → IsExecuted words a → IsUntouched a.input j)
  -- the exercise: its one line is said, with the numbers and the status of a run in memory, and nothing else is asked of the world
  pub exercised : (n : ℕ) → IsExercise words n → Between journal old new (λ before after. Exercised (IsOutcome n) (SayRose counts old new) (SayFailed counts new) before result after)
  -- words that are refused have the status 2, or memory was refused
  pub usage : (u : Usage) → refusal words ≡ Some u → (result ≡ 2) ⊎ (result ≡ 12)
  -- words that execute nothing have the status 2 only where they are refused
  pub refused : IsPlain words → result ≡ 2 → refusal words ≡ None → ⊥
  -- 3 comes only where the count of failed calls of the disk rose
  pub read_fault : IsNoExercise words → result ≡ 3 → DiskRose counts old new
  -- 6 comes only where the count of failed random words or of failed children rose
  pub start_fault : IsNoExercise words → result ≡ 6 → StartRose counts old new
  -- 10 comes only where the count of failed calls of the disk rose
  pub save_fault : IsNoExercise words → result ≡ 10 → DiskRose counts old new
  -- 11 comes only where the count of failed says rose
  pub say_fault : IsNoExercise words → result ≡ 11 → SayRose counts old new
  -- 14 comes only where the count of failed calls of the network rose
  pub net_fault : IsNoExercise words → result ≡ 14 → NetRose counts old new
  -- 16 comes only where all waits were made
  pub spent : IsNoExercise words → result ≡ 16 → WaitsAll counts old new turns
  -- there are at most so many waits
  pub waits : WaitsAtMost counts old new turns
  -- 0 comes only where no say failed
  pub heard : result ≡ 0 → SayRose counts old new → ⊥
