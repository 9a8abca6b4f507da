-- The promise of a report: what the call makes of the world, for every list of words and every world.
use Rattle.std.specs.Prelude.{◌≡◌, ◌⊎◌, ℕ, List, Option, Some, None}
use Rattle.words.specs.declared.usage.Usage.{Usage}
use Rattle.world.specs.declared.entry.Entry.{Entry}
use Rattle.world.specs.Counts.{Counts}
use Rattle.world.specs.Told.{Between}
use Rattle.said_lines.specs.Between.{FromStart, DiskRose, SayRose, SayFailed}
use Rattle.said_lines.specs.Speech.{heard}
use Rattle.save_disk.specs.Places.{save_count}
use Rattle.report_run.specs.declared.request.Request.{Request}
use Rattle.report_run.specs.Ended.{Ended, IsHeard, acks_of}
use Rattle.report_run.specs.Ran.{IsDelivered, IsSafe, IsOther, IsUntouched}
use Rattle.report_run.specs.Words.{refusal, IsRequest}

-- A report with these words answered `result`. `journal` and `counts` are what a world tells of itself. A clause over the
-- journal holds where it is told; `FromStart` has the premise that it was empty before.
pub record Promise {W : Type 0} (journal : W → Option (List Entry)) (counts : W → Counts) (old new : W)
    (words : List (List ℕ)) (result : ℕ) : Type 0 where
  -- each status has its cause, with all that was asked of the world and all that was said
  pub causes : Between journal old new (Ended words result (SayRose counts old new) (SayFailed counts new))
  -- after 0 and 11 a crash leaves at the output just the text that the report makes of its input
  pub delivered : FromStart journal old new (λ j. (result ≡ 0) ⊎ (result ≡ 11) → IsDelivered words j)
  -- at every moment a crash leaves at the output what was there before, or that whole text
  pub crash : FromStart journal old new (λ j. (r : Request) → IsRequest words r → IsSafe r j)
  -- a save is acknowledged exactly with status 0 or 11, and then one
  pub acknowledged : FromStart journal old new
      (λ j. (r : Request) → IsRequest words r → save_count r.output j ≡ acks_of result)
  -- at every moment a crash leaves every other file as it was
  pub untouched : FromStart journal old new (λ j. (path : List ℕ) → IsOther words path → IsUntouched path j)
  -- at every moment a crash leaves the input as it was
  pub input : FromStart journal old new (λ j. (r : Request) → IsRequest words r → IsUntouched r.input j)
  -- what is said is the line of how this report ended, or a front of it where a say failed
  pub said : FromStart journal old new (IsHeard words result (SayRose counts old new) (SayFailed counts new))
  -- where a say had failed before, nothing is said
  pub silent : SayFailed counts old → Between journal old new (λ before after. heard after ≡ heard before)
  -- words that are refused have the status 2, or memory was refused
  pub usage : (u : Usage) → refusal words ≡ Some u → (result ≡ 2) ⊎ (result ≡ 12)
  -- 2 comes only where the words are refused
  pub refused : result ≡ 2 → refusal words ≡ None → ⊥
  -- 3 comes only where the count of failed calls of the disk rose
  pub read_fault : result ≡ 3 → DiskRose counts old new
  -- 10 comes only where the count of failed calls of the disk rose
  pub save_fault : result ≡ 10 → DiskRose counts old new
  -- 11 comes only where the count of failed says rose
  pub say_fault : result ≡ 11 → SayRose counts old new
  -- 0 comes only where no say failed
  pub heard : result ≡ 0 → SayRose counts old new → ⊥
