-- The promise of a graph: what the call makes of the world, for every list of words and every world.
use Rattle.std.specs.Prelude.{◌≡◌, ◌⊎◌, ◌≤◌, ◌+◌, ℕ, List, Option, Some}
use Rattle.words.specs.declared.usage.Usage.{Usage}
use Rattle.words.specs.Refusals.{refusal}
use Rattle.world.specs.declared.entry.Entry.{Entry}
use Rattle.world.specs.Counts.{Counts}
use Rattle.world.specs.Told.{Between}
use Rattle.said_lines.specs.Between.{SayRose, SayFailed}
use Rattle.graph_run.specs.Ran.{IsCaused, Ran}
use Rattle.graph_run.specs.Words.{batch_words}

-- What the counts tell of a graph with at most so many waits that answered `result`.
pub record Kept {W : Type 0} (counts : W → Counts) (old new : W) (turns result : ℕ) : Type 0 where
  -- 3 and 10 come only where the count of failed calls of the disk rose, 6 that of the random words or of the children, 14 that of
  -- the network; 16 only where all waits were made
  pub caused : IsCaused ((counts old).waits + turns) (counts old) (counts new) result
  -- 11 comes only where the count of failed says rose
  pub say : result ≡ 11 → SayRose counts old new
  -- there are at most so many waits
  pub waits : (counts new).waits ≤ (counts old).waits + turns
  -- 0 comes only where no say failed
  pub heard : result ≡ 0 → SayRose counts old new → ⊥

-- A graph with these words in this working folder, with at most so many waits, answered `result`. `journal` and `counts` are what a
-- world tells of itself. A clause over the journal holds where it is told.
pub record Promise {W : Type 0} (journal : W → Option (List Entry)) (counts : W → Counts) (old new : W) (words : List (List ℕ)) (here : List ℕ) (turns result : ℕ) : Type 0 where
  -- Its jobs ran in waves, each after all that it needs and with what it takes from these; or why they did not is said. A child starts only
  -- behind the last acknowledged save of each job that its own job needs, and later waves leave the outputs of earlier ones alone.
  pub ran : Between journal old new (λ before after. Ran words here turns (SayRose counts old new) (SayFailed counts new) (counts old) (counts new) before result after)
  -- words that are refused have the status 2, or memory was refused
  pub usage : (u : Usage) → refusal (batch_words words) ≡ Some u → (result ≡ 2) ⊎ (result ≡ 12)
  -- each status has its cause, and there are not too many waits
  pub kept : Kept counts old new turns result
