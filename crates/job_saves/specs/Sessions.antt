-- The random words of a job's session, and what the job asks of the world from there to the start of its child (jupyter_client,
-- "Connection files"), by the entries of a journal, its newest entry first.
use Rattle.std.specs.Prelude.{◌≡◌, ℕ, List, [], ◌∷◌, Some}
use Rattle.words.specs.Paths.{connection_of}
use Rattle.world.specs.declared.entry.Entry.{Entry}
use Rattle.world.specs.declared.entry.Entry.TheVariants as made
use Rattle.world.specs.Disk.{folder_of}
use Rattle.world.specs.Moments.{Since}
use Rattle.world.specs.Save.{temporary_of}
use Rattle.kernel_start.specs.declared.random_words.RandomPairs.{RandomPairs}
use Rattle.kernel_start.specs.RandomWords.{Draws}
use Rattle.kernel_talk.specs.Requests.{identifier}

-- an entry of a save of this output, of what is said, or of the clock
abbrev pub IsSaveEntry : List ℕ → Entry → Type 0
IsSaveEntry output (made.Created path did) = path ≡ temporary_of output
IsSaveEntry output (made.Wrote path bytes did) = path ≡ temporary_of output
IsSaveEntry output (made.Synced path did) = path ≡ temporary_of output
IsSaveEntry output (made.Renamed from to did) = (from ≡ temporary_of output) × (to ≡ output)
IsSaveEntry output (made.DirSynced dir did) = dir ≡ folder_of output
IsSaveEntry output (made.Moment ms) = Unit {0}
IsSaveEntry output (made.Said bytes did) = Unit {0}
-- no other one: none draws a word, and none asks for ports or starts a child
IsSaveEntry output _ = ⊥

-- the newest entry is one of the job's saves, and draws no word, asks for no ports and starts no child
abbrev pub IsSaveCall : List ℕ → List Entry → Type 0
IsSaveCall output [] = ⊥
IsSaveCall output (entry ∷ past) = IsSaveEntry output entry

-- an entry of the making of this file
abbrev pub IsFileEntry : List ℕ → Entry → Type 0
IsFileEntry path (made.Created p did) = p ≡ path
IsFileEntry path (made.Wrote p bytes did) = p ≡ path
IsFileEntry path (made.Synced p did) = p ≡ path
IsFileEntry path _ = ⊥

-- the newest entry belongs to the making of this file
abbrev pub IsFileCall : List ℕ → List Entry → Type 0
IsFileCall path [] = ⊥
IsFileCall path (entry ∷ past) = IsFileEntry path entry

-- the key of a session of these words
abbrev pub key_of : RandomPairs → List ℕ
key_of pairs = identifier pairs.key.0 pairs.key.1

-- The four words of a session were drawn, one right behind another, and since then this output was saved, lines were said and
-- the clock was read, and nothing else was asked: these are the words that were drawn last of all.
pub record HasDrawn (output : List ℕ) (pairs : RandomPairs) (past : List Entry) : Type 0 where
  pub before : List Entry
  pub drawn : List Entry
  pub draws : Draws (Some pairs) before drawn
  pub since : Since (IsSaveCall output) drawn past

-- Right behind that the job of this number asked for its ports, which could be had, and since then its connection file was made,
-- and nothing else was asked.
pub record HasAsked (number : ℕ) (output : List ℕ) (pairs : RandomPairs) (ports : List ℕ) (past : List Entry) : Type 0 where
  pub asked : List Entry
  pub session : HasDrawn output pairs asked
  pub since : Since (IsFileCall (connection_of output)) (made.Ports number (Some ports) ∷ asked) past
