-- Entries of the journal that change nothing of what a job's parts stand for.
use Rattle.std.specs.Prelude.{◌≡◌, ◌==◌, Bool, true, false, not, List, [], ◌∷◌, None}
use Rattle.std.specs.List.{list_all}
use Rattle.world.specs.declared.chan.Chan.{Chan}
use Rattle.world.specs.declared.entry.Entry.{Entry}
use Rattle.world.specs.declared.entry.Entry.TheVariants as made
use Rattle.world.specs.Acked.{renames, syncs_folder}
use Rattle.world.specs.Save.{temporary_of}
use Rattle.world.specs.Waits.{moment_of}
use Rattle.run_journal.specs.Job.{Job}
use Rattle.run_journal.specs.Parts.{place, is_acknowledging}
use Rattle.run_journal.specs.Agreement.{BringsNothing, is_got}
use Rattle.job_journal.specs.Line.{is_got_at}

-- An entry brings the job no byte, isn't of the clock and acknowledges no save of it.
pub record IsStill (j : Job) (entry : Entry) (past : List Entry) : Type 0 where
  pub nothing : BringsNothing j entry past
  pub got : (c : Chan) → is_got_at (place j c) entry ≡ false
  pub clock : moment_of entry ≡ None
  pub acks : is_acknowledging j (entry ∷ past) ≡ false

-- An entry renames nothing onto the job's output besides.
pub record IsQuiet (j : Job) (entry : Entry) (past : List Entry) : Type 0 where
  pub still : IsStill j entry past
  pub unrenamed : renames (temporary_of j.output) j.output entry ≡ false

-- the newest entry is quiet for the job
abbrev pub IsQuietNow : Job → List Entry → Type 0
IsQuietNow j [] = ⊥
IsQuietNow j (entry ∷ past) = IsQuiet j entry past

-- By its kind an entry is quiet for the job, whatever came before it. Entries of the clock, bytes and connects of the job, renames onto its
-- output and syncs of its folder aren't; all others are.
abbrev pub is_quiet : Job → Entry → Bool
is_quiet j (made.Moment ms) = false
is_quiet j (made.Got conn room bytes) = not (conn.job == j.number)
is_quiet j (made.Connected conn port how) = not (conn.job == j.number)
is_quiet j (made.Renamed from to did) = not (renames (temporary_of j.output) j.output (made.Renamed from to did))
is_quiet j (made.DirSynced dir did) = not (syncs_folder j.output (made.DirSynced dir did))
is_quiet j _ = true

-- no byte was got for the job
abbrev pub is_unread : Job → List Entry → Bool
is_unread j now = list_all (λ entry. not (is_got j entry)) now
