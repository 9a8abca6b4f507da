-- Entries of the loop, each by itself.
use Rattle.std.proofs.Common.{◌≡◌, ◌⊎◌, inl, inr, ℕ, List, [], ◌∷◌, false, not, None, refl, ap}
use Rattle.world.specs.declared.entry.Entry.{Entry}
use Rattle.world.specs.declared.entry.Entry.TheVariants as made
use Rattle.world.specs.Acked.{renames}
use Rattle.world.specs.Moments.{Since, start, more}
use Rattle.world.specs.Parts.{OnDisk, OnWire, OnClock}
use Rattle.world.specs.Save.{temporary_of}
use Rattle.world.specs.Waits.{moment_of}
use Rattle.world.proofs.MomentsLemmas.{since_as}
use Rattle.save_course.specs.Course.{IsRested}
use Rattle.ready_loop.specs.Begins.{CloseMoment}
use Rattle.ready_loop.specs.History.{History}
use Rattle.ready_loop.specs.Standing.{IsLoopEntry, IsOfLoop}
use Rattle.run_journal.specs.Job.{Job}
use Rattle.run_journal.specs.Agreement.{is_got}
use Rattle.run_journal.specs.Parts.{begins}
use Rattle.job_journal.specs.Quiet.{IsQuiet, IsQuietNow}
use Rattle.job_journal.proofs.Quiet.{quiet_kind}

-- the loop doesn't call the disk
off_disk : (OnDisk ≡ OnWire) ⊎ (OnDisk ≡ OnClock) → ⊥
off_disk (inl e) = absurd (cc)
off_disk (inr e) = absurd (cc)

pub loop_quiet : (j : Job) (entry : Entry) (past : List Entry) → IsLoopEntry entry → moment_of entry ≡ None → is_got j entry ≡ false → begins j entry ≡ false
    → IsQuiet j entry past
loop_quiet j (made.Moment ms) past is clock got begun = absurd (cc)
loop_quiet j (made.Got conn room bytes) past is clock got begun = quiet_kind j (made.Got conn room bytes) past (ap not got)
loop_quiet j (made.Connected conn port how) past is clock got begun = quiet_kind j (made.Connected conn port how) past (ap not begun)
loop_quiet j (made.Renamed from to did) past is clock got begun = absurd (off_disk is)
loop_quiet j (made.DirSynced dir did) past is clock got begun = absurd (off_disk is)
loop_quiet j entry past is clock got begun = quiet_kind j entry past refl

pub loop_rests : (output : List ℕ) (entry : Entry) → IsLoopEntry entry → renames (temporary_of output) output entry ≡ false
loop_rests output (made.Renamed from to did) is = absurd (off_disk is)
loop_rests output _ is = refl

pub loops_rest : (output : List ℕ) (before now : List Entry) → Since IsOfLoop before now → IsRested output before → IsRested output now
loops_rest output before now start rested = rested
loops_rest output before now (more {past} {entry} since is) rested = loop_rests output entry is

close_quiet : (j : Job) (h : History) (now : List Entry) → CloseMoment h now → IsQuietNow j now
close_quiet j h [] is = absurd is
close_quiet j h (made.Closed conn ∷ past) is = quiet_kind j (made.Closed conn) past refl
close_quiet j h (_ ∷ past) is = absurd is

pub closes_quiet : (j : Job) (h : History) (before now : List Entry) → Since (CloseMoment h) before now → Since (IsQuietNow j) before now
closes_quiet j h before now since = since_as (close_quiet j h) since
