-- Calls of jobs that save elsewhere.
use Rattle.std.proofs.Common.{◌≡◌, ◌≢◌, ℕ, List, [], ◌∷◌, Bool, false, not, refl, ◌∙◌, ap}
use Rattle.std.specs.Str.{bytes_eq}
use Rattle.std.proofs.lemmas.Bool.{and_right}
use Rattle.jtext.proofs.Equals.{turned_bytes}
use Rattle.words.specs.declared.ask.Ask.{Ask}
use Rattle.world.specs.declared.did.Did.{Did}
use Rattle.world.specs.declared.did.Did.TheVariants as did
use Rattle.world.specs.declared.entry.Entry.{Entry}
use Rattle.world.specs.declared.entry.Entry.TheVariants as made
use Rattle.world.specs.Acked.{is_renamed, renames, syncs_folder}
use Rattle.world.specs.Moments.{Since, start, more}
use Rattle.world.specs.Parts.{IsNotOf, OnClock, part_of}
use Rattle.world.specs.Save.{temporary_of}
use Rattle.world.proofs.MomentsLemmas.{since_as}
use Rattle.save_course.specs.Course.{IsRested}
use Rattle.job_saves.specs.Calls.{Cast, IsCall, IsCallOf}
use Rattle.ready_loop.specs.declared.readiness.Loop.{Loop}
use Rattle.ready_loop.specs.History.{History}
use Rattle.ready_loop.specs.Standing.{IsElsewhere, MadeElsewhere, StandsFor}
use Rattle.ready_loop.proofs.RunLemmas.{others_stand}
use Rattle.run_journal.specs.Job.{Job}
use Rattle.job_journal.specs.Quiet.{IsQuiet, IsQuietNow}
use Rattle.job_journal.proofs.Quiet.{quiet_kind, quiet_sync}
use Rattle.other_jobs.specs.Elsewhere.{SavesElsewhere}
use Rattle.other_jobs.proofs.Moments.{since_both}

-- ---- one call

-- a rename onto another path
renames_elsewhere : (output other from to : List ℕ) (d : Did) → to ≡ other → bytes_eq other output ≡ false
    → renames (temporary_of output) output (made.Renamed from to d) ≡ false
renames_elsewhere output other from to did.Done e apart =
    and_right (bytes_eq (temporary_of output) from) (bytes_eq output to) (turned_bytes output to ∙ ap (λ p. bytes_eq p output) e ∙ apart)
renames_elsewhere output other from to did.Failed e apart = refl

module _ (output here : List ℕ) (starts clean : Bool) (number : ℕ) (a : Ask) (apart : bytes_eq a.output output ≡ false) where
  pub call_rests : (entry : Entry) (past : List Entry) → IsCallOf here starts clean number a past entry
      → renames (temporary_of output) output entry ≡ false
  call_rests (made.Renamed from to d) past is = renames_elsewhere output a.output from to d is.1 apart
  call_rests _ past is = refl

module _ (j : Job) (here : List ℕ) (starts clean : Bool) (number : ℕ) (a : Ask) (apart : bytes_eq a.output j.output ≡ false) where
  pub call_quiet : (entry : Entry) (past : List Entry) → IsCallOf here starts clean number a past entry → part_of entry ≢ OnClock
      → IsRested j.output past → IsQuiet j entry past
  call_quiet (made.Moment ms) past is off rested = absurd (off refl)
  call_quiet (made.Renamed from to d) past is off rested =
      quiet_kind j (made.Renamed from to d) past (ap not (renames_elsewhere j.output a.output from to d is.1 apart))
  call_quiet (made.DirSynced dir d) past is off rested =
      quiet_sync j dir d past (and_right (syncs_folder j.output (made.DirSynced dir d)) (is_renamed (temporary_of j.output) j.output past) rested)
  call_quiet (made.Got conn room bytes) past is off rested = absurd is
  call_quiet (made.Connected conn port how) past is off rested = absurd is
  call_quiet entry past is off rested = quiet_kind j entry past refl

-- ---- one call after another

pub calls_rest : (output : List ℕ) (c : Cast) → SavesElsewhere c output → {before now : List Entry} → Since (IsCall c) before now → IsRested output before
    → IsRested output now
calls_rest output c elsewhere start rested = rested
calls_rest output c elsewhere (more {past} {entry} since is) rested =
    call_rests output c.here c.starts c.clean is.number is.ask (elsewhere.each is.number is.ask is.has) entry past is.is

both_quiet : (j : Job) (c : Cast) → SavesElsewhere c j.output → {before now : List Entry} → Since (λ x. IsCall c x × IsNotOf OnClock x) before now
    → IsRested j.output before → Since (IsQuietNow j) before now
both_quiet j c elsewhere start rested = start
both_quiet j c elsewhere (more {past} {entry} since both) rested =
    let is = both.0 in
    more (both_quiet j c elsewhere since rested)
    (call_quiet j c.here c.starts c.clean is.number is.ask (elsewhere.each is.number is.ask is.has) entry past is.is both.1
    (calls_rest j.output c elsewhere (since_as (λ now b. b.0) since) rested))

pub calls_quiet : (j : Job) (c : Cast) (before now : List Entry) → SavesElsewhere c j.output → Since (IsCall c) before now
    → Since (IsNotOf OnClock) before now → IsRested j.output before → Since (IsQuietNow j) before now
calls_quiet j c before now elsewhere calls off rested = both_quiet j c elsewhere (since_both calls off) rested

-- ---- the loop

call_elsewhere : (here : List ℕ) (starts clean : Bool) (number : ℕ) (a : Ask) (entry : Entry) (past : List Entry) → IsCallOf here starts clean number a past entry
    → IsElsewhere entry
call_elsewhere here starts clean number a (made.Connected conn port how) past is = absurd is
call_elsewhere here starts clean number a (made.Closed conn) past is = absurd is
call_elsewhere here starts clean number a (made.Got conn room bytes) past is = absurd is
call_elsewhere here starts clean number a (made.Dry conn) past is = absurd is
call_elsewhere here starts clean number a (made.Ended conn by) past is = absurd is
call_elsewhere here starts clean number a (made.Refused conn by) past is = absurd is
call_elsewhere here starts clean number a (made.ReadFailed conn) past is = absurd is
call_elsewhere here starts clean number a (made.Put conn bytes) past is = absurd is
call_elsewhere here starts clean number a (made.Stuck conn) past is = absurd is
call_elsewhere here starts clean number a (made.PutFailed conn) past is = absurd is
call_elsewhere here starts clean number a (made.Waited ms reports d) past is = absurd is
call_elsewhere here starts clean number a _ past is = record { conn = refl; wait = refl }

calls_elsewhere : (c : Cast) (now : List Entry) → IsCall c now → MadeElsewhere now
calls_elsewhere c [] is = absurd is
calls_elsewhere c (entry ∷ past) is = call_elsewhere c.here c.starts c.clean is.number is.ask entry past is.is

pub loop_stands : (l : Loop) (h : History) (c : Cast) (before now : List Entry) → Since (IsCall c) before now → StandsFor l h before → StandsFor l h now
loop_stands l h c before now since stand = others_stand l h before now (since_as (calls_elsewhere c) since) stand
