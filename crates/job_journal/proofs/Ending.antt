-- What is left of the saves where a job ends, or where its save failed.
use Rattle.std.proofs.Common.{◌≡◌, inl, inr, ℕ, ◌+◌, List, [], ◌∷◌, Option, Some, None, refl, sym, ◌∙◌, subst}
use Rattle.std.specs.Prelude.{slice_get}
use Rattle.world.specs.declared.chan.Chan.{Chan}
use Rattle.world.specs.declared.did.Did.TheVariants.{Done, Failed}
use Rattle.world.specs.declared.entry.Entry.{Entry}
use Rattle.world.specs.declared.entry.Entry.TheVariants as made
use Rattle.world.specs.Disk as disk
use Rattle.world.specs.Moments as moments
use Rattle.world.specs.Save.{temporary_of}
use Rattle.save_disk.specs.Entries as save_entries
use Rattle.save_disk.specs.declared.save_fault.SaveFault.{SaveFault}
use Rattle.save_disk.specs.declared.save_fault.SaveFault.TheVariants as fault
use Rattle.cell_core.specs.declared.event.Event.{Event}
use Rattle.cell_core.specs.declared.machine.Core.{Core}
use Rattle.cell_core.specs.declared.why.Why.{Why}
use Rattle.cell_core.specs.Saves as core_saves
use Rattle.progress_save.specs.Saved.{failure}
use Rattle.run_journal.specs.Codec.{Arrival}
use Rattle.run_journal.specs.Job.{Job}
use Rattle.run_journal.specs.Parts.{saves_of}
use Rattle.run_journal.specs.Requests.{Request, requests, used_of}
use Rattle.run_journal.specs.Saves.{Save, run_saves}
use Rattle.run_journal.specs.Queue.{Queued}
use Rattle.run_journal.specs.Agreement.{IsOther}
use Rattle.run_journal.proofs.Agreeing.{agree_other}
use Rattle.run_journal.proofs.Growth.{go_self}
use Rattle.job_journal.specs.Made.{HasMade, passing_saves}
use Rattle.job_journal.specs.Piece.{HasCome, Within}
use Rattle.job_journal.specs.Plot.{Plot, facts, IsFor}
use Rattle.job_journal.specs.Quiet.{IsStill, IsQuietNow}
use Rattle.job_journal.specs.Saved.{IsAsked, save_of}
use Rattle.job_journal.specs.Standing.{Parts, StandsBy, IsToSend, HasEndedAs}
use Rattle.job_journal.specs.Told.{Hears}
use Rattle.job_journal.proofs.Steps.{up_other}
use Rattle.job_journal.proofs.Acking.{requests_on, writes_quiet}
use Rattle.job_journal.proofs.Making.{made_grows, made_unsynced}
use Rattle.job_journal.proofs.Pieces.{piece_facts, piece_keeps_made}
use Rattle.job_journal.proofs.Quiet.{ended_on, quiet_kind, requests_stay}
use Rattle.job_journal.proofs.Saving.{next_save}

-- ---- wherever a job ends

of_passes : (p : Plot) (now : List Entry) → HasMade (facts p) (passing_saves (facts p) (requests (facts p) now)) (saves_of (facts p) now) now → HasEndedAs p now
of_passes p now h =
    let rs : List Request = requests (facts p) now in
    record { cause = None; count = saves_of (facts p) now; made = (made_grows (facts p) (saves_of (facts p) now) rs rs now (go_self rs) h).1 None }

pub ends_standing : (p : Plot) (number : ℕ) (x : Parts) (unsent : List Queued) (pending : List Event) (now : List Entry) → StandsBy p number x unsent pending now → HasEndedAs p now
ends_standing p number x unsent pending now h = of_passes p now h.made

pub ends_sending : (p : Plot) (number : ℕ) (x : Parts) (cell : ℕ) (now : List Entry) → IsToSend p number x cell now → HasEndedAs p now
ends_sending p number x cell now h = of_passes p now h.made

pub ends_within : (p : Plot) (number : ℕ) (x : Parts) (c : Chan) (done rest : List Arrival) (entry : Entry) (past : List Entry) → Within p number x c done rest entry past
    → HasEndedAs p (entry ∷ past)
ends_within p number x c done rest entry past w = of_passes p (entry ∷ past) w.made

pub ends_coming : (p : Plot) (number : ℕ) (x : Parts) (c : Chan) (ms : List Arrival) (entry : Entry) (past : List Entry) → HasCome p number x c ms entry past
    → HasEndedAs p (entry ∷ past)
ends_coming p number x c ms entry past h = of_passes p (entry ∷ past) (piece_keeps_made (facts p) entry past (piece_facts (facts p) c past h.piece) h.made)

-- ---- another event

-- an event of the clock, a look, a loss or a broken stream is told
pub other_told : (p : Plot) (number : ℕ) (x : Parts) (unsent : List Queued) (now : List Entry) (h : StandsBy p number x unsent [] now) (e : Event) (next : Core) → IsOther e
    → IsFor p number x.session next x.book → Hears (facts p) next (e ∷ h.core.told)
    → (s : StandsBy p number (record x { core = next }) unsent [] now) × (s.core.told ≡ e ∷ h.core.told)
other_told p number x unsent now h e next o is_for hears = (
  record {
    undated = h.undated;
    is_for = is_for;
    lines = h.lines;
    talk = h.talk;
    shell_seen = h.shell_seen;
    iopub_seen = h.iopub_seen;
    book = h.book;
    request = h.request;
    sent = h.sent;
    core = record {
      told = e ∷ h.core.told;
      hears = hears;
      agrees = agree_other (facts p) e h.core.told now o h.core.agrees;
      up = up_other (facts p) x.core next e h.core.told now h.core.hears hears h.core.agrees (agree_other (facts p) e h.core.told now o h.core.agrees) h.core.up;
    };
    made = h.made;
    ready = h.ready;
    clock = h.clock;
  },
  refl,
)

-- ---- a save that failed

module _ (p : Plot) (number : ℕ) (x : Parts) (past now : List Entry) (h : StandsBy p number x [] [] past) (settled : ℕ) (asked : IsAsked (facts p).task h.core.told settled)
    (text : List ℕ) (text_is : text ≡ (save_of (facts p) (used_of (facts p).task.plan (requests (facts p) past)) asked.asked).text) where
  abbrev j : Job
  j = facts p

  abbrev tmp : List ℕ
  tmp = temporary_of j.output

  left : HasEndedAs p past
  left = ends_standing p number x [] [] past h

  unmade : (after : List Entry) → after ≡ now → moments.Since (IsQuietNow j) past after → HasEndedAs p now
  unmade after e w = subst (λ xs. HasEndedAs p xs) e (ended_on p past after h.undated w left)

  pub failed_ends : (f : SaveFault) → save_entries.SaveOf j.output text (failure f) past now → HasEndedAs p now
  failed_ends fault.Write (inl e) = unmade (made.Created tmp Failed ∷ past) (sym e) (moments.more moments.start (quiet_kind j (made.Created tmp Failed) past refl))
  failed_ends fault.Write (inr w) =
      unmade (made.Wrote tmp w.rest Failed ∷ w.past) (sym w.fails)
      (moments.more (writes_quiet j tmp text past w.writes) (quiet_kind j (made.Wrote tmp w.rest Failed) w.past refl))
  failed_ends fault.Sync w =
      unmade (made.Synced tmp Failed ∷ w.past) (sym w.ends) (moments.more (writes_quiet j tmp text past w.writes) (quiet_kind j (made.Synced tmp Failed) w.past refl))
  failed_ends fault.Rename w =
      unmade (made.Renamed tmp j.output Failed ∷ made.Synced tmp Done ∷ w.past) (sym w.ends)
      (moments.more (moments.more (writes_quiet j tmp text past w.writes) (quiet_kind j (made.Synced tmp Done) w.past refl))
      (quiet_kind j (made.Renamed tmp j.output Failed) (made.Synced tmp Done ∷ w.past) refl))
  failed_ends fault.DirSync w =
      let synced : List Entry = made.Synced tmp Done ∷ w.past in
      let renamed : List Entry = made.Renamed tmp j.output Done ∷ synced in
      let after : List Entry = made.DirSynced (disk.folder_of j.output) Failed ∷ renamed in
      let chain : moments.Since (IsQuietNow j) past synced = moments.more (writes_quiet j tmp text past w.writes) (quiet_kind j (made.Synced tmp Done) w.past refl) in
      let still : IsStill j (made.Renamed tmp j.output Done) synced = record { nothing = λ c. refl; got = λ c. refl; clock = refl; acks = refl } in
      let quiet = quiet_kind j (made.DirSynced (disk.folder_of j.output) Failed) renamed refl in
      let same : requests j after ≡ requests j past
      = requests_stay j h.undated (made.DirSynced (disk.folder_of j.output) Failed) renamed quiet.still
      ∙ requests_stay j h.undated (made.Renamed tmp j.output Done) synced still
      ∙ requests_on j past synced h.undated chain in
      let cause : Option Why = core_saves.why j.task h.core.told in
      let rs : List Request = requests j past in
      let s : Save = save_of j (used_of j.task.plan rs) asked.asked in
      let due : slice_get (run_saves j rs cause) (saves_of j past) ≡ Some s = next_save j h.core.told past h.core.agrees h.is_for.runs asked.asked asked.at in
      let all : HasMade j (run_saves j rs cause) (saves_of j past) past = (made_grows j (saves_of j past) rs rs past (go_self rs) h.made).1 cause in
      subst (λ xs. HasEndedAs p xs) (sym w.ends)
      (record {
        cause = cause;
        count = saves_of j past + 1;
        made = subst (λ ss. HasMade j (run_saves j ss cause) (saves_of j past + 1) after) (sym same)
            (made_unsynced j (run_saves j rs cause) (saves_of j past) s past after due
            (record { past = w.past; writes = subst (λ t. save_entries.Writes tmp t (made.Created tmp Done ∷ past) [] w.past) text_is w.writes; ends = refl }) all);
      })
