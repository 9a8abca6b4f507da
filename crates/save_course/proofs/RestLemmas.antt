-- Courses that go on while nothing waits for the sync of the output's folder.
use Rattle.std.proofs.Common.{◌≡◌, ◌≢◌, inl, inr, ℕ, ◌+◌, ◌&&◌, ◌||◌, Bool, true, false, List, ◌∷◌, Result, Ok, Err, refl, sym, subst, if◌then◌else◌}
use Rattle.std.specs.Str.{bytes_eq}
use Rattle.std.proofs.lemmas.Bool.{false_from_ne_true}
use Rattle.nb_model.specs.declared.notebook.Notebook.{Notebook}
use Rattle.world.specs.declared.entry.Entry.{Entry}
use Rattle.world.specs.declared.entry.Entry.TheVariants as made
use Rattle.world.specs.declared.did.Did.TheVariants as did
use Rattle.world.specs.Acked.{ack_count, renames, syncs_folder, is_renamed}
use Rattle.world.specs.Moments.{Since, start, more as later}
use Rattle.world.specs.Parts.{IsNotOf, OnDisk, OnSay, part_of}
use Rattle.world.specs.Touched.{touches, Spares}
use Rattle.world.proofs.MomentsLemmas.{since_as}
use Rattle.world.proofs.PartsLemmas.{is_not_of}
use Rattle.world.proofs.SaveLemmas.{renames_is}
use Rattle.save_disk.specs.declared.save_fault.SaveFault.{SaveFault}
use Rattle.save_disk.specs.declared.save_fault.SaveFault.TheVariants as failed_at
use Rattle.save_disk.specs.Entries.{SaveOf}
use Rattle.world.specs.Save.{temporary_of}
use Rattle.said_lines.specs.Speech.{Says}
use Rattle.said_lines.proofs.SpeechLemmas.{says_since}
use Rattle.progress_save.specs.declared.progress_fault.ProgressFault.{ProgressFault}
use Rattle.progress_save.specs.declared.progress_fault.ProgressFault.TheVariants as fault
use Rattle.progress_save.specs.Saved.{SavesAs, done, failure}
use Rattle.save_course.specs.Course.{Course, passes, IsRested}
use Rattle.jtext.proofs.Equals.{same_bytes}

-- a test that also asks for what is false
pub neither : (b : Bool) (x y : ℕ) → (if b && false then x else y) ≡ y
neither true x y = refl
neither false x y = refl

-- what doesn't touch a path doesn't rename onto it
spared_name : (from to : List ℕ) (entry : Entry) → touches to entry ≡ false → renames from to entry ≡ false
spared_name from to entry spared =
    false_from_ne_true (renames from to entry) (λ e.
    let named : touches to (made.Renamed from to did.Done) ≡ false = subst (λ x. touches to x ≡ false) (renames_is from to entry e) spared in
    let differs : (true || bytes_eq from to) ≡ false = subst (λ b. (b || bytes_eq from to) ≡ false) (same_bytes to) named in
    absurd (cc))

-- an entry acknowledges nothing where no rename comes before it
pub none_waits : (from to : List ℕ) (entry : Entry) (past : List Entry) → is_renamed from to past ≡ false → ack_count from to (entry ∷ past) ≡ ack_count from to past
none_waits from to entry past rested =
    subst (λ b. (if syncs_folder to entry && b then ack_count from to past + 1 else ack_count from to past) ≡ ack_count from to past) (sym rested)
    (neither (syncs_folder to entry) (ack_count from to past + 1) (ack_count from to past))

pub spared_rest : (output : List ℕ) {past after : List Entry} → IsRested output past → Since (Spares output) past after → IsRested output after
spared_rest output rested start = rested
spared_rest output rested (later {past = mid} {entry = entry} since spared) = spared_name (temporary_of output) output entry spared

module _ (output : List ℕ) (merge : Bool) (first : Notebook) (from : ℕ) (before : List Entry) where
  pub spared_go_on : {is_open : Bool} {settled : ℕ} {past after : List Entry} → Course output merge first from before is_open settled past → IsRested output past
      → Since (Spares output) past after → Course output merge first from before is_open settled after
  spared_go_on c rested start = c
  spared_go_on c rested (later {past = mid} {entry = entry} since spared) =
      passes (spared_go_on c rested since) spared (none_waits (temporary_of output) output entry mid (spared_rest output rested since))

-- ---- after a save

other_rests : (output : List ℕ) (entry : Entry) → part_of entry ≢ OnDisk → renames (temporary_of output) output entry ≡ false
other_rests output (made.Renamed from to d) h = absurd (h refl)
other_rests output entry h = refl

others_rest : (output : List ℕ) {past after : List Entry} → IsRested output past → Since (IsNotOf OnDisk) past after → IsRested output after
others_rest output rested start = rested
others_rest output rested (later {entry = entry} since other) = other_rests output entry other

save_rests : (output text : List ℕ) (past after : List Entry) → SaveOf output text done past after → IsRested output after
save_rests output text past after saved = subst (IsRested output) (sym saved.ends) refl

failure_rests : (output text : List ℕ) (f : SaveFault) (past after : List Entry) → SaveOf output text (failure f) past after → IsRested output after
failure_rests output text failed_at.DirSync past after w = subst (IsRested output) (sym w.ends) refl
failure_rests output text failed_at.Rename past after w = subst (IsRested output) (sym w.ends) refl
failure_rests output text failed_at.Sync past after w = subst (IsRested output) (sym w.ends) refl
failure_rests output text failed_at.Write past after (inl created) = subst (IsRested output) (sym created) refl
failure_rests output text failed_at.Write past after (inr wrote) = subst (IsRested output) (sym wrote.fails) refl

said_rests : (output line : List ℕ) (failed : Type 0) (past after : List Entry) → IsRested output past → Says line failed past after → IsRested output after
said_rests output line failed past after rested says = others_rest output rested (since_as (is_not_of OnSay OnDisk (λ e. absurd (cc))) (says_since says))

pub saved_rests : (output text line : List ℕ) (failed : Type 0) (result : Result (Unit {0}) ProgressFault) (past after : List Entry) → IsRested output past
    → SavesAs output text line failed result past after → IsRested output after
saved_rests output text line failed (Ok u) past after rested did = said_rests output line failed did.past after (save_rests output text past did.past did.saves) did.says
saved_rests output text line failed (Err (fault.Save f)) past after rested did = failure_rests output text f past after did
saved_rests output text line failed (Err fault.Closed) past after rested did = subst (IsRested output) (sym did) rested
saved_rests output text line failed (Err fault.NoMemory) past after rested did = subst (IsRested output) (sym did) rested
