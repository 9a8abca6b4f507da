-- The entries of a save, and those of a line, are calls of their job.
use Rattle.std.proofs.Common.{◌≡◌, ◌≢◌, inl, inr, ℕ, ◌<◌, ◌&&◌, List, ◌∷◌, Bool, true, false, Option, Some, None, Result, Ok, Err, refl, sym, subst, arith}
use Rattle.std.specs.Prelude.{IfSome}
use Rattle.std.specs.Str.{bytes_eq}
use Rattle.std.proofs.lemmas.Bool.{cases_lt}
use Rattle.words.specs.declared.ask.Ask.{Ask}
use Rattle.world.specs.declared.entry.Entry.{Entry}
use Rattle.world.specs.declared.entry.Entry.TheVariants as made
use Rattle.world.specs.declared.did.Did.TheVariants as did
use Rattle.world.specs.Acked.{is_acknowledging}
use Rattle.world.specs.Counts.{Counts}
use Rattle.world.specs.Disk.{folder_of}
use Rattle.world.specs.Moments.{Since, start, more as later, Told}
use Rattle.world.specs.Parts.{OnDisk, OnSay}
use Rattle.world.proofs.MomentsLemmas.{since_then, told_start, told_as as moments_as}
use Rattle.said_lines.specs.Lines.{saved_line}
use Rattle.said_lines.specs.Speech.{Speech, Says, heard}
use Rattle.said_lines.specs.Speech as said
use Rattle.save_disk.specs.Entries.{Writes, WriteFails, SaveOf}
use Rattle.save_disk.specs.Entries as disk
use Rattle.world.specs.Save.{temporary_of}
use Rattle.save_disk.proofs.Laws.{each_entry, part_of_save}
use Rattle.progress_save.specs.declared.progress_fault.ProgressFault.{ProgressFault}
use Rattle.progress_save.specs.declared.progress_fault.ProgressFault.TheVariants as fault
use Rattle.progress_save.specs.Saved.{SaveAnswer, done, failure, SavesAs, SavesSilently}
use Rattle.job_saves.specs.Calls.{Cast, IsOwnFile, IsCallOf, IsCallBy, IsCall}
use Rattle.job_saves.specs.Speaking.{ends_line, IsWhole, SpeaksWhole, IsLine}
use Rattle.job_saves.proofs.KeptLemmas.{heard_since}
use Rattle.job_saves.proofs.SpeakingLemmas.{saved_ends, said_whole}
use Rattle.job_saves.proofs.TellingLemmas.{SaysLine}
use Rattle.jtext.proofs.Equals.{same_bytes}

-- a file that is written stays one that the job may write
pub own_still : (clean : Bool) (number : ℕ) (a : Ask) {path text : List ℕ} {before : List Entry} {rest : List ℕ} {after : List Entry} → IsOwnFile clean number a before path
    → Writes path text before rest after → IsOwnFile clean number a after path
own_still clean number a own disk.none = own
own_still clean number a own (disk.more n before) = own_still clean number a own before

-- behind an acknowledged save
both_same : (b c d : Bool) → b ≡ true → c ≡ true → d ≡ true → (b && (c && d)) ≡ true
both_same true true true e f g = refl
both_same true true false e f g = g
both_same true false d e f g = f
both_same false c d e f g = e

acknowledges : (output : List ℕ) (past : List Entry)
    → is_acknowledging (temporary_of output) output (made.DirSynced (folder_of output) did.Done ∷ made.Renamed (temporary_of output) output did.Done ∷ past) ≡ true
acknowledges output past =
    both_same (bytes_eq (folder_of output) (folder_of output)) (bytes_eq (temporary_of output) (temporary_of output)) (bytes_eq output output)
    (same_bytes (folder_of output)) (same_bytes (temporary_of output)) (same_bytes output)

saved_behind : (output text : List ℕ) (before after : List Entry) → SaveOf output text done before after → is_acknowledging (temporary_of output) output after ≡ true
saved_behind output text before after s =
    subst (λ past. is_acknowledging (temporary_of output) output past ≡ true) (sym s.ends) (acknowledges output (made.Synced (temporary_of output) did.Done ∷ s.past))

disk_says_nothing : OnDisk ≢ OnSay
disk_says_nothing = λ e. absurd (cc)

-- where nothing failed before, or something has
or_failed : (A : Type 0) (n : ℕ) → (0 < n → A) → (((0 < n) → ⊥) → A) → A
or_failed A n failed none = elim (cases_lt 0 n) [
  | inl above ↦ failed above
  | inr below ↦ none (λ h. omega (arith, below, h))
]

module _ (cast : Cast) (number : ℕ) (a : Ask) (has : cast.job number ≡ Some a) where
  -- a call of this job
  pub by_job : (entry : Entry) (past : List Entry) → IsCallOf cast.here cast.starts cast.clean number a past entry → IsCallBy cast past entry
  by_job entry past is = record { number = number; ask = a; has = has; is = is }

  -- and one more
  pub one_more : {before past : List Entry} (entry : Entry) → Since (IsCall cast) before past → IsCallOf cast.here cast.starts cast.clean number a past entry
      → Since (IsCall cast) before (entry ∷ past)
  one_more {before} {past} entry since is = later since (by_job entry past is)

  pub writes_called : {path text : List ℕ} {before : List Entry} {rest : List ℕ} {after : List Entry} → IsOwnFile cast.clean number a before path → Writes path text before rest after
      → Since (IsCall cast) before after
  writes_called own disk.none = start
  writes_called own (disk.more n before) = one_more _ (writes_called own before) (own_still cast.clean number a own before)

  pub write_fails_called : {path text : List ℕ} {before after : List Entry} → IsOwnFile cast.clean number a before path → WriteFails path text before after → Since (IsCall cast) before after
  write_fails_called {path} {text} {before} own w = subst (Since (IsCall cast) before) (sym w.fails) (one_more _ (writes_called own w.writes) (own_still cast.clean number a own w.writes))

  save_called : (text : List ℕ) (answer : SaveAnswer) (before after : List Entry) → SaveOf a.output text answer before after → Since (IsCall cast) before after
  save_called text answer before after =
      each_entry (IsCall cast) a.output text before (λ p d. by_job _ p (inl refl)) (λ p b d. by_job _ p (inl refl)) (λ p d. by_job _ p (inl refl))
      (λ p d. by_job _ p (refl, refl)) (λ p d. by_job _ p refl) answer after

  -- ---- a line

  module _ (line : List ℕ) (begin : List Entry) (is : IsLine cast.clean a begin line) (whole : cast.clean ≡ true → IsWhole begin) where
    speech_called : {rest : List ℕ} {after : List Entry} → Speech line begin rest after → Since (IsCall cast) begin after
    speech_called said.none = start
    speech_called (said.more {rest} {past} n before) =
        one_more _ (speech_called before) (record { begin = begin; line = line; is = is; whole = whole; rest = rest; speech = before; next = (n, refl) })

    pub says_called : {failed : Type 0} {after : List Entry} → Says line failed begin after → Since (IsCall cast) begin after
    says_called (said.whole speech) = speech_called speech
    says_called (said.cut f speech) = speech_called speech
    says_called (said.refused {rest} {past} f speech) =
        one_more _ (speech_called speech) (record { begin = begin; line = line; is = is; whole = whole; rest = rest; speech = speech; next = refl })

  -- ---- a save with its line

  saves_line : (text line : List ℕ) (failed : Type 0) (result : Result (Unit {0}) ProgressFault) (before after : List Entry) → SaysLine cast.clean a text line result before
      → (cast.clean ≡ true → IsWhole before) → SavesAs a.output text line failed result before after → Since (IsCall cast) before after
  saves_line text line failed (Ok u) before after is whole did =
      since_then (save_called text done before did.past did.saves)
      (says_called line did.past (is u refl did.past did.saves (saved_behind a.output text before did.past did.saves))
      (λ e. subst (λ xs. ends_line xs ≡ true) (sym (heard_since disk_says_nothing (part_of_save a.output text before done did.past did.saves))) (whole e)) did.says)
  saves_line text line failed (Err (fault.Save f)) before after is whole did = save_called text (failure f) before after did
  saves_line text line failed (Err fault.Closed) before after is whole same = subst (Since (IsCall cast) before) (sym same) start
  saves_line text line failed (Err fault.NoMemory) before after is whole same = subst (Since (IsCall cast) before) (sym same) start

  saves_nothing_said : (text : List ℕ) (result : Result (Unit {0}) ProgressFault) (before after : List Entry) → SavesSilently a.output text result before after
      → Since (IsCall cast) before after
  saves_nothing_said text (Ok u) before after did = save_called text done before after did
  saves_nothing_said text (Err (fault.Save f)) before after did = save_called text (failure f) before after did
  saves_nothing_said text (Err fault.Closed) before after same = subst (Since (IsCall cast) before) (sym same) start
  saves_nothing_said text (Err fault.NoMemory) before after same = subst (Since (IsCall cast) before) (sym same) start

-- ---- where it is told

module _ (cast : Cast) (number : ℕ) (a : Ask) (has : cast.job number ≡ Some a) (text line : List ℕ) (result : Result (Unit {0}) ProgressFault) where
  abbrev Saves : Counts → List Entry → List Entry → Type 0
  Saves d before after = SavesAs a.output text line (0 < d.say) result before after

  line_told : (j k : Option (List Entry)) (d : Counts) → IfSome j (SaysLine cast.clean a text line result) → (cast.clean ≡ true → IfSome j IsWhole) → Told j k (Saves d)
      → Told j k (Since (IsCall cast))
  line_told j None d is whole told = record { so = tt }
  line_told None (Some y) d is whole told = absurd told.so
  line_told (Some x) (Some y) d is whole told = record { so = saves_line cast number a has text line (0 < d.say) result x y is whole told.so }

  pub saves_called : (j k : Option (List Entry)) (c d : Counts) → (((0 < c.say) → ⊥) → IfSome j (SaysLine cast.clean a text line result)) → (cast.clean ≡ true → SpeaksWhole j c)
      → Told j k (Saves d) → (0 < c.say → Told j k (SavesSilently a.output text result)) → Told j k (Since (IsCall cast))
  saves_called j k c d is spoken told silent =
      or_failed (Told j k (Since (IsCall cast))) c.say
      (λ failed. moments_as (silent failed) (λ x y did. saves_nothing_said cast number a has text result x y did))
      (λ none. line_told j k d (is none) (λ e. spoken e none) told)

module _ (cast : Cast) (number : ℕ) (a : Ask) (has : cast.job number ≡ Some a) (line : List ℕ) (is : (begin : List Entry) → IsLine cast.clean a begin line) where
  say_told : (j k : Option (List Entry)) (d : Counts) → (cast.clean ≡ true → IfSome j IsWhole) → Told j k (Says line (0 < d.say)) → Told j k (Since (IsCall cast))
  say_told j None d whole told = record { so = tt }
  say_told None (Some y) d whole told = absurd told.so
  say_told (Some x) (Some y) d whole told = record { so = says_called cast number a has line x (is x) whole told.so }

  -- a line that is said by itself
  pub line_called : (j k : Option (List Entry)) (c d : Counts) → (cast.clean ≡ true → SpeaksWhole j c) → Told j k (Says line (0 < d.say)) → (0 < c.say → k ≡ j)
      → Told j k (Since (IsCall cast))
  line_called j k c d spoken told silent =
      or_failed (Told j k (Since (IsCall cast))) c.say
      (λ failed. subst (λ m. Told j m (Since (IsCall cast))) (sym (silent failed)) (told_start (λ before. start)))
      (λ none. say_told j k d (λ e. spoken e none) told)

-- ---- what is heard then

-- a line that was said, as long as no say has failed
pub says_whole : {line : List ℕ} {failed : Type 0} {before after : List Entry} → ends_line line ≡ true → (failed → ⊥) → Says line failed before after → IsWhole before → IsWhole after
says_whole {line} {failed} {before} {after} is none (said.whole speech) whole = said_whole line before after is speech whole
says_whole is none (said.cut f speech) whole = absurd (none f)
says_whole is none (said.refused f speech) whole = absurd (none f)

pub saves_whole : (a : Ask) (text : List ℕ) (settled cells : ℕ) (failed : Type 0) (result : Result (Unit {0}) ProgressFault) (before after : List Entry) → (failed → ⊥)
    → SavesAs a.output text (saved_line a.output settled cells) failed result before after → IsWhole before → IsWhole after
saves_whole a text settled cells failed (Ok u) before after none did whole =
    says_whole (saved_ends a.output settled cells) none did.says
    (subst (λ xs. ends_line xs ≡ true) (sym (heard_since disk_says_nothing (part_of_save a.output text before done did.past did.saves))) whole)
saves_whole a text settled cells failed (Err (fault.Save f)) before after none did whole =
    subst (λ xs. ends_line xs ≡ true) (sym (heard_since disk_says_nothing (part_of_save a.output text before (failure f) after did))) whole
saves_whole a text settled cells failed (Err fault.Closed) before after none same whole = subst IsWhole (sym same) whole
saves_whole a text settled cells failed (Err fault.NoMemory) before after none same whole = subst IsWhole (sym same) whole
