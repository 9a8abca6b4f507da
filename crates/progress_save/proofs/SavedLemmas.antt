-- What the entries of a save of a prefix make of the output, moment by moment.
use Rattle.std.proofs.Common.{◌≡◌, inl, inr, ℕ, false, List, ◌∷◌, Result, Ok, Err, refl, sym, ◌∙◌, ap, subst}
use Rattle.std.specs.Str.{bytes_eq}
use Rattle.world.specs.declared.entry.Entry.{Entry}
use Rattle.world.specs.Disk.{place}
use Rattle.world.specs.Moments.{Since, start, more as later}
use Rattle.world.specs.Parts.{IsOf, OnSay}
use Rattle.world.specs.Touched.{Spares}
use Rattle.world.proofs.MomentsLemmas.{since_as, since_then}
use Rattle.world.proofs.PartsLemmas.{place_since, acked_since}
use Rattle.said_lines.specs.Speech.{Speech, Says}
use Rattle.said_lines.specs.Speech as said
use Rattle.said_lines.proofs.SpeechLemmas.{says_since}
use Rattle.save_disk.specs.Places.{save_count, SaveMoment, durable}
use Rattle.world.specs.Save.{temporary_of}
use Rattle.save_disk.proofs.Laws.{end_of, moments_of, part_of_save, others_of_save}
use Rattle.progress_save.specs.declared.progress_fault.ProgressFault.{ProgressFault}
use Rattle.progress_save.specs.declared.progress_fault.ProgressFault.TheVariants as fault
use Rattle.progress_save.specs.Saved.{done, failure, SavesThenSays, SavesAs, EndsAs, IsOfSave}

-- ---- what is said changes no file

module _ (output : List ℕ) (past : List Entry) where
  said_place : {after : List Entry} → Since (IsOf OnSay) past after → place after output ≡ place past output
  said_place since = ap (λ f. f output) (place_since (λ e. cc) since)

  said_count : {after : List Entry} → Since (IsOf OnSay) past after → save_count output after ≡ save_count output past
  said_count since = acked_since (temporary_of output) output (λ e. cc) since

-- what follows of what was said so far holds at each of its moments
at_each : {P : List Entry → Type 0} {past after : List Entry} → ((now : List Entry) → Since (IsOf OnSay) past now → P now) → Since (IsOf OnSay) past after → Since P past after
at_each holds start = start
at_each holds (later {past} {entry} since is) = later (at_each holds since) (holds (entry ∷ past) (later since is))

-- ---- the end

module _ (output text line : List ℕ) (failed : Type 0) (before : List Entry) where
  pub ended : (result : Result (Unit {0}) ProgressFault) (after : List Entry) → SavesAs output text line failed result before after → EndsAs output text result before after
  ended (Ok u) after s =
      let end = end_of output text before done s.past s.saves in
      record {
        place_is = said_place output s.past (says_since s.says) ∙ end.place_is;
        count_is = said_count output s.past (says_since s.says) ∙ end.count_is;
      }
  ended (Err (fault.Save f)) after s =
      let end = end_of output text before (failure f) after s in
      record { place_is = end.place_is; count_is = end.count_is }
  ended (Err fault.Closed) after e = record { place_is = ap (λ j. place j output) e; count_is = ap (save_count output) e }
  ended (Err fault.NoMemory) after e = record { place_is = ap (λ j. place j output) e; count_is = ap (save_count output) e }

-- ---- each moment

module _ (output text line : List ℕ) (failed : Type 0) (before : List Entry) where
  said_moments : {after : List Entry} → SavesThenSays output text line failed before after → Since (SaveMoment output text before) before after
  said_moments s =
      let end = end_of output text before done s.past s.saves in
      since_then (moments_of output text before done s.past s.saves)
      (at_each (λ now since. durable (said_count output s.past since ∙ end.count_is) (said_place output s.past since ∙ end.place_is)) (says_since s.says))

  pub moments : (result : Result (Unit {0}) ProgressFault) (after : List Entry) → SavesAs output text line failed result before after → Since (SaveMoment output text before) before after
  moments (Ok u) after s = said_moments s
  moments (Err (fault.Save f)) after s = moments_of output text before (failure f) after s
  moments (Err fault.Closed) after e = subst (Since (SaveMoment output text before) before) (sym e) start
  moments (Err fault.NoMemory) after e = subst (Since (SaveMoment output text before) before) (sym e) start

-- ---- which entries they are

module _ (output text line : List ℕ) (failed : Type 0) (before : List Entry) where
  pub parts : (result : Result (Unit {0}) ProgressFault) (after : List Entry) → SavesAs output text line failed result before after → Since IsOfSave before after
  parts (Ok u) after s =
      since_then (since_as (λ now is. inl is) (part_of_save output text before done s.past s.saves)) (since_as (λ now is. inr is) (says_since s.says))
  parts (Err (fault.Save f)) after s = since_as (λ now is. inl is) (part_of_save output text before (failure f) after s)
  parts (Err fault.Closed) after e = subst (Since IsOfSave before) (sym e) start
  parts (Err fault.NoMemory) after e = subst (Since IsOfSave before) (sym e) start

module _ (q : List ℕ) where
  speech_spares : {text : List ℕ} {x before after : List Entry} {rest : List ℕ} → Since (Spares q) x before → Speech text before rest after → Since (Spares q) x after
  speech_spares s said.none = s
  speech_spares s (said.more n before) = later (speech_spares s before) refl

  says_spare : {text : List ℕ} {failed : Type 0} {x before after : List Entry} → Since (Spares q) x before → Says text failed before after → Since (Spares q) x after
  says_spare s (said.whole speech) = speech_spares s speech
  says_spare s (said.cut f speech) = speech_spares s speech
  says_spare s (said.refused f speech) = later (speech_spares s speech) refl

module _ (output text line : List ℕ) (failed : Type 0) (q : List ℕ) (not_out : bytes_eq output q ≡ false) (not_tmp : bytes_eq (temporary_of output) q ≡ false) (before : List Entry) where
  pub others : (result : Result (Unit {0}) ProgressFault) (after : List Entry) → SavesAs output text line failed result before after → Since (Spares q) before after
  others (Ok u) after s = says_spare q (others_of_save output text q not_out not_tmp before done s.past s.saves) s.says
  others (Err (fault.Save f)) after s = others_of_save output text q not_out not_tmp before (failure f) after s
  others (Err fault.Closed) after e = subst (Since (Spares q) before) (sym e) start
  others (Err fault.NoMemory) after e = subst (Since (Spares q) before) (sym e) start
