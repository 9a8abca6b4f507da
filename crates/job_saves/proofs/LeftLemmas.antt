-- What a crash leaves at the output of a job, after a save and after other calls.
use Rattle.std.proofs.Common.{◌≡◌, ℕ, Bool, true, false, List, ◌∷◌, Option, Some, None, Result, Ok, Err, if◌then◌else◌, refl, sym, ap, subst, ◌∙◌}
use Rattle.std.specs.Prelude.{IfSome, OnOk}
use Rattle.std.proofs.lemmas.Bool.{false_from_ne_true}
use Rattle.nb_model.specs.declared.notebook.Notebook.{Notebook}
use Rattle.out_fold.specs.declared.used.Used.{Used}
use Rattle.world.specs.declared.entry.Entry.{Entry}
use Rattle.world.specs.declared.entry.Entry.TheVariants as made
use Rattle.world.specs.declared.did.Did.{Did}
use Rattle.world.specs.declared.did.Did.TheVariants as did
use Rattle.world.specs.Counts.{Counts}
use Rattle.world.specs.Disk.{Place, place, place_in_synced_dir}
use Rattle.world.specs.Moments.{Since, start, more as later, Told}
use Rattle.world.specs.Disk.{folder_of}
use Rattle.world.specs.Touched.{touches, Spares}
use Rattle.std.specs.Str.{bytes_eq}
use Rattle.world.proofs.MomentsLemmas.{told_as as moments_as}
use Rattle.world.proofs.TouchedLemmas.{after_spared}
use Rattle.save_disk.specs.Places.{durable_place}
use Rattle.job_end.specs.declared.end.End.{End}
use Rattle.progress_save.specs.declared.progress_fault.ProgressFault.{ProgressFault}
use Rattle.progress_save.specs.declared.progress_fault.ProgressFault.TheVariants as fault
use Rattle.progress_save.specs.Prefix.{prefix}
use Rattle.progress_save.specs.Saved.{EndsAs}
use Rattle.nb_text.specs.Notebooks.{text_of}
use Rattle.save_course.specs.Course.{IsRested}
use Rattle.job_notebook.specs.declared.notebook.JobNotebook.{JobNotebook}
use Rattle.job_notebook.specs.State.{notebook_of, merge_of, output_of, is_closed, Keeps, OnCall}
use Rattle.job_saves.specs.Course.{Origin, Stands, answer_of}
use Rattle.job_saves.specs.Left.{output_at, IsLeft, StaysLeft}
use Rattle.job_saves.proofs.TellingLemmas.{spared_count}

-- ---- a save

-- the notebook is the prefix that is to be saved
abbrev Becomes : JobNotebook → JobNotebook → ℕ → Option ℕ → Type 0
Becomes was now p stop = (first : Notebook) (us : List Used) → Keeps was first us → notebook_of now ≡ prefix (merge_of was) us p stop first

-- a save of a job that began so leaves that prefix
abbrev LeavesIt : JobNotebook → ℕ → Option ℕ → Option (List Entry) → Option (List Entry) → Counts → Type 0
LeavesIt was p stop j k c = (o : Origin) → o.is_watched ≡ true → Stands o was true j c → IfSome k (λ past. IsLeft (output_at o past) p stop)

left_by : (was now : JobNotebook) (p : ℕ) (stop : Option ℕ) (j k : Option (List Entry)) (c : Counts) → is_closed was ≡ false → Becomes was now p stop
    → Told j k (λ before after. place after (output_of was) ≡ durable_place (text_of (notebook_of now))) → LeavesIt was p stop j k c
left_by was now p stop j None c still becomes durable o on s = tt
left_by was now p stop None (Some y) c still becomes durable o on s = absurd durable.so
left_by was now p stop (Some x) (Some y) c still becomes durable o on s =
    let r = (s.told on).keeps refl still in
    record {
      us = r.us;
      read = r.read;
      place_is = ap (place y) (sym s.output) ∙ durable.so ∙ ap (λ n. durable_place (text_of n)) (becomes o.first r.us r.keeps)
          ∙ ap (λ m. durable_place (text_of (prefix m r.us p stop o.first))) s.merge;
    }

made_left : (was now : JobNotebook) (p : ℕ) (stop : Option ℕ) (r : Result (Unit {0}) ProgressFault) (j k : Option (List Entry)) (c : Counts) → (is_closed was ≡ true → r ≡ Err fault.Closed)
    → OnCall r (Becomes was now p stop) → Told j k (EndsAs (output_of was) (text_of (notebook_of now)) r) → OnOk (answer_of r) (LeavesIt was p stop j k c)
made_left was now p stop (Ok u) j k c closed becomes told =
    left_by was now p stop j k c (false_from_ne_true (is_closed was) (λ e. let no : Ok u ≡ Err fault.Closed = closed e in absurd (cc))) becomes (moments_as told (λ x y e. e.place_is))
made_left was now p stop (Err (fault.Save f)) j k c closed becomes told = tt
made_left was now p stop (Err fault.Closed) j k c closed becomes told = tt
made_left was now p stop (Err fault.NoMemory) j k c closed becomes told = tt

pub left_answer : (was now : JobNotebook) (p : ℕ) (stop : Option ℕ) (r : Result (Unit {0}) ProgressFault) (q : Result (Unit {0}) End) (j k : Option (List Entry)) (c : Counts)
    → q ≡ answer_of r → (is_closed was ≡ true → r ≡ Err fault.Closed) → OnCall r (Becomes was now p stop) → Told j k (EndsAs (output_of was) (text_of (notebook_of now)) r)
    → OnOk q (LeavesIt was p stop j k c)
left_answer was now p stop r q j k c is closed becomes told = subst (λ s. OnOk s (LeavesIt was p stop j k c)) (sym is) (made_left was now p stop r j k c closed becomes told)

-- ---- other calls

synced_durable : (b : Bool) (d : Did) (p : Place) (text : List ℕ) → p ≡ durable_place text → (if b then place_in_synced_dir p d else p) ≡ durable_place text
synced_durable true did.Done p text h = ap (λ q. place_in_synced_dir q did.Done) h
synced_durable true did.Failed p text h = h
synced_durable false d p text h = h

spared_durable : (output text : List ℕ) (entry : Entry) (past : List Entry) → touches output entry ≡ false → place past output ≡ durable_place text → place (entry ∷ past) output ≡ durable_place text
spared_durable output text (made.DirSynced dir d) past e h = synced_durable (bytes_eq dir (folder_of output)) d (place past output) text h
spared_durable output text entry past e h = after_spared output entry (place past) e refl ∙ h

durable_since : (output text : List ℕ) {past after : List Entry} → Since (Spares output) past after → place past output ≡ durable_place text → place after output ≡ durable_place text
durable_since output text start h = h
durable_since output text (later {past} {entry} since spared) h = spared_durable output text entry past spared (durable_since output text since h)

pub left_since : (o : Origin) (past after : List Entry) → Since (Spares o.output) past after → (settled : ℕ) (stop : Option ℕ) → IsLeft (output_at o past) settled stop → IsLeft (output_at o after) settled stop
left_since o past after since settled stop h = record { us = h.us; read = h.read; place_is = durable_since o.output _ since h.place_is }

-- calls that don't touch the output leave it as it is
pub spared_left : (o : Origin) {past after : List Entry} → IsRested o.output past → Since (Spares o.output) past after → StaysLeft (output_at o past) (output_at o after)
spared_left o {past} {after} rested since = record { count = spared_count o.output rested since; left = left_since o past after since }
