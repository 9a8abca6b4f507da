-- The first save, of the notebook before its cells are executed.
use Rattle.std.proofs.Common.{◌≡◌, ℕ, ◌+◌, List, [], ◌∷◌, ◌++◌, Bool, true, false, ◌&&◌, None, refl, sym, ◌∙◌, ap, subst}
use Rattle.std.specs.Str.{bytes_eq}
use Rattle.std.proofs.lemmas.Bool.{and_right, cond-true, cond-false}
use Rattle.jtext.proofs.Equals.{same_bytes}
use Rattle.world.specs.declared.did.Did.TheVariants.{Done}
use Rattle.world.specs.declared.entry.Entry.{Entry}
use Rattle.world.specs.declared.entry.Entry.TheVariants as made
use Rattle.world.specs.Acked.{is_renamed, renames, syncs_folder}
use Rattle.world.specs.Disk as disk
use Rattle.world.specs.Moments as moments
use Rattle.world.specs.Save.{temporary_of}
use Rattle.save_disk.specs.Entries as save_entries
use Rattle.nb_model.specs.declared.notebook.Notebook.{Notebook}
use Rattle.nb_text.specs.Notebooks.{text_of}
use Rattle.progress_save.specs.Prefix.{prefix}
use Rattle.kernel_talk.specs.Requests.{Identity}
use Rattle.cell_core.specs.declared.machine.Core.{Core}
use Rattle.cell_core.specs.Saves.{after_preparation}
use Rattle.out_fold.specs.declared.used.Used.{Used}
use Rattle.job_notebook.specs.declared.notebook.JobNotebook.{JobNotebook}
use Rattle.job_notebook.specs.State.{Keeps, merge_of}
use Rattle.run_journal.specs.Job.{Job}
use Rattle.run_journal.specs.Parts.{saves_of, is_acknowledging}
use Rattle.run_journal.specs.Requests.{used_of}
use Rattle.run_journal.specs.Saves.{Save, renamed_texts, save}
use Rattle.job_journal.specs.Made.{HasMade, passing_saves}
use Rattle.job_journal.specs.Plot.{Plot, facts, first, IsFor}
use Rattle.job_journal.specs.Quiet.{IsQuietNow}
use Rattle.job_journal.specs.Saved.{save_of}
use Rattle.job_journal.proofs.Acking.{acks_on, writes_quiet}
use Rattle.job_journal.proofs.Making.{made_first, made_next}
use Rattle.job_journal.proofs.Plots.{text_is}
use Rattle.job_journal.proofs.Quiet.{quiet_kind}

-- ---- before any rename

record IsUnrenamed (j : Job) (entry : Entry) (past : List Entry) : Type 0 where
  now : renames (temporary_of j.output) j.output entry ≡ false
  before : renamed_texts j past ≡ []

not_empty : {X : Type 0} (xs : List X) (x : X) → xs ++ x ∷ [] ≡ [] → ⊥
not_empty [] x e = cc
not_empty (y ∷ ys) x e = cc

unrenamed : (j : Job) (entry : Entry) (past : List Entry) → renamed_texts j (entry ∷ past) ≡ [] → IsUnrenamed j entry past
unrenamed j entry past e = by (renames (temporary_of j.output) j.output entry) refl
  where
    by : (b : Bool) → renames (temporary_of j.output) j.output entry ≡ b → IsUnrenamed j entry past
    by true f = absurd (not_empty (renamed_texts j past) _ (sym (cond-true (renames (temporary_of j.output) j.output entry) _ (renamed_texts j past) f) ∙ e))
    by false f = record { now = f; before = sym (cond-false (renames (temporary_of j.output) j.output entry) _ (renamed_texts j past) f) ∙ e }

none_behind : (j : Job) (past : List Entry) → renamed_texts j past ≡ [] → is_renamed (temporary_of j.output) j.output past ≡ false
none_behind j [] e = refl
none_behind j (entry ∷ past) e = (unrenamed j entry past e).now

-- before any rename onto the output no save was acknowledged
pub none_acked : (j : Job) (now : List Entry) → renamed_texts j now ≡ [] → saves_of j now ≡ 0
none_acked j [] e = refl
none_acked j (entry ∷ past) e =
    let u = unrenamed j entry past e in
    cond-false (is_acknowledging j (entry ∷ past)) (saves_of j past + 1) (saves_of j past)
    (and_right (syncs_folder j.output entry) (is_renamed (temporary_of j.output) j.output past) (none_behind j past u.before))
    ∙ none_acked j past u.before

-- ---- the first save

used_none : (plan : List ℕ) → used_of plan [] ≡ []
used_none [] = refl
used_none (i ∷ plan) = refl

module _ (p : Plot) (number : ℕ) (session : Identity) (core : Core) (old : JobNotebook) (saved : Notebook) (past now : List Entry) (plain : (facts p).task.times.interrupt ≡ false)
    (is_for : IsFor p number session core old) (keeps : Keeps old (first p) [])
    (is : (given : Notebook) (us : List Used) → Keeps old given us → saved ≡ prefix (merge_of old) us 0 None given) (none : renamed_texts (facts p) past ≡ [])
    (w : save_entries.WroteAnd (facts p).output (text_of saved) past
    (λ xs. made.DirSynced (disk.folder_of (facts p).output) Done ∷ made.Renamed (temporary_of (facts p).output) (facts p).output Done ∷ made.Synced (temporary_of (facts p).output) Done ∷ xs) now) where
  abbrev j : Job
  j = facts p

  abbrev tmp : List ℕ
  tmp = temporary_of j.output

  abbrev one : Save
  one = save j [] 0 None

  text : text_of saved ≡ one.text
  text =
      text_is p number session core old saved [] after_preparation is_for (record { keeps = subst (Keeps old (first p)) (sym (used_none j.task.plan)) keeps }) is
      ∙ ap (λ us. (save_of j us after_preparation).text) (used_none j.task.plan)

  pub first_made : HasMade j (passing_saves j []) 1 now
  first_made =
      made_next j (passing_saves j []) 0 one past now refl
      (record { past = w.past; writes = subst (λ t. save_entries.Writes tmp t (made.Created tmp Done ∷ past) [] w.past) text w.writes; ends = w.ends })
      (made_first j (passing_saves j []) past none)

  abbrev synced : List Entry
  synced = made.Synced tmp Done ∷ w.past

  abbrev renamed : List Entry
  renamed = made.Renamed tmp j.output Done ∷ synced

  abbrev acked : List Entry
  acked = made.DirSynced (disk.folder_of j.output) Done ∷ renamed

  chain : moments.Since (IsQuietNow j) past synced
  chain = moments.more (writes_quiet j tmp (text_of saved) past w.writes) (quiet_kind j (made.Synced tmp Done) w.past refl)

  is_ack : is_acknowledging j acked ≡ true
  is_ack =
      ap (λ b. b && (bytes_eq tmp tmp && bytes_eq j.output j.output)) (same_bytes (disk.folder_of j.output))
      ∙ ap (λ b. b && bytes_eq j.output j.output) (same_bytes tmp)
      ∙ same_bytes j.output

  pub first_acked : saves_of j now ≡ 1
  first_acked =
      ap (saves_of j) w.ends
      ∙ cond-true (is_acknowledging j acked) (saves_of j renamed + 1) (saves_of j renamed) is_ack
      ∙ ap (λ n. n + 1) (acks_on j past synced plain chain ∙ none_acked j past none)
