-- What the entries of a save make of the output, moment by moment.
use Rattle.std.proofs.Common.{◌≡◌, inl, inr, ℕ, ◌+◌, List, [], ◌∷◌, ◌++◌, length, take, drop, false, ◌&&◌, Some, Result, Ok, Err, codes, refl, sym, ◌∙◌, ap, subst, arith, length-append, append_assoc}
use Rattle.std.proofs.lemmas.List.{take-append-drop, append-nil}
use Rattle.std.proofs.lemmas.Bool.{cond-true}
use Rattle.std.specs.Str.{bytes_eq}
use Rattle.world.specs.declared.entry.Entry.{Entry}
use Rattle.world.specs.declared.entry.Entry.TheVariants.{Created, Wrote, Synced, Renamed, DirSynced}
use Rattle.world.specs.declared.did.Did.{Did}
use Rattle.world.specs.declared.did.Did.TheVariants.{Done, Failed}
use Rattle.world.specs.declared.left.Left.TheVariants.{Whole}
use Rattle.world.specs.Disk.{Place, place, target_place, place_in_synced_dir, folder_of}
use Rattle.world.specs.Moments.{Since, start, more as later}
use Rattle.world.specs.Parts.{IsOf, OnDisk}
use Rattle.world.specs.Touched.{Spares}
use Rattle.world.proofs.PlaceLemmas.{renamed_to_own, dir_synced_own}
use Rattle.save_disk.specs.declared.save_fault.SaveFault.{SaveFault}
use Rattle.save_disk.specs.declared.save_fault.SaveFault.TheVariants as fault
use Rattle.world.specs.Save.{temporary_of}
use Rattle.save_disk.specs.Entries.{Writes, none, more, SaveOf}
use Rattle.save_disk.specs.Places.{save_count, SaveEnd, SaveMoment, as_before, renamed, unsure, durable}
use Rattle.jtext.proofs.Equals.{same_bytes, other_bytes}

apart : (output : List ℕ) → bytes_eq (temporary_of output) output ≡ false
apart output = other_bytes (temporary_of output) output (λ e.
    let l : length (temporary_of output) ≡ length output = ap length e in omega (arith, length-append output (codes ".nbrun-tmp")))

-- ---- what the writes leave

-- the file has these bytes, and each write so far was done
record Written (tmp text rest : List ℕ) (past : List Entry) : Type 0 where
  bytes : List ℕ
  whole : bytes ++ rest ≡ text
  fresh : (place past tmp).fresh ≡ Some bytes

module _ (tmp out text : List ℕ) (ne : bytes_eq tmp out ≡ false) where
  writes_elsewhere : {begin : List Entry} {rest : List ℕ} {past : List Entry} → Writes tmp text begin rest past → place past out ≡ place begin out
  writes_elsewhere none = refl
  writes_elsewhere (more n before) = rw ne (writes_elsewhere before)

  writes_bytes : {begin : List Entry} {rest : List ℕ} {past : List Entry} → (place begin tmp).fresh ≡ Some [] → Writes tmp text begin rest past → Written tmp text rest past
  writes_bytes new none = record { bytes = []; whole = refl; fresh = new }
  writes_bytes new (more {rest} {past} n before) =
      let w = writes_bytes new before in
      record {
        bytes = w.bytes ++ take n rest;
        whole = append_assoc w.bytes (take n rest) (drop n rest) ∙ ap (λ xs. w.bytes ++ xs) (take-append-drop n rest) ∙ w.whole;
        fresh = rw (same_bytes tmp, w.fresh);
      }

module _ (out text : List ℕ) (ne : bytes_eq (temporary_of out) out ≡ false) where
  writes_acked : {begin : List Entry} {rest : List ℕ} {past : List Entry} → Writes (temporary_of out) text begin rest past → save_count out past ≡ save_count out begin
  writes_acked none = refl
  writes_acked (more n before) = writes_acked before

  writes_moments : {before begin : List Entry} {rest : List ℕ} {past : List Entry} → place begin out ≡ place before out → save_count out begin ≡ save_count out before
      → Since (SaveMoment out text before) before begin → Writes (temporary_of out) text begin rest past → Since (SaveMoment out text before) before past
  writes_moments e a since none = since
  writes_moments {before} e a since (more {rest} {past} n writes) =
      later (writes_moments e a since writes) (as_before (writes_acked writes ∙ a) (rw ne (writes_elsewhere (temporary_of out) out text ne writes ∙ e)))

-- ---- the end of a save

module _ (out text : List ℕ) (before past : List Entry) (writes : Writes (temporary_of out) text (Created (temporary_of out) Done ∷ before) [] past) where
  fresh : (place past (temporary_of out)).fresh ≡ Some text
  fresh =
      let w = writes_bytes (temporary_of out) out text (apart out) (rw (same_bytes (temporary_of out))) writes in
      w.fresh ∙ ap Some (sym (append-nil w.bytes) ∙ w.whole)

  elsewhere : place past out ≡ place before out
  elsewhere = writes_elsewhere (temporary_of out) out text (apart out) writes ∙ rw (apart out)

  no_more_acked : save_count out past ≡ save_count out before
  no_more_acked = writes_acked out text (apart out) writes

  written : Since (SaveMoment out text before) before past
  written = writes_moments out text (apart out) (rw (apart out)) refl (later start (as_before refl (rw (apart out)))) writes

  abbrev settled_place : Place
  settled_place = record { options = Whole text ∷ []; here = Some (Whole text); fresh = Some text }

  synced_temporary : place (Synced (temporary_of out) Done ∷ past) (temporary_of out) ≡ settled_place
  synced_temporary = rw (same_bytes (temporary_of out), fresh)

  synced_output : (did : Did) → place (Synced (temporary_of out) did ∷ past) out ≡ place before out
  synced_output did = rw (apart out) elsewhere

  synced_moments : (did : Did) → Since (SaveMoment out text before) before (Synced (temporary_of out) did ∷ past)
  synced_moments did = later written (as_before no_more_acked (synced_output did))

  abbrev with_rename : Did → List Entry
  with_rename did = Renamed (temporary_of out) out did ∷ Synced (temporary_of out) Done ∷ past

  rename_place : (did : Did) → place (with_rename did) out ≡ target_place settled_place (place before out) did
  rename_place did =
      renamed_to_own (temporary_of out) out did (Synced (temporary_of out) Done ∷ past)
      ∙ ap (λ p. target_place p (place (Synced (temporary_of out) Done ∷ past) out) did) synced_temporary
      ∙ ap (λ p. target_place settled_place p did) (synced_output Done)

  rename_moments : Since (SaveMoment out text before) before (with_rename Done)
  rename_moments = later (synced_moments Done) (renamed no_more_acked (rename_place Done))

  unsure_moments : Since (SaveMoment out text before) before (with_rename Failed)
  unsure_moments = later (synced_moments Done) (unsure no_more_acked (rename_place Failed))

  end_place : (did : Did) → place (DirSynced (folder_of out) did ∷ with_rename Done) out ≡ place_in_synced_dir (target_place settled_place (place before out) Done) did
  end_place did = dir_synced_own out did (with_rename Done) ∙ ap (λ p. place_in_synced_dir p did) (rename_place Done)

  one_more : save_count out (DirSynced (folder_of out) Done ∷ with_rename Done) ≡ save_count out before + 1
  one_more =
      cond-true (bytes_eq (folder_of out) (folder_of out) && (bytes_eq (temporary_of out) (temporary_of out) && bytes_eq out out)) _ _ (rw (same_bytes (folder_of out), same_bytes (temporary_of out), same_bytes out))
      ∙ ap (λ n. n + 1) no_more_acked

-- ---- by the answer

module _ {U : Type 0} (out text : List ℕ) (before : List Entry) where
  pub end_of : (result : Result U SaveFault) (after : List Entry) → SaveOf out text result before after → SaveEnd out text result before after
  end_of (Ok u) after s = subst (SaveEnd {U = U} out text (Ok u) before) (sym s.ends)
      (record { place_is = end_place out text before s.past s.writes Done; count_is = one_more out text before s.past s.writes })
  end_of (Err fault.DirSync) after s = subst (SaveEnd {U = U} out text (Err fault.DirSync) before) (sym s.ends)
      (record { place_is = end_place out text before s.past s.writes Failed; count_is = no_more_acked out text before s.past s.writes })
  end_of (Err fault.Rename) after s = subst (SaveEnd {U = U} out text (Err fault.Rename) before) (sym s.ends)
      (record { place_is = rename_place out text before s.past s.writes Failed; count_is = no_more_acked out text before s.past s.writes })
  end_of (Err fault.Sync) after s = subst (SaveEnd {U = U} out text (Err fault.Sync) before) (sym s.ends)
      (record { place_is = synced_output out text before s.past s.writes Failed; count_is = no_more_acked out text before s.past s.writes })
  end_of (Err fault.Write) after (inl e) = subst (SaveEnd {U = U} out text (Err fault.Write) before) (sym e)
      (record { place_is = rw (apart out); count_is = refl })
  end_of (Err fault.Write) after (inr w) = subst (SaveEnd {U = U} out text (Err fault.Write) before) (sym w.fails)
      (record { place_is = rw (apart out) (writes_elsewhere (temporary_of out) out text (apart out) w.writes ∙ rw (apart out)); count_is = writes_acked out text (apart out) w.writes })

  pub moments_of : (result : Result U SaveFault) (after : List Entry) → SaveOf out text result before after → Since (SaveMoment out text before) before after
  moments_of (Ok u) after s = subst (Since (SaveMoment out text before) before) (sym s.ends)
      (later (rename_moments out text before s.past s.writes) (durable (one_more out text before s.past s.writes) (end_place out text before s.past s.writes Done)))
  moments_of (Err fault.DirSync) after s = subst (Since (SaveMoment out text before) before) (sym s.ends)
      (later (rename_moments out text before s.past s.writes) (renamed (no_more_acked out text before s.past s.writes) (end_place out text before s.past s.writes Failed)))
  moments_of (Err fault.Rename) after s = subst (Since (SaveMoment out text before) before) (sym s.ends) (unsure_moments out text before s.past s.writes)
  moments_of (Err fault.Sync) after s = subst (Since (SaveMoment out text before) before) (sym s.ends) (synced_moments out text before s.past s.writes Failed)
  moments_of (Err fault.Write) after (inl e) =
      subst (Since (SaveMoment out text before) before) (sym e) (later start (as_before refl (rw (apart out))))
  moments_of (Err fault.Write) after (inr w) =
      let begun = writes_moments out text (apart out) (rw (apart out)) refl (later start (as_before refl (rw (apart out)))) w.writes in
      subst (Since (SaveMoment out text before) before) (sym w.fails)
      (later begun (as_before (writes_acked out text (apart out) w.writes) (rw (apart out) (writes_elsewhere (temporary_of out) out text (apart out) w.writes ∙ rw (apart out)))))

-- ---- the entries of a save have what each of its five kinds has

module _ (P : List Entry → Type 0) (out text : List ℕ) (before : List Entry)
    (on_create : (past : List Entry) (did : Did) → P (Created (temporary_of out) did ∷ past))
    (on_write : (past : List Entry) (bytes : List ℕ) (did : Did) → P (Wrote (temporary_of out) bytes did ∷ past))
    (on_sync : (past : List Entry) (did : Did) → P (Synced (temporary_of out) did ∷ past))
    (on_rename : (past : List Entry) (did : Did) → P (Renamed (temporary_of out) out did ∷ past))
    (on_dir_sync : (past : List Entry) (did : Did) → P (DirSynced (folder_of out) did ∷ past)) where
  each_write : {x y : List Entry} {rest : List ℕ} {z : List Entry} → Since P x y → Writes (temporary_of out) text y rest z → Since P x z
  each_write s none = s
  each_write s (more n w) = later (each_write s w) (on_write _ _ Done)

  pub each_entry : {U : Type 0} (result : Result U SaveFault) (after : List Entry) → SaveOf out text result before after → Since P before after
  each_entry (Ok u) after s = subst (Since P before) (sym s.ends) (later (later (later (each_write (later start (on_create _ Done)) s.writes) (on_sync _ Done)) (on_rename _ Done)) (on_dir_sync _ Done))
  each_entry (Err fault.DirSync) after s = subst (Since P before) (sym s.ends) (later (later (later (each_write (later start (on_create _ Done)) s.writes) (on_sync _ Done)) (on_rename _ Done)) (on_dir_sync _ Failed))
  each_entry (Err fault.Rename) after s = subst (Since P before) (sym s.ends) (later (later (each_write (later start (on_create _ Done)) s.writes) (on_sync _ Done)) (on_rename _ Failed))
  each_entry (Err fault.Sync) after s = subst (Since P before) (sym s.ends) (later (each_write (later start (on_create _ Done)) s.writes) (on_sync _ Failed))
  each_entry (Err fault.Write) after (inl e) = subst (Since P before) (sym e) (later start (on_create _ Failed))
  each_entry (Err fault.Write) after (inr w) = subst (Since P before) (sym w.fails) (later (each_write (later start (on_create _ Done)) w.writes) (on_write _ _ Failed))

pub part_of_save : {U : Type 0} (out text : List ℕ) (before : List Entry) (result : Result U SaveFault) (after : List Entry) → SaveOf out text result before after → Since (IsOf OnDisk) before after
part_of_save out text before = each_entry (IsOf OnDisk) out text before (λ p d. refl) (λ p b d. refl) (λ p d. refl) (λ p d. refl) (λ p d. refl)

pub others_of_save : {U : Type 0} (out text q : List ℕ) → bytes_eq out q ≡ false → bytes_eq (temporary_of out) q ≡ false
    → (before : List Entry) (result : Result U SaveFault) (after : List Entry) → SaveOf out text result before after → Since (Spares q) before after
others_of_save out text q not_out not_tmp before =
    each_entry (Spares q) out text before (λ p d. not_tmp) (λ p b d. not_tmp) (λ p d. not_tmp) (λ p d. rw (not_out, not_tmp)) (λ p d. refl)
