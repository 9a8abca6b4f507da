-- What the entries of the making of a file leave of it and of all else.
use Rattle.std.proofs.Common.{◌≡◌, ℕ, List, [], ◌∷◌, ◌++◌, take, drop, false, Some, Result, Ok, Err, IsOk, refl, sym, ◌∙◌, ap, subst, append_assoc}
use Rattle.std.proofs.lemmas.List.{take-append-drop, append-nil}
use Rattle.std.specs.Str.{bytes_eq}
use Rattle.world.specs.declared.entry.Entry.{Entry}
use Rattle.world.specs.declared.entry.Entry.TheVariants.{Created, Wrote, Synced}
use Rattle.world.specs.declared.did.Did.{Did}
use Rattle.world.specs.declared.did.Did.TheVariants.{Done, Failed}
use Rattle.world.specs.Disk.{place}
use Rattle.world.specs.Moments.{Since, start, more as later}
use Rattle.world.specs.Parts.{IsOf, OnDisk}
use Rattle.world.specs.Touched.{Spares}
use Rattle.save_disk.specs.Entries.{Writes, WritesBy, WriteFails, none, more}
use Rattle.kernel_start.specs.declared.connection_fault.ConnectionFault.{ConnectionFault}
use Rattle.kernel_start.specs.declared.connection_fault.ConnectionFault.TheVariants as fault
use Rattle.kernel_start.specs.ConnectionFile.{WritesAndSyncs, MakesFile, not_created, not_written, not_synced, WritesFile, synced_text}
use Rattle.jtext.proofs.Equals.{same_bytes}

-- ---- the file itself

-- these bytes of the text were written, and no others since the file was created
record HasFront (path text rest : List ℕ) (past : List Entry) : Type 0 where
  front : List ℕ
  whole : front ++ rest ≡ text
  fresh : (place past path).fresh ≡ Some front

front_of : (path text : List ℕ) {before : List Entry} {rest : List ℕ} {past : List Entry}
    → Writes path text (Created path Done ∷ before) rest past → HasFront path text rest past
front_of path text none = record { front = []; whole = refl; fresh = rw (same_bytes path) }
front_of path text (more {rest} {past} n writes) =
    let w = front_of path text writes in
    record {
      front = w.front ++ take n rest;
      whole = append_assoc w.front (take n rest) (drop n rest) ∙ ap (λ xs. w.front ++ xs) (take-append-drop n rest) ∙ w.whole;
      fresh = rw (same_bytes path, w.fresh);
    }

fresh_text : (path text : List ℕ) {before past : List Entry} → Writes path text (Created path Done ∷ before) [] past
    → (place past path).fresh ≡ Some text
fresh_text path text writes =
    let w = front_of path text writes in
    w.fresh ∙ ap Some (sym (append-nil w.front) ∙ w.whole)

-- a file whose whole text was written and synced has just that text
synced_file : (path text : List ℕ) (before after : List Entry) → WritesAndSyncs path text Done before after
    → place after path ≡ synced_text text
synced_file path text before after made =
    subst (λ now. place now path ≡ synced_text text) (sym made.ends) (rw (same_bytes path, fresh_text path text made.writes))

-- so it is after Ok
pub file_place : {U : Type 0} (path text : List ℕ) (result : Result U ConnectionFault) → IsOk result → (before after : List Entry)
    → WritesFile path text result before after → place after path ≡ synced_text text
file_place path text (Ok u) ok before after made = synced_file path text before after made
file_place path text (Err e) ok before after made = absurd cc

-- ---- how the making goes

-- the create fails
pub create_fails : (path text : List ℕ) (before after : List Entry) → after ≡ Created path Failed ∷ before
    → MakesFile path text Failed before after
create_fails path text before after made = subst (MakesFile path text Failed before) (sym made) not_created

-- the create succeeds, and then a write fails
pub write_fails : (path text : List ℕ) (before past after : List Entry) → past ≡ Created path Done ∷ before
    → WritesBy path text Failed past after → MakesFile path text Failed before after
write_fails path text before past after made writes =
    not_written (subst (λ x. WriteFails path text x after) made writes)

-- the create and the writes succeed
pub text_written : (path text : List ℕ) (before past after : List Entry) → past ≡ Created path Done ∷ before
    → WritesBy path text Done past after → Writes path text (Created path Done ∷ before) [] after
text_written path text before past after made writes = subst (λ x. Writes path text x [] after) made writes

-- and then the sync ends so
pub sync_ends : (path text : List ℕ) (did : Did) (before past after : List Entry) → Writes path text (Created path Done ∷ before) [] past
    → after ≡ Synced path did ∷ past → MakesFile path text did before after
sync_ends path text Done before past after writes ends = record { past = past; writes = writes; ends = ends }
sync_ends path text Failed before past after writes ends = not_synced (record { past = past; writes = writes; ends = ends })

-- ---- all else

module _ (P : List Entry → Type 0) (path text : List ℕ) (before : List Entry)
    (on_create : (did : Did) (past : List Entry) → P (Created path did ∷ past))
    (on_write : (bytes : List ℕ) (did : Did) (past : List Entry) → P (Wrote path bytes did ∷ past))
    (on_sync : (did : Did) (past : List Entry) → P (Synced path did ∷ past)) where
  each_write : {rest : List ℕ} {past : List Entry} → Writes path text (Created path Done ∷ before) rest past → Since P before past
  each_write none = later start (on_create Done before)
  each_write (more n writes) = later (each_write writes) (on_write _ Done _)

  each_sync : (did : Did) (after : List Entry) → WritesAndSyncs path text did before after → Since P before after
  each_sync did after made = subst (Since P before) (sym made.ends) (later (each_write made.writes) (on_sync did made.past))

  each_made : (did : Did) (after : List Entry) → MakesFile path text did before after → Since P before after
  each_made Done after made = each_sync Done after made
  each_made Failed after not_created = later start (on_create Failed before)
  each_made Failed after (not_written w) =
      subst (Since P before) (sym w.fails) (later (each_write w.writes) (on_write w.rest Failed w.past))
  each_made Failed after (not_synced made) = each_sync Failed after made

  each_entry : {U : Type 0} (result : Result U ConnectionFault) (after : List Entry) → WritesFile path text result before after → Since P before after
  each_entry (Ok u) after made = each_made Done after made
  each_entry (Err fault.Failed) after made = each_made Failed after made
  each_entry (Err fault.NoMemory) after same = subst (Since P before) (sym same) start

-- only the disk is asked
pub file_part : {U : Type 0} (path text : List ℕ) (result : Result U ConnectionFault) (before after : List Entry)
    → WritesFile path text result before after → Since (IsOf OnDisk) before after
file_part path text result before = each_entry (IsOf OnDisk) path text before (λ d p. refl) (λ b d p. refl) (λ d p. refl) result

-- no other path is touched
pub file_spares : {U : Type 0} (path text q : List ℕ) → bytes_eq path q ≡ false → (result : Result U ConnectionFault)
    (before after : List Entry) → WritesFile path text result before after → Since (Spares q) before after
file_spares path text q other result before = each_entry (Spares q) path text before (λ d p. other) (λ b d p. other) (λ d p. other) result
