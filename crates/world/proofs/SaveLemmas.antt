-- What a crash leaves during and after a save, and what other calls make of it.
use Rattle.std.specs.Prelude.{◌≡◌, ◌⊎◌, ℕ, ◌+◌, List, [], ◌∷◌, ◌++◌, Bool, true, false, if◌then◌else◌, Some, None, refl}
use Rattle.std.proofs.Common.{sym, ◌∙◌, ap, subst, inl, inr, arith}
use Rattle.std.proofs.lemmas.Bool.{and_parts, cond-false}
use Rattle.std.specs.Str.{bytes_eq}
use Rattle.world.specs.declared.entry.Entry.{Entry}
use Rattle.world.specs.declared.entry.Entry.TheVariants.{Created, Wrote, Synced, Renamed, DirSynced, Removed}
use Rattle.world.specs.declared.did.Did.{Did}
use Rattle.world.specs.declared.did.Did.TheVariants.{Done, Failed}
use Rattle.world.specs.declared.left.Left.{Left}
use Rattle.world.specs.declared.left.Left.TheVariants as left
use Rattle.world.specs.Acked.{ack_count, is_renamed, renames, syncs_folder}
use Rattle.world.specs.Disk.{
  IsUnsettled,
  Place,
  place,
  leaves,
  here_of,
  target_place,
  place_in_synced_dir,
  settled_place,
  folder_of,
  Among,
  OnlyFormerOr,
}
use Rattle.world.specs.Moments.{Since, start, more}
use Rattle.world.specs.Save.{Writes, first, later, Saves}
use Rattle.world.proofs.PlaceLemmas.{
  created_own,
  created_fresh,
  wrote_fresh,
  synced_whole,
  renamed_to_own,
  renamed_from_own,
  removed_own,
  dir_synced_own,
}
use Rattle.jtext.proofs.Equals.{equal_bytes}

-- ---- the writes of a save

-- the bytes since the create are those that were written
pub writes_fresh : {path : List ℕ} {before : List Entry} {bytes : List ℕ} {past : List Entry}
    → Writes path before bytes past
    → (place past path).fresh ≡ Some bytes
writes_fresh {path} {before = before} first = created_fresh path before
writes_fresh {path} (later {bytes} {piece} {past} writes) = wrote_fresh path bytes piece past (writes_fresh writes)

-- another path stays as it was
pub writes_elsewhere : {path : List ℕ} {before : List Entry} {bytes : List ℕ} {past : List Entry} (other : List ℕ)
    → bytes_eq path other ≡ false → Writes path before bytes past → place past other ≡ place before other
writes_elsewhere {path} other differ first = cond-false (bytes_eq path other) _ _ differ
writes_elsewhere {path} other differ (later writes) =
    cond-false (bytes_eq path other) _ _ differ ∙ writes_elsewhere other differ writes

-- ---- the moments of a save

-- the same is known of the path as before
same_place : (to text : List ℕ) (before now : List Entry) → place now to ≡ place before to
    → OnlyFormerOr (leaves before to) text (leaves now to)
same_place to text before now e o among = inl (subst (λ p. Among o (Place.options p)) e among)

writes_moments : {from : List ℕ} {before : List Entry} {bytes : List ℕ} {past : List Entry} (to text : List ℕ)
    → bytes_eq from to ≡ false
    → Writes from before bytes past → Since (λ now. OnlyFormerOr (leaves before to) text (leaves now to)) before past
writes_moments {from} {before} to text differ first =
    let now = Created from Done ∷ before in
    more start (same_place to text before now (cond-false (bytes_eq from to) _ _ differ))
writes_moments {from} {before} to text differ (later {bytes} {piece} {past} writes) =
    let now = Wrote from piece Done ∷ past in
    let e : place now to ≡ place before to =
    cond-false (bytes_eq from to) _ _ differ ∙ writes_elsewhere to differ writes in
    more (writes_moments to text differ writes) (same_place to text before now e)

among_both : (o : Left) (xs ys : List Left) → Among o (xs ++ ys) → Among o xs ⊎ Among o ys
among_both o [] ys a = inr a
among_both o (x ∷ xs) ys (inl e) = inl (inl e)
among_both o (x ∷ xs) ys (inr a) = elim (among_both o xs ys a) [ inl b ↦ inl (inr b) | inr b ↦ inr b ]

pub among_one : (o x : Left) → Among o (x ∷ []) → o ≡ x
among_one o x (inl e) = e
among_one o x (inr never) = absurd never

module _ (from to text : List ℕ) (before past : List Entry) (differ : bytes_eq from to ≡ false)
    (writes : Writes from before text past) where
  abbrev synced : List Entry
  synced = Synced from Done ∷ past

  abbrev renamed : List Entry
  renamed = Renamed from to Done ∷ synced

  abbrev saved : List Entry
  saved = DirSynced (folder_of to) Done ∷ renamed

  synced_elsewhere : place synced to ≡ place before to
  synced_elsewhere = cond-false (bytes_eq from to) _ _ differ ∙ writes_elsewhere to differ writes

  -- the former options and the text
  abbrev either_place : Place
  either_place = record {
    options = leaves before to ++ left.Whole text ∷ [];
    here = Some (left.Whole text);
    fresh = None;
  }

  renamed_place : place renamed to ≡ either_place
  renamed_place =
      renamed_to_own from to Done synced
      ∙ ap (λ p. target_place p (place synced to) Done) (synced_whole from text past (writes_fresh writes))
      ∙ ap (λ (p : Place). record either_place { options = p.options ++ left.Whole text ∷ [] }) synced_elsewhere

  -- the text alone, which the path names
  pub saved_place : place saved to ≡ record { options = left.Whole text ∷ []; here = Some (left.Whole text); fresh = None }
  saved_place = dir_synced_own to Done renamed ∙ ap (λ p. place_in_synced_dir p Done) renamed_place

  either : OnlyFormerOr (leaves before to) text (leaves before to ++ left.Whole text ∷ [])
  either o among =
      elim (among_both o (leaves before to) (left.Whole text ∷ []) among) [
        | inl b ↦ inl b
        | inr b ↦ inr (among_one o (left.Whole text) b)
      ]

  pub saved_moments : Since (λ now. OnlyFormerOr (leaves before to) text (leaves now to)) before saved
  saved_moments =
      more
      (more
      (more (writes_moments to text differ writes) (same_place to text before synced synced_elsewhere))
      (λ o among. either o (subst (λ p. Among o (Place.options p)) renamed_place among)))
      (λ o among. inr (among_one o (left.Whole text) (subst (λ p. Among o (Place.options p)) saved_place among)))

-- five done calls leave the text alone
pub save_leaves : (from to text : List ℕ) (before after : List Entry) → bytes_eq from to ≡ false
    → Saves from to text before after
    → (leaves after to ≡ left.Whole text ∷ []) × (here_of after to ≡ Some (left.Whole text))
save_leaves from to text before after differ s =
    let e : place after to ≡ record { options = left.Whole text ∷ []; here = Some (left.Whole text); fresh = None } =
    ap (λ j. place j to) s.ends ∙ saved_place from to text before s.past differ s.writes in
    (ap (λ p. Place.options p) e, ap (λ p. Place.here p) e)

-- at each moment of them a crash leaves a former option or the text
pub save_moments : (from to text : List ℕ) (before after : List Entry) → bytes_eq from to ≡ false
    → Saves from to text before after → Since (λ now. OnlyFormerOr (leaves before to) text (leaves now to)) before after
save_moments from to text before after differ s =
    subst (Since (λ now. OnlyFormerOr (leaves before to) text (leaves now to)) before) (sym s.ends)
    (saved_moments from to text before s.past differ s.writes)

-- ---- syncs of a folder

by_dir : (b : Bool) (d : Did) (p : Place) → place_in_synced_dir p Done ≡ p
    → (if b then place_in_synced_dir p d else p) ≡ p
by_dir true Done p e = e
by_dir true Failed p e = refl
by_dir false d p e = refl

-- a place that a folder's sync leaves as it is
pub stays_under_sync : (dir path : List ℕ) (d : Did) (past : List Entry)
    → place_in_synced_dir (place past path) Done ≡ place past path
    → place (DirSynced dir d ∷ past) path ≡ place past path
stays_under_sync dir path d past e = by_dir (bytes_eq dir (folder_of path)) d (place past path) e

pub settled_alone : (p : Place) (l : Left) → p.options ≡ l ∷ [] → p.here ≡ Some l → place_in_synced_dir p Done ≡ p
settled_alone p left.Old e h = ap (settled_place p) h ∙ ap (λ os. record p { options = os }) (sym e)
settled_alone p (left.Whole bytes) e h = ap (settled_place p) h ∙ ap (λ os. record p { options = os }) (sym e)
settled_alone p left.Absent e h = ap (settled_place p) h
settled_alone p left.Any e h = ap (settled_place p) h

-- nothing settles a place where its name is unsure, absent or any
pub settled_open : (p : Place) → IsUnsettled p.here → place_in_synced_dir p Done ≡ p
settled_open p (inl e) = ap (settled_place p) e
settled_open p (inr (inl e)) = ap (settled_place p) e
settled_open p (inr (inr e)) = ap (settled_place p) e

-- ---- what other calls leave

pub target_options : (from to : List ℕ) (d : Did) (past : List Entry)
    → leaves (Renamed from to d ∷ past) to ≡ leaves past to ++ leaves past from
target_options from to Done past = ap (λ p. Place.options p) (renamed_to_own from to Done past)
target_options from to Failed past = ap (λ p. Place.options p) (renamed_to_own from to Failed past)

pub source_options : (from to : List ℕ) (d : Did) (past : List Entry) → bytes_eq to from ≡ false
    → leaves (Renamed from to d ∷ past) from ≡ leaves past from ++ left.Absent ∷ []
source_options from to Done past differ = ap (λ p. Place.options p) (renamed_from_own from to Done past differ)
source_options from to Failed past differ = ap (λ p. Place.options p) (renamed_from_own from to Failed past differ)

pub removed_options : (path : List ℕ) (d : Did) (past : List Entry)
    → leaves (Removed path d ∷ past) path ≡ leaves past path ++ left.Absent ∷ []
removed_options path Done past = ap (λ p. Place.options p) (removed_own path Done past)
removed_options path Failed past = ap (λ p. Place.options p) (removed_own path Failed past)

pub created_options : (path : List ℕ) (d : Did) (past : List Entry)
    → leaves (Created path d ∷ past) path ≡ left.Any ∷ []
created_options path Done past = ap (λ p. Place.options p) (created_own path Done past)
created_options path Failed past = ap (λ p. Place.options p) (created_own path Failed past)

pub either_way : (b : Bool) (p : Place) → (if b then p else p) ≡ p
either_way true p = refl
either_way false p = refl

pub sync_failed : (path other : List ℕ) (past : List Entry)
    → place (Synced path Failed ∷ past) other ≡ place past other
sync_failed path other past = either_way (bytes_eq path other) (place past other)

pub dir_sync_failed : (dir other : List ℕ) (past : List Entry)
    → place (DirSynced dir Failed ∷ past) other ≡ place past other
dir_sync_failed dir other past = either_way (bytes_eq dir (folder_of other)) (place past other)

-- ---- acknowledged saves

counts_one : (b : Bool) (n : ℕ) → (if b then n + 1 else n) ≡ n + 1 → b ≡ true
counts_one true n e = refl
counts_one false n e = absurd (omega (arith, e))

-- the entry is the done sync of the path's folder
pub syncs_is : (to : List ℕ) (entry : Entry) → syncs_folder to entry ≡ true → entry ≡ DirSynced (folder_of to) Done
syncs_is to (DirSynced dir Done) e = ap (λ d. DirSynced d Done) (sym (equal_bytes (folder_of to) dir e))
syncs_is to (DirSynced dir Failed) e = cc
syncs_is to _ e = cc

pub renames_is : (from to : List ℕ) (entry : Entry) → renames from to entry ≡ true → entry ≡ Renamed from to Done
renames_is from to (Renamed a b Done) e =
    let both = and_parts (bytes_eq from a) (bytes_eq to b) e in
    ap (λ x. Renamed x b Done) (sym (equal_bytes from a both.0)) ∙ ap (λ y. Renamed from y Done) (sym (equal_bytes to b both.1))
renames_is from to (Renamed a b Failed) e = cc
renames_is from to _ e = cc

pub rename_before : (from to : List ℕ) (past : List Entry) → is_renamed from to past ≡ true
    → (older : List Entry) × (past ≡ Renamed from to Done ∷ older)
rename_before from to [] e = cc
rename_before from to (entry ∷ older) e = (older, ap (λ x. x ∷ older) (renames_is from to entry e))

-- an acknowledging sync stands directly behind the done rename
pub acked_behind : (from to : List ℕ) (entry : Entry) (past : List Entry)
    → ack_count from to (entry ∷ past) ≡ ack_count from to past + 1
    → (entry ≡ DirSynced (folder_of to) Done) × ((older : List Entry) × (past ≡ Renamed from to Done ∷ older))
acked_behind from to entry past e =
    let both = and_parts (syncs_folder to entry) (is_renamed from to past) (counts_one _ (ack_count from to past) e) in
    (syncs_is to entry both.0, rename_before from to past both.1)
