-- What an entry makes of the path that it names.
use Rattle.std.specs.Prelude.{◌≡◌, ℕ, ◌++◌, List, [], ◌∷◌, false, Some}
use Rattle.std.proofs.Common.{◌∙◌, ap}
use Rattle.std.specs.Str.{bytes_eq}
use Rattle.std.proofs.lemmas.Bool.{cond-true, cond-false}
use Rattle.world.specs.declared.entry.Entry.{Entry}
use Rattle.world.specs.declared.entry.Entry.TheVariants as made
use Rattle.world.specs.declared.did.Did.{Did}
use Rattle.world.specs.declared.did.Did.TheVariants as did
use Rattle.world.specs.declared.left.Left.TheVariants as left
use Rattle.world.specs.Disk.{
  Place,
  place,
  created_place,
  written_place,
  synced_place,
  whole_place,
  fresh_bytes,
  target_place,
  removed_place,
  place_in_synced_dir,
  folder_of,
}
use Rattle.jtext.proofs.Equals.{same_bytes}

pub created_own : (path : List ℕ) (d : Did) (past : List Entry)
    → place (made.Created path d ∷ past) path ≡ created_place d
created_own path d past = cond-true (bytes_eq path path) _ _ (same_bytes path)

pub wrote_own : (path bytes : List ℕ) (d : Did) (past : List Entry)
    → place (made.Wrote path bytes d ∷ past) path ≡ written_place (place past path) bytes d
wrote_own path bytes d past = cond-true (bytes_eq path path) _ _ (same_bytes path)

pub synced_own : (path : List ℕ) (d : Did) (past : List Entry)
    → place (made.Synced path d ∷ past) path ≡ synced_place (place past path) d
synced_own path d past = cond-true (bytes_eq path path) _ _ (same_bytes path)

pub removed_own : (path : List ℕ) (d : Did) (past : List Entry)
    → place (made.Removed path d ∷ past) path ≡ removed_place (place past path) d
removed_own path d past = cond-true (bytes_eq path path) _ _ (same_bytes path)

pub renamed_to_own : (from to : List ℕ) (d : Did) (past : List Entry)
    → place (made.Renamed from to d ∷ past) to ≡ target_place (place past from) (place past to) d
renamed_to_own from to d past = cond-true (bytes_eq to to) _ _ (same_bytes to)

pub renamed_from_own : (from to : List ℕ) (d : Did) (past : List Entry) → bytes_eq to from ≡ false
    → place (made.Renamed from to d ∷ past) from ≡ removed_place (place past from) d
renamed_from_own from to d past differ = cond-false (bytes_eq to from) _ _ differ ∙ cond-true (bytes_eq from from) _ _ (same_bytes from)

pub dir_synced_own : (path : List ℕ) (d : Did) (past : List Entry)
    → place (made.DirSynced (folder_of path) d ∷ past) path ≡ place_in_synced_dir (place past path) d
dir_synced_own path d past = cond-true (bytes_eq (folder_of path) (folder_of path)) _ _ (same_bytes (folder_of path))

-- a done create begins with no byte
pub created_fresh : (path : List ℕ) (past : List Entry)
    → (place (made.Created path did.Done ∷ past) path).fresh ≡ Some []
created_fresh path past = ap (λ p. Place.fresh p) (created_own path did.Done past)

-- a done write adds its bytes
pub wrote_fresh : (path bytes piece : List ℕ) (past : List Entry) → (place past path).fresh ≡ Some bytes
    → (place (made.Wrote path piece did.Done ∷ past) path).fresh ≡ Some (bytes ++ piece)
wrote_fresh path bytes piece past e = ap (λ p. Place.fresh p) (wrote_own path piece did.Done past) ∙ ap (λ known. fresh_bytes known piece did.Done) e

-- a done sync leaves just the bytes since the create
pub synced_whole : (path bytes : List ℕ) (past : List Entry) → (place past path).fresh ≡ Some bytes
    → place (made.Synced path did.Done ∷ past) path ≡ record { options = left.Whole bytes ∷ []; here = Some (left.Whole bytes); fresh = Some bytes }
synced_whole path bytes past e = synced_own path did.Done past ∙ ap (whole_place (place past path)) e
