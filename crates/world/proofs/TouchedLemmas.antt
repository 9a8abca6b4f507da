-- What stays of a path that no entry touches.
use Rattle.std.specs.Prelude.{◌≡◌, ℕ, List, Bool, true, false, if◌then◌else◌, refl}
use Rattle.std.proofs.Common.{sym, ◌∙◌, subst}
use Rattle.std.proofs.lemmas.Bool.{cond-false, or_parts}
use Rattle.std.specs.Str.{bytes_eq}
use Rattle.world.specs.declared.entry.Entry.{Entry}
use Rattle.world.specs.declared.entry.Entry.TheVariants as made
use Rattle.world.specs.declared.did.Did.{Did}
use Rattle.world.specs.declared.did.Did.TheVariants as did
use Rattle.world.specs.Disk.{Place, place, place_after, untouched_place, place_in_synced_dir, folder_of}
use Rattle.world.specs.Moments.{Since, start, more}
use Rattle.world.specs.Touched.{touches, settles, Spares}

renamed_spared : (path from to : List ℕ) (d : Did) (was : List ℕ → Place)
    → touches path (made.Renamed from to d) ≡ false → place_after (made.Renamed from to d) was path ≡ was path
renamed_spared path from to d was e =
    let both : (bytes_eq to path ≡ false) × (bytes_eq from path ≡ false) = or_parts (bytes_eq to path) (bytes_eq from path) e in
    cond-false (bytes_eq to path) _ _ both.0 ∙ cond-false (bytes_eq from path) _ _ both.1

-- an entry that neither touches the path nor syncs its folder leaves all that is known of it
pub after_spared : (path : List ℕ) (entry : Entry) (was : List ℕ → Place) → touches path entry ≡ false
    → settles path entry ≡ false → place_after entry was path ≡ was path
after_spared path (made.Created p d) was e f = cond-false _ _ _ e
after_spared path (made.Wrote p bytes d) was e f = cond-false _ _ _ e
after_spared path (made.Synced p d) was e f = cond-false _ _ _ e
after_spared path (made.Renamed from to d) was e f = renamed_spared path from to d was e
after_spared path (made.DirSynced dir d) was e f = cond-false _ _ _ f
after_spared path (made.Removed p d) was e f = cond-false _ _ _ e
after_spared path _ was e f = refl

settled_is : (b : Bool) (d : Did)
    → (if b then place_in_synced_dir untouched_place d else untouched_place) ≡ untouched_place
settled_is true did.Done = refl
settled_is true did.Failed = refl
settled_is false d = refl

settled_untouched_place : (b : Bool) (d : Did) (was : Place) → was ≡ untouched_place
    → (if b then place_in_synced_dir was d else was) ≡ untouched_place
settled_untouched_place b d was e = subst (λ w. (if b then place_in_synced_dir w d else w) ≡ untouched_place) (sym e) (settled_is b d)

-- a path that no entry has touched is as before the run, whatever folder was synced
pub untouched_after : (path : List ℕ) (entry : Entry) (was : List ℕ → Place) → touches path entry ≡ false
    → was path ≡ untouched_place → place_after entry was path ≡ untouched_place
untouched_after path (made.Created p d) was e f = cond-false _ _ _ e ∙ f
untouched_after path (made.Wrote p bytes d) was e f = cond-false _ _ _ e ∙ f
untouched_after path (made.Synced p d) was e f = cond-false _ _ _ e ∙ f
untouched_after path (made.Renamed from to d) was e f = renamed_spared path from to d was e ∙ f
untouched_after path (made.DirSynced dir d) was e f = settled_untouched_place (bytes_eq dir (folder_of path)) d (was path) f
untouched_after path (made.Removed p d) was e f = cond-false _ _ _ e ∙ f
untouched_after path _ was e f = f

-- so it stays through any entries that don't touch it
pub untouched_since : {path : List ℕ} {x y : List Entry} → Since (Spares path) x y
    → place x path ≡ untouched_place → place y path ≡ untouched_place
untouched_since start e = e
untouched_since {path} (more {past} {entry} since spares) e = untouched_after path entry (place past) spares (untouched_since since e)
