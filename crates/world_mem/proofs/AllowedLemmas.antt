-- The files that a number picks are among those that a crash may leave.
use Rattle.std.specs.Prelude.{◌⊎◌, IsSomeAnd, slice_get, if◌then◌else◌}
use Rattle.std.proofs.Common.{◌≡◌, ◌∙◌, ◌++◌, ◌%◌, ◌/◌, ℕ, suc, zero, ◌<◌, List, [], ◌∷◌, length, get_or, length-append, Bool, true, false, Option, Some, None, refl, sym, subst, arith, inl, inr}
use Rattle.std.proofs.lemmas.Bool.{cases_Bool, cond-true, cond-false, false≢true, and_parts, or_parts}
use Rattle.std.proofs.lemmas.Option.{slice_get-get_or, unwrap_or-slice_get}
use Rattle.std.specs.Str.{bytes_eq}
use Rattle.world.specs.declared.entry.Entry.{Entry}
use Rattle.world.specs.declared.left.Left.{Left}
use Rattle.world.specs.declared.left.Left.TheVariants as left
use Rattle.world.specs.declared.did.Did.{Did}
use Rattle.world.specs.declared.did.Did.TheVariants as did
use Rattle.world.specs.declared.entry.Entry.TheVariants as made
use Rattle.world.specs.Moments.{upto}
use Rattle.world.specs.Disk.{
  Place,
  place,
  place_after,
  leaves,
  unsynced_place,
  fresh_bytes,
  created_place,
  written_place,
  whole_place,
  synced_place,
  target_place,
  removed_place,
  settled_place,
  place_in_synced_dir,
  folder_of,
}
use Rattle.world_mem.specs.Folder.{Content, file_at}
use Rattle.world_mem.specs.Image.{choices_of, all_choices, pick, file_of, choices_at, pick_files, IsPicked, Stands, IsAllowed}
use Rattle.world_mem.specs.Known.{is_below, are_ascending}
use Rattle.jtext.specs.Texts.{is_among}
use Rattle.world_mem.proofs.ImageLemmas.{below_apart, expanded_some}
use Rattle.jtext.proofs.Equals.{equal_bytes, same_bytes}
use Rattle.jtext.proofs.Lists.{or_other}

-- ---- one path

-- a choice that an option stands for
choice_stands : (old : Option (List ℕ)) (option : Left) (i : ℕ) (x : Option (List ℕ))
    → slice_get (choices_of old option) i ≡ Some x → Stands old x option
choice_stands old left.Old zero x e = cc
choice_stands old left.Old (suc i) x e = cc
choice_stands old left.Absent zero x e = cc
choice_stands old left.Absent (suc i) x e = cc
choice_stands old (left.Whole bytes) zero x e = cc
choice_stands old (left.Whole bytes) (suc i) x e = cc
choice_stands old left.Any i x e = tt

-- a choice of two lists is one of the first or of the second
split : {X : Type 0} (xs ys : List X) (i : ℕ) (x : X) → slice_get (xs ++ ys) i ≡ Some x
    → ((j : ℕ) × (slice_get xs j ≡ Some x)) ⊎ ((j : ℕ) × (slice_get ys j ≡ Some x))
split [] ys i x e = inr (i, e)
split (y ∷ xs) ys zero x e = inl (zero, e)
split (y ∷ xs) ys (suc i) x e =
    elim (split xs ys i x e) [
      | inl a ↦ inl (suc a.0, a.1)
      | inr b ↦ inr b
    ]

pub choice_allowed : (old : Option (List ℕ)) (options : List Left) (i : ℕ) (x : Option (List ℕ))
    → slice_get (all_choices old options) i ≡ Some x → IsAllowed old x options
choice_allowed old [] i x e = cc
choice_allowed old (option ∷ options) i x e =
    elim (split (choices_of old option) (all_choices old options) i x e) [
      | inl a ↦ inl (choice_stands old option a.0 x a.1)
      | inr b ↦ inr (choice_allowed old options b.0 x b.1)
    ]

-- ---- there is always an option

if_some : (b : Bool) (p q : Place) → 0 < length p.options → 0 < length q.options
    → 0 < length (Place.options (if b then p else q))
if_some true p q some other = some
if_some false p q some other = other

unsynced_some : (known : Option (List ℕ)) → 0 < length (Place.options (unsynced_place known))
unsynced_some known = omega arith

created_some : (d : Did) → 0 < length (Place.options (created_place d))
created_some did.Done = omega arith
created_some did.Failed = omega arith

whole_some : (p : Place) (known : Option (List ℕ)) → 0 < length p.options → 0 < length (Place.options (whole_place p known))
whole_some p None some = some
whole_some p (Some bytes) some = omega arith

synced_some : (p : Place) (d : Did) → 0 < length p.options → 0 < length (Place.options (synced_place p d))
synced_some p did.Done some = whole_some p p.fresh some
synced_some p did.Failed some = some

target_some : (from to : Place) (d : Did) → 0 < length to.options → 0 < length (Place.options (target_place from to d))
target_some from to did.Done some = omega (arith, length-append to.options from.options)
target_some from to did.Failed some = omega (arith, length-append to.options from.options)

removed_some : (p : Place) (d : Did) → 0 < length p.options → 0 < length (Place.options (removed_place p d))
removed_some p did.Done some = omega (arith, length-append p.options (left.Absent ∷ []))
removed_some p did.Failed some = omega (arith, length-append p.options (left.Absent ∷ []))

settled_some : (p : Place) (here : Option Left) → 0 < length p.options → 0 < length (Place.options (settled_place p here))
settled_some p None some = some
settled_some p (Some left.Old) some = omega arith
settled_some p (Some left.Absent) some = some
settled_some p (Some (left.Whole bytes)) some = omega arith
settled_some p (Some left.Any) some = some

folder_some : (p : Place) (d : Did) → 0 < length p.options → 0 < length (Place.options (place_in_synced_dir p d))
folder_some p did.Done some = settled_some p p.here some
folder_some p did.Failed some = some

after_some : (entry : Entry) (was : List ℕ → Place) → ((q : List ℕ) → 0 < length (was q).options) → (q : List ℕ)
    → 0 < length (Place.options (place_after entry was q))
after_some (made.Created path d) was some q = if_some (bytes_eq path q) (created_place d) (was q) (created_some d) (some q)
after_some (made.Wrote path bytes d) was some q =
    if_some (bytes_eq path q) (written_place (was q) bytes d) (was q) (unsynced_some (fresh_bytes (was q).fresh bytes d)) (some q)
after_some (made.Synced path d) was some q =
    if_some (bytes_eq path q) (synced_place (was q) d) (was q) (synced_some (was q) d (some q)) (some q)
after_some (made.Renamed from to d) was some q =
    if_some (bytes_eq to q) (target_place (was from) (was to) d) _ (target_some (was from) (was to) d (some to))
    (if_some (bytes_eq from q) (removed_place (was from) d) (was q) (removed_some (was from) d (some from)) (some q))
after_some (made.DirSynced dir d) was some q =
    if_some (bytes_eq dir (folder_of q)) (place_in_synced_dir (was q) d) (was q) (folder_some (was q) d (some q)) (some q)
after_some (made.Removed path d) was some q =
    if_some (bytes_eq path q) (removed_place (was q) d) (was q) (removed_some (was q) d (some q)) (some q)
after_some _ was some q = some q

leaves_some : (past : List Entry) (path : List ℕ) → 0 < length (leaves past path)
leaves_some [] path = omega arith
leaves_some (entry ∷ past) path = after_some entry (place past) (leaves_some past) path

-- ---- every path

-- at a path stands what was picked there, where nothing comes behind
kept_at : (path : List ℕ) (x : Option (List ℕ)) (rest : Content) → file_at path rest ≡ None
    → file_at path (file_of path x ++ rest) ≡ x
kept_at path None rest e = e
kept_at path (Some bytes) rest e =
    cond-true (bytes_eq path path) (Some bytes) (file_at path rest) (same_bytes path)

-- at another path stands what comes behind
skipped : (path other : List ℕ) (x : Option (List ℕ)) (rest : Content) → bytes_eq other path ≡ false
    → file_at path (file_of other x ++ rest) ≡ file_at path rest
skipped path other None rest e = refl
skipped path other (Some bytes) rest e = cond-false (bytes_eq other path) (Some bytes) (file_at path rest) e

picked_none : (start : Content) (past : List Entry) (paths : List (List ℕ)) (number : ℕ) (path : List ℕ)
    → is_among path paths ≡ false → file_at path (pick_files start past paths number) ≡ None
picked_none start past [] number path none = refl
picked_none start past (other ∷ paths) number path none =
    let parts = or_parts (bytes_eq other path) (is_among path paths) none in
    skipped path other _ _ parts.0 ∙ picked_none start past paths _ path parts.1

pick_allowed : (start : Content) (past : List Entry) (path : List ℕ) (number : ℕ)
    → IsAllowed (file_at path start) (pick (choices_at start past path) number) (leaves past path)
pick_allowed start past path number =
    let choices = choices_at start past path in
    let some : 0 < length choices = expanded_some (file_at path start) (leaves past path) (leaves_some past path) in
    let at : slice_get choices (number % length choices) ≡ Some (get_or choices (number % length choices) None) = slice_get-get_or choices (number % length choices) None (omega (arith, some)) in
    let is : pick choices number ≡ get_or choices (number % length choices) None = unwrap_or-slice_get choices (number % length choices) None in
    subst (λ x. IsAllowed (file_at path start) x (leaves past path)) (sym is) (choice_allowed (file_at path start) (leaves past path) _ _ at)

picked_at : (start : Content) (past : List Entry) (paths : List (List ℕ)) (number : ℕ) (path : List ℕ)
    → are_ascending paths ≡ true → is_among path paths ≡ true
    → IsAllowed (file_at path start) (file_at path (pick_files start past paths number)) (leaves past path)
picked_at start past [] number path order there = absurd (false≢true there)
picked_at start past (other ∷ paths) number path order there =
    let parts = and_parts (is_below other paths) (are_ascending paths) order in
    let rest = pick_files start past paths (number / length (choices_at start past other)) in
    elim (cases_Bool (bytes_eq other path)) [
      | inl t ↦
          let none : file_at other rest ≡ None = picked_none start past paths _ other (below_apart other paths parts.0 parts.1) in
          let is = kept_at other (pick (choices_at start past other) number) rest none in
          subst (λ name. IsAllowed (file_at name start) (file_at name (pick_files start past (other ∷ paths) number)) (leaves past name)) (equal_bytes other path t)
          (subst (λ x. IsAllowed (file_at other start) x (leaves past other)) (sym is) (pick_allowed start past other number))
      | inr n ↦
          let skips = skipped path other (pick (choices_at start past other) number) rest n in
          subst (λ x. IsAllowed (file_at path start) x (leaves past path)) (sym skips)
          (picked_at start past paths _ path parts.1 (or_other (bytes_eq other path) (is_among path paths) n there))
    ]

-- at every path stands what an option allows
pub picked_allowed : (start : Content) (past : List Entry) (number : ℕ) (files : Content) → IsPicked start past number files
    → (path : List ℕ) → IsAllowed (file_at path start) (file_at path files) (leaves past path)
picked_allowed start past number files so path =
    subst (λ fs. IsAllowed (file_at path start) (file_at path fs) (leaves past path)) (sym so.digits)
    (elim (cases_Bool (is_among path so.paths)) [
      | inl there ↦ picked_at start past so.paths number path so.order there
      | inr none ↦
          let others = so.others path none in
          subst (λ os. IsAllowed (file_at path start) (file_at path (pick_files start past so.paths number)) os) (sym others.0)
          (inl (picked_none start past so.paths number path none ∙ sym others.1))
    ])

some_as : {X : Type 0} (o : Option X) {P Q : X → Type 0} → IsSomeAnd o P → ((x : X) → P x → Q x) → IsSomeAnd o Q
some_as None p turns = absurd p
some_as (Some x) p turns = turns x p

-- the same by a journal
pub image_allowed : (journal : Option (List Entry)) (start files : Content) (t choice : ℕ)
    → IsSomeAnd journal (λ entries. IsPicked start (upto t entries) choice files)
    → IsSomeAnd journal (λ entries. (path : List ℕ) → IsAllowed (file_at path start) (file_at path files) (leaves (upto t entries) path))
image_allowed journal start files t choice so =
    some_as journal so (λ entries picks. picked_allowed start (upto t entries) choice files picks)
