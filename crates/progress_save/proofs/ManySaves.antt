-- What keeps an output safe from one save to the next.
use Rattle.std.proofs.Common.{◌≡◌, inl, inr, ℕ, zero, suc, ◌+◌, Bool, true, false, List, [], ◌∷◌, ◌++◌, Option, Some, None, IsSomeAnd, refl, sym, ap, subst}
use Rattle.std.specs.Prelude.{slice_get, if◌then◌else◌}
use Rattle.std.specs.Str.{bytes_eq}
use Rattle.world.specs.declared.entry.Entry.{Entry}
use Rattle.world.specs.declared.entry.Entry.TheVariants as made
use Rattle.world.specs.declared.did.Did.{Did}
use Rattle.world.specs.declared.did.Did.TheVariants as did
use Rattle.world.specs.declared.left.Left.{Left}
use Rattle.world.specs.declared.left.Left.TheVariants as left
use Rattle.world.specs.Disk.{Place, Among, place, untouched_place, place_in_synced_dir, settled_place, folder_of}
use Rattle.world.specs.Moments.{Since}
use Rattle.world.specs.Parts.{IsNotOf, OnDisk}
use Rattle.world.specs.Touched.{touches}
use Rattle.world.proofs.PartsLemmas.{place_kept, acked_kept}
use Rattle.world.proofs.TouchedLemmas.{after_spared}
use Rattle.save_disk.specs.Places.{save_count}
use Rattle.world.specs.Save.{temporary_of}
use Rattle.progress_save.specs.Safe.{IsText, IsLastOrNext, IsPlace, IsHeld}

-- ---- other tests

pub weaker_place : {T U : Left → Type 0} {p : Place} → ((o : Left) → T o → U o) → IsPlace T p → IsPlace U p
weaker_place turns h = record {
  options = λ o among. turns o (h.options o among);
  here = λ o e. elim (h.here o e) [ inl t ↦ inl (turns o t) | inr r ↦ inr r ];
}

-- ---- the beginning

pub untouched_held : (output : List ℕ) (texts : List (List ℕ)) (now : List Entry) → place now output ≡ untouched_place → save_count output now ≡ 0 → IsHeld output texts now
untouched_held output texts now e a =
    subst (λ n. IsPlace (IsText texts n) (place now output)) (sym a) (subst (IsPlace (IsText texts 0)) (sym e) (record {
      options = λ o among. is_old o among;
      here = λ o is. inl (same is);
    }))
  where
    is_old : (o : Left) → Among o (left.Old ∷ []) → o ≡ left.Old
    is_old o (inl is) = is
    is_old o (inr never) = absurd never

    same : {o : Left} → Some left.Old ≡ Some o → o ≡ left.Old
    same is = cc

-- ---- more texts

found_before : (P : List ℕ → Type 0) (n : ℕ) (texts more : List (List ℕ)) → IsSomeAnd (slice_get texts n) P → IsSomeAnd (slice_get (texts ++ more) n) P
found_before P n [] more h = absurd h
found_before P zero (t ∷ ts) more h = h
found_before P (suc n) (t ∷ ts) more h = found_before P n ts more h

pub text_before : (n : ℕ) (texts more : List (List ℕ)) (o : Left) → IsText texts n o → IsText (texts ++ more) n o
text_before zero texts more o h = h
text_before (suc n) texts more o h = found_before (λ text. o ≡ left.Whole text) n texts more h

pub last_or_next_before : (n : ℕ) (texts more : List (List ℕ)) (o : Left) → IsLastOrNext texts n o → IsLastOrNext (texts ++ more) n o
last_or_next_before n texts more o (inl h) = inl (text_before n texts more o h)
last_or_next_before n texts more o (inr h) = inr (text_before (n + 1) texts more o h)

-- ---- calls of other parts, and for other files

module _ (T : ℕ → Left → Type 0) (output : List ℕ) where
  pub parts_stay : (before after : List Entry) → Since (IsNotOf OnDisk) before after → IsPlace (T (save_count output before)) (place before output) → IsPlace (T (save_count output after)) (place after output)
  parts_stay before after since h =
      subst (λ n. IsPlace (T n) (place after output)) (sym (acked_kept (temporary_of output) output since))
      (subst (λ p. IsPlace (T (save_count output before)) p) (sym (ap (λ f. f output) (place_kept since))) h)

module _ (T : Left → Type 0) where
  -- the file that the name stands for passes the test
  known : (p : Place) (o : Left) → IsPlace T p → p.here ≡ Some o → (o ≡ left.Absent → ⊥) → (o ≡ left.Any → ⊥) → T o
  known p o h e present sure = elim (h.here o e) [ inl t ↦ t | inr r ↦ elim r [ inl a ↦ absurd (present a) | inr b ↦ absurd (sure b) ] ]

  one_option : (p : Place) (x : Left) → IsPlace T p → T x → IsPlace T (record p { options = x ∷ [] })
  one_option p x h t = record { options = λ o among. only o among; here = h.here }
    where
      only : (o : Left) → Among o (x ∷ []) → T o
      only o (inl e) = subst T (sym e) t
      only o (inr never) = absurd never

  settled_stays : (p : Place) (here : Option Left) → p.here ≡ here → IsPlace T p → IsPlace T (settled_place p here)
  settled_stays p (Some left.Old) e h = one_option p left.Old h (known p left.Old h e (λ a. cc) (λ a. cc))
  settled_stays p (Some (left.Whole bytes)) e h = one_option p (left.Whole bytes) h (known p (left.Whole bytes) h e (λ a. cc) (λ a. cc))
  settled_stays p (Some left.Absent) e h = h
  settled_stays p (Some left.Any) e h = h
  settled_stays p None e h = h

  synced_stays : (b : Bool) (d : Did) (p : Place) → IsPlace T p → IsPlace T (if b then place_in_synced_dir p d else p)
  synced_stays true did.Done p h = settled_stays p p.here refl h
  synced_stays true did.Failed p h = h
  synced_stays false d p h = h

  pub spared_stays : (output : List ℕ) (entry : Entry) (past : List Entry) → touches output entry ≡ false → IsPlace T (place past output) → IsPlace T (place (entry ∷ past) output)
  spared_stays output (made.DirSynced dir d) past e h = synced_stays (bytes_eq dir (folder_of output)) d (place past output) h
  spared_stays output entry past e h = subst (IsPlace T) (sym (after_spared output entry (place past) e refl)) h
