-- A save of the text that comes next is safe at each of its moments.
use Rattle.std.proofs.Common.{◌≡◌, ◌⊎◌, inl, inr, ℕ, ◌+◌, List, [], ◌∷◌, ◌++◌, Result, Ok, Err, refl, sym, subst, add-one}
use Rattle.std.specs.Prelude.{slice_get, OnOk}
use Rattle.std.proofs.lemmas.Option.{same_Some}
use Rattle.world.specs.declared.entry.Entry.{Entry}
use Rattle.world.specs.declared.left.Left.{Left}
use Rattle.world.specs.declared.left.Left.TheVariants.{Whole}
use Rattle.world.specs.Disk.{Place, Among, place}
use Rattle.world.specs.Moments.{Since, start, more as later}
use Rattle.world.proofs.MomentsLemmas.{since_as}
use Rattle.world.proofs.SaveLemmas.{among_one}
use Rattle.save_disk.specs.Places.{save_count, durable_place, SaveMoment, as_before, renamed, unsure, durable}
use Rattle.progress_save.specs.declared.progress_fault.ProgressFault.{ProgressFault}
use Rattle.progress_save.specs.Saved.{SavesAs, EndsAs}
use Rattle.progress_save.specs.Safe.{IsText, IsLastOrNext, IsPlace, IsSafe, IsHeld, IsNext, StaysSafe}
use Rattle.progress_save.proofs.SavedLemmas.{ended, moments}
use Rattle.jtext.proofs.Lists.{some_and}

among_both : (o : Left) (xs ys : List Left) → Among o (xs ++ ys) → Among o xs ⊎ Among o ys
among_both o [] ys a = inr a
among_both o (x ∷ xs) ys (inl e) = inl (inl e)
among_both o (x ∷ xs) ys (inr a) = elim (among_both o xs ys a) [ inl b ↦ inl (inl_more b) | inr b ↦ inr b ]
  where
    inl_more : Among o xs → Among o (x ∷ xs)
    inl_more b = inr b

module _ (output : List ℕ) (texts : List (List ℕ)) (text : List ℕ) (before : List Entry) (safe : IsSafe output texts before) (next : IsNext output texts text before) where
  abbrev count : ℕ
  count = save_count output before

  -- the text has the next number
  numbered : IsText texts (count + 1) (Whole text)
  numbered = subst (λ n. IsText texts n (Whole text)) (sym (add-one count)) (some_and (λ t. Whole text ≡ Whole t) (slice_get texts count) text next refl)

  abbrev Was : Left → Type 0
  Was o = IsLastOrNext texts count o

  -- the same place and the same count
  same_safe : (now : List Entry) (p : Place) → save_count output now ≡ count → place now output ≡ p → IsPlace Was p → IsSafe output texts now
  same_safe now p a e h = subst (λ n. IsPlace (IsLastOrNext texts n) (place now output)) (sym a) (subst (IsPlace Was) (sym e) h)

  among_more : (o : Left) → Among o ((place before output).options ++ Whole text ∷ []) → Was o
  among_more o among = elim (among_both o (place before output).options (Whole text ∷ []) among) [
    | inl former ↦ safe.options o former
    | inr is ↦ inr (subst (IsText texts (count + 1)) (sym (among_one o (Whole text) is)) numbered)
  ]

  held_place : IsPlace (IsText texts (count + 1)) (durable_place text)
  held_place = record {
    options = λ o among. subst (IsText texts (count + 1)) (sym (among_one o (Whole text) among)) numbered;
    here = λ o e. inl (subst (IsText texts (count + 1)) (same_Some (Whole text) o e) numbered);
  }

  pub held : (now : List Entry) → save_count output now ≡ count + 1 → place now output ≡ durable_place text → IsHeld output texts now
  held now a e = subst (λ n. IsPlace (IsText texts n) (place now output)) (sym a) (subst (IsPlace (IsText texts (count + 1))) (sym e) held_place)

  held_safe : (now : List Entry) → IsHeld output texts now → IsSafe output texts now
  held_safe now h = record {
    options = λ o among. inl (h.options o among);
    here = λ o e. elim (h.here o e) [ inl t ↦ inl (inl t) | inr r ↦ inr r ];
  }

  pub moment_safe : (now : List Entry) → SaveMoment output text before now → IsSafe output texts now
  moment_safe now (as_before a e) = same_safe now (place before output) a e safe
  moment_safe now (renamed a e) = same_safe now _ a e (record {
    options = among_more;
    here = λ o is. inl (inr (subst (IsText texts (count + 1)) (same_Some (Whole text) o is) numbered));
  })
  moment_safe now (unsure a e) = same_safe now _ a e (record { options = among_more; here = λ o is. cc })
  moment_safe now (durable a e) = held_safe now (held now a e)

  last : {P : List Entry → Type 0} {after : List Entry} → P before → Since P before after → P after
  last p start = p
  last p (later since q) = q

  pub stays_safe : (line : List ℕ) (failed : Type 0) (result : Result (Unit {0}) ProgressFault) (after : List Entry) → SavesAs output text line failed result before after → StaysSafe output texts result before after
  stays_safe line failed result after s =
      let each = since_as moment_safe (moments output text line failed before result after s) in
      record {
        moments = each;
        end = last safe each;
        done = on_done result (ended output text line failed before result after s);
      }
    where
      on_done : (r : Result (Unit {0}) ProgressFault) → EndsAs output text r before after → OnOk r (IsHeld output texts after)
      on_done (Ok u) end = held after end.count_is end.place_is
      on_done (Err e) end = tt
