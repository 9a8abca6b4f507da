-- What is kept, as texts and flags change.
use Rattle.std.proofs.Common.{◌≡◌, ◌≢◌, ◌⊎◌, inl, inr, ℕ, zero, suc, ◌+◌, ◌<◌, ◌≤◌, Bool, true, false, List, [], ◌∷◌, ◌++◌, map, length, Option, Some, None, refl, sym, ap, subst, ◌∙◌, arith, option_map}
use Rattle.std.specs.Prelude.{slice_get, unwrap_or, IfSome, if◌then◌else◌}
use Rattle.std.proofs.lemmas.Bool.{cond-true, cond-false, cases_eq, cases_lt}
use Rattle.std.proofs.lemmas.List.{length-map}
use Rattle.std.proofs.lemmas.Option.{slice_get_past, slice_get-map}
use Rattle.nb_model.specs.declared.cell.Cell.{Cell}
use Rattle.nb_text.specs.Cells.{cell_text}
use Rattle.progress_save.specs.declared.kept_texts.KeptTexts.{KeptTexts}
use Rattle.progress_save.specs.Kept.{is_kept, text_at, Fits, KeepsSame, KeepsAll, IsComplete, IsPut}
use Rattle.progress_save.proofs.PutLemmas.{same_items}
use Rattle.jtext.proofs.Lists.{none_beyond}

pub free_at : (k : KeptTexts) (i : ℕ) → is_kept k i ≡ false → text_at k i ≡ None
free_at k i e = cond-false (is_kept k i) _ _ e

pub kept_at : (k : KeptTexts) (i : ℕ) → is_kept k i ≡ true → text_at k i ≡ slice_get k.texts i
kept_at k i e = cond-true (is_kept k i) _ _ e

-- a place more, for a text that isn't kept
pub more_places : (stands : List Bool) (j : ℕ) → unwrap_or (slice_get (stands ++ false ∷ []) j) false ≡ unwrap_or (slice_get stands j) false
more_places [] zero = refl
more_places [] (suc j) = refl
more_places (s ∷ ss) zero = refl
more_places (s ∷ ss) (suc j) = more_places ss j

-- where only a text that isn't kept is another one, the same is kept
pub same_kept : (old new : KeptTexts) (i : ℕ) → ((j : ℕ) → is_kept new j ≡ is_kept old j) → is_kept old i ≡ false
    → ((j : ℕ) → j ≢ i → slice_get new.texts j ≡ slice_get old.texts j) → KeepsSame old new
same_kept old new i flags free texts j =
    elim (cases_eq j i) [
      | inl e ↦
          let was : is_kept old j ≡ false = ap (is_kept old) e ∙ free in
          free_at new j (flags j ∙ was) ∙ sym (free_at old j was)
      | inr ne ↦
          ap (λ b. if b then slice_get new.texts j else None) (flags j)
          ∙ ap (λ o. if is_kept old j then o else None) (texts j ne)
    ]

-- all that is there is kept
pub all_kept : (old new : KeptTexts) → length old.stands ≤ length old.texts → new.texts ≡ old.texts → length new.stands ≡ length old.stands → ((j : ℕ) → j < length old.stands → slice_get new.stands j ≡ Some true)
    → (cs : List Cell) → IsComplete old cs → KeepsAll new cs
all_kept old new within texts places flags cs whole i =
    elim (cases_lt i (length old.stands)) [
      | inl lt ↦ kept_at new i (ap (λ o. unwrap_or o false) (flags i lt)) ∙ ap (λ ts. slice_get ts i) (texts ∙ whole.texts)
      | inr ge ↦
          free_at new i (ap (λ o. unwrap_or o false) (slice_get_past new.stands i (omega (arith, ge, places))))
          ∙ sym (slice_get_past (map cell_text cs) i (omega (arith, ge, whole.places, length-map cs cell_text)))
    ]

-- nothing is kept behind the last cell
pub none_behind : (k : KeptTexts) (cs : List Cell) → Fits k cs → (i : ℕ) → length cs ≤ i → text_at k i ≡ None
none_behind k cs fits i le = absent (text_at k i) (fits i)
  where
    past : slice_get (map cell_text cs) i ≡ None
    past = slice_get-map cell_text cs i ∙ ap (λ o. option_map cell_text o) (slice_get_past cs i le)

    absent : (o : Option (List ℕ)) → IfSome o (λ t. slice_get (map cell_text cs) i ≡ Some t) → o ≡ None
    absent None h = refl
    absent (Some t) h = let never : None ≡ Some t = sym past ∙ h in cc

-- the texts of the cells up to this one are there, and none behind the last cell
pub record Made (k : KeptTexts) (cs : List Cell) (i : ℕ) : Type 0 where
  pub texts : (j : ℕ) → j < i → slice_get k.texts j ≡ slice_get (map cell_text cs) j
  pub within : length k.texts ≤ length cs
  pub places : i ≤ length k.stands

pub made_more : (old new : KeptTexts) (cs : List Cell) (i : ℕ) (c : Cell) → slice_get cs i ≡ Some c → i < length cs → Made old cs i → IsPut old new i (cell_text c) → Made new cs (i + 1)
made_more old new cs i c at lt made put = record {
  texts = λ j below. elim (cases_eq j i) [
    | inl e ↦ ap (slice_get new.texts) e ∙ put.is ∙ sym (slice_get-map cell_text cs i ∙ ap (option_map cell_text) at) ∙ ap (slice_get (map cell_text cs)) (sym e)
    | inr ne ↦ put.others j ne ∙ made.texts j (lower j below ne)
  ];
  within = none_beyond new.texts (length cs) (put.others (length cs) (λ e. absurd (omega (arith, lt, e))) ∙ slice_get_past old.texts (length cs) made.within);
  places = omega (arith, put.place);
}
  where
    lower : (j : ℕ) → j < i + 1 → j ≢ i → j < i
    lower j below ne = elim (cases_lt j i) [ inl lt ↦ lt | inr ge ↦ absurd (ne (omega (arith, ge, below))) ]

pub all_made : (k : KeptTexts) (cs : List Cell) (i : ℕ) → i ≡ length cs → Made k cs i → IsComplete k cs
all_made k cs i e made = record {
  texts = same_items k.texts (map cell_text cs) (λ j. elim (cases_lt j i) [
    | inl lt ↦ made.texts j lt
    | inr ge ↦ slice_get_past k.texts j (omega (arith, ge, e, made.within)) ∙ sym (slice_get_past (map cell_text cs) j (omega (arith, ge, e, length-map cs cell_text)))
  ]);
  places = omega (arith, e, made.places);
}

-- a text that is kept for a cell is its text
pub fits_at : (k now : KeptTexts) (cs : List Cell) (i : ℕ) (c : Cell) → Fits k cs → KeepsSame k now → slice_get cs i ≡ Some c → IfSome (text_at now i) (λ t. t ≡ cell_text c)
fits_at k now cs i c fits same at = subst (λ o. IfSome o (λ t. t ≡ cell_text c)) (sym (same i)) (is (text_at k i) (fits i))
  where
    is : (o : Option (List ℕ)) → IfSome o (λ t. slice_get (map cell_text cs) i ≡ Some t) → IfSome o (λ t. t ≡ cell_text c)
    is None h = tt
    is (Some t) h = let e : Some t ≡ Some (cell_text c) = sym h ∙ slice_get-map cell_text cs i ∙ ap (option_map cell_text) at in cc

-- after a save each text that is kept is that of its cell
pub all_fit : (k : KeptTexts) (cs : List Cell) → KeepsAll k cs → Fits k cs
all_fit k cs all i = subst (λ o. IfSome (text_at k i) (λ t. o ≡ Some t)) (all i) (own (text_at k i))
  where
    own : (o : Option (List ℕ)) → IfSome o (λ t. o ≡ Some t)
    own None = tt
    own (Some t) = refl

-- fewer texts are kept
pub fewer_fit : (old new : KeptTexts) (cs : List Cell) → ((i : ℕ) → (text_at new i ≡ None) ⊎ (text_at new i ≡ text_at old i)) → Fits old cs → Fits new cs
fewer_fit old new cs fewer fits i = elim (fewer i) [
  | inl free ↦ subst (λ o. IfSome o (λ t. slice_get (map cell_text cs) i ≡ Some t)) (sym free) tt
  | inr same ↦ subst (λ o. IfSome o (λ t. slice_get (map cell_text cs) i ≡ Some t)) (sym same) (fits i)
]

-- each cell that is another one has no kept text
pub others_fit : (k : KeptTexts) (old new : List Cell) → ((i : ℕ) → (text_at k i ≡ None) ⊎ (slice_get new i ≡ slice_get old i)) → Fits k old → Fits k new
others_fit k old new others fits i = elim (others i) [
  | inl free ↦ subst (λ o. IfSome o (λ t. slice_get (map cell_text new) i ≡ Some t)) (sym free) tt
  | inr same ↦
      let texts : slice_get (map cell_text new) i ≡ slice_get (map cell_text old) i =
      slice_get-map cell_text new i ∙ ap (option_map cell_text) same ∙ sym (slice_get-map cell_text old i) in
      subst (λ o. IfSome (text_at k i) (λ t. o ≡ Some t)) (sym texts) (fits i)
]
