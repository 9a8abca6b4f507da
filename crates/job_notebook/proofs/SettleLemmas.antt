-- The next prefix, and which of its cells have the texts that are kept.
use Rattle.std.proofs.Common.{◌≡◌, ◌⊎◌, inl, inr, ℕ, ◌<◌, ◌≤◌, List, Bool, true, false, Option, Some, None, refl, sym, ◌∙◌, ap, ap₂, subst, arith, option_map}
use Rattle.std.specs.Prelude.{nat_lt, slice_get}
use Rattle.std.proofs.lemmas.Bool.{cases_Bool, cases_lt, cond-true}
use Rattle.std.proofs.lemmas.Option.{same_Some}
use Rattle.nb_model.specs.declared.cell.Cell.{Cell}
use Rattle.nb_model.specs.declared.notebook.Notebook.{Notebook}
use Rattle.out_fold.specs.declared.fold.Fold.{Fold}
use Rattle.out_fold.specs.declared.used.Used.{Used}
use Rattle.out_fold.specs.Plans.{is_in}
use Rattle.out_fold.specs.Stands.{StandsFor, Rested, SameCell, merge_of, next_of, touched_of}
use Rattle.progress_save.specs.declared.progress.Progress.{Progress}
use Rattle.progress_save.specs.Prefix.{AreSettled, prefix, saved_cell, settled_cell, stops_at}
use Rattle.progress_save.specs.State.{Fits, kept_text}
use Rattle.job_notebook.specs.Kept.{IsKept, ForgetsSome}
use Rattle.jtext.proofs.Lists.{option_map_alike}

-- the laws of prefixes and of kept texts
pub record PrefixLaws : Type 0 where
  pub each : (merge : Bool) (us : List Used) (p : ℕ) (stop : Option ℕ) (n : Notebook) (i : ℕ) → slice_get (prefix merge us p stop n).cells i ≡ option_map (saved_cell merge us p stop i) (slice_get n.cells i)
  pub waiting : (merge : Bool) (us : List Used) (p : ℕ) (stop : Option ℕ) (i : ℕ) (c : Cell) → p ≤ i → saved_cell merge us p stop i c ≡ c
  pub untouched : (merge : Bool) (was us : List Used) (p q : ℕ) (stop : Option ℕ) (i : ℕ) (c : Cell) → SameCell merge was us i → i < p → p ≤ q → stops_at stop i ≡ false → saved_cell merge us q stop i c ≡ saved_cell merge was p None i c
  pub again : (merge : Bool) (was us : List Used) (p q : ℕ) (stop : Option ℕ) (n : Notebook) → p ≤ q → prefix merge us q stop (prefix merge was p None n) ≡ prefix merge us q stop n
  pub fewer : (p q : Progress) (cs : List Cell) → ForgetsSome p q → Fits p cs → Fits q cs
  pub others : (p : Progress) (old new : List Cell) → ((i : ℕ) → (kept_text p i ≡ None) ⊎ (slice_get new i ≡ slice_get old i)) → Fits p old → Fits p new

-- the notebook becomes that prefix, and the texts of the cells are forgotten that may be others in it
pub record Settles (f : Fold) (n m : Notebook) (settled q : ℕ) (stop : Option ℕ) (p r : Progress) : Type 0 where
  pub above : settled ≤ q
  pub made : (us : List Used) → StandsFor f us → AreSettled (merge_of f) us (touched_of f) settled stop n.cells → m ≡ prefix (merge_of f) us q stop n
  pub forgets : ForgetsSome p r
  pub changed : (i : ℕ) → is_in (touched_of f) i ≡ true → kept_text r i ≡ None
  pub newly : (i : ℕ) → settled ≤ i → i < q → kept_text r i ≡ None
  pub stopped : (i : ℕ) → stops_at stop i ≡ true → kept_text r i ≡ None

-- a cell below the number of those that are settled is settled
settled_below : (merge : Bool) (us : List Used) (q : ℕ) (stop : Option ℕ) (i : ℕ) (c : Cell) → i < q → saved_cell merge us q stop i c ≡ settled_cell merge us stop i c
settled_below merge us q stop i c lt = cond-true (nat_lt i q) _ _ (grind (arith, lt))

module _ (laws : PrefixLaws) (f : Fold) (n m : Notebook) (settled q : ℕ) (stop : Option ℕ) (p r : Progress) (s : Settles f n m settled q stop p r) where
  -- what was settled and has not changed is as it is to be saved
  are_settled : (first : Notebook) (us : List Used) → IsKept f n settled p first us → AreSettled (merge_of f) us (touched_of f) settled stop n.cells
  are_settled first us k i c at lt out on = by_first (slice_get first.cells i) refl
    where
      by_first : (o : Option Cell) → slice_get first.cells i ≡ o → settled_cell (merge_of f) us stop i c ≡ c
      by_first None e =
          let no : Some c ≡ None = sym at ∙ ap (λ x. slice_get x.cells i) k.is ∙ laws.each (merge_of f) k.was settled None first i ∙ ap (option_map (saved_cell (merge_of f) k.was settled None i)) e in
          absurd (cc)
      by_first (Some d) e =
          let here : saved_cell (merge_of f) k.was settled None i d ≡ c = same_Some _ _ (sym (sym at ∙ ap (λ x. slice_get x.cells i) k.is ∙ laws.each (merge_of f) k.was settled None first i ∙ ap (option_map (saved_cell (merge_of f) k.was settled None i)) e)) in
          let inner = laws.each (merge_of f) k.was settled None first i ∙ ap (option_map (saved_cell (merge_of f) k.was settled None i)) e in
          let twice : saved_cell (merge_of f) us settled stop i (saved_cell (merge_of f) k.was settled None i d) ≡ saved_cell (merge_of f) us settled stop i d = same_Some _ _ (sym (laws.each (merge_of f) us settled stop (prefix (merge_of f) k.was settled None first) i ∙ ap (option_map (saved_cell (merge_of f) us settled stop i)) inner)
          ∙ ap (λ x. slice_get x.cells i) (laws.again (merge_of f) k.was us settled settled stop first (omega arith))
          ∙ laws.each (merge_of f) us settled stop first i ∙ ap (option_map (saved_cell (merge_of f) us settled stop i)) e) in
          sym (settled_below (merge_of f) us settled stop i c lt)
          ∙ ap (saved_cell (merge_of f) us settled stop i) (sym here) ∙ twice ∙ laws.untouched (merge_of f) k.was us settled settled stop i d (k.rested i out) lt (omega arith) on ∙ here

  -- it is that prefix of the first notebook
  pub settled_is : (first : Notebook) (us : List Used) → IsKept f n settled p first us → m ≡ prefix (merge_of f) us q stop first
  settled_is first us k = s.made us k.stands (are_settled first us k) ∙ ap (prefix (merge_of f) us q stop) k.is ∙ laws.again (merge_of f) k.was us settled q stop first s.above

  -- each text that is still kept is that of its cell
  pub settled_fits : (first : Notebook) (us : List Used) → IsKept f n settled p first us → Fits r m.cells
  settled_fits first us k = laws.others r n.cells m.cells same (laws.fewer p r n.cells s.forgets k.fits)
    where
      by_cells : (i : ℕ) → ((c : Cell) → saved_cell (merge_of f) us q stop i c ≡ saved_cell (merge_of f) k.was settled None i c) → slice_get m.cells i ≡ slice_get n.cells i
      by_cells i e =
          ap (λ x. slice_get x.cells i) (settled_is first us k)
          ∙ laws.each (merge_of f) us q stop first i
          ∙ option_map_alike (saved_cell (merge_of f) us q stop i) (saved_cell (merge_of f) k.was settled None i) e (slice_get first.cells i)
          ∙ sym (ap (λ x. slice_get x.cells i) k.is ∙ laws.each (merge_of f) k.was settled None first i)

      untouched : (i : ℕ) → is_in (touched_of f) i ≡ false → stops_at stop i ≡ false → i < settled → slice_get m.cells i ≡ slice_get n.cells i
      untouched i out on lt = by_cells i (λ c. laws.untouched (merge_of f) k.was us settled q stop i c (k.rested i out) lt s.above on)

      waiting : (i : ℕ) → q ≤ i → slice_get m.cells i ≡ slice_get n.cells i
      waiting i past = by_cells i (λ c. laws.waiting (merge_of f) us q stop i c past ∙ sym (laws.waiting (merge_of f) k.was settled None i c (omega (arith, s.above, past))))

      same : (i : ℕ) → (kept_text r i ≡ None) ⊎ (slice_get m.cells i ≡ slice_get n.cells i)
      same i =
          elim (cases_Bool (is_in (touched_of f) i)) [
            | inl touched ↦ inl (s.changed i touched)
            | inr out ↦ elim (cases_Bool (stops_at stop i)) [
              | inl at ↦ inl (s.stopped i at)
              | inr on ↦ elim (cases_lt i settled) [
                | inl lt ↦ inr (untouched i out on lt)
                | inr above ↦ elim (cases_lt i q) [ inl lt ↦ inl (s.newly i above lt) | inr past ↦ inr (waiting i past) ]
              ]
            ]
          ]

  -- ---- the fold rests

  module _ (g : Fold) (merge : merge_of g ≡ merge_of f) (next : next_of g ≡ next_of f) (stands : (us : List Used) → StandsFor f us → StandsFor g us)
      (rested : (us : List Used) → Rested g us us) (on : stop ≡ None) where
    pub settled_kept : (first : Notebook) (us : List Used) → IsKept f n settled p first us → IsKept g m q r first us
    settled_kept first us k = record {
      was = us;
      stands = stands us k.stands;
      rested = rested us;
      last = λ lt. k.last (subst (λ x. 0 < x) next lt);
      is = settled_is first us k ∙ ap₂ (λ b s. prefix b us q s first) (sym merge) on;
      fits = settled_fits first us k;
    }
