-- What is kept, as a cell begins and messages are used.
use Rattle.std.proofs.Common.{◌≡◌, ℕ, ◌<◌, List, [], ◌∷◌, ◌++◌, Bool, false, Option, Some, None, Result, Ok, Err, refl, sym, ◌∙◌, ap, subst, arith}
use Rattle.std.specs.Prelude.{slice_get, map, IfSome, IsOk, OnOk, OnErr}
use Rattle.std.specs.Coded.{Coded-set, coded_ℕ, coded_list, coded_option, Π_prop, Unit-prop}
use Rattle.std.proofs.lemmas.Bool.{false≢true}
use Rattle.nb_model.specs.declared.cell.Cell.{Cell}
use Rattle.nb_model.specs.declared.notebook.Notebook.{Notebook}
use Rattle.nb_text.specs.Cells.{cell_text}
use Rattle.out_fold.specs.declared.fold.Fold.{Fold}
use Rattle.out_fold.specs.Cells.{begin}
use Rattle.out_fold.specs.declared.used.Used.{Used}
use Rattle.out_fold.specs.Plans.{is_in}
use Rattle.out_fold.specs.Stands.{StandsFor, Rested, SameCell, merge_of, next_of, touched_of}
use Rattle.progress_save.specs.declared.progress.Progress.{Progress}
use Rattle.progress_save.specs.Prefix.{prefix}
use Rattle.progress_save.specs.declared.progress_fault.ProgressFault.{ProgressFault}
use Rattle.progress_save.specs.declared.progress_fault.ProgressFault.TheVariants as fault
use Rattle.progress_save.specs.State.{Fits, KeepsAll, KeepsAfter, failed_after, kept_text}
use Rattle.job_notebook.specs.Kept.{IsKept, IsKeptForSome, HasLast}
use Rattle.job_notebook.specs.State.{OnCall, closed_after}

-- ---- answers

module _ {U E : Type 0} where
  pub ok_both : {P Q S : Type 0} (r : Result U E) → (P → Q → S) → OnOk r P → OnOk r Q → OnOk r S
  ok_both (Ok u) so p q = so p q
  ok_both (Err e) so p q = tt

  pub err_both : {P Q S : Type 0} (r : Result U E) → (P → Q → S) → OnErr r P → OnErr r Q → OnErr r S
  err_both (Ok u) so p q = tt
  err_both (Err e) so p q = so p q

  pub either_both : {P Q P' Q' S : Type 0} (r : Result U E) → (P → Q → S) → (P' → Q' → S) → OnOk r P → OnOk r Q → OnErr r P' → OnErr r Q' → S
  either_both (Ok u) ok err p q p' q' = ok p q
  either_both (Err e) ok err p q p' q' = err p' q'

-- no save was refused and no run stopped, where another one may follow
pub stays_open : {U : Type 0} (r : Result U ProgressFault) (stop : Option ℕ) → closed_after r stop ≡ false → IsOk r × (stop ≡ None)
stays_open (Ok u) None e = (refl, refl)
stays_open (Ok u) (Some s) e = cc
stays_open (Err e) stop h = cc

pub unfailed_after : {U : Type 0} (r : Result U ProgressFault) (was now : Bool) → IsOk r → now ≡ failed_after r was → was ≡ false → now ≡ false
unfailed_after (Ok u) was now ok is none = is ∙ none
unfailed_after (Err e) was now ok is none = cc

-- ---- kept texts

-- there is at most one proof
pub Fits-prop : (p : Progress) (cs : List Cell) → IsProp (Fits p cs)
Fits-prop p cs = Π_prop (λ i. at_most_one (kept_text p i) (slice_get (map cell_text cs) i))
  where
    at_most_one : (o s : Option (List ℕ)) → IsProp (IfSome o (λ t. s ≡ Some t))
    at_most_one None s = Unit-prop
    at_most_one (Some t) s = Coded-set (coded_option (coded_list coded_ℕ)) s (Some t)

-- none is kept
pub none_fits : (p : Progress) (cs : List Cell) → ((i : ℕ) → kept_text p i ≡ None) → Fits p cs
none_fits p cs none i = subst (λ o. IfSome o (λ t. slice_get (map cell_text cs) i ≡ Some t)) (sym (none i)) tt

-- those that a save made are kept
pub fits_after : {U : Type 0} (r : Result U ProgressFault) (p q : Progress) (cs : List Cell) → (KeepsAll q cs → Fits q cs) → KeepsAfter r cs p q → IsOk r → Fits q cs
fits_after (Ok u) p q cs fits kept ok = fits kept
fits_after (Err e) p q cs fits kept ok = absurd (false≢true ok)

pub on_ok_then : {U : Type 0} {K : Type 0} (r : Result U ProgressFault) → (IsOk r → K) → OnOk r K
on_ok_then (Ok u) so = so refl
on_ok_then (Err e) so = tt

pub on_call_then : {U : Type 0} {K : Type 0} (r : Result U ProgressFault) → K → OnCall r K
on_call_then (Ok u) k = k
on_call_then (Err (fault.Save f)) k = k
on_call_then (Err fault.Closed) k = tt
on_call_then (Err fault.NoMemory) k = tt

-- other texts are kept
pub kept_by : (f : Fold) (n : Notebook) (settled : ℕ) (p q : Progress) → Fits q n.cells → (first : Notebook) (us : List Used)
    → IsKept f n settled p first us → IsKept f n settled q first us
kept_by f n settled p q fits first us k =
    record { was = k.was; stands = k.stands; rested = k.rested; last = k.last; is = k.is; fits = fits }

-- ---- the begin

pub kept_first : (f : Fold) (n : Notebook) (p : Progress) → ((merge : Bool) (us : List Used) (m : Notebook) → prefix merge us 0 None m ≡ m)
    → StandsFor f [] → Rested f [] [] → next_of f ≡ 0 → ((i : ℕ) → kept_text p i ≡ None) → IsKept f n 0 p n []
kept_first f n p empty stands rested next none = record {
  was = [];
  stands = stands;
  rested = rested;
  last = λ lt. absurd (omega (arith, lt, next));
  is = sym (empty (merge_of f) [] n);
  fits = none_fits p n.cells none;
}

-- ---- the fold moves

module _ (f g : Fold) (merge : merge_of g ≡ merge_of f) (n : Notebook) (settled : ℕ) (p : Progress) where
  -- to messages of which the last request is known
  moved : (first : Notebook) (us vs : List Used) → StandsFor g vs → ((was : List Used) → Rested f was us → Rested g was vs) → (0 < next_of g → HasLast vs)
      → IsKept f n settled p first us → IsKept g n settled p first vs
  moved first us vs stands rested last k = record {
    was = k.was;
    stands = stands;
    rested = rested k.was k.rested;
    last = last;
    is = k.is ∙ ap (λ b. prefix b k.was settled None first) (sym merge);
    fits = k.fits;
  }

  -- a cell begins
  module _ (cell : ℕ) (stands : (us : List Used) → StandsFor f us → StandsFor g (us ++ begin cell ∷ []))
      (rested : (was us : List Used) → Rested f was us → Rested g was (us ++ begin cell ∷ [])) where
    pub begun_kept : (first : Notebook) (us : List Used) → IsKept f n settled p first us → IsKept g n settled p first (us ++ begin cell ∷ [])
    begun_kept first us k =
        moved first us (us ++ begin cell ∷ []) (stands us k.stands) (λ was. rested was us) (λ lt. record { before = us; current = begin cell; split = refl }) k

    pub begun_for_some : IsKeptForSome f n settled p → IsKeptForSome g n settled p
    begun_for_some s = record { first = s.first; us = s.us ++ begin cell ∷ []; kept = begun_kept s.first s.us s.kept }

  -- what was used for the last request becomes more
  module _ (turn : Used → Used) (stands : (us : List Used) (u : Used) → StandsFor f (us ++ u ∷ []) → StandsFor g (us ++ turn u ∷ []))
      (rested : (was us : List Used) (u : Used) → StandsFor f (us ++ u ∷ []) → Rested f was (us ++ u ∷ []) → Rested g was (us ++ turn u ∷ [])) where
    pub turned_kept : (first : Notebook) (us : List Used) (u : Used) → IsKept f n settled p first (us ++ u ∷ []) → IsKept g n settled p first (us ++ turn u ∷ [])
    turned_kept first us u k =
        moved first (us ++ u ∷ []) (us ++ turn u ∷ []) (stands us u k.stands) (λ was. rested was us u k.stands)
        (λ lt. record { before = us; current = turn u; split = refl }) k

    pub turned_for_some : 0 < next_of f → IsKeptForSome f n settled p → IsKeptForSome g n settled p
    turned_for_some some s =
        let l = s.kept.last some in
        record {
          first = s.first;
          us = l.before ++ turn l.current ∷ [];
          kept = turned_kept s.first l.before l.current (subst (λ us. IsKept f n settled p s.first us) l.split s.kept);
        }

  -- it stands for what it stood for
  module _ (next : next_of g ≡ next_of f) (touched : touched_of g ≡ touched_of f) (stands : (us : List Used) → StandsFor f us → StandsFor g us) where
    pub still_kept : (first : Notebook) (us : List Used) → IsKept f n settled p first us → IsKept g n settled p first us
    still_kept first us k = moved first us us (stands us k.stands) same (λ lt. k.last (subst (λ m. 0 < m) next lt)) k
      where
        same : (was : List Used) → Rested f was us → Rested g was us
        same was rested cell e = subst (λ b. SameCell b was us cell) (sym merge) (rested cell (ap (λ cells. is_in cells cell) (sym touched) ∙ e))

    pub still_for_some : IsKeptForSome f n settled p → IsKeptForSome g n settled p
    still_for_some s = record { first = s.first; us = s.us; kept = still_kept s.first s.us s.kept }
