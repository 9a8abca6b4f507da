-- Each step of a draft, as one row more.
use Rattle.std.proofs.Common.{◌≡◌, ℕ, ◌==◌, Bool, true, false, List, [], ◌∷◌, ◌++◌, length, codes, refl, sym, ◌∙◌, ap, subst, arith, eqb-true}
use Rattle.std.specs.Bool.{MatchBool}
use Rattle.std.proofs.lemmas.Bool.{true≢false}
use Rattle.nb_model.specs.declared.kind.Kind.{Kind}
use Rattle.nb_model.specs.declared.kind.Kind.TheVariants as kind
use Rattle.nb_model.specs.Kind.{is_code}
use Rattle.nb_model.specs.declared.cell.Cell.{Cell}
use Rattle.report_text.specs.declared.place.Place.{Place}
use Rattle.report_text.specs.declared.place.Place.TheVariants as place
use Rattle.report_text.specs.declared.draft.Draft.{Draft}
use Rattle.report_text.specs.Script.{head_row, marker, row_front}
use Rattle.report_text.specs.Reading.{row_string}
use Rattle.report_text.specs.Drafts.{Adds, Ends, MakesAt, Makes, Takes, CannotTake, IsNoMarker, Begins, source_place, with_row, closed}
use Rattle.report_text.proofs.Steps.{marker_some, first_empty, opened, owned, owned_empty, hold_row, hold_empty, source_on, source_back, close_on, close_back, begin_on, begin_back, own_none_code, own_none_prose}

-- ---- at a place that is known

pub at : (d : Draft) (p : Place) (rs : List (List ℕ)) (all : List Cell) → d.place ≡ p → MakesAt p d rs all → Makes d rs all
at d p rs all e m = subst (λ q. MakesAt q d rs all) (sym e) m

pub from : (d : Draft) (p : Place) (rs : List (List ℕ)) (all : List Cell) → d.place ≡ p → Makes d rs all → MakesAt p d rs all
from d p rs all e m = subst (λ q. MakesAt q d rs all) e m

to_ends : (k : Kind) (d : Draft) (rs : List (List ℕ)) (all : List Cell) → MakesAt (source_place k) d rs all → Ends k d.source d.cells rs all
to_ends kind.Raw d rs all m = m
to_ends kind.Markdown d rs all m = m
to_ends kind.Code d rs all m = m

of_ends : (k : Kind) (d : Draft) (rs : List (List ℕ)) (all : List Cell) → Ends k d.source d.cells rs all → MakesAt (source_place k) d rs all
of_ends kind.Raw d rs all m = m
of_ends kind.Markdown d rs all m = m
of_ends kind.Code d rs all m = m

-- ---- before the first cell

pub start_head : (old : Draft) (row : List ℕ) → old.place ≡ place.Start → row ≡ head_row → Takes old row (record old { place = place.Between })
start_head old row here is =
    record {
      with_row = λ rs all m. at old place.Start (row ∷ rs) all here (rs, ap (λ r. r ∷ rs) is, m);
      without = λ rs all m. let w = from old place.Start (row ∷ rs) all here m in subst (λ x. Adds old.cells x all) (tail w.0 rs (w.1)) w.2;
    }
  where
    tail : (rest rs : List (List ℕ)) → row ∷ rs ≡ head_row ∷ rest → rest ≡ rs
    tail rest rs e = cc

pub start_other : (old : Draft) (row : List ℕ) → old.place ≡ place.Start → (row ≡ head_row → ⊥) → CannotTake old row
start_other old row here other rs all m = let w = from old place.Start (row ∷ rs) all here m in other (head w.0 rs w.1)
  where
    head : (rest rs : List (List ℕ)) → row ∷ rs ≡ head_row ∷ rest → row ≡ head_row
    head rest rs e = cc

pub between_empty : (old : Draft) (row : List ℕ) → old.place ≡ place.Between → row ≡ [] → Takes old row (record old { place = place.Gap })
between_empty old row here is =
    record {
      with_row = λ rs all m. at old place.Between (row ∷ rs) all here (subst (λ r. Adds old.cells (r ∷ rs) all) (sym is) m);
      without = λ rs all m. subst (λ r. Adds old.cells (r ∷ rs) all) is (from old place.Between (row ∷ rs) all here m);
    }

pub between_other : (old : Draft) (row : List ℕ) → old.place ≡ place.Between → (row ≡ [] → ⊥) → CannotTake old row
between_other old row here some rs all m =
    let a = from old place.Between (row ∷ rs) all here m in some (first_empty a.parts row rs a.rows)

pub gap_marker : (old : Draft) (row : List ℕ) (k : Kind) → old.place ≡ place.Gap → row ≡ marker k
    → Takes old row (record { cells = old.cells; source = []; place = source_place k })
gap_marker old row k here is =
    let new : Draft = record { cells = old.cells; source = []; place = source_place k } in
    record {
      with_row = λ rs all m. at old place.Gap (row ∷ rs) all here
          (subst (λ r. Adds old.cells ([] ∷ r ∷ rs) all) (sym is) (begin_back k old.cells all rs (to_ends k new rs all m)));
      without = λ rs all m. of_ends k new rs all
          (begin_on k old.cells all rs (subst (λ r. Adds old.cells ([] ∷ r ∷ rs) all) is (from old place.Gap (row ∷ rs) all here m)));
    }

pub gap_other : (old : Draft) (row : List ℕ) → old.place ≡ place.Gap → IsNoMarker row → CannotTake old row
gap_other old row here none rs all m =
    let a = from old place.Gap (row ∷ rs) all here m in
    let o = opened a.parts row rs a.rows in none o.first.kind o.marked

-- ---- in a source that isn't code

fronted : (k : Kind) → is_code k ≡ false → row_front k ≡ codes "# "
fronted kind.Raw prose = refl
fronted kind.Markdown prose = refl
fronted kind.Code prose = absurd (true≢false prose)

no_code : (k : Kind) → is_code k ≡ false → k ≡ kind.Code → ⊥
no_code k prose e = true≢false (sym (ap is_code e) ∙ prose)

pub prose_row : (old : Draft) (row own : List ℕ) (k : Kind) → is_code k ≡ false → old.place ≡ source_place k → row ≡ codes "# " ++ own
    → Takes old row (with_row own old)
prose_row old row own k prose here is =
    let new : Draft = with_row own old in
    let shown : row ≡ row_front k ++ own = is ∙ ap (λ f. f ++ own) (sym (fronted k prose)) in
    record {
      with_row = λ rs all m.
          let e = to_ends k new rs all (from new (source_place k) rs all here m) in
          at old (source_place k) (row ∷ rs) all here (of_ends k old (row ∷ rs) all
          (subst (λ r. Ends k old.source old.cells (r ∷ rs) all) (sym shown) (source_back k old.source old.cells all own rs e (hold_row k own e.own (λ c n. no_code k prose c) e.own_held))));
      without = λ rs all m.
          let e = to_ends k old (row ∷ rs) all (from old (source_place k) (row ∷ rs) all here m) in
          let o = owned k e.own e.parts row rs e.rows (λ n. some (sym is ∙ n)) in
          at new (source_place k) rs all here (of_ends k new rs all
          (subst (λ f. Ends k (old.source ++ row_string f ∷ []) old.cells rs all) (same o.first (sym o.shown ∙ shown)) (source_on k old.source old.cells all row rs e o)));
    }
  where
    some : codes "# " ++ own ≡ [] → ⊥
    some e = cc

    same : (first : List ℕ) → row_front k ++ first ≡ row_front k ++ own → first ≡ own
    same first e = by (sym (ap (λ f. f ++ first) (fronted k prose)) ∙ e ∙ ap (λ f. f ++ own) (fronted k prose))
      where
        by : codes "# " ++ first ≡ codes "# " ++ own → first ≡ own
        by e = cc

pub prose_end : (old : Draft) (row : List ℕ) (k : Kind) → is_code k ≡ false → old.place ≡ source_place k → row ≡ []
    → Takes old row (record (closed k old) { place = place.Gap })
prose_end old row k prose here is =
    record {
      with_row = λ rs all m. at old (source_place k) (row ∷ rs) all here (of_ends k old (row ∷ rs) all
          (subst (λ r. Ends k old.source old.cells (r ∷ rs) all) (sym is) (close_back k old.source old.cells all ([] ∷ rs) m)));
      without = λ rs all m.
          let e = subst (λ r. Ends k old.source old.cells (r ∷ rs) all) is (to_ends k old (row ∷ rs) all (from old (source_place k) (row ∷ rs) all here m)) in
          close_on k old.source old.cells all ([] ∷ rs) e (own_none_prose k e.own e.parts rs prose e.rows);
    }

pub prose_other : (old : Draft) (row : List ℕ) (k : Kind) → is_code k ≡ false → old.place ≡ source_place k → (row ≡ [] → ⊥)
    → ((own : List ℕ) → row ≡ codes "# " ++ own → ⊥) → CannotTake old row
prose_other old row k prose here some none rs all m =
    let e = to_ends k old (row ∷ rs) all (from old (source_place k) (row ∷ rs) all here m) in
    let o = owned k e.own e.parts row rs e.rows some in none o.first (o.shown ∙ ap (λ f. f ++ o.first) (fronted k prose))

-- ---- in a source of code

pub code_empty : (old : Draft) (row : List ℕ) → old.place ≡ place.Code → row ≡ [] → Takes old row (record old { place = place.Blank })
code_empty old row here is =
    record {
      with_row = λ rs all m. at old place.Code (row ∷ rs) all here (subst (λ r. Ends kind.Code old.source old.cells (r ∷ rs) all) (sym is) m);
      without = λ rs all m. subst (λ r. Ends kind.Code old.source old.cells (r ∷ rs) all) is (from old place.Code (row ∷ rs) all here m);
    }

-- a row that isn't empty, after the strings of a source of code
code_on : (d : Draft) (row : List ℕ) (rs : List (List ℕ)) (all : List Cell) → (row ≡ [] → ⊥)
    → Ends kind.Code d.source d.cells (row ∷ rs) all → Ends kind.Code (d.source ++ row_string row ∷ []) d.cells rs all
code_on d row rs all some e =
    let o = owned kind.Code e.own e.parts row rs e.rows some in
    subst (λ f. Ends kind.Code (d.source ++ row_string f ∷ []) d.cells rs all) (sym o.shown) (source_on kind.Code d.source d.cells all row rs e o)

code_back : (d : Draft) (row : List ℕ) (rs : List (List ℕ)) (all : List Cell) → (row ≡ [] → ⊥)
    → Ends kind.Code (d.source ++ row_string row ∷ []) d.cells rs all → Ends kind.Code d.source d.cells (row ∷ rs) all
code_back d row rs all some e = source_back kind.Code d.source d.cells all row rs e (hold_row kind.Code row e.own (λ c n. some n) e.own_held)

-- an empty row with no marker behind it
empty_on : (d : Draft) (row : List ℕ) (rs : List (List ℕ)) (all : List Cell) → IsNoMarker row
    → Ends kind.Code d.source d.cells ([] ∷ row ∷ rs) all → Ends kind.Code (d.source ++ row_string [] ∷ []) d.cells (row ∷ rs) all
empty_on d row rs all none e =
    let o = owned_empty kind.Code e.own e.parts row rs e.rows none in
    subst (λ f. Ends kind.Code (d.source ++ row_string f ∷ []) d.cells (row ∷ rs) all) (sym o.shown) (source_on kind.Code d.source d.cells all [] (row ∷ rs) e o)

empty_back : (d : Draft) (row : List ℕ) (rs : List (List ℕ)) (all : List Cell) → IsNoMarker row
    → Ends kind.Code (d.source ++ row_string [] ∷ []) d.cells (row ∷ rs) all → Ends kind.Code d.source d.cells ([] ∷ row ∷ rs) all
empty_back d row rs all none e =
    source_back kind.Code d.source d.cells all [] (row ∷ rs) e (hold_empty e.own e.parts row rs none e.rows e.own_held)

pub code_row : (old : Draft) (row : List ℕ) → old.place ≡ place.Code → (row ≡ [] → ⊥) → Takes old row (with_row row old)
code_row old row here some =
    record {
      with_row = λ rs all m. at old place.Code (row ∷ rs) all here (code_back old row rs all some (from (with_row row old) place.Code rs all here m));
      without = λ rs all m. at (with_row row old) place.Code rs all here (code_on old row rs all some (from old place.Code (row ∷ rs) all here m));
    }

pub blank_marker : (old : Draft) (row : List ℕ) (k : Kind) → old.place ≡ place.Blank → row ≡ marker k
    → Takes old row (record (closed kind.Code old) { place = source_place k })
blank_marker old row k here is =
    let new : Draft = record (closed kind.Code old) { place = source_place k } in
    record {
      with_row = λ rs all m. at old place.Blank (row ∷ rs) all here
          (subst (λ r. Ends kind.Code old.source old.cells ([] ∷ r ∷ rs) all) (sym is)
          (close_back kind.Code old.source old.cells all ([] ∷ marker k ∷ rs) (begin_back k new.cells all rs (to_ends k new rs all m))));
      without = λ rs all m.
          let e = subst (λ r. Ends kind.Code old.source old.cells ([] ∷ r ∷ rs) all) is (from old place.Blank (row ∷ rs) all here m) in
          of_ends k new rs all (begin_on k new.cells all rs
          (close_on kind.Code old.source old.cells all ([] ∷ marker k ∷ rs) e (own_none_code e.own e.parts k rs e.rows e.own_held)));
    }

no_marker : IsNoMarker []
no_marker k e = marker_some k (sym e)

pub blank_empty : (old : Draft) (row : List ℕ) → old.place ≡ place.Blank → row ≡ [] → Takes old row (with_row [] old)
blank_empty old row here is =
    record {
      with_row = λ rs all m. at old place.Blank (row ∷ rs) all here
          (subst (λ r. Ends kind.Code old.source old.cells ([] ∷ r ∷ rs) all) (sym is) (empty_back old [] rs all no_marker (from (with_row [] old) place.Blank rs all here m)));
      without = λ rs all m. at (with_row [] old) place.Blank rs all here
          (empty_on old [] rs all no_marker (subst (λ r. Ends kind.Code old.source old.cells ([] ∷ r ∷ rs) all) is (from old place.Blank (row ∷ rs) all here m)));
    }

pub blank_row : (old : Draft) (row : List ℕ) → old.place ≡ place.Blank → (row ≡ [] → ⊥) → IsNoMarker row
    → Takes old row (record (with_row row (with_row [] old)) { place = place.Code })
blank_row old row here some none =
    record {
      with_row = λ rs all m. at old place.Blank (row ∷ rs) all here (empty_back old row rs all none (code_back (with_row [] old) row rs all some m));
      without = λ rs all m. code_on (with_row [] old) row rs all some (empty_on old row rs all none (from old place.Blank (row ∷ rs) all here m));
    }

-- ---- empty rows, as they are tested

pub is_some_row : (row : List ℕ) (b : Bool) → b ≡ (length row == 0) → b ≡ false → row ≡ [] → ⊥
is_some_row row b is not_so e = true≢false (sym (is ∙ ap (λ r. length r == 0) e) ∙ not_so)

pub is_empty_row : (row : List ℕ) (b : Bool) → b ≡ (length row == 0) → b ≡ true → row ≡ []
is_empty_row [] b is so = refl
is_empty_row (c ∷ cs) b is so = let n : length (c ∷ cs) ≡ 0 = eqb-true (length (c ∷ cs)) 0 (sym is ∙ so) in absurd (omega arith)

-- ---- by what the steps answer

pub entered : (old new : Draft) (row : List ℕ) (p : Place) (fits taken : Bool) → taken ≡ fits → (fits ≡ true → new ≡ record old { place = p })
    → (fits ≡ true → Takes old row (record old { place = p })) → (fits ≡ false → CannotTake old row)
    → MatchBool taken (Takes old row new) (CannotTake old row)
entered old new row p true taken is new_is takes cannot =
    subst (λ t. MatchBool t (Takes old row new) (CannotTake old row)) (sym is) (subst (Takes old row) (sym (new_is refl)) (takes refl))
entered old new row p false taken is new_is takes cannot =
    subst (λ t. MatchBool t (Takes old row new) (CannotTake old row)) (sym is) (cannot refl)

pub begun : (old new : Draft) (row : List ℕ) (begins : Bool) → old.place ≡ place.Gap → MatchBool begins (Begins old row new) (IsNoMarker row)
    → MatchBool begins (Takes old row new) (CannotTake old row)
begun old new row true here w = subst (Takes old row) (sym w.is) (gap_marker old row w.kind here w.marker)
begun old new row false here none = gap_other old row here none
