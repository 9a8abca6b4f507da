-- One row more: what the rows that are left make of a draft before it and after it.
use Rattle.std.proofs.Common.{◌≡◌, ℕ, ◌+◌, false, List, [], ◌∷◌, ◌++◌, length, map, refl, sym, ◌∙◌, ap, subst, append_assoc, append-nil}
use Rattle.std.specs.List.{flat_map}
use Rattle.std.proofs.lemmas.List.{length-append}
use Rattle.std.proofs.lemmas.Bool.{true≢false}
use Rattle.nb_model.specs.Kind.{is_code}
use Rattle.jtext.specs.declared.json.Json.{Json}
use Rattle.nb_model.specs.declared.kind.Kind.{Kind}
use Rattle.nb_model.specs.declared.kind.Kind.TheVariants as kind
use Rattle.nb_model.specs.declared.cell.Cell.{Cell}
use Rattle.report_text.specs.Script.{Part, marker, row_front, part_rows}
use Rattle.report_text.specs.Reading.{IsUnbroken, CanHold, CanHoldAll, row_string, cell_of, cells_read}
use Rattle.report_text.specs.Drafts.{Adds, Ends, IsNoMarker}

-- the rows of these parts
abbrev pub all_rows : List Part → List (List ℕ)
all_rows ps = flat_map part_rows ps

-- the rows of a source in a script
abbrev pub own_rows : Kind → List (List ℕ) → List (List ℕ)
own_rows k own = map (λ row. row_front k ++ row) own

-- ---- markers

pub marker_same : (j k : Kind) → marker j ≡ marker k → j ≡ k
marker_same kind.Raw kind.Raw e = refl
marker_same kind.Raw kind.Markdown e = cc
marker_same kind.Raw kind.Code e = cc
marker_same kind.Markdown kind.Raw e = cc
marker_same kind.Markdown kind.Markdown e = refl
marker_same kind.Markdown kind.Code e = cc
marker_same kind.Code kind.Raw e = cc
marker_same kind.Code kind.Markdown e = cc
marker_same kind.Code kind.Code e = refl

pub marker_some : (k : Kind) → marker k ≡ [] → ⊥
marker_some kind.Raw e = cc
marker_some kind.Markdown e = cc
marker_some kind.Code e = cc

-- ---- how the rows of parts begin

-- parts that have rows begin with an empty one
pub first_empty : (ps : List Part) (row : List ℕ) (rs : List (List ℕ)) → row ∷ rs ≡ all_rows ps → row ≡ []
first_empty [] row rs e = cc
first_empty (p ∷ ps) row rs e = cc

-- the first of the parts, by its marker
pub record Opened (ps : List Part) (row : List ℕ) (rs : List (List ℕ)) : Type 0 where
  pub first : Part
  pub rest : List Part
  pub is : ps ≡ first ∷ rest
  pub marked : row ≡ marker first.kind
  pub rows : rs ≡ own_rows first.kind first.rows ++ all_rows rest

pub opened : (ps : List Part) (row : List ℕ) (rs : List (List ℕ)) → [] ∷ row ∷ rs ≡ all_rows ps → Opened ps row rs
opened [] row rs e = cc
opened (p ∷ ps) row rs e = record { first = p; rest = ps; is = refl; marked = cc; rows = cc }

-- the first row of a source
pub record Owned (k : Kind) (own : List (List ℕ)) (ps : List Part) (row : List ℕ) (rs : List (List ℕ)) : Type 0 where
  pub first : List ℕ
  pub rest : List (List ℕ)
  pub is : own ≡ first ∷ rest
  pub shown : row ≡ row_front k ++ first
  pub rows : rs ≡ own_rows k rest ++ all_rows ps

-- a row that isn't empty is of the source
pub owned : (k : Kind) (own : List (List ℕ)) (ps : List Part) (row : List ℕ) (rs : List (List ℕ))
    → row ∷ rs ≡ own_rows k own ++ all_rows ps → (row ≡ [] → ⊥) → Owned k own ps row rs
owned k [] ps row rs e some = absurd (some (first_empty ps row rs e))
owned k (r ∷ own) ps row rs e some = record { first = r; rest = own; is = refl; shown = cc; rows = cc }

-- an empty row with no marker behind it is of the source
pub owned_empty : (k : Kind) (own : List (List ℕ)) (ps : List Part) (row : List ℕ) (rs : List (List ℕ))
    → [] ∷ row ∷ rs ≡ own_rows k own ++ all_rows ps → IsNoMarker row → Owned k own ps [] (row ∷ rs)
owned_empty k [] ps row rs e none = let o = opened ps row rs e in absurd (none o.first.kind o.marked)
owned_empty k (r ∷ own) ps row rs e none = record { first = r; rest = own; is = refl; shown = cc; rows = cc }

-- ---- sources that a script can hold

unbroken_rest : (r : List ℕ) (rs : List (List ℕ)) → IsUnbroken (r ∷ rs) → IsUnbroken rs
unbroken_rest r rs is front back k e = is (r ∷ front) back k (ap (λ x. r ∷ x) e)

pub hold_rest : (k : Kind) (r : List ℕ) (rs : List (List ℕ)) → CanHold k (r ∷ rs) → CanHold k rs
hold_rest kind.Raw r rs is = tt
hold_rest kind.Markdown r rs is = tt
hold_rest kind.Code r rs is = unbroken_rest r rs is

pub hold_none : (k : Kind) → CanHold k []
hold_none kind.Raw = tt
hold_none kind.Markdown = tt
hold_none kind.Code = none
  where
    none : IsUnbroken []
    none [] back k e = cc
    none (x ∷ front) back k e = cc

-- one row more before these, which begins no cell with them
unbroken_more : (r : List ℕ) (rs : List (List ℕ)) → ((back : List (List ℕ)) (k : Kind) → r ≡ [] → rs ≡ marker k ∷ back → ⊥) → IsUnbroken rs → IsUnbroken (r ∷ rs)
unbroken_more r rs begins is [] back k e = begins back k (cc) (cc)
unbroken_more r rs begins is (x ∷ front) back k e = is front back k (cc)

pub hold_row : (k : Kind) (r : List ℕ) (rs : List (List ℕ)) → (k ≡ kind.Code → r ≡ [] → ⊥) → CanHold k rs → CanHold k (r ∷ rs)
hold_row kind.Raw r rs some is = tt
hold_row kind.Markdown r rs some is = tt
hold_row kind.Code r rs some is = unbroken_more r rs (λ back k e f. some refl e) is

-- an empty row alone
pub hold_blank : IsUnbroken ([] ∷ [])
hold_blank = unbroken_more [] [] (λ back k e f. none back k f) (hold_none kind.Code)
  where
    none : (back : List (List ℕ)) (k : Kind) → [] ≡ marker k ∷ back → ⊥
    none back k f = cc

-- an empty row, and no marker behind it
pub hold_empty : (own : List (List ℕ)) (ps : List Part) (row : List ℕ) (rs : List (List ℕ)) → IsNoMarker row
    → row ∷ rs ≡ own_rows kind.Code own ++ all_rows ps → IsUnbroken own → IsUnbroken ([] ∷ own)
hold_empty own ps row rs none e is =
    unbroken_more [] own (λ back k _ f. begins own back k f e) is
  where
    begins : (own back : List (List ℕ)) (k : Kind) → own ≡ marker k ∷ back → row ∷ rs ≡ own_rows kind.Code own ++ all_rows ps → ⊥
    begins [] back k f e = cc
    begins (r ∷ own) back k f e = none k (cc)

-- ---- one row of source more

-- the strings of a source, with its first row among those before or those behind
regrouped : (strings : List Json) (first : List ℕ) (rest : List (List ℕ))
    → (strings ++ row_string first ∷ []) ++ map row_string rest ≡ strings ++ map row_string (first ∷ rest)
regrouped strings first rest = append_assoc strings (row_string first ∷ []) (map row_string rest)

pub source_on : (k : Kind) (strings : List Json) (cells all : List Cell) (row : List ℕ) (rs : List (List ℕ)) (e : Ends k strings cells (row ∷ rs) all)
    (o : Owned k e.own e.parts row rs) → Ends k (strings ++ row_string o.first ∷ []) cells rs all
source_on k strings cells all row rs e o =
    record {
      own = o.rest;
      parts = e.parts;
      rows = o.rows;
      own_held = hold_rest k o.first o.rest (subst (CanHold k) o.is e.own_held);
      held = e.held;
      all_cells = e.all_cells ∙ ap (λ s. cells ++ cell_of (length cells) k s ∷ cells_read (length cells + 1) e.parts)
          (ap (λ w. strings ++ map row_string w) o.is ∙ sym (regrouped strings o.first o.rest));
    }

pub source_back : (k : Kind) (strings : List Json) (cells all : List Cell) (first : List ℕ) (rs : List (List ℕ)) (e : Ends k (strings ++ row_string first ∷ []) cells rs all)
    → CanHold k (first ∷ e.own) → Ends k strings cells ((row_front k ++ first) ∷ rs) all
source_back k strings cells all first rs e can =
    record {
      own = first ∷ e.own;
      parts = e.parts;
      rows = ap (λ x. (row_front k ++ first) ∷ x) e.rows;
      own_held = can;
      held = e.held;
      all_cells = e.all_cells ∙ ap (λ s. cells ++ cell_of (length cells) k s ∷ cells_read (length cells + 1) e.parts) (regrouped strings first e.own);
    }

-- ---- cells closed and begun

closed_cells : (k : Kind) (strings : List Json) (cells : List Cell) (ps : List Part)
    → (cells ++ cell_of (length cells) k strings ∷ []) ++ cells_read (length (cells ++ cell_of (length cells) k strings ∷ [])) ps
    ≡ cells ++ cell_of (length cells) k (strings ++ []) ∷ cells_read (length cells + 1) ps
closed_cells k strings cells ps =
    let c = cell_of (length cells) k strings in
    append_assoc cells (c ∷ []) (cells_read (length (cells ++ c ∷ [])) ps)
    ∙ ap (λ n. cells ++ c ∷ cells_read n ps) (length-append cells (c ∷ []))
    ∙ ap (λ s. cells ++ cell_of (length cells) k s ∷ cells_read (length cells + 1) ps) (sym (append-nil strings))

pub close_back : (k : Kind) (strings : List Json) (cells all : List Cell) (rs : List (List ℕ))
    → Adds (cells ++ cell_of (length cells) k strings ∷ []) rs all → Ends k strings cells rs all
close_back k strings cells all rs a =
    record { own = []; parts = a.parts; rows = a.rows; own_held = hold_none k; held = a.held; all_cells = a.all_cells ∙ closed_cells k strings cells a.parts }

pub close_on : (k : Kind) (strings : List Json) (cells all : List Cell) (rs : List (List ℕ)) (e : Ends k strings cells rs all) → e.own ≡ []
    → Adds (cells ++ cell_of (length cells) k strings ∷ []) rs all
close_on k strings cells all rs e none =
    record {
      parts = e.parts;
      rows = e.rows ∙ ap (λ own. own_rows k own ++ all_rows e.parts) none;
      held = e.held;
      all_cells = e.all_cells ∙ ap (λ own. cells ++ cell_of (length cells) k (strings ++ map row_string own) ∷ cells_read (length cells + 1) e.parts) none
          ∙ sym (closed_cells k strings cells e.parts);
    }

pub begin_on : (k : Kind) (cells all : List Cell) (rs : List (List ℕ)) → Adds cells ([] ∷ marker k ∷ rs) all → Ends k [] cells rs all
begin_on k cells all rs a =
    let o = opened a.parts (marker k) rs a.rows in
    let held = subst CanHoldAll o.is a.held in
    subst (λ j. Ends j [] cells rs all) (marker_same o.first.kind k (sym o.marked))
    (record {
      own = o.first.rows;
      parts = o.rest;
      rows = o.rows;
      own_held = held.0;
      held = held.1;
      all_cells = a.all_cells ∙ ap (λ ps. cells ++ cells_read (length cells) ps) o.is;
    })

pub begin_back : (k : Kind) (cells all : List Cell) (rs : List (List ℕ)) → Ends k [] cells rs all → Adds cells ([] ∷ marker k ∷ rs) all
begin_back k cells all rs e =
    record {
      parts = record { kind = k; rows = e.own } ∷ e.parts;
      rows = ap (λ x. [] ∷ marker k ∷ x) e.rows;
      held = (e.own_held, e.held);
      all_cells = e.all_cells;
    }

-- before an empty row and a marker, a source of code is at its end
pub own_none_code : (own : List (List ℕ)) (ps : List Part) (k : Kind) (rs : List (List ℕ))
    → [] ∷ marker k ∷ rs ≡ own_rows kind.Code own ++ all_rows ps → IsUnbroken own → own ≡ []
own_none_code [] ps k rs e is = refl
own_none_code (r ∷ []) ps k rs e is = absurd (marker_some k (first_empty ps (marker k) rs (cc)))
own_none_code (r ∷ q ∷ own) ps k rs e is = absurd (is [] own k (cc))

front_some : (k : Kind) (r : List ℕ) → is_code k ≡ false → row_front k ++ r ≡ [] → ⊥
front_some kind.Raw r prose e = cc
front_some kind.Markdown r prose e = cc
front_some kind.Code r prose e = true≢false prose

-- before an empty row, a source that isn't code is at its end
pub own_none_prose : (k : Kind) (own : List (List ℕ)) (ps : List Part) (rs : List (List ℕ)) → is_code k ≡ false
    → [] ∷ rs ≡ own_rows k own ++ all_rows ps → own ≡ []
own_none_prose k [] ps rs prose e = refl
own_none_prose k (r ∷ own) ps rs prose e = absurd (front_some k r prose (cc))
