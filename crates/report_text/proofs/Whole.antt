-- A script as a whole: the rows that were read, and those that are left.
use Rattle.std.proofs.Common.{◌≡◌, ℕ, ◌+◌, List, [], ◌∷◌, ◌++◌, length, take, codes, refl, sym, ◌∙◌, ap, subst, append_assoc, append-nil, arith}
use Rattle.std.proofs.lemmas.List.{length-append}
use Rattle.jtext.specs.declared.json.Json.{Json}
use Rattle.nb_model.specs.declared.kind.Kind.{Kind}
use Rattle.nb_model.specs.declared.kind.Kind.TheVariants as kind
use Rattle.nb_model.specs.declared.cell.Cell.{Cell}
use Rattle.report_text.specs.declared.place.Place.{Place}
use Rattle.report_text.specs.declared.place.Place.TheVariants as place
use Rattle.report_text.specs.declared.draft.Draft.{Draft}
use Rattle.report_text.specs.Rows.{rows}
use Rattle.report_text.specs.Script.{Part, head_row}
use Rattle.report_text.specs.Reading.{IsScriptOf, IsScript, CanGoOn, IsRefusedAt, cell_of, cells_read, row_string}
use Rattle.report_text.specs.Drafts.{Adds, Ends, Makes, Takes, CannotTake, MakesNothing, AreReadOf, source_place, with_row, closed}
use Rattle.report_text.proofs.Steps.{close_back, hold_blank, all_rows, begin_back}
use Rattle.report_text.proofs.Taken.{at, from}

-- ---- what a draft can make

adds_none : (cells : List Cell) → Adds cells [] cells
adds_none cells = record { parts = []; rows = refl; held = tt; all_cells = sym (append-nil cells) }

-- with no row more, a source is put into its cell
ends_none : (k : Kind) (strings : List Json) (cells : List Cell) → Ends k strings cells [] (cells ++ cell_of (length cells) k strings ∷ [])
ends_none k strings cells =
    close_back k strings cells (cells ++ cell_of (length cells) k strings ∷ []) [] (adds_none (cells ++ cell_of (length cells) k strings ∷ []))

ends_blank : (strings : List Json) (cells : List Cell)
    → Ends kind.Code strings cells ([] ∷ []) (cells ++ cell_of (length cells) kind.Code (strings ++ row_string [] ∷ []) ∷ [])
ends_blank strings cells =
    record {
      own = [] ∷ [];
      parts = [];
      rows = refl;
      own_held = hold_blank;
      held = tt;
      all_cells = refl;
    }

pub finish_between : (d : Draft) → d.place ≡ place.Between → Makes d [] d.cells
finish_between d here = at d place.Between [] d.cells here (adds_none d.cells)

pub finish_source : (d : Draft) (k : Kind) → d.place ≡ source_place k → Makes d [] (closed k d).cells
finish_source d kind.Raw here = at d place.Raw [] (closed kind.Raw d).cells here (ends_none kind.Raw d.source d.cells)
finish_source d kind.Markdown here = at d place.Markdown [] (closed kind.Markdown d).cells here (ends_none kind.Markdown d.source d.cells)
finish_source d kind.Code here = at d place.Code [] (closed kind.Code d).cells here (ends_none kind.Code d.source d.cells)

pub finish_blank : (d : Draft) → d.place ≡ place.Blank → Makes d [] (closed kind.Code (with_row [] d)).cells
finish_blank d here = at d place.Blank [] (closed kind.Code (with_row [] d)).cells here (ends_blank d.source d.cells)

pub finish_start : (d : Draft) → d.place ≡ place.Start → MakesNothing d
finish_start d here all m = let w = from d place.Start [] all here m in none w.0 w.1
  where
    none : (rest : List (List ℕ)) → [] ≡ head_row ∷ rest → ⊥
    none rest e = cc

pub finish_gap : (d : Draft) → d.place ≡ place.Gap → MakesNothing d
finish_gap d here all m = let a = from d place.Gap [] all here m in none a.parts a.rows
  where
    none : (ps : List Part) → [] ∷ [] ≡ all_rows ps → ⊥
    none [] e = cc
    none (p ∷ ps) e = cc

-- every draft can be made something of
pub record GoesOn (d : Draft) : Type 0 where
  pub more : List ℕ
  pub all : List Cell
  pub makes : Makes d (rows more) all

goes_at : (p : Place) (d : Draft) → d.place ≡ p → GoesOn d
goes_at place.Start d here =
    record { more = codes "# nbrun script"; all = d.cells; makes = at d place.Start (rows (codes "# nbrun script")) d.cells here ([], refl, adds_none d.cells) }
goes_at place.Between d here = record { more = []; all = d.cells; makes = finish_between d here }
goes_at place.Gap d here =
    record {
      more = codes "# %%";
      all = d.cells ++ cell_of (length d.cells) kind.Code [] ∷ [];
      makes = at d place.Gap (rows (codes "# %%")) (d.cells ++ cell_of (length d.cells) kind.Code [] ∷ []) here
          (begin_back kind.Code d.cells (d.cells ++ cell_of (length d.cells) kind.Code [] ∷ []) [] (ends_none kind.Code [] d.cells));
    }
goes_at place.Raw d here = record { more = []; all = (closed kind.Raw d).cells; makes = finish_source d kind.Raw here }
goes_at place.Markdown d here = record { more = []; all = (closed kind.Markdown d).cells; makes = finish_source d kind.Markdown here }
goes_at place.Code d here = record { more = []; all = (closed kind.Code d).cells; makes = finish_source d kind.Code here }
goes_at place.Blank d here = record { more = []; all = (closed kind.Code (with_row [] d)).cells; makes = finish_blank d here }

pub goes_on : (d : Draft) → GoesOn d
goes_on d = goes_at d.place d refl

-- ---- the rows of a script

-- the rows are those of a whole script, which makes these cells
abbrev pub MakesAll : List (List ℕ) → List Cell → Type 0
MakesAll rs all = (rest : List (List ℕ)) × (rs ≡ head_row ∷ rest) × Adds [] rest all

pub are_read : (rs : List (List ℕ)) (all : List Cell) → MakesAll rs all → AreReadOf rs all
are_read rs all m = (m.2.parts, record { rows = m.1 ∙ ap (λ x. head_row ∷ x) m.2.rows; held = m.2.held }, m.2.all_cells)

are_made : (rs : List (List ℕ)) (ps : List Part) → IsScriptOf rs ps → MakesAll rs (cells_read 0 ps)
are_made rs ps is = (all_rows ps, is.rows, record { parts = ps; rows = refl; held = is.held; all_cells = refl })

-- the rows that were read, and what is made of them and of what follows
pub record Progress (whole left : List (List ℕ)) (number : ℕ) (d : Draft) : Type 0 where
  pub done : List (List ℕ)
  pub split : whole ≡ done ++ left
  pub counted : number ≡ length done
  pub with_done : (rs : List (List ℕ)) (all : List Cell) → Makes d rs all → MakesAll (done ++ rs) all
  pub without : (rs : List (List ℕ)) (all : List Cell) → MakesAll (done ++ rs) all → Makes d rs all

pub progress_none : (whole : List (List ℕ)) (d : Draft) → d.cells ≡ [] → d.place ≡ place.Start → Progress whole whole 0 d
progress_none whole d none here =
    record {
      done = [];
      split = refl;
      counted = refl;
      with_done = λ rs all m. let w = from d place.Start rs all here m in (w.0, w.1, subst (λ cells. Adds cells w.0 all) none w.2);
      without = λ rs all m. at d place.Start rs all here (m.0, m.1, subst (λ cells. Adds cells m.0 all) (sym none) m.2);
    }

pub progress_more : (whole left rest : List (List ℕ)) (number : ℕ) (old new : Draft) (row : List ℕ) → Progress whole left number old → left ≡ row ∷ rest
    → Takes old row new → Progress whole rest (number + 1) new
progress_more whole left rest number old new row p is takes =
    let regroup : (rs : List (List ℕ)) → (p.done ++ row ∷ []) ++ rs ≡ p.done ++ row ∷ rs = λ rs. append_assoc p.done (row ∷ []) rs in
    record {
      done = p.done ++ row ∷ [];
      split = p.split ∙ ap (λ x. p.done ++ x) is ∙ sym (regroup rest);
      counted = ap (λ n. n + 1) p.counted ∙ sym (length-append p.done (row ∷ []));
      with_done = λ rs all m. subst (λ x. MakesAll x all) (sym (regroup rs)) (p.with_done (row ∷ rs) all (takes.with_row rs all m));
      without = λ rs all m. takes.without rs all (p.without (row ∷ rs) all (subst (λ x. MakesAll x all) (regroup rs) m));
    }

-- ---- the place of a refusal

take_done : (done rest : List (List ℕ)) → take (length done) (done ++ rest) ≡ done
take_done [] rest = refl
take_done (r ∷ done) rest = ap (λ x. r ∷ x) (take_done done rest)

take_next : (done rest : List (List ℕ)) (row : List ℕ) → take (length done + 1) (done ++ row ∷ rest) ≡ done ++ row ∷ []
take_next done rest row =
    ap (λ n. take n (done ++ row ∷ rest)) (sym (length-append done (row ∷ [])))
    ∙ ap (λ x. take (length (done ++ row ∷ [])) x) (sym (append_assoc done (row ∷ []) rest)) ∙ take_done (done ++ row ∷ []) rest

can_go_on : (whole left : List (List ℕ)) (number : ℕ) (d : Draft) → Progress whole left number d → CanGoOn (take number whole)
can_go_on whole left number d p =
    let g = goes_on d in
    let read = are_read (p.done ++ rows g.more) g.all (p.with_done (rows g.more) g.all g.makes) in
    subst CanGoOn (sym (ap (λ n. take n whole) p.counted ∙ ap (take (length p.done)) p.split ∙ take_done p.done left))
    (g.more, (read.0, read.1))

no_script : (whole left : List (List ℕ)) (number : ℕ) (d : Draft) → Progress whole left number d → ((all : List Cell) → Makes d left all → ⊥) → IsScript whole → ⊥
no_script whole left number d p cannot is =
    cannot (cells_read 0 is.0) (p.without left (cells_read 0 is.0) (subst (λ x. MakesAll x (cells_read 0 is.0)) p.split (are_made whole is.0 is.1)))

pub refused_at : (whole left rest : List (List ℕ)) (number : ℕ) (d : Draft) (row : List ℕ) → Progress whole left number d → left ≡ row ∷ rest
    → CannotTake d row → IsRefusedAt whole number
refused_at whole left rest number d row p is cannot =
    let split : whole ≡ p.done ++ row ∷ rest = p.split ∙ ap (λ x. p.done ++ x) is in
    let long = ap length split ∙ length-append p.done (row ∷ rest) in
    record {
      no_script = no_script whole left number d p (λ all m. cannot rest all (subst (λ x. Makes d x all) is m));
      within = omega (arith, long, p.counted);
      before = can_go_on whole left number d p;
      here = λ below goes. refused (subst CanGoOn (ap (λ n. take (n + 1) whole) p.counted ∙ ap (take (length p.done + 1)) split ∙ take_next p.done rest row) goes);
    }
  where
    refused : CanGoOn (p.done ++ row ∷ []) → ⊥
    refused goes =
        let all = cells_read 0 goes.1.0 in
        cannot (rows goes.0) all (p.without (row ∷ rows goes.0) all
        (subst (λ x. MakesAll x all) (append_assoc p.done (row ∷ []) (rows goes.0)) (are_made ((p.done ++ row ∷ []) ++ rows goes.0) goes.1.0 goes.1.1)))

pub refused_end : (whole left : List (List ℕ)) (number : ℕ) (d : Draft) → Progress whole left number d → left ≡ [] → MakesNothing d → IsRefusedAt whole number
refused_end whole left number d p is nothing =
    let long = ap length (p.split ∙ ap (λ x. p.done ++ x) is) ∙ length-append p.done [] in
    record {
      no_script = no_script whole left number d p (λ all m. nothing all (subst (λ x. Makes d x all) is m));
      within = omega (arith, long, p.counted);
      before = can_go_on whole left number d p;
      here = λ below goes. absurd (omega (arith, long, p.counted, below));
    }

pub read_end : (whole left : List (List ℕ)) (number : ℕ) (d : Draft) (all : List Cell) → Progress whole left number d → left ≡ [] → Makes d [] all → AreReadOf whole all
read_end whole left number d all p is m =
    are_read whole all (subst (λ x. MakesAll x all) (sym (p.split ∙ ap (λ x. p.done ++ x) is)) (p.with_done [] all m))
