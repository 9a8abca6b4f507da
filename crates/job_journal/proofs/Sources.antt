-- The notebook that a job keeps has its cells as they were read; and what is saved of it.
use Rattle.std.proofs.Common.{◌≡◌, ℕ, zero, suc, ◌≤◌, List, [], ◌∷◌, map, Bool, true, false, ◌||◌, not, cond, codes, Option, Some, None, refl, sym, ◌∙◌, ap}
use Rattle.std.specs.Prelude.{option_map, slice_get}
use Rattle.std.specs.List.{list_any}
use Rattle.std.proofs.lemmas.Option.{same_Some}
use Rattle.world.specs.declared.entry.Entry.{Entry}
use Rattle.jtext.specs.Look.{items, there_and}
use Rattle.nb_model.specs.declared.cell.Cell.{Cell}
use Rattle.nb_model.specs.declared.notebook.Notebook.{Notebook}
use Rattle.nb_model.specs.Keys.{is_text}
use Rattle.nb_model.specs.Kind.{is_code}
use Rattle.nb_model.specs.Planned.{code}
use Rattle.nb_model.specs.Prepared.{pending_mark, prepared_cell}
use Rattle.nb_model.specs.Tags.{is_tagged}
use Rattle.nb_model.proofs.PreparedLaws.{field-set_other}
use Rattle.nb_text.specs.Notebooks.{text_of}
use Rattle.progress_save.specs.Prefix.{prefix, saved_cell}
use Rattle.cell_core.specs.Acts.{failing_at, failing_of}
use Rattle.cell_core.specs.Task.{cell_of}
use Rattle.out_fold.specs.declared.used.Used.{Used}
use Rattle.out_fold.specs.Stands as fold
use Rattle.job_notebook.specs.declared.notebook.JobNotebook.{JobNotebook}
use Rattle.job_notebook.specs.State.{Keeps, merge_of, notebook_of, settled_of}
use Rattle.run_journal.specs.Asked.{code_in, may_raise}
use Rattle.run_journal.specs.Requests.{Request, requests, used_of}
use Rattle.run_journal.proofs.Keeping.{unstopped_heard}
use Rattle.job_journal.specs.Plot.{Plot, facts, first}
use Rattle.job_journal.specs.Saved.{IsAsked, save_of}
use Rattle.job_journal.specs.Standing.{Parts, StandsBy}
use Rattle.job_journal.specs.Starting.{IsAsRead}
use Rattle.job_journal.specs.Used.{OnBook}
use Rattle.job_journal.proofs.Plots.{text_is}

-- ---- the cells

got_mapped : (f : Cell → Cell) (cs : List Cell) (i : ℕ) → slice_get (map f cs) i ≡ option_map f (slice_get cs i)
got_mapped f [] i = refl
got_mapped f (c ∷ cs) zero = refl
got_mapped f (c ∷ cs) (suc i) = got_mapped f cs i

-- what is prepared keeps its source and its tags
code_kept : (c : Cell) → code (prepared_cell c) ≡ code c
code_kept c = by (is_code c.kind)
  where
    by : (b : Bool) → code (record (cond b (record c { outputs = []; count = None }) c) { metadata = (prepared_cell c).metadata }) ≡ code c
    by true = refl
    by false = refl

tags_kept : (tag : List ℕ) (c : Cell) → is_tagged tag (prepared_cell c) ≡ is_tagged tag c
tags_kept tag c =
    ap (λ o. there_and (λ v. list_any (is_text tag) (items v)) o) (field-set_other (codes "tags") (codes "papermill") pending_mark c.metadata refl)

module _ (each : (merge : Bool) (us : List Used) (p : ℕ) (stop : Option ℕ) (n : Notebook) (i : ℕ)
    → slice_get (prefix merge us p stop n).cells i ≡ option_map (saved_cell merge us p stop i) (slice_get n.cells i))
    (waiting : (merge : Bool) (us : List Used) (p : ℕ) (stop : Option ℕ) (i : ℕ) (c : Cell) → p ≤ i → saved_cell merge us p stop i c ≡ c) where
  -- a cell that waits has the source and the tags that were read
  pub cell_as_read : (p : Plot) (book : JobNotebook) (rs : List Request) (k : ℕ) (c : Cell) → OnBook (facts p) (first p) book rs
      → slice_get (notebook_of book).cells (cell_of (facts p).task k) ≡ Some c → settled_of book ≤ cell_of (facts p).task k → IsAsRead p k c
  cell_as_read p book rs k c b at low = by (slice_get p.given.cells i) refl
    where
      i : ℕ
      i = cell_of (facts p).task k

      found : option_map (saved_cell (fold.merge_of book.fold) b.keeps.was book.settled None i) (option_map prepared_cell (slice_get p.given.cells i)) ≡ Some c
      found =
          sym (ap (option_map (saved_cell (fold.merge_of book.fold) b.keeps.was book.settled None i)) (got_mapped prepared_cell p.given.cells i))
          ∙ sym (each (fold.merge_of book.fold) b.keeps.was book.settled None (first p) i)
          ∙ ap (λ (n : Notebook). slice_get n.cells i) (sym b.keeps.is)
          ∙ at

      by : (o : Option Cell) → slice_get p.given.cells i ≡ o → IsAsRead p k c
      by None e =
          let g = ap (λ v. option_map (saved_cell (fold.merge_of book.fold) b.keeps.was book.settled None i) (option_map prepared_cell v)) (sym e) ∙ found in cc
      by (Some read) e =
          let g = ap (λ v. option_map (saved_cell (fold.merge_of book.fold) b.keeps.was book.settled None i) (option_map prepared_cell v)) (sym e) ∙ found in
          let same : prepared_cell read ≡ c = sym (waiting (fold.merge_of book.fold) b.keeps.was book.settled None i (prepared_cell read) low) ∙ same_Some _ _ g in
          let tagged : is_tagged (codes "raises-exception") c ≡ may_raise (slice_get p.given.cells i)
          = ap (is_tagged (codes "raises-exception")) (sym same) ∙ tags_kept (codes "raises-exception") read ∙ ap may_raise (sym e) in
          record {
            code_is = ap code (sym same) ∙ code_kept read ∙ ap code_in (sym e);
            tagged_is = tagged;
            stops_is = ap (λ t. not (p.ask.all_errors || t)) tagged;
          }

-- ---- what is saved

module _ (p : Plot) (number : ℕ) (x : Parts) (past : List Entry) (h : StandsBy p number x [] [] past) (settled : ℕ) (asked : IsAsked (facts p).task h.core.told settled) where
  named : failing_of (facts p).task h.core.told ≡ asked.asked.stopping_cell
  named = ap (failing_at (facts p).task) (unstopped_heard (facts p) h.core.told h.core.hears.goes_on) ∙ asked.stop_is

  -- the text of what is saved, with the stopping cell that the core names, is that of the save
  pub asked_text : (saved : Notebook) → ((given : Notebook) (us : List Used) → Keeps x.book given us
      → saved ≡ prefix (merge_of x.book) us settled (failing_of (facts p).task h.core.told) given)
      → text_of saved ≡ (save_of (facts p) (used_of (facts p).task.plan (requests (facts p) past)) asked.asked).text
  asked_text saved is =
      text_is p number x.session x.core x.book saved (requests (facts p) past) asked.asked h.is_for h.book
      (λ given us keeps.
      is given us keeps
      ∙ ap (λ n. prefix (merge_of x.book) us n (failing_of (facts p).task h.core.told) given) (sym asked.settled_is)
      ∙ ap (λ o. prefix (merge_of x.book) us asked.asked.settled o given) named)

  -- where it names no stopping cell the notebook keeps what it kept
  pub asked_book : (book : JobNotebook) → asked.asked.stopping_cell ≡ None
      → (failing_of (facts p).task h.core.told ≡ None → (given : Notebook) (us : List Used) → Keeps x.book given us → Keeps book given us)
      → OnBook (facts p) (first p) book (requests (facts p) past)
  asked_book book none keeps = record { keeps = keeps (named ∙ none) (first p) (used_of (facts p).task.plan (requests (facts p) past)) h.book.keeps }
