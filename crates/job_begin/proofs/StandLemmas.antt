-- What a job stands for when it has begun, by the steps of its begin.
use Rattle.std.proofs.Common.{◌≡◌, ◌+◌, ◌&&◌, ◌||◌, ◌++◌, arith, ℕ, Bool, true, false, not, cond, List, [], ◌∷◌, length, map, codes, Result, Ok, Err, refl, sym, ◌∙◌, ap, subst}
use Rattle.std.specs.Prelude.{None, if◌then◌else◌}
use Rattle.std.specs.List.{list_any}
use Rattle.std.specs.Str.{bytes_eq}
use Rattle.std.proofs.lemmas.Bool.{cond-false, false_from_ne_true}
use Rattle.std.proofs.lemmas.List.{length-map}
use Rattle.jtext.specs.Look.{items, there_and}
use Rattle.jtext.proofs.Equals.{same_bytes}
use Rattle.world.specs.declared.did.Did.TheVariants as did
use Rattle.world.specs.declared.entry.Entry.{Entry}
use Rattle.world.specs.declared.entry.Entry.TheVariants as made
use Rattle.world.specs.Acked.{renames}
use Rattle.world.specs.Disk as disk
use Rattle.world.specs.Moments.{Since, start, more}
use Rattle.world.specs.Parts.{IsOf, OnDisk, part_of}
use Rattle.world.specs.Touched.{Spares, touches}
use Rattle.world.proofs.SaveLemmas.{renames_is}
use Rattle.words.specs.declared.ask.Ask.{Ask}
use Rattle.words.specs.Paths.{temporary_of}
use Rattle.nb_model.specs.declared.cell.Cell.{Cell}
use Rattle.nb_model.specs.declared.notebook.Notebook.{Notebook}
use Rattle.nb_model.specs.Keys.{is_text}
use Rattle.nb_model.specs.Kind.{is_code}
use Rattle.nb_model.specs.Planned.{code, is_blank, is_planned, plan, planned_from}
use Rattle.nb_model.specs.Prepared.{pending_mark, prepared_cell, prepared_notebook}
use Rattle.nb_model.specs.Tags.{is_tagged}
use Rattle.nb_model.proofs.PreparedLaws.{field-set_other}
use Rattle.cell_core.specs.Task.{Task}
use Rattle.job_end.specs.declared.answer.Answer.{Answer}
use Rattle.job_end.specs.declared.end.End.{End}
use Rattle.job_end.specs.Answers.{Answers}
use Rattle.job_saves.specs.Reads.{first_of}
use Rattle.run_journal.specs.Agreement.{is_got}
use Rattle.run_journal.specs.Job.{Job as Facts}
use Rattle.run_journal.specs.Saves.{renamed_texts}
use Rattle.job_journal.specs.Plot.{Plot, facts}
use Rattle.job_journal.specs.Quiet.{is_unread}
use Rattle.job_run.specs.declared.job.Job.{Job}
use Rattle.job_run.specs.Beginning.{IsFresh, SpeaksAs, StartsOrEnds}
use Rattle.job_run.specs.JobStanding.{JobStands}
use Rattle.job_run.specs.Task.{task_for, times_of}
use Rattle.job_begin.specs.Begun.{AnswersAs}
use Rattle.job_begin.specs.Standing.{BeginsAsPlot, IsPlotWith, IsToBeginWith}

-- ---- the plan of a prepared notebook

kind_kept : (c : Cell) → (prepared_cell c).kind ≡ c.kind
kind_kept c = by (is_code c.kind)
  where
    by : (b : Bool) → (cond b (record c { outputs = []; count = None }) c).kind ≡ c.kind
    by true = refl
    by false = refl

code_kept : (c : Cell) → code (prepared_cell c) ≡ code c
code_kept c = by (is_code c.kind)
  where
    by : (b : Bool) → code (record (cond b (record c { outputs = []; count = None }) c) { metadata = (prepared_cell c).metadata }) ≡ code c
    by true = refl
    by false = refl

tags_kept : (tag : List ℕ) (c : Cell) → is_tagged tag (prepared_cell c) ≡ is_tagged tag c
tags_kept tag c =
    ap (λ o. there_and (λ v. list_any (is_text tag) (items v)) o) (field-set_other (codes "tags") (codes "papermill") pending_mark c.metadata refl)

planned_kept : (c : Cell) → is_planned (prepared_cell c) ≡ is_planned c
planned_kept c =
    let q = prepared_cell c in
    let skip = codes "skip-execution" in
    ap (λ k. is_code k && not (is_blank (code q)) && not (is_tagged skip q)) (kind_kept c)
    ∙ ap (λ t. is_code c.kind && not (is_blank t) && not (is_tagged skip q)) (code_kept c)
    ∙ ap (λ b. is_code c.kind && not (is_blank (code c)) && not b) (tags_kept skip c)

plan_kept : (i : ℕ) (cs : List Cell) → planned_from i (map prepared_cell cs) ≡ planned_from i cs
plan_kept i [] = refl
plan_kept i (c ∷ cs) =
    let later = planned_from (i + 1) (map prepared_cell cs) in
    ap (λ b. cond b (i ∷ later) later) (planned_kept c) ∙ ap (λ xs. cond (is_planned c) (i ∷ xs) xs) (plan_kept (i + 1) cs)

abbrev tasked : Ask → List ℕ → ℕ → Task
tasked a cells count = record { plan = cells; cells = count; times = times_of a }

-- what is executed of a prepared notebook is what is executed of it as it was read
task_kept : (a : Ask) (n : Notebook) → task_for a n ≡ task_for a (prepared_notebook n)
task_kept a n =
    ap (λ xs. tasked a xs (length n.cells)) (sym (plan_kept 0 n.cells))
    ∙ ap (tasked a (plan (prepared_notebook n))) (sym (length-map n.cells prepared_cell))

-- ---- reads

disk_ungot : (j : Facts) (entry : Entry) → part_of entry ≡ OnDisk → is_got j entry ≡ false
disk_ungot j (made.Got conn room bytes) e = absurd (cc)
disk_ungot j _ e = refl

unread_kept : (j : Facts) (before now : List Entry) → Since (IsOf OnDisk) before now → is_unread j before ≡ true → is_unread j now ≡ true
unread_kept j before now start e = e
unread_kept j before now (more {past} {entry} w h) e =
    ap (λ b. not b && is_unread j past) (disk_ungot j entry h) ∙ unread_kept j before past w e

-- what doesn't touch a path isn't renamed onto it
spared_unrenamed : (from to : List ℕ) (entry : Entry) → touches to entry ≡ false → renames from to entry ≡ false
spared_unrenamed from to entry spared =
    false_from_ne_true (renames from to entry) (λ e.
    let named : touches to (made.Renamed from to did.Done) ≡ false = subst (λ x. touches to x ≡ false) (renames_is from to entry e) spared in
    let differs : (true || bytes_eq from to) ≡ false = subst (λ b. (b || bytes_eq from to) ≡ false) (same_bytes to) named in
    absurd (cc))

texts_kept : (j : Facts) (before now : List Entry) → Since (Spares j.output) before now → renamed_texts j now ≡ renamed_texts j before
texts_kept j before now start = refl
texts_kept j before now (more {past} {entry} w h) =
    cond-false (renames (temporary_of j.output) j.output entry) (renamed_texts j past ++ (disk.place past (temporary_of j.output)).fresh ∷ []) (renamed_texts j past)
    (spared_unrenamed (temporary_of j.output) j.output entry h)
    ∙ texts_kept j before past w

-- a job to which nothing has happened, after calls of the disk that don't touch its output
pub fresh_kept : (p : Plot) (before now : List Entry) → Since (IsOf OnDisk) before now → Since (Spares p.ask.output) before now → IsFresh p before → IsFresh p now
fresh_kept p before now part others f = record {
  undated = f.undated;
  runs = f.runs;
  unread = unread_kept (facts p) before now part f.unread;
  unrenamed = texts_kept (facts p) before now others ∙ f.unrenamed;
}

-- ---- the plot of a job that begins

-- once its input was read
pub plot_read : (p : Plot) (number : ℕ) (a : Ask) (n : Notebook) (before read : List Entry) → IsPlotWith p number a n → IsFresh p before
    → Since (IsOf OnDisk) before read → Since (Spares p.ask.output) before read → IsToBeginWith p number a (first_of a n) read
plot_read p number a n before read of fresh part others =
    let waits : prepared_notebook n ≡ first_of a n = sym (ap (λ q. if q then n else prepared_notebook n) of.executes) in
    record {
      plot = record {
        number_is = of.number_is;
        ask_is = of.ask_is;
        first_is = ap prepared_notebook of.given_is ∙ waits;
        task_is = ap (λ x. task_for x p.given) of.ask_is ∙ ap (task_for a) of.given_is ∙ task_kept a n ∙ ap (task_for a) waits;
      };
      executes = of.executes;
      fresh = fresh_kept p before read part others fresh;
    }

-- it has a cell to execute
pub has_cells : (p : Plot) (number : ℕ) (a : Ask) (n : Notebook) (now : List Entry) → IsToBeginWith p number a n now → length (plan n) ≡ 0 → ⊥
has_cells p number a n now t none = omega (arith, t.fresh.runs, ap (λ (s : Task). length s.plan) t.plot.task_is, none)

-- ---- how it begins

-- by its answer
pub answer_begins : (output : List ℕ) (p : Plot) (begun : Result Job End) (result : Result Job Answer) (now : List Entry) → p.ask.output ≡ output → AnswersAs output begun result
    → StartsOrEnds p begun now → BeginsAsPlot p result now
answer_begins output p (Ok j) (Ok k) now on same h = subst (λ x. SpeaksAs p x → JobStands p x now) (sym same) h
answer_begins output p (Err e) (Err answer) now on answers h = h answer (subst (λ path. Answers path e answer) (sym on) answers)
answer_begins output p (Ok j) (Err answer) now on wrong h = absurd wrong
answer_begins output p (Err e) (Ok k) now on wrong h = absurd wrong
