use Rattle.std.proofs.Common.{rules, sym, ◌∙◌, subst}
use Rattle.std.proofs.Math.Logic.{∥∥₁_map, ∥∥₁_elim}
use Rattle.world.specs.Moments.{Told, start}
use Rattle.world.proofs.MomentsLemmas.{told_start}
use Rattle.progress_save.specs.Safe.{IsSafe, IsNext, StaysSafe}
use Rattle.nb_text.specs.Notebooks.{text_of}
use Rattle.job_notebook.proofs.KeptLemmas.{Fits-prop, stays_open, unfailed_after, fits_after, kept_by, on_ok_then, on_call_then}
use Rattle.job_notebook.proofs.notebook.JobNotebook.save.Goals as goal

-- ---- it is closed

pub returns-then-self-clause-safe : goal.returns-then-self-clause-safe
returns-then-self-clause-safe g c texts = told_start (λ before safe next. record { moments = start; end = safe; done = tt })

pub returns-then-self-clause-others : goal.returns-then-self-clause-others
returns-then-self-clause-others g c q out tmp = told_start (λ before. start)

pub returns-then-self-clause-part : goal.returns-then-self-clause-part
returns-then-self-clause-part g c = told_start (λ before. start)

-- ---- memory is refused

pub returns-in_err-settle-clause-safe : goal.returns-in_err-settle-clause-safe
returns-in_err-settle-clause-safe g c texts = told_start (λ before safe next. record { moments = start; end = safe; done = search rules })

pub returns-in_err-settle-clause-others : goal.returns-in_err-settle-clause-others
returns-in_err-settle-clause-others g c q out tmp = told_start (λ before. start)

pub returns-in_err-settle-clause-part : goal.returns-in_err-settle-clause-part
returns-in_err-settle-clause-part g c = told_start (λ before. start)

-- ---- it is saved

pub save_prefix-saved-requires : goal.save_prefix-saved-requires
save_prefix-saved-requires g c =
    let b = c.settle.new.self in
    ∥∥₁_elim (c.args.self.now.kept c.if-self.false) (Fits-prop b.progress b.notebook.cells) (λ s. (c.in_ok-settle.ensures.ready s.first s.us s.kept).fits)

pub invariant_of-self-clause-unfailed : goal.invariant_of-self-clause-unfailed
invariant_of-self-clause-unfailed g c on =
    let r = c.save_prefix-saved.result in
    unfailed_after r _ _ (stays_open r c.args.stop (sym c.closes-self.ensures ∙ on)).0 c.save_prefix-saved.ensures.failed c.settle.ensures.unfailed

pub invariant_of-self-clause-kept : goal.invariant_of-self-clause-kept
invariant_of-self-clause-kept g c on =
    let b = c.settle.new.self in
    let r = c.save_prefix-saved.result in
    let q = c.save_prefix-saved.new.self in
    let still = stays_open r c.args.stop (sym c.closes-self.ensures ∙ on) in
    let fits = fits_after r b.progress q b.notebook.cells (c.kept_texts_fit.ensures.saved q b.notebook.cells) c.save_prefix-saved.ensures.kept still.0 in
    ∥∥₁_map (c.args.self.now.kept c.if-self.false) (λ s. record {
      first = s.first;
      us = s.us;
      kept = kept_by b.fold b.notebook b.settled b.progress q fits s.first s.us ((c.in_ok-settle.ensures.ready s.first s.us s.kept).keeps still.1);
    })

pub returns-clause-prefix : goal.returns-clause-prefix
returns-clause-prefix g c = on_call_then c.save_prefix-saved.result (λ first us k. (c.in_ok-settle.ensures.ready first us k).is)

pub returns-clause-keeps : goal.returns-clause-keeps
returns-clause-keeps g c =
    let b = c.settle.new.self in
    let r = c.save_prefix-saved.result in
    let q = c.save_prefix-saved.new.self in
    on_ok_then r (λ ok on first us k.
    kept_by b.fold b.notebook b.settled b.progress q (fits_after r b.progress q b.notebook.cells (c.kept_texts_fit.ensures.saved q b.notebook.cells) c.save_prefix-saved.ensures.kept ok)
    first us ((c.in_ok-settle.ensures.ready first us k).keeps on))

pub returns-clause-read : goal.returns-clause-read
returns-clause-read g c =
    let b = c.settle.new.self in
    let r = c.save_prefix-saved.result in
    let q = c.save_prefix-saved.new.self in
    on_ok_then r (λ ok on first h. record {
      us = h.us;
      keeps = kept_by b.fold b.notebook b.settled b.progress q (fits_after r b.progress q b.notebook.cells (c.kept_texts_fit.ensures.saved q b.notebook.cells) c.save_prefix-saved.ensures.kept ok)
          first h.us ((c.in_ok-settle.ensures.ready first h.us h.keeps).keeps on);
      read = h.read;
    })

pub returns-clause-safe : goal.returns-clause-safe
returns-clause-safe g c texts =
    subst (λ output. Told (g.W.Journal.journal c.args.w.now) (g.W.Journal.journal c.save_prefix-saved.new.w) (λ before after.
    IsSafe output texts before → IsNext output texts (text_of c.settle.new.self.notebook) before → StaysSafe output texts c.save_prefix-saved.result before after))
    c.settle.ensures.output (c.save_prefix-saved.ensures.safe texts)
