use Rattle.std.proofs.Common.{[], ◌∷◌, ◌++◌, ◌∙◌}
use Rattle.std.proofs.Math.Logic.{∥∥₁_map}
use Rattle.out_fold.specs.Cells.{begin}
use Rattle.job_notebook.proofs.KeptLemmas.{begun_kept, begun_for_some}
use Rattle.job_notebook.proofs.ReadLemmas.{begun_read}
use Rattle.job_notebook.proofs.notebook.JobNotebook.start.Goals as goal

pub invariant_of-self : goal.invariant_of-self
invariant_of-self c =
    let b = c.args.self.now in
    let e = c.start.ensures in
    record {
      folded = e.cells ∙ b.folded;
      within = b.within;
      unfailed = b.unfailed;
      kept = λ on. ∥∥₁_map (b.kept on) (begun_for_some b.fold c.start.new.self e.merge b.notebook b.settled b.progress c.args.cell e.stands e.rested);
    }

pub returns-clause-keeps : goal.returns-clause-keeps
returns-clause-keeps c =
    let b = c.args.self.now in
    let e = c.start.ensures in
    begun_kept b.fold c.start.new.self e.merge b.notebook b.settled b.progress c.args.cell e.stands e.rested

pub returns-clause-read : goal.returns-clause-read
returns-clause-read c first h =
    let b = c.args.self.now in
    let e = c.start.ensures in
    record {
      us = h.us ++ begin c.args.cell ∷ [];
      keeps = begun_kept b.fold c.start.new.self e.merge b.notebook b.settled b.progress c.args.cell e.stands e.rested first h.us h.keeps;
      read = begun_read h.us c.args.cell h.read;
    }
