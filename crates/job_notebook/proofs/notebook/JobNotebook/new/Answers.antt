use Rattle.std.proofs.Common.{[]}
use Rattle.std.proofs.lemmas.List.Elements.{All-nil}
use Rattle.jcontent.specs.IsRead.{IsRead}
use Rattle.job_notebook.proofs.KeptLemmas.{kept_first}
use Rattle.job_notebook.proofs.notebook.JobNotebook.new.Goals as goal

pub invariant_of-result-clause-kept : goal.invariant_of-result-clause-kept
invariant_of-result-clause-kept c on =
    let e = c.in_ok-fold.ensures in
    ∣ record {
      first = c.args.notebook;
      us = [];
      kept = kept_first c.in_ok-fold.fold c.args.notebook c.in_ok-progress.progress c.cells_of_prefixes.ensures.none e.stands e.rested e.next c.in_ok-progress.ensures.kept;
    } ∣₁

pub returns-clause-keeps : goal.returns-clause-keeps
returns-clause-keeps c =
    let e = c.in_ok-fold.ensures in
    kept_first c.in_ok-fold.fold c.args.notebook c.in_ok-progress.progress c.cells_of_prefixes.ensures.none e.stands e.rested e.next c.in_ok-progress.ensures.kept

pub returns-clause-read : goal.returns-clause-read
returns-clause-read c =
    let e = c.in_ok-fold.ensures in
    record {
      us = [];
      keeps = kept_first c.in_ok-fold.fold c.args.notebook c.in_ok-progress.progress c.cells_of_prefixes.ensures.none e.stands e.rested e.next c.in_ok-progress.ensures.kept;
      read = All-nil IsRead;
    }
