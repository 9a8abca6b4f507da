use Rattle.std.proofs.Common.{◌∙◌, ap}
use Rattle.out_fold.specs.Plans.{is_in}
use Rattle.job_notebook.proofs.SettleLemmas.{PrefixLaws, Settles, settled_is, settled_fits, settled_kept}
use Rattle.job_notebook.proofs.notebook.JobNotebook.settle.Goals as goal

pub returns-clause-ready : goal.returns-clause-ready
returns-clause-ready c first us k =
    let b = c.args.self.now in
    let f = c.forget_changed.ensures in
    let laws : PrefixLaws = record {
      each = c.cells_of_prefixes.ensures.each;
      waiting = c.cells_of_prefixes.ensures.waiting;
      untouched = c.untouched_cells_stay.ensures;
      again = c.prefixes_settle_again.ensures;
      fewer = c.kept_texts_fit.ensures.fewer;
      others = c.kept_texts_fit.ensures.others;
    } in
    let settles : Settles b.fold b.notebook c.settle.new.n b.settled c.args.p c.args.stop b.progress c.forget_changed.new.progress = record {
      above = c.requires.above;
      made = c.in_ok-settle.ensures.settled;
      forgets = f.others;
      changed = λ i h. f.changed i (ap (λ cells. is_in cells i) (c.as_slice-touched.ensures ∙ c.touched.ensures.cells) ∙ h);
      newly = f.settled;
      stopped = f.stopped;
    } in
    let e = c.rest.ensures in
    record {
      is = settled_is laws b.fold b.notebook c.settle.new.n b.settled c.args.p c.args.stop b.progress c.forget_changed.new.progress settles first us k;
      fits = settled_fits laws b.fold b.notebook c.settle.new.n b.settled c.args.p c.args.stop b.progress c.forget_changed.new.progress settles first us k;
      keeps = λ on. settled_kept laws b.fold b.notebook c.settle.new.n b.settled c.args.p c.args.stop b.progress c.forget_changed.new.progress settles
          c.rest.new.self e.merge e.next e.stands e.rested on first us k;
    }
