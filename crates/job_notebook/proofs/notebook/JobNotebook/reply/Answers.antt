use Rattle.std.proofs.Common.{[], ◌∷◌, ◌++◌, ◌∙◌, subst}
use Rattle.std.specs.Option.{option_copied}
use Rattle.std.proofs.Math.Logic.{∥∥₁_map}
use Rattle.out_fold.specs.Cells.{with_reply}
use Rattle.out_fold.specs.declared.used.Used.{Used}
use Rattle.out_fold.specs.Fit.{AreRead}
use Rattle.job_notebook.specs.State.{Keeps}
use Rattle.job_notebook.proofs.KeptLemmas.{ok_both, err_both, either_both, turned_kept, turned_for_some, still_kept, still_for_some}
use Rattle.job_notebook.proofs.ReadLemmas.{reply_read}
use Rattle.job_notebook.proofs.notebook.JobNotebook.reply.Goals as goal

pub invariant_of-self : goal.invariant_of-self
invariant_of-self c =
    let b = c.args.self.now in
    let f = c.reply.new.self in
    let e = c.reply.ensures in
    let turn : Used → Used = λ u. with_reply u (option_copied c.args.date) in
    record {
      folded = e.cells ∙ b.folded;
      within = b.within;
      unfailed = b.unfailed;
      kept = λ on. ∥∥₁_map (b.kept on) (λ s. either_both c.reply.result
          (λ stands rested. turned_for_some b.fold f e.merge b.notebook b.settled b.progress turn stands rested c.requires s)
          (λ stands touched. still_for_some b.fold f e.merge b.notebook b.settled b.progress e.next touched stands s)
          e.stands e.rested e.still e.untouched);
    }

pub returns-clause-keeps : goal.returns-clause-keeps
returns-clause-keeps c =
    let b = c.args.self.now in
    let e = c.reply.ensures in
    let turn : Used → Used = λ u. with_reply u (option_copied c.args.date) in
    ok_both c.reply.result (λ stands rested. turned_kept b.fold c.reply.new.self e.merge b.notebook b.settled b.progress turn stands rested) e.stands e.rested

pub returns-clause-still : goal.returns-clause-still
returns-clause-still c =
    let b = c.args.self.now in
    let e = c.reply.ensures in
    err_both c.reply.result (λ stands touched. still_kept b.fold c.reply.new.self e.merge b.notebook b.settled b.progress e.next touched stands) e.still e.untouched

pub returns-clause-read : goal.returns-clause-read
returns-clause-read c first h =
    let b = c.args.self.now in
    let f = c.reply.new.self in
    let e = c.reply.ensures in
    let turn : Used → Used = λ u. with_reply u (option_copied c.args.date) in
    let l = h.keeps.last c.requires in
    either_both c.reply.result
    (λ stands rested. record {
      us = l.before ++ turn l.current ∷ [];
      keeps = turned_kept b.fold f e.merge b.notebook b.settled b.progress turn stands rested first l.before l.current (subst (λ us. Keeps b first us) l.split h.keeps);
      read = reply_read l.before l.current (option_copied c.args.date) (subst AreRead l.split h.read);
    })
    (λ stands touched. record {
      us = h.us;
      keeps = still_kept b.fold f e.merge b.notebook b.settled b.progress e.next touched stands first h.us h.keeps;
      read = h.read;
    })
    e.stands e.rested e.still e.untouched
