-- What holds of each job that is asked for.
use Rattle.std.proofs.Common.{◌≡◌, List, [], Option, Some, None, sym, ap, subst}
use Rattle.std.proofs.lemmas.Bool.{cond_both}
use Rattle.world.specs.declared.entry.Entry.{Entry}
use Rattle.world.specs.declared.read_file.ReadFile.{ReadFile}
use Rattle.words.specs.declared.ask.Ask.{Ask}
use Rattle.run_journal.specs.Job.{Job}
use Rattle.run_journal.specs.Decoding.{IsDecoding}
use Rattle.run_journal.specs.Saves.{saves}
use Rattle.run_journal.specs.Asked.{Setting, HasNoNotebook, IsJobOf, unread, not_read, no_memory, too_large, refused, accepted, preparing_job, running_job}
use Rattle.run_journal.specs.Jupyter.{Speaker, jupyter_codec}

module _ (decodes : (s : Speaker) → IsDecoding (jupyter_codec s)) where
  without : {a : Ask} {s : Setting} {status : _} {text : _} {j : Job} → HasNoNotebook a s status text j → IsDecoding j.codec
  without {a} {s} {status} {text} h = subst (λ (j : Job). IsDecoding j.codec) (sym h.is) (decodes _)

  -- the bytes of its kernel are read as Jupyter's
  pub asked_decodes : (a : Ask) (s : Setting) (found : Option ReadFile) (j : Job) → IsJobOf a s found j → IsDecoding j.codec
  asked_decodes a s None j (unread h) = without h
  asked_decodes a s (Some _) j (not_read h) = without h
  asked_decodes a s (Some _) j (no_memory h) = without h
  asked_decodes a s (Some _) j (too_large h) = without h
  asked_decodes a s (Some _) j (refused f r h) = without h
  asked_decodes a s (Some _) j (accepted {n = n} g) =
      cond_both a.prepare (preparing_job a s n) (running_job a s n) (λ (x : Job). IsDecoding x.codec) (λ e. decodes _) (λ e. decodes _)

-- a job that has no notebook has no save
pub no_save : (a : Ask) (s : Setting) (status : _) (text : _) (j : Job) → HasNoNotebook a s status text j → (past : List Entry) → saves j past ≡ []
no_save a s status text j h past = ap (λ (x : Job). saves x past) h.is
