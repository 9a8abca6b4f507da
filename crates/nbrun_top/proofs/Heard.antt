-- What is heard of a run.
use Rattle.std.proofs.Common.{◌≡◌, ℕ, List, [], ◌∷◌, Result, Ok, Err, refl, ◌∙◌, ap, subst}
use Rattle.words.specs.declared.ask.Ask.{Ask}
use Rattle.world.specs.declared.entry.Entry.{Entry}
use Rattle.nb_model.specs.declared.notebook.Notebook.{Notebook}
use Rattle.nbrun_top.specs.declared.end.End.{End}
use Rattle.save_disk.specs.declared.save_fault.SaveFault.{SaveFault}
use Rattle.save_disk.specs.Entries.{SaveOf}
use Rattle.save_disk.proofs.Laws.{part_of_save}
use Rattle.world.specs.declared.entry.Entry.TheVariants.{Said}
use Rattle.world.specs.Moments.{Since, start, more as later}
use Rattle.world.specs.Parts.{OnDisk, IsOf, part_of}
use Rattle.nbrun_top.specs.Ran.{SavesAs, Prepares, Ran}
use Rattle.nb_text.specs.Notebooks.{text_of}
use Rattle.nbrun_top.specs.Ran as ran
use Rattle.said_lines.specs.Speech.{heard}
use Rattle.said_lines.proofs.SpeechLemmas.{says_since, heard_text}
use Rattle.nbrun_top.specs.Ended.{Ended, IsHeard}

-- ---- the disk says nothing

disk_silent : (entry : Entry) (past : List Entry) → part_of entry ≡ OnDisk → heard (entry ∷ past) ≡ heard past
disk_silent (Said bytes did) past is = cc
disk_silent _ past is = refl

disk_heard : {before after : List Entry} → Since (IsOf OnDisk) before after → heard after ≡ heard before
disk_heard start = refl
disk_heard (later {past} {entry} since is) = disk_silent entry past is ∙ disk_heard since

save_silent : (output text : List ℕ) (result : Result (Unit {0}) SaveFault) (before after : List Entry) → SaveOf output text result before after → heard after ≡ heard before
save_silent output text result before after save = disk_heard (part_of_save output text before result after save)

saves_silent : (path : List ℕ) (n : Notebook) (e : End) (before after : List Entry) → SavesAs path n before e after → heard after ≡ heard before
saves_silent path n e before after (ran.not_saved why after_ saved) = save_silent path (text_of n) (Err why) before after saved
saves_silent path n e before after (ran.done after_ saved) = save_silent path (text_of n) (Ok tt) before after saved
saves_silent path n e before after ran.not_made = refl

prepares_silent : (a : Ask) (e : End) (before after : List Entry) → Prepares a before e after → heard after ≡ heard before
prepares_silent a e before after ran.cannot_read = refl
prepares_silent a e before after ran.too_large = refl
prepares_silent a e before after (ran.not_accepted bytes e_ why) = refl
prepares_silent a e before after (ran.saves bytes n e_ after_ accepted saved) = saves_silent a.output n e _ after saved
prepares_silent a e before after (ran.no_memory_later answer) = refl

pub ran_silent : (words : List (List ℕ)) (e : End) (before after : List Entry) → Ran words before e after → heard after ≡ heard before
ran_silent words e before after (ran.refused u is) = refl
ran_silent words e before after (ran.job a e_ after_ is prepares) = prepares_silent a e before after prepares
ran_silent words e before after ran.no_memory = refl

pub heard_lines : (words : List (List ℕ)) (code : ℕ) (rose cut : Type 0) (before after : List Entry) → Ended words code rose cut before after → before ≡ [] → IsHeard words code rose cut after
heard_lines words code rose cut before after ended new =
    record {
      end = ended.end;
      on_disk = ended.on_disk;
      ran = subst (λ b. Ran words b ended.end ended.on_disk) new ended.ran;
      answers = ended.answers;
      spoken = says_since ended.says;
      lines = heard_text (ran_silent words ended.end before ended.on_disk ended.ran ∙ ap heard new) ended.says;
    }
