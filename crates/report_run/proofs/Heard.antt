-- What is heard of a report.
use Rattle.std.proofs.Common.{◌≡◌, ℕ, List, [], ◌∷◌, Result, Ok, Err, refl, ◌∙◌, ap, subst}
use Rattle.world.specs.declared.entry.Entry.{Entry}
use Rattle.world.specs.declared.entry.Entry.TheVariants.{Said}
use Rattle.world.specs.Moments.{Since, start, more as later}
use Rattle.world.specs.Parts.{OnDisk, IsOf, part_of}
use Rattle.save_disk.specs.declared.save_fault.SaveFault.{SaveFault}
use Rattle.save_disk.specs.Entries.{SaveOf}
use Rattle.save_disk.proofs.Laws.{part_of_save}
use Rattle.said_lines.specs.Speech.{heard}
use Rattle.said_lines.proofs.SpeechLemmas.{says_since, heard_text}
use Rattle.report_run.specs.Ended.{Ended, IsHeard}
use Rattle.report_run.specs.declared.end.End.{End}
use Rattle.report_run.specs.declared.request.Request.{Request}
use Rattle.report_run.specs.Ran.{SavesAs, Makes, Ran}
use Rattle.report_run.specs.Ran as ran

disk_silent : (entry : Entry) (past : List Entry) → part_of entry ≡ OnDisk → heard (entry ∷ past) ≡ heard past
disk_silent (Said bytes did) past is = cc
disk_silent _ past is = refl

disk_heard : {before after : List Entry} → Since (IsOf OnDisk) before after → heard after ≡ heard before
disk_heard start = refl
disk_heard (later {past} {entry} since is) = disk_silent entry past is ∙ disk_heard since

save_silent : (output text : List ℕ) (result : Result (Unit {0}) SaveFault) (before after : List Entry) → SaveOf output text result before after → heard after ≡ heard before
save_silent output text result before after save = disk_heard (part_of_save output text before result after save)

saves_silent : (path text : List ℕ) (e : End) (before after : List Entry) → SavesAs path text before e after → heard after ≡ heard before
saves_silent path text e before after (ran.not_saved why after_ saved) = save_silent path text (Err why) before after saved
saves_silent path text e before after (ran.done after_ saved) = save_silent path text (Ok tt) before after saved
saves_silent path text e before after ran.not_made = refl

makes_silent : (r : Request) (e : End) (before after : List Entry) → Makes r before e after → heard after ≡ heard before
makes_silent r e before after ran.cannot_read = refl
makes_silent r e before after ran.too_large = refl
makes_silent r e before after (ran.cannot_make bytes e_ why) = refl
makes_silent r e before after (ran.saves bytes text e_ after_ gives saved) = saves_silent r.output text e _ after saved
makes_silent r e before after (ran.no_memory_later answer) = refl

pub ran_silent : (words : List (List ℕ)) (e : End) (before after : List Entry) → Ran words before e after → heard after ≡ heard before
ran_silent words e before after (ran.refused u is) = refl
ran_silent words e before after (ran.request r e_ after_ is makes) = makes_silent r e before after makes
ran_silent words e before after ran.no_memory = refl

pub heard_line : (words : List (List ℕ)) (code : ℕ) (rose cut : Type 0) (before after : List Entry) → Ended words code rose cut before after → before ≡ [] → IsHeard words code rose cut after
heard_line words code rose cut before after ended new =
    record {
      end = ended.end;
      on_disk = ended.on_disk;
      ran = subst (λ b. Ran words b ended.end ended.on_disk) new ended.ran;
      answers = ended.answers;
      spoken = says_since ended.says;
      lines = heard_text (ran_silent words ended.end before ended.on_disk ended.ran ∙ ap heard new) ended.says;
    }
