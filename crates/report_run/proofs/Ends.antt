-- What a report that ended well has left.
use Rattle.std.proofs.Common.{◌≡◌, ◌⊎◌, inl, inr, ℕ, List, [], ◌∷◌, Ok, refl, sym, ◌∙◌, ap}
use Rattle.world.specs.declared.entry.Entry.{Entry}
use Rattle.world.specs.declared.entry.Entry.TheVariants.{Read}
use Rattle.world.specs.declared.read_file.ReadFile.TheVariants as found
use Rattle.world.specs.declared.left.Left.TheVariants as left
use Rattle.world.specs.Disk.{leaves}
use Rattle.world.specs.Moments.{Since}
use Rattle.world.specs.Parts.{OnSay, IsOf}
use Rattle.world.proofs.PartsLemmas.{place_since}
use Rattle.said_lines.proofs.SpeechLemmas.{says_since}
use Rattle.save_disk.proofs.Laws.{part_of_save}
use Rattle.report_run.specs.declared.end.End.{End}
use Rattle.report_run.specs.declared.end.End.TheVariants as end
use Rattle.report_run.specs.declared.form.Form.{Form}
use Rattle.report_run.specs.declared.request.Request.{Request}
use Rattle.report_run.specs.Codes.{code_of}
use Rattle.report_run.specs.Ended.{Answers, Ended, plain, not_said}
use Rattle.report_run.specs.Made.{Gives, CannotMake}
use Rattle.report_run.specs.Made as made
use Rattle.report_run.specs.Ran.{SavesAs, Makes, Ran, IsDelivered, read_of}
use Rattle.report_run.specs.Ran as ran
use Rattle.report_run.specs.Words.{IsRequest}
use Rattle.report_run.proofs.Crashes.{text_in}
use Rattle.report_run.proofs.Saves.{EndsWith, ends_since, leaves_text}

-- ---- the status

-- no end has this number
no_eleven : (e : End) → code_of e ≡ 11 → ⊥
no_eleven end.Done is = cc
no_eleven (end.Refused usage) is = cc
no_eleven end.NotRead is = cc
no_eleven end.TooLarge is = cc
no_eleven (end.NotLoaded f) is = cc
no_eleven (end.NotScript n) is = cc
no_eleven (end.NotSaved f) is = cc
no_eleven end.NoMemory is = cc

done_code : (failed : Type 0) (e : End) (c code : ℕ) → c ≡ code_of e → Answers failed c code → (code ≡ 0) ⊎ (code ≡ 11) → code_of e ≡ 0
done_code failed e c code is (plain heard) (inl zero_) = sym is ∙ zero_
done_code failed e c code is (plain heard) (inr eleven) = absurd (no_eleven e (sym is ∙ eleven))
done_code failed e c code is (not_said f) well = sym is

-- ---- the save

-- a save that went well, after a read that began the report
record IsSaved (r : Request) (journal : List Entry) : Type 0 where
  bytes : List ℕ
  text : List ℕ
  gives : Gives r.form bytes text
  was_read : EndsWith (Read r.input 33554432 (found.Whole bytes)) journal
  leaves : leaves journal r.output ≡ left.Whole text ∷ []

saved_well : (r : Request) (bytes text : List ℕ) (e : End) (before after : List Entry) → code_of e ≡ 0 → Gives r.form bytes text → EndsWith (Read r.input 33554432 (found.Whole bytes)) before → SavesAs r.output text before e after → IsSaved r after
saved_well r bytes text e before after zero_ gives read (ran.not_saved why after_ saved) = cc
saved_well r bytes text e before after zero_ gives read ran.not_made = cc
saved_well r bytes text e before after zero_ gives read (ran.done after_ saved) =
    record {
      bytes = bytes;
      text = text;
      gives = gives;
      was_read = ends_since read (part_of_save {U = Unit {0}} r.output text before (Ok tt) after saved);
      leaves = leaves_text r.output text before after saved;
    }

cannot_well : (kind : Form) (bytes : List ℕ) (e : End) → CannotMake kind bytes e → code_of e ≡ 0 → ⊥
cannot_well kind bytes e (made.no_notebook f other why) z = cc
cannot_well kind bytes e (made.no_script number is why) z = cc

makes_well : (r : Request) (e : End) (before after : List Entry) → before ≡ [] → code_of e ≡ 0 → Makes r before e after → IsSaved r after
makes_well r e before after new zero_ ran.cannot_read = cc
makes_well r e before after new zero_ ran.too_large = cc
makes_well r e before after new zero_ (ran.cannot_make bytes e_ why) = absurd (cannot_well r.form bytes e why zero_)
makes_well r e before after new zero_ (ran.no_memory_later answer) = cc
makes_well r e before after new zero_ (ran.saves bytes text e_ after_ gives saved) =
    saved_well r bytes text e (read_of r (found.Whole bytes) before) after zero_ gives
    (record { later_entries = []; split = ap (λ x. Read r.input 33554432 (found.Whole bytes) ∷ x) new }) saved

delivered_after : (words : List (List ℕ)) (r : Request) (on_disk after : List Entry) → IsRequest words r → IsSaved r on_disk → Since (IsOf OnSay) on_disk after → IsDelivered words after
delivered_after words r on_disk after is s since =
    record {
      request = r;
      asked = is;
      text = s.text;
      made = text_in r after s.bytes s.text s.gives (ends_since s.was_read since);
      leaves_text = ap (λ p. (p r.output).options) (place_since (λ e. cc) since) ∙ s.leaves;
    }

ran_well : (words : List (List ℕ)) (e : End) (before on_disk after : List Entry) → before ≡ [] → code_of e ≡ 0 → Ran words before e on_disk → Since (IsOf OnSay) on_disk after → IsDelivered words after
ran_well words e before on_disk after new zero_ (ran.refused u is) since = cc
ran_well words e before on_disk after new zero_ ran.no_memory since = cc
ran_well words e before on_disk after new zero_ (ran.request r e_ after_ is makes) since = delivered_after words r on_disk after is (makes_well r e before on_disk new zero_ makes) since

pub delivered : (words : List (List ℕ)) (code : ℕ) (rose cut : Type 0) (before after : List Entry) → Ended words code rose cut before after → before ≡ [] → (code ≡ 0) ⊎ (code ≡ 11) → IsDelivered words after
delivered words code rose cut before after ended new well =
    ran_well words ended.end before ended.on_disk after new (done_code rose ended.end (code_of ended.end) code refl ended.answers well) ended.ran (says_since ended.says)
