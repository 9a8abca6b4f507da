-- How many saves a report has acknowledged, by its status.
use Rattle.std.proofs.Common.{◌≡◌, ℕ, ◌+◌, List, [], Ok, Err, refl, sym, ◌∙◌, ap, subst}
use Rattle.world.specs.declared.entry.Entry.{Entry}
use Rattle.world.specs.declared.read_file.ReadFile.TheVariants as found
use Rattle.world.proofs.PartsLemmas.{acked_since}
use Rattle.world.specs.Save.{temporary_of}
use Rattle.save_disk.specs.Places.{save_count}
use Rattle.save_disk.proofs.Laws.{end_of}
use Rattle.said_lines.proofs.SpeechLemmas.{says_since}
use Rattle.report_run.specs.declared.end.End.{End}
use Rattle.report_run.specs.declared.form.Form.{Form}
use Rattle.report_run.specs.declared.request.Request.{Request}
use Rattle.report_run.specs.Codes.{code_of}
use Rattle.report_run.specs.Ended.{Answers, plain, not_said, Ended, acks_of}
use Rattle.report_run.specs.Made.{CannotMake}
use Rattle.report_run.specs.Made as made
use Rattle.report_run.specs.Ran.{SavesAs, Makes, Ran, read_of}
use Rattle.report_run.specs.Ran as ran
use Rattle.report_run.specs.Words.{IsRequest}
use Rattle.report_run.proofs.Crashes.{one_request}

-- the status of an end that saved nothing acknowledges nothing
cannot_acks : (kind : Form) (bytes : List ℕ) (e : End) → CannotMake kind bytes e → acks_of (code_of e) ≡ 0
cannot_acks kind bytes e (made.no_notebook f other why) = refl
cannot_acks kind bytes e (made.no_script number is why) = refl

saves_acks : (output text : List ℕ) (e : End) (before after : List Entry) → save_count output before ≡ 0 → SavesAs output text before e after → save_count output after ≡ acks_of (code_of e)
saves_acks output text e before after none (ran.not_saved why _ save) = (end_of {U = Unit {0}} output text before (Err why) after save).count_is ∙ none
saves_acks output text e before after none (ran.done _ save) = (end_of {U = Unit {0}} output text before (Ok tt) after save).count_is ∙ ap (λ k. k + 1) none
saves_acks output text e before after none ran.not_made = none

makes_acks : (r : Request) (e : End) (after : List Entry) → Makes r [] e after → save_count r.output after ≡ acks_of (code_of e)
makes_acks r e after ran.cannot_read = refl
makes_acks r e after ran.too_large = refl
makes_acks r e after (ran.cannot_make bytes e_ why) = sym (cannot_acks r.form bytes e why)
makes_acks r e after (ran.saves bytes text _ _ gives save) = saves_acks r.output text e (read_of r (found.Whole bytes) []) after refl save
makes_acks r e after (ran.no_memory_later answer) = refl

ran_acks : (words : List (List ℕ)) (r : Request) → IsRequest words r → (e : End) (after : List Entry) → Ran words [] e after → save_count r.output after ≡ acks_of (code_of e)
ran_acks words r is e after (ran.refused u why) = refl
ran_acks words r is e after ran.no_memory = refl
ran_acks words r is e after (ran.request s _ _ also makes) =
    subst (λ c. save_count c.output after ≡ acks_of (code_of e)) (one_request words r s is also) (makes_acks s e after makes)

-- a status tells its end's acknowledgements, also where not all could be said
answered_acks : (rose : Type 0) (code given : ℕ) → Answers rose code given → acks_of code ≡ acks_of given
answered_acks rose code given (plain heard) = refl
answered_acks rose code given (not_said failed) = refl

pub acknowledged_of : (words : List (List ℕ)) (code : ℕ) (rose cut : Type 0) (before after : List Entry) → Ended words code rose cut before after → before ≡ [] → (r : Request) → IsRequest words r
    → save_count r.output after ≡ acks_of code
acknowledged_of words code rose cut before after ended new r is =
    acked_since (temporary_of r.output) r.output (λ e. cc) (says_since ended.says)
    ∙ ran_acks words r is ended.end ended.on_disk (subst (λ b. Ran words b ended.end ended.on_disk) new ended.ran)
    ∙ answered_acks rose (code_of ended.end) code ended.answers
