-- How many saves a run has acknowledged, by its status.
use Rattle.std.proofs.Common.{◌≡◌, ℕ, ◌+◌, List, [], Ok, Err, refl, sym, ◌∙◌, ap, subst}
use Rattle.words.specs.declared.ask.Ask.{Ask}
use Rattle.world.specs.declared.entry.Entry.{Entry}
use Rattle.world.specs.declared.read_file.ReadFile.TheVariants as found
use Rattle.world.proofs.PartsLemmas.{acked_since}
use Rattle.world.specs.Save.{temporary_of}
use Rattle.save_disk.specs.Places.{save_count}
use Rattle.save_disk.proofs.Laws.{end_of}
use Rattle.nb_model.specs.declared.notebook.Notebook.{Notebook}
use Rattle.nbrun_top.specs.declared.end.End.{End}
use Rattle.nbrun_top.specs.Asked.{IsJob}
use Rattle.nbrun_top.specs.Codes.{code_of, end_of as load_end}
use Rattle.nbrun_top.specs.Ended.{Answers, plain, not_said, Ended, acks_of}
use Rattle.nb_load.specs.declared.load_fault.LoadFault.{LoadFault}
use Rattle.nb_load.specs.declared.load_fault.LoadFault.TheVariants as fault
use Rattle.nbrun_top.specs.Ran.{SavesAs, Prepares, Ran, read_of}
use Rattle.nb_text.specs.Notebooks.{text_of}
use Rattle.nbrun_top.specs.Ran as ran
use Rattle.nbrun_top.proofs.Spared.{one_ask}
use Rattle.said_lines.proofs.SpeechLemmas.{says_since}

-- the status of an end that saved nothing acknowledges nothing
refused_acks : (f : LoadFault) → acks_of (code_of (load_end f)) ≡ 0
refused_acks (fault.NotJson f) = refl
refused_acks (fault.NotNotebook f) = refl
refused_acks (fault.NoTranslator language) = refl
refused_acks fault.NoMemory = refl

saves_acks : (output : List ℕ) (n : Notebook) (e : End) (before after : List Entry) → save_count output before ≡ 0 → SavesAs output n before e after → save_count output after ≡ acks_of (code_of e)
saves_acks output n e before after none (ran.not_saved why _ save) = (end_of {U = Unit {0}} output (text_of n) before (Err why) after save).count_is ∙ none
saves_acks output n e before after none (ran.done _ save) = (end_of {U = Unit {0}} output (text_of n) before (Ok tt) after save).count_is ∙ ap (λ k. k + 1) none
saves_acks output n e before after none ran.not_made = none

prepares_acks : (a : Ask) (e : End) (after : List Entry) → Prepares a [] e after → save_count a.output after ≡ acks_of (code_of e)
prepares_acks a e after ran.cannot_read = refl
prepares_acks a e after ran.too_large = refl
prepares_acks a e after (ran.not_accepted bytes f why) = sym (refused_acks f)
prepares_acks a e after (ran.saves bytes n _ _ accepted save) = saves_acks a.output n e (read_of a (found.Whole bytes) []) after refl save
prepares_acks a e after (ran.no_memory_later answer) = refl

ran_acks : (words : List (List ℕ)) (a : Ask) → IsJob words a → (e : End) (after : List Entry) → Ran words [] e after → save_count a.output after ≡ acks_of (code_of e)
ran_acks words a is e after (ran.refused u why) = refl
ran_acks words a is e after ran.no_memory = refl
ran_acks words a is e after (ran.job b _ _ also prepares) =
    subst (λ c. save_count c.output after ≡ acks_of (code_of e)) (one_ask (sym also.asks ∙ is.asks)) (prepares_acks b e after prepares)

-- a status tells its end's acknowledgements, also where not all could be said
answered_acks : (rose : Type 0) (code given : ℕ) → Answers rose code given → acks_of code ≡ acks_of given
answered_acks rose code given (plain heard) = refl
answered_acks rose code given (not_said failed) = refl

pub acknowledged_of : (words : List (List ℕ)) (code : ℕ) (rose cut : Type 0) (before after : List Entry) → Ended words code rose cut before after → before ≡ [] → (a : Ask) → IsJob words a
    → save_count a.output after ≡ acks_of code
acknowledged_of words code rose cut before after ended new a is =
    acked_since (temporary_of a.output) a.output (λ e. cc) (says_since ended.says)
    ∙ ran_acks words a is ended.end ended.on_disk (subst (λ b. Ran words b ended.end ended.on_disk) new ended.ran)
    ∙ answered_acks rose (code_of ended.end) code ended.answers
