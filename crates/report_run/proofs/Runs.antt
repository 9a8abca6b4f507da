-- From the steps of a report to what it asked of the world.
use Rattle.std.proofs.Common.{◌≡◌, ◌⊎◌, inl, inr, ℕ, List, [], ◌<◌, Result, Some, Ok, Err, refl, sym, ◌∙◌, ap, subst}
use Rattle.nb_load.specs.declared.load_fault.LoadFault.{LoadFault}
use Rattle.nb_load.specs.declared.load_fault.LoadFault.TheVariants as load_fault
use Rattle.words.specs.declared.usage.Usage.{Usage}
use Rattle.words.specs.declared.usage.Usage.TheVariants as usage_fault
use Rattle.world.specs.Counts.{Rose}
use Rattle.world.specs.declared.entry.Entry.{Entry}
use Rattle.world.specs.declared.read_file.ReadFile.{ReadFile}
use Rattle.world.specs.declared.read_file.ReadFile.TheVariants as found
use Rattle.save_disk.specs.declared.save_fault.SaveFault.{SaveFault}
use Rattle.save_disk.specs.declared.save_fault.SaveFault.TheVariants as fault
use Rattle.save_disk.specs.Entries.{SaveOf}
use Rattle.said_lines.specs.Speech.{Says}
use Rattle.report_run.specs.declared.end.End.{End}
use Rattle.report_run.specs.declared.end.End.TheVariants as end
use Rattle.report_run.specs.declared.form.Form.{Form}
use Rattle.report_run.specs.declared.form.Form.TheVariants as form
use Rattle.report_run.specs.declared.request.Request.{Request}
use Rattle.report_run.specs.Codes.{code_of}
use Rattle.report_run.specs.Ended.{Answers, Ended, said_of, input_of, output_of}
use Rattle.report_run.specs.Lines.{line}
use Rattle.report_run.specs.Made.{Gives, GivesNone, Refuses, CannotMake}
use Rattle.report_run.specs.Made as made
use Rattle.report_run.specs.Ran.{SavesAs, Makes, Ran, read_of}
use Rattle.report_run.specs.Ran as ran
use Rattle.report_run.specs.Words.{IsRequest, refusal}

-- ---- what is made of the bytes

pub not_loaded : (kind : Form) (bytes : List ℕ) (f g : LoadFault) → (kind ≡ form.Notebook → ⊥) → f ≡ g → Refuses bytes f → (g ≡ load_fault.NoMemory → ⊥)
    → (end.NotLoaded g ≡ end.NoMemory) ⊎ CannotMake kind bytes (end.NotLoaded g)
not_loaded kind bytes f g other is why known = inr (made.no_notebook g other (gives_none g (subst (Refuses bytes) is why) known))
  where
    gives_none : (h : LoadFault) → Refuses bytes h → (h ≡ load_fault.NoMemory → ⊥) → GivesNone bytes h
    gives_none (load_fault.NotJson x) r n = r
    gives_none (load_fault.NotNotebook x) r n = r
    gives_none (load_fault.NoTranslator x) r n = r
    gives_none load_fault.NoMemory r n = n refl

-- ---- a save

module _ (output path text : List ℕ) (at : path ≡ output) (before after : List Entry) where
  on_output : (result : Result (Unit {0}) SaveFault) → SaveOf path text result before after → SaveOf output text result before after
  on_output result save = subst (λ p. SaveOf p text result before after) at save

  pub saves_done : {U : Type 0} (u : U) → SaveOf path text (Ok u) before after → SavesAs output text before end.Done after
  saves_done u save = ran.done after (on_output (Ok tt) save)

  pub saves_failed : (U : Type 0) (why : SaveFault) → SaveOf {U = U} path text (Err why) before after → SavesAs output text before (end.NotSaved why) after
  saves_failed U fault.Write save = ran.not_saved fault.Write after (on_output (Err fault.Write) save)
  saves_failed U fault.Sync save = ran.not_saved fault.Sync after (on_output (Err fault.Sync) save)
  saves_failed U fault.Rename save = ran.not_saved fault.Rename after (on_output (Err fault.Rename) save)
  saves_failed U fault.DirSync save = ran.not_saved fault.DirSync after (on_output (Err fault.DirSync) save)

pub not_made_at : (output text : List ℕ) (e : End) → e ≡ end.NoMemory → (before : List Entry) → SavesAs output text before e before
not_made_at output text e is before = subst (λ x. SavesAs output text before x before) (sym is) ran.not_made

-- ---- by what the read answered

pub refused_at : (r : Request) (answer : ReadFile) (e given : End) → (given ≡ e) ⊎ (given ≡ end.NoMemory) → (past : List Entry) → Makes r past e (read_of r answer past) → Makes r past given (read_of r answer past)
refused_at r answer e given (inl same) past it = subst (λ x. Makes r past x (read_of r answer past)) (sym same) it
refused_at r answer e given (inr memory) past it = subst (λ x. Makes r past x (read_of r answer past)) (sym memory) (ran.no_memory_later answer)

pub cannot_make_at : (r : Request) (bytes : List ℕ) (e given : End) → (e ≡ end.NoMemory) ⊎ CannotMake r.form bytes e → (given ≡ e) ⊎ (given ≡ end.NoMemory) → (past : List Entry)
    → Makes r past given (read_of r (found.Whole bytes) past)
cannot_make_at r bytes e given (inl none) is past =
    refused_at r (found.Whole bytes) e given is past (subst (λ x. Makes r past x (read_of r (found.Whole bytes) past)) (sym none) (ran.no_memory_later (found.Whole bytes)))
cannot_make_at r bytes e given (inr why) is past = refused_at r (found.Whole bytes) e given is past (ran.cannot_make bytes e why)

pub saved_at : (r : Request) (bytes text : List ℕ) (e : End) → Gives r.form bytes text → (past read after : List Entry) → read ≡ read_of r (found.Whole bytes) past → SavesAs r.output text read e after → Makes r past e after
saved_at r bytes text e gives past read after is saved = ran.saves bytes text e after gives (subst (λ x. SavesAs r.output text x e after) is saved)

-- ---- by what the words are

pub no_memory_at : (words : List (List ℕ)) (given : End) → given ≡ end.NoMemory → (before : List Entry) → Ran words before given before
no_memory_at words given memory before = subst (λ e. Ran words before e before) (sym memory) ran.no_memory

pub usage_at : (words : List (List ℕ)) (u : Usage) (given : End) → (given ≡ end.Refused u) ⊎ (given ≡ end.NoMemory) → (u ≡ usage_fault.NoMemory → given ≡ end.NoMemory)
    → (u ≡ usage_fault.NoMemory) ⊎ (refusal words ≡ Some u) → (before : List Entry) → Ran words before given before
usage_at words u given is memory (inl none) before = no_memory_at words given (memory none) before
usage_at words u given (inr none) memory why before = no_memory_at words given none before
usage_at words u given (inl same) memory (inr why) before = subst (λ e. Ran words before e before) (sym same) (ran.refused u why)

pub usage_of : (words : List (List ℕ)) (v : Usage) (given : End) → (given ≡ end.Refused v) ⊎ (given ≡ end.NoMemory) → (v ≡ usage_fault.NoMemory → given ≡ end.NoMemory)
    → (v ≡ usage_fault.NoMemory) ⊎ (refusal words ≡ Some v) → (u : Usage) → refusal words ≡ Some u → (given ≡ end.Refused u) ⊎ (given ≡ end.NoMemory)
usage_of words v given (inr none) memory why u is = inr none
usage_of words v given (inl same) memory (inl none) u is = inr (memory none)
usage_of words v given (inl same) memory (inr why) u is = inl (same ∙ ap (λ x. end.Refused x) (one (sym why ∙ is)))
  where
    one : Some v ≡ Some u → v ≡ u
    one e = cc

pub refused_of : (words : List (List ℕ)) (v : Usage) (given : End) → (given ≡ end.Refused v) ⊎ (given ≡ end.NoMemory) → (v ≡ usage_fault.NoMemory → given ≡ end.NoMemory)
    → (v ≡ usage_fault.NoMemory) ⊎ (refusal words ≡ Some v) → (u : Usage) → given ≡ end.Refused u → refusal words ≡ Some u
refused_of words v given (inr none) memory why u is = absurd (differ (sym none ∙ is))
  where
    differ : end.NoMemory ≡ end.Refused u → ⊥
    differ e = cc
refused_of words v given (inl same) memory (inl none) u is = absurd (differ (sym (memory none) ∙ is))
  where
    differ : end.NoMemory ≡ end.Refused u → ⊥
    differ e = cc
refused_of words v given (inl same) memory (inr why) u is = why ∙ ap (λ x. Some x) (one (sym same ∙ is))
  where
    one : end.Refused v ≡ end.Refused u → v ≡ u
    one e = cc

-- what is said on the paths that the words name
pub spoken_at : (words : List (List ℕ)) (r : Request) (e : End) (text : List ℕ) → IsRequest words r → (e ≡ end.NoMemory) ⊎ (text ≡ line r.input r.output e)
    → (e ≡ end.NoMemory) ⊎ (text ≡ said_of words e)
spoken_at words r e text is (inl memory) = inl memory
spoken_at words r e text is (inr same) = inr (same ∙ ap (λ w. line (input_of w) (output_of w) e) (sym is.are))

pub usage_spoken : (words : List (List ℕ)) (u : Usage) (e : End) (text : List ℕ) → (e ≡ end.Refused u) ⊎ (e ≡ end.NoMemory) → (e ≡ end.NoMemory) ⊎ (text ≡ line [] [] e)
    → (e ≡ end.NoMemory) ⊎ (text ≡ said_of words e)
usage_spoken words u e text ends (inl memory) = inl memory
usage_spoken words u e text (inr memory) (inr same) = inl memory
usage_spoken words u e text (inl refused) (inr same) = inr (same ∙ ap (line [] []) refused ∙ ap (line (input_of words) (output_of words)) (sym refused))

-- ---- the whole report

pub said_text : (input output : List ℕ) (e : End) (text result : List ℕ) → (e ≡ end.NoMemory) ⊎ (text ≡ line input output e) → (e ≡ end.NoMemory → result ≡ line [] [] end.NoMemory)
    → ((e ≡ end.NoMemory → ⊥) → result ≡ text) → result ≡ line input output e
said_text input output e text result (inl memory) m t = m memory ∙ ap (line input output) (sym memory)
said_text input output end.NoMemory text result (inr is) m t = m refl
said_text input output end.Done text result (inr is) m t = t (λ x. cc) ∙ is
said_text input output (end.Refused u) text result (inr is) m t = t (λ x. cc) ∙ is
said_text input output end.NotRead text result (inr is) m t = t (λ x. cc) ∙ is
said_text input output end.TooLarge text result (inr is) m t = t (λ x. cc) ∙ is
said_text input output (end.NotLoaded f) text result (inr is) m t = t (λ x. cc) ∙ is
said_text input output (end.NotScript n) text result (inr is) m t = t (λ x. cc) ∙ is
said_text input output (end.NotSaved f) text result (inr is) m t = t (λ x. cc) ∙ is

pub ended_at : (words : List (List ℕ)) (e : End) (text : List ℕ) (code given faults old now : ℕ) → text ≡ said_of words e → code ≡ code_of e → faults ≡ old → Answers (Rose faults now) code given
    → (before on_disk after : List Entry) → Ran words before e on_disk → Says text (0 < now) on_disk after → Ended words given (Rose old now) (0 < now) before after
ended_at words e text code given faults old now is coded same answers before on_disk after ran_ says =
    subst (λ k. Ended words given (Rose k now) (0 < now) before after) same
    (record {
      end = e;
      on_disk = on_disk;
      ran = ran_;
      answers = subst (λ c. Answers (Rose faults now) c given) coded answers;
      says = subst (λ t. Says t (0 < now) on_disk after) is says;
    })
