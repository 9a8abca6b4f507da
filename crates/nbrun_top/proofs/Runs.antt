-- From the steps of a run to what it asked of the world.
use Rattle.std.proofs.Common.{◌≡◌, ◌⊎◌, inl, inr, ℕ, List, [], ◌∷◌, ◌++◌, ◌<◌, codes, Result, length, length-append, Some, Ok, Err, refl, sym, ◌∙◌, ap, subst, arith}
use Rattle.nb_model.specs.declared.notebook.Notebook.{Notebook}
use Rattle.words.specs.declared.ask.Ask.{Ask}
use Rattle.words.specs.declared.usage.Usage.{Usage}
use Rattle.words.specs.declared.usage.Usage.TheVariants as usage_fault
use Rattle.words.specs.Refusals.{refusal}
use Rattle.world.specs.Counts.{Rose}
use Rattle.world.specs.declared.entry.Entry.{Entry}
use Rattle.world.specs.declared.read_file.ReadFile.{ReadFile}
use Rattle.world.specs.declared.read_file.ReadFile.TheVariants as found
use Rattle.nbrun_top.specs.declared.end.End.{End}
use Rattle.nbrun_top.specs.declared.end.End.TheVariants as end
use Rattle.save_disk.specs.declared.save_fault.SaveFault.{SaveFault}
use Rattle.save_disk.specs.declared.save_fault.SaveFault.TheVariants as fault
use Rattle.save_disk.specs.Entries.{SaveOf}
use Rattle.jtext.specs.Indent.{indent}
use Rattle.nb_model.specs.Tree.{notebook_tree}
use Rattle.nbrun_top.specs.declared.reports.Reports.{Reports}
use Rattle.nbrun_top.specs.Reported.{AreReports, report_of}
use Rattle.nbrun_top.specs.Codes.{code_of, end_of}
use Rattle.nbrun_top.specs.Ended.{Answers, Ended}
use Rattle.said_lines.specs.Lines.{spoken_line, saved_line}
use Rattle.nbrun_top.specs.Lines.{all_lines, save}
use Rattle.said_lines.specs.Speech.{Says}
use Rattle.nbrun_top.specs.Said.{said_of}
use Rattle.nb_load.specs.declared.load_fault.LoadFault.{LoadFault}
use Rattle.nb_load.specs.Loaded.{Accepts, Refuses}
use Rattle.nbrun_top.specs.Ran.{SavesAs, Prepares, Ran, read_of}
use Rattle.nb_text.specs.Notebooks.{text_of}
use Rattle.nbrun_top.specs.Ran as ran

-- ---- a save

module _ (output path text : List ℕ) (n : Notebook) (at : path ≡ output) (is : text ≡ text_of n) (before after : List Entry) where
  on_output : (result : Result (Unit {0}) SaveFault) → SaveOf path text result before after → SaveOf output (text_of n) result before after
  on_output result save = subst (λ t. SaveOf output t result before after) is (subst (λ p. SaveOf p text result before after) at save)

  pub saves_done : {U : Type 0} (u : U) (count : ℕ) → count ≡ length n.cells → SaveOf path text (Ok u) before after → SavesAs output n before (end.Done count) after
  saves_done u count counted save =
      subst (λ k. SavesAs output n before (end.Done k) after) (sym counted) (ran.done after (on_output (Ok tt) save))

  pub saves_failed : (U : Type 0) (why : SaveFault) → SaveOf {U = U} path text (Err why) before after → SavesAs output n before (end.NotSaved why) after
  saves_failed U fault.Write save = ran.not_saved fault.Write after (on_output (Err fault.Write) save)
  saves_failed U fault.Sync save = ran.not_saved fault.Sync after (on_output (Err fault.Sync) save)
  saves_failed U fault.Rename save = ran.not_saved fault.Rename after (on_output (Err fault.Rename) save)
  saves_failed U fault.DirSync save = ran.not_saved fault.DirSync after (on_output (Err fault.DirSync) save)

-- a text that is printed has a byte
pub some_text : (n : Notebook) (text : List ℕ) → text ≡ text_of n → 0 < length text
some_text n text is = omega (arith, ap length is, length-append (indent (notebook_tree n) []) (10 ∷ []))

-- each report is a line of the save
pub reports_of : (output : List ℕ) (cells : ℕ) (r : Reports) → r.done ≡ saved_line output 0 cells ++ spoken_line output (codes "done")
    → r.not_written ≡ spoken_line output (save fault.Write) → r.not_synced ≡ spoken_line output (save fault.Sync)
    → r.not_renamed ≡ spoken_line output (save fault.Rename) → r.not_settled ≡ spoken_line output (save fault.DirSync) → AreReports output cells r
reports_of output cells r d w s n f = record { done = d; failed = by }
  where
    by : (x : SaveFault) → report_of r x ≡ spoken_line output (save x)
    by fault.Write = w
    by fault.Sync = s
    by fault.Rename = n
    by fault.DirSync = f

pub not_made_at : (output : List ℕ) (n : Notebook) (e : End) → e ≡ end.NoMemory → (before : List Entry) → SavesAs output n before e before
not_made_at output n e is before = subst (λ x. SavesAs output n before x before) (sym is) ran.not_made

-- ---- by what the read answered

pub refused_at : (a : Ask) (answer : ReadFile) (e given : End) → (given ≡ e) ⊎ (given ≡ end.NoMemory) → (past : List Entry) → Prepares a past e (read_of a answer past) → Prepares a past given (read_of a answer past)
refused_at a answer e given (inl same) past it = subst (λ x. Prepares a past x (read_of a answer past)) (sym same) it
refused_at a answer e given (inr memory) past it = subst (λ x. Prepares a past x (read_of a answer past)) (sym memory) (ran.no_memory_later answer)

pub not_accepted_at : (a : Ask) (bytes : List ℕ) (f : LoadFault) (given : End) → Refuses a bytes f → (given ≡ end_of f) ⊎ (given ≡ end.NoMemory) → (past : List Entry) → Prepares a past given (read_of a (found.Whole bytes) past)
not_accepted_at a bytes f given why is past = refused_at a (found.Whole bytes) (end_of f) given is past (ran.not_accepted bytes f why)

pub saved_at : (a : Ask) (bytes : List ℕ) (n : Notebook) (e : End) → Accepts a bytes n → (past read after : List Entry) → read ≡ read_of a (found.Whole bytes) past → SavesAs a.output n read e after → Prepares a past e after
saved_at a bytes n e accepted past read after is saved = ran.saves bytes n e after accepted (subst (λ r. SavesAs a.output n r e after) is saved)

-- ---- by what the words are

no_memory_at : (words : List (List ℕ)) (given : End) → given ≡ end.NoMemory → (before : List Entry) → Ran words before given before
no_memory_at words given memory before = subst (λ e. Ran words before e before) (sym memory) ran.no_memory

pub usage_at : (words : List (List ℕ)) (u : Usage) (given : End) → (given ≡ end.Refused u) ⊎ (given ≡ end.NoMemory) → (u ≡ usage_fault.NoMemory → given ≡ end.NoMemory)
    → (u ≡ usage_fault.NoMemory) ⊎ (refusal words ≡ Some u) → (before : List Entry) → Ran words before given before
usage_at words u given is memory (inl none) before = no_memory_at words given (memory none) before
usage_at words u given (inr none) memory why before = no_memory_at words given none before
usage_at words u given (inl same) memory (inr why) before = subst (λ e. Ran words before e before) (sym same) (ran.refused u why)

-- ---- the whole run

-- what is said of an end on these paths
pub said_text : (input output : List ℕ) (e : End) (text result : List ℕ) → (e ≡ end.NoMemory) ⊎ (text ≡ all_lines input output e) → (e ≡ end.NoMemory → result ≡ all_lines [] [] end.NoMemory)
    → ((e ≡ end.NoMemory → ⊥) → result ≡ text) → result ≡ all_lines input output e
said_text input output e text result (inl memory) m t = m memory ∙ ap (λ x. all_lines input output x) (sym memory)
said_text input output end.NoMemory text result (inr is) m t = m refl
said_text input output (end.Done cells) text result (inr is) m t = t (λ x. cc) ∙ is
said_text input output (end.Refused u) text result (inr is) m t = t (λ x. cc) ∙ is
said_text input output end.NotRead text result (inr is) m t = t (λ x. cc) ∙ is
said_text input output end.TooLarge text result (inr is) m t = t (λ x. cc) ∙ is
said_text input output (end.NotLoaded f) text result (inr is) m t = t (λ x. cc) ∙ is
said_text input output (end.NotSaved f) text result (inr is) m t = t (λ x. cc) ∙ is

pub ended_at : (words : List (List ℕ)) (e : End) (text : List ℕ) (code given faults old now : ℕ) → text ≡ said_of words e → code ≡ code_of e → faults ≡ old → Answers (Rose faults now) code given
    → (before on_disk after : List Entry) → Ran words before e on_disk → Says text (0 < now) on_disk after → Ended words given (Rose old now) (0 < now) before after
ended_at words e text code given faults old now is coded same answers before on_disk after ran_ says =
    subst (λ k. Ended words given (Rose k now) (0 < now) before after) same
    (record {
      end = e;
      on_disk = on_disk;
      ran = ran_;
      answers = subst (λ c. Answers (Rose faults now) c given) coded answers;
      says = subst (λ t. Says t (0 < now) on_disk after) is says;
    })
