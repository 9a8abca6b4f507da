-- What a job asks of the world between the words of its session and the start of its child.
use Rattle.std.proofs.Common.{◌≡◌, ℕ, List, Option, Some, None, Result, Ok, Err, refl, sym, subst}
use Rattle.std.specs.Prelude.{IfSome}
use Rattle.words.specs.Paths.{connection_of}
use Rattle.world.specs.declared.did.Did.TheVariants.{Done}
use Rattle.world.specs.declared.entry.Entry.{Entry}
use Rattle.world.specs.declared.entry.Entry.TheVariants as made
use Rattle.world.specs.Moments.{Since, start, more as later, Told, Tells}
use Rattle.world.proofs.MomentsLemmas.{since_then, told_then}
use Rattle.said_lines.specs.Speech.{Speech, Says}
use Rattle.said_lines.specs.Speech as said
use Rattle.save_disk.specs.Entries.{Writes, SaveOf}
use Rattle.save_disk.specs.Entries as disk
use Rattle.save_disk.proofs.Laws.{each_entry}
use Rattle.progress_save.specs.declared.progress_fault.ProgressFault.{ProgressFault}
use Rattle.progress_save.specs.declared.progress_fault.ProgressFault.TheVariants as fault
use Rattle.progress_save.specs.Saved.{SaveAnswer, done, failure, SavesAs}
use Rattle.kernel_start.specs.declared.random_words.RandomPairs.{RandomPairs}
use Rattle.kernel_start.specs.ConnectionFile.{WritesAndSyncs}
use Rattle.kernel_start.specs.RandomWords.{Draws}
use Rattle.job_saves.specs.Sessions.{IsSaveCall, IsFileCall, HasDrawn, HasAsked}

-- ---- a save and its line

save_made : (output text : List ℕ) (answer : SaveAnswer) (before after : List Entry) → SaveOf output text answer before after → Since (IsSaveCall output) before after
save_made output text answer before after =
    each_entry (IsSaveCall output) output text before (λ p d. refl) (λ p b d. refl) (λ p d. refl) (λ p d. (refl, refl)) (λ p d. refl) answer after

speech_made : (output : List ℕ) {text : List ℕ} {before : List Entry} {rest : List ℕ} {after : List Entry} → Speech text before rest after → Since (IsSaveCall output) before after
speech_made output said.none = start
speech_made output (said.more n before) = later (speech_made output before) tt

says_made : (output : List ℕ) {text : List ℕ} {failed : Type 0} {before after : List Entry} → Says text failed before after → Since (IsSaveCall output) before after
says_made output (said.whole speech) = speech_made output speech
says_made output (said.cut f speech) = speech_made output speech
says_made output (said.refused f speech) = later (speech_made output speech) tt

pub saves_made : (output text line : List ℕ) (failed : Type 0) (result : Result (Unit {0}) ProgressFault) (before after : List Entry) → SavesAs output text line failed result before after
    → Since (IsSaveCall output) before after
saves_made output text line failed (Ok u) before after did = since_then (save_made output text done before did.past did.saves) (says_made output did.says)
saves_made output text line failed (Err (fault.Save f)) before after did = save_made output text (failure f) before after did
saves_made output text line failed (Err fault.Closed) before after same = subst (Since (IsSaveCall output) before) (sym same) start
saves_made output text line failed (Err fault.NoMemory) before after same = subst (Since (IsSaveCall output) before) (sym same) start

-- such calls and then others of the same output
pub saves_then : {i j k : Option (List Entry)} (output other : List ℕ) → other ≡ output → Told i j (Since (IsSaveCall output)) → Told j k (Since (IsSaveCall other))
    → Told i k (Since (IsSaveCall output))
saves_then {j = j} {k} output other same first then_ =
    told_then first (subst (λ o. Told j k (Since (IsSaveCall o))) same then_) (λ x y z a b. since_then a b)

-- ---- the words

pub words_drawn : (output : List ℕ) (pairs : RandomPairs) (j k : Option (List Entry)) → Told j k (Draws (Some pairs)) → IfSome k (HasDrawn output pairs)
words_drawn output pairs j None told = tt
words_drawn output pairs None (Some y) told = absurd told.so
words_drawn output pairs (Some x) (Some y) told = record { before = x; drawn = y; draws = told.so; since = start }

pub drawn_later : (output : List ℕ) (pairs : RandomPairs) (j k : Option (List Entry)) → Told j k (Since (IsSaveCall output)) → IfSome j (HasDrawn output pairs) → IfSome k (HasDrawn output pairs)
drawn_later output pairs j None told h = tt
drawn_later output pairs None (Some y) told h = absurd told.so
drawn_later output pairs (Some x) (Some y) told h = record { before = h.before; drawn = h.drawn; draws = h.draws; since = since_then h.since told.so }

-- ---- the ports

pub ports_asked : (number : ℕ) (output : List ℕ) (pairs : RandomPairs) (ports : List ℕ) (j k : Option (List Entry)) → Tells j k (made.Ports number (Some ports)) → IfSome j (HasDrawn output pairs)
    → IfSome k (HasAsked number output pairs ports)
ports_asked number output pairs ports j None tells h = tt
ports_asked number output pairs ports None (Some y) tells h = absurd tells.so
ports_asked number output pairs ports (Some x) (Some y) tells h = subst (HasAsked number output pairs ports) (sym tells.so) (record { asked = x; session = h; since = start })

-- ---- the connection file

writes_made : {path text : List ℕ} {before : List Entry} {rest : List ℕ} {after : List Entry} → Writes path text before rest after → Since (IsFileCall path) before after
writes_made disk.none = start
writes_made (disk.more n before) = later (writes_made before) refl

file_made : (path text : List ℕ) (before after : List Entry) → WritesAndSyncs path text Done before after → Since (IsFileCall path) before after
file_made path text before after w = subst (Since (IsFileCall path) before) (sym w.ends) (later (since_then (later start refl) (writes_made w.writes)) refl)

pub asked_later : (number : ℕ) (output : List ℕ) (pairs : RandomPairs) (ports : List ℕ) (path text : List ℕ) → path ≡ connection_of output → (before after : List Entry)
    → WritesAndSyncs path text Done before after → HasAsked number output pairs ports before → HasAsked number output pairs ports after
asked_later number output pairs ports path text at before after w h = record {
  asked = h.asked;
  session = h.session;
  since = since_then h.since (subst (λ p. Since (IsFileCall p) before after) at (file_made path text before after w));
}
