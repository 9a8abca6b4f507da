-- What is heard of the lines of jobs.
use Rattle.std.proofs.Common.{◌≡◌, ℕ, List, [], ◌∷◌, ◌++◌, Bool, true, refl, sym, ◌∙◌, subst}
use Rattle.std.specs.Prelude.{codes}
use Rattle.std.specs.Fmt.{decimal}
use Rattle.std.proofs.Math.Bool.{Bool-set}
use Rattle.std.proofs.Math.Logic.{∥∥₁_elim}
use Rattle.std.proofs.lemmas.List.{append-nil}
use Rattle.words.specs.declared.ask.Ask.{Ask}
use Rattle.world.specs.declared.entry.Entry.{Entry}
use Rattle.said_lines.specs.Lines.{spoken_line, saved_line}
use Rattle.said_lines.specs.Speech.{Speech, heard}
use Rattle.said_lines.proofs.SpeechLemmas.{speech_heard}
use Rattle.nb_load.specs.declared.load_fault.LoadFault.TheVariants as load
use Rattle.job_end.specs.declared.answer.Answer.{Answer}
use Rattle.job_end.specs.declared.end.End.{End}
use Rattle.job_end.specs.declared.end.End.TheVariants as end
use Rattle.job_end.specs.Answers.{Answers}
use Rattle.job_end.specs.Answers as answer
use Rattle.job_end.specs.Reasons.{reason_of, line_of}
use Rattle.job_saves.specs.Speaking.{ends_line, IsWhole, IsLine, of_save, of_end}

-- ---- texts that end with a whole line

ends_behind : (text : List ℕ) → ends_line (text ++ 10 ∷ []) ≡ true
ends_behind [] = refl
ends_behind (c ∷ []) = refl
ends_behind (c ∷ d ∷ text) = ends_behind (d ∷ text)

-- one more text that does
pub ends_both : (text more : List ℕ) → ends_line text ≡ true → ends_line more ≡ true → ends_line (text ++ more) ≡ true
ends_both [] more e f = f
ends_both (c ∷ []) [] e f = e
ends_both (c ∷ []) (d ∷ more) e f = f
ends_both (c ∷ d ∷ text) more e f = ends_both (d ∷ text) more e f

spoken_ends : (of what : List ℕ) → ends_line (spoken_line of what) ≡ true
spoken_ends of what = ends_behind (of ++ codes ": " ++ what)

pub saved_ends : (output : List ℕ) (settled cells : ℕ) → ends_line (saved_line output settled cells) ≡ true
saved_ends output settled cells = ends_behind (codes "saved " ++ decimal settled ++ codes "/" ++ decimal cells ++ codes " " ++ output)

last_ends : (output : List ℕ) (e : End) → ends_line (line_of output e) ≡ true
last_ends output end.Done = spoken_ends output (reason_of end.Done)
last_ends output (end.CellError cell name) = spoken_ends output (reason_of (end.CellError cell name))
last_ends output (end.NotRead path) = spoken_ends output (reason_of (end.NotRead path))
last_ends output end.TooLarge = spoken_ends output (reason_of end.TooLarge)
last_ends output (end.NotLoaded load.NoMemory) = refl
last_ends output (end.NotLoaded (load.NotJson f)) = spoken_ends output (reason_of (end.NotLoaded (load.NotJson f)))
last_ends output (end.NotLoaded (load.NotNotebook f)) = spoken_ends output (reason_of (end.NotLoaded (load.NotNotebook f)))
last_ends output (end.NotLoaded (load.NoTranslator language)) = spoken_ends output (reason_of (end.NotLoaded (load.NoTranslator language)))
last_ends output end.NoKernelName = spoken_ends output (reason_of end.NoKernelName)
last_ends output end.BadKernelName = spoken_ends output (reason_of end.BadKernelName)
last_ends output (end.BadSpec f) = spoken_ends output (reason_of (end.BadSpec f))
last_ends output end.NotStarted = spoken_ends output (reason_of end.NotStarted)
last_ends output end.NotReady = spoken_ends output (reason_of end.NotReady)
last_ends output end.KernelLost = spoken_ends output (reason_of end.KernelLost)
last_ends output (end.TimedOut cell) = spoken_ends output (reason_of (end.TimedOut cell))
last_ends output (end.NotSaved f) = spoken_ends output (reason_of (end.NotSaved f))
last_ends output end.NoConnectionFile = spoken_ends output (reason_of end.NoConnectionFile)
last_ends output end.NoMemory = refl
last_ends output (end.NoIdle cell) = spoken_ends output (reason_of (end.NoIdle cell))
last_ends output end.NetFault = spoken_ends output (reason_of end.NetFault)
last_ends output (end.BadPeer chan f) = spoken_ends output (reason_of (end.BadPeer chan f))
last_ends output end.Spent = spoken_ends output (reason_of end.Spent)

answer_ends : (output : List ℕ) (e : End) (a : Answer) → Answers output e a → ends_line a.line ≡ true
answer_ends output e a answer.said = last_ends output e
answer_ends output e a answer.starved = refl

-- each line of a job does
pub line_ends : (clean : Bool) (a : Ask) (begin : List Entry) (line : List ℕ) → IsLine clean a begin line → ends_line line ≡ true
line_ends clean a begin line (of_save settled cells behind prefix) = saved_ends a.output settled cells
line_ends clean a begin line (of_end answer is) = ∥∥₁_elim is (Bool-set (ends_line answer.line) true) (λ x. answer_ends a.output x.end answer x.answers)

-- ---- what is heard of a text

-- a line that was said whole
pub said_whole : (line : List ℕ) (before after : List Entry) → ends_line line ≡ true → Speech line before [] after → IsWhole before → IsWhole after
said_whole line before after is speech whole =
    subst (λ xs. ends_line xs ≡ true) (sym (speech_heard speech) ∙ append-nil (heard after))
    (ends_both (heard before) line whole is)
