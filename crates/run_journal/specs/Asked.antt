-- The job of what is asked, by what the journal has of its input (papermill and nbclient, command line).
use Rattle.std.specs.Prelude.{ℕ, ◌||◌, List, [], ◌∷◌, codes, length, Bool, false, not, Option, Some, None, if◌then◌else◌, slice_get, ◌≡◌}
use Rattle.std.specs.Str.{bytes_eq}
use Rattle.jcontent.specs.declared.content.Content.{Content}
use Rattle.jcontent.specs.declared.content.Content.TheVariants as content
use Rattle.world.specs.declared.entry.Entry.{Entry}
use Rattle.world.specs.declared.entry.Entry.TheVariants as made
use Rattle.world.specs.declared.read_file.ReadFile.{ReadFile}
use Rattle.world.specs.declared.read_file.ReadFile.TheVariants as found
use Rattle.words.specs.declared.ask.Ask.{Ask}
use Rattle.nb_model.specs.declared.cell.Cell.{Cell}
use Rattle.nb_model.specs.declared.notebook.Notebook.{Notebook}
use Rattle.nb_model.specs.Planned.{plan, code}
use Rattle.nb_model.specs.Prepared.{prepared_notebook}
use Rattle.nb_model.specs.Tags.{is_tagged}
use Rattle.nb_load.specs.declared.load_fault.LoadFault.{LoadFault}
use Rattle.nb_load.specs.declared.load_fault.LoadFault.TheVariants as fault
use Rattle.nb_load.specs.Loaded.{Accepts, Refuses as RefusesBytes}
use Rattle.nb_load.specs.Reasons.{reason}
use Rattle.progress_save.specs.Prefix.{prefix}
use Rattle.nb_text.specs.Notebooks.{text_of}
use Rattle.cell_core.specs.Task.{Task, cell_of}
use Rattle.cell_core.specs.Allowed.{is_allowed}
use Rattle.kernel_talk.specs.Requests.{identifier, message_id}
use Rattle.run_journal.specs.Job.{Job, Given, Refuses, Prepares, Runs}
use Rattle.run_journal.specs.OfJob.{reads_for}
use Rattle.run_journal.specs.Requests.{or_later}
use Rattle.run_journal.specs.Jupyter.{Speaker, jupyter_codec}

-- ---- what the journal has

-- the answer of the first read of a path
abbrev pub read_of : List ℕ → List Entry → Option ReadFile
read_of path [] = None
read_of path (made.Read other most answer ∷ past) = or_later (read_of path past) (if bytes_eq path other then Some answer else None)
read_of path (_ ∷ past) = read_of path past

-- a list with one more at its end
abbrev pub and_word : Bool → ℕ → List ℕ → List ℕ
and_word ours word [] = if ours then word ∷ [] else []
and_word ours word (w ∷ words) = w ∷ and_word ours word words

-- the random words that were drawn for the job, in order
abbrev pub words_of : Job → List Entry → List ℕ
words_of j [] = []
words_of j (made.Word (Some word) ∷ past) = and_word (reads_for j past) word (words_of j past)
words_of j (_ ∷ past) = words_of j past

-- the session and the key are of the job's first four words, two each, the session first
pub record SpeaksBy (j : Job) (journal : List Entry) (session key : List ℕ) : Type 0 where
  pub one : ℕ
  pub two : ℕ
  pub three : ℕ
  pub four : ℕ
  pub rest : List ℕ
  pub drawn : words_of j journal ≡ one ∷ two ∷ three ∷ four ∷ rest
  pub session_is : session ≡ identifier one two
  pub key_is : key ≡ identifier three four

-- ---- the requests of a notebook

-- the cell of a request, if there is one
abbrev pub cell_at : Notebook → Task → ℕ → Option Cell
cell_at n task k = slice_get n.cells (cell_of task k)

-- the code of a cell
abbrev pub code_in : Option Cell → List ℕ
code_in None = []
code_in (Some c) = code c

-- an error in the cell doesn't stop the run (nbclient, the tag `raises-exception`)
abbrev pub may_raise : Option Cell → Bool
may_raise None = false
may_raise (Some c) = is_tagged (codes "raises-exception") c

-- a reply for a cell stops the run
abbrev pub stops_run : Ask → Bool → Content → Bool
stops_run a tagged (content.ExecReply reply) = not (is_allowed reply a.all_errors a.names tagged)
stops_run a tagged _ = false

-- ---- jobs

-- what is known of a job besides what it asks and its notebook
pub record Setting : Type 0 where
  pub number : ℕ
  pub inputs : List (List ℕ)
  pub turns : ℕ
  pub session : List ℕ
  pub key : List ℕ
  pub name_fault : Option (List ℕ)
  pub spec_fault : Option (List ℕ)

-- who speaks to the kernel, of the cells of a plan
abbrev pub speaker_of : Ask → Setting → Notebook → Task → Speaker
speaker_of a s n task = record {
  session = s.session;
  key = s.key;
  code = λ k. code_in (cell_at n task k);
  stop_on_error = λ k. not (a.all_errors || may_raise (cell_at n task k));
}

-- the job that has this notebook, this plan, and is given this
abbrev pub job_with : Ask → Setting → Notebook → Task → Given → Job
job_with a s n task given = record {
  number = s.number;
  input = a.input;
  inputs = s.inputs;
  output = a.output;
  given = given;
  name_fault = s.name_fault;
  spec_fault = s.spec_fault;
  task = task;
  heartbeat = a.heartbeat;
  fatal = λ k c. stops_run a (may_raise (cell_at n task k)) c;
  print = λ us settled stop. text_of (prefix a.merge us settled stop (prepared_notebook n));
  msg_id = message_id s.session;
  codec = jupyter_codec (speaker_of a s n task);
  turns = s.turns;
}

-- the task of a plan of a notebook
abbrev pub task_of : Ask → List ℕ → Notebook → Task
task_of a cells n = record {
  plan = cells;
  cells = length n.cells;
  times = record { start_ms = a.start_ms; limit_ms = a.limit_ms; interrupt = a.interrupt };
}

-- the job that runs a notebook
abbrev pub running_job : Ask → Setting → Notebook → Job
running_job a s n = job_with a s n (task_of a (plan n) n) Runs

-- the job that only prepares one: it is saved with its parameters, and nothing is run
abbrev pub preparing_job : Ask → Setting → Notebook → Job
preparing_job a s n = job_with a s n (task_of a [] n) (Prepares (text_of n))

-- the job by whether a notebook is only prepared
abbrev pub accepted_job : Ask → Setting → Notebook → Job
accepted_job a s n = if a.prepare then preparing_job a s n else running_job a s n

-- the exit status of bytes that give no notebook
abbrev pub refusal_status : LoadFault → ℕ
refusal_status (fault.NoTranslator language) = 5
refusal_status _ = 4

-- a job that has no notebook, by its status and what is said; whatever else it has doesn't count
pub record HasNoNotebook (a : Ask) (s : Setting) (status : ℕ) (text : List ℕ) (j : Job) : Type 0 where
  pub notebook : Notebook
  pub is : j ≡ job_with a s notebook (task_of a [] notebook) (Refuses status text)

-- The job of what is asked, by the answer of the read of its input, if there was one.
pub data IsJobOf (a : Ask) (s : Setting) : Option ReadFile → Job → Type 0 where
  unread : {j : Job} → HasNoNotebook a s 16 [] j → IsJobOf a s None j
  not_read : {j : Job} → HasNoNotebook a s 3 [] j → IsJobOf a s (Some found.Failed) j
  no_memory : {j : Job} → HasNoNotebook a s 12 [] j → IsJobOf a s (Some found.NoMemory) j
  too_large : {j : Job} → HasNoNotebook a s 4 (codes "too large") j → IsJobOf a s (Some found.Big) j
  refused : {bytes : List ℕ} {j : Job} (f : LoadFault) → RefusesBytes a bytes f → HasNoNotebook a s (refusal_status f) (reason f) j → IsJobOf a s (Some (found.Whole bytes)) j
  accepted : {bytes : List ℕ} {n : Notebook} → Accepts a bytes n → IsJobOf a s (Some (found.Whole bytes)) (accepted_job a s n)
