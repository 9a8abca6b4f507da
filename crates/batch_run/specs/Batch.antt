-- What a run makes of its jobs' outputs. A journal has its newest entry first.
use Rattle.std.specs.Prelude.{◌≡◌, ◌≢◌, ◌⊎◌, ◌≤◌, ◌+◌, ◌-◌, ◌^◌, min, ℕ, zero, suc, List, [], ◌∷◌, ◌++◌, Bool, true, false, Option, Some, None, IfSome, Result, Ok, Err, slice_get}
use Rattle.said_lines.specs.Speech.{Says}
use Rattle.nb_model.specs.declared.notebook.Notebook.{Notebook}
use Rattle.nb_load.specs.Loaded.{Accepts}
use Rattle.words.specs.declared.ask.Ask.{Ask}
use Rattle.world.specs.declared.entry.Entry.{Entry}
use Rattle.world.specs.declared.conn.Conn.{Conn}
use Rattle.world.specs.declared.entry.Entry.TheVariants.{Read}
use Rattle.world.specs.declared.entry.Entry.TheVariants as made
use Rattle.world.specs.declared.read_file.ReadFile.TheVariants as found
use Rattle.world.specs.Counts.{Counts, CountsGrow}
use Rattle.world.specs.Moments.{Since}
use Rattle.world.specs.Touched.{Spares}
use Rattle.save_course.specs.Course.{IsRested}
use Rattle.cell_core.specs.Task.{Task}
use Rattle.job_end.specs.declared.answer.Answer.{Answer}
use Rattle.job_saves.specs.Course.{Origin, Ends, LacksSaves}
use Rattle.job_run.specs.Run.{EndsWith, IsOther}
use Rattle.ready_loop.specs.Begins.{port_of}
use Rattle.ready_loop.specs.Standing.{AllShut, IsOfLoop}
use Rattle.job_journal.specs.Ended.{HasAnswered}
use Rattle.job_saves.specs.Calls.{Cast, IsCall}
use Rattle.job_saves.specs.Children.{has_child, ports_of}
use Rattle.job_saves.specs.Speaking.{IsAnswer, IsWhole}
use Rattle.job_saves.specs.Reads.{first_of}
use Rattle.job_begin.specs.Begun.{origin_of, counted_task, IsCausedIn, IsUnread, HasKernel}
use Rattle.job_begin.specs.Causes.{HasCause}
use Rattle.batch_run.specs.Owed.{Follows}

-- the job of each number, where the jobs of a run have the numbers from the first on
abbrev pub numbered : ℕ → List Ask → ℕ → Option Ask
numbered zero asks n = slice_get asks n
numbered (suc first) asks zero = None
numbered (suc first) asks (suc n) = numbered first asks n

-- the output of a job is no path of another one
abbrev pub IsApart : (ℕ → Option Ask) → ℕ → Ask → Type 0
IsApart asks i a = (k : ℕ) (b : Ask) → asks k ≡ Some b → k ≢ i → IsOther b.output a.output

-- a path that no job touches
abbrev pub IsNoPath : (ℕ → Option Ask) → List ℕ → Type 0
IsNoPath asks path = (k : ℕ) (b : Ask) → asks k ≡ Some b → IsOther b.output path

-- the answer of a job, which there is where memory wasn't refused
abbrev pub answer_at : {E : Type 0} → ℕ → Result (List Answer) E → Option Answer
answer_at i (Ok answers) = slice_get answers i
answer_at i (Err e) = None

-- a job that began so has ended, by memory that was refused to it or to another
pub record HasStopped (o : Origin) (journal : Option (List Entry)) (counts : Counts) : Type 0 where
  pub is_open : Bool
  pub ends : Ends o is_open journal counts

-- a job that began so has ended, with an answer where there is one
abbrev pub EndsBy : Origin → Option Task → Option Answer → Option (List Entry) → Counts → Type 0
EndsBy o task (Some answer) journal counts = EndsWith o task answer journal counts
EndsBy o task None journal counts = HasStopped o journal counts

-- the answer of a job whose input gave no notebook says so
abbrev pub EndsUnread : Ask → Option Answer → List Entry → List Entry → Type 0
EndsUnread a answer before after = IfSome answer (λ x. IsUnread a x.status before after)

-- the answer of a job with this first notebook names a cause only where events stop its core for it, and 5 only where no kernel
-- was found
abbrev pub EndsRead : Ask → Notebook → Option Answer → List Entry → List Entry → Type 0
EndsRead a first answer before after = IfSome answer (λ x. IsCausedIn a first x.status × HasKernel a first x.status before after)

-- The job of this number has ended with an answer, and so it has by the journal, for each plot that it can have. Nothing had happened to the job
-- before.
abbrev pub EndsFollowing : ℕ → Ask → Notebook → Option Answer → List Entry → List Entry → Type 0
EndsFollowing i a n answer before after = IfSome answer (λ x. Follows i a n before after (λ p. HasAnswered p x after))

-- What a run makes of a job's output: it isn't touched; or from some moment on, before which it wasn't touched, the input
-- was read, its bytes give the notebook with its parameters, the saves since are a course of its prefixes, and there are events
-- that stop its core for the cause that its answer names. Where all connections were closed before, it has ended by the journal with its
-- answer.
pub data Makes (i : ℕ) (a : Ask) (answer : Option Answer) (old new : Counts) (before : List Entry) : List Entry → Type 0 where
  nothing : {after : List Entry} → EndsUnread a answer before after → Since (Spares a.output) before after → Makes i a answer old new before after
  saves : (bytes : List ℕ) (n : Notebook) (begin : List Entry) (then : Counts) (later : List Entry) {after : List Entry} → Accepts a bytes n
      → EndsRead a (first_of a n) answer (Read a.input 33554432 (found.Whole bytes) ∷ begin) after → Since (Spares a.output) before begin → CountsGrow old then
      → after ≡ later ++ Read a.input 33554432 (found.Whole bytes) ∷ begin
      → EndsBy (origin_of a n begin then) (counted_task a (first_of a n)) answer (Some after) new
      → (AllShut before → EndsFollowing i a n answer before after) → Makes i a answer old new before after

-- what a run makes of the output of each job, where that is no path of another job and no rename onto it waited for its folder's
-- sync
abbrev pub MakesEach : {E : Type 0} → ℕ → List Ask → Result (List Answer) E → Counts → Counts → List Entry → List Entry → Type 0
MakesEach first asks result old new before after = (i : ℕ) (a : Ask) → slice_get asks i ≡ Some a → IsApart (numbered 0 asks) i a → IsRested a.output before
    → Makes (first + i) a (answer_at i result) old new before after

-- The answer of a job is that of an end. Its statuses 3, 6, 10 and 14 come only where a count of failed calls rose.
pub record IsEndOf (a : Ask) (old new : Counts) (answer : Answer) : Type 0 where
  pub is : IsAnswer a.output answer
  pub cause : HasCause old new answer.status

-- each answer of a run is that of an end of its job
abbrev pub AreEnds : List Ask → Counts → Counts → List Answer → Type 0
AreEnds asks old new answers = (i : ℕ) (a : Ask) (answer : Answer) → slice_get asks i ≡ Some a → slice_get answers i ≡ Some answer → IsEndOf a old new answer

-- A line was said since a moment, up to where a say failed.
pub record HasSaid (line : List ℕ) (failed : Type 0) (before after : List Entry) : Type 0 where
  pub earlier : List Entry
  pub said : List Entry
  pub later : List Entry
  pub says : Says line failed (earlier ++ before) said
  pub split : after ≡ later ++ said

-- the last line of each job was said
pub record AreSaid (asks : List Ask) (answers : List Answer) (failed : Type 0) (before after : List Entry) : Type 0 where
  pub each : (i : ℕ) (a : Ask) (answer : Answer) → slice_get asks i ≡ Some a → slice_get answers i ≡ Some answer → HasSaid answer.line failed before after

-- the count of waits is at least this number, or stands at the last value of a `u64`
abbrev pub HasWaited : ℕ → Counts → Type 0
HasWaited most counts = min most (2 ^ 64 - 1) ≤ counts.waits

-- 16 comes only where a run has made all of its waits
abbrev pub EndSpent : ℕ → Counts → Counts → List Answer → Type 0
EndSpent turns old new answers = (i : ℕ) (answer : Answer) → slice_get answers i ≡ Some answer → answer.status ≡ 16 → HasWaited (old.waits + turns) new

-- every path that is no job's is left alone
abbrev pub LeavesOthers : List Ask → List Entry → List Entry → Type 0
LeavesOthers asks before after = (path : List ℕ) → IsNoPath (numbered 0 asks) path → Since (Spares path) before after

-- the jobs of a run by their numbers, in this working folder, which may start their children, and whether they began clean
abbrev pub cast_of : (ℕ → Option Ask) → List ℕ → Bool → Cast
cast_of asks here clean = record { job = asks; here = here; starts = true; clean = clean }

-- the jobs of a run begin clean: what was heard ends with a whole line, no child of their numbers is there, no ports were asked
-- for these, no save of an output was acknowledged, and no job writes to the output of another one
pub record IsClean (asks : ℕ → Option Ask) (before : List Entry) : Type 0 where
  pub whole : IsWhole before
  pub childless : (i : ℕ) (a : Ask) → asks i ≡ Some a → has_child i before ≡ false
  pub portless : (i : ℕ) (a : Ask) → asks i ≡ Some a → ports_of i before ≡ None
  pub lacks : (i : ℕ) (a : Ask) → asks i ≡ Some a → LacksSaves a.output before
  pub apart : (i : ℕ) (a : Ask) → asks i ≡ Some a → IsApart asks i a

-- a port is that of a connection: of the ports that were given for its job, that of its channel
pub record HasPort (conn : Conn) (port : ℕ) (past : List Entry) : Type 0 where
  pub ports : List ℕ
  pub given : ports_of conn.job past ≡ Some ports
  pub is : port ≡ port_of ports conn.chan

-- where the newest entry is a connect, it is on the port of its connection
abbrev pub IsOnPort : List Entry → Type 0
IsOnPort [] = ⊥
IsOnPort (made.Connected conn port how ∷ past) = HasPort conn port past
IsOnPort (_ ∷ past) = Unit {0}

-- the newest entry is a call of the loop; where the run began clean, a connect is on the port of its connection
pub record IsLoopCall (clean : Bool) (now : List Entry) : Type 0 where
  pub is : IsOfLoop now
  pub on_port : clean ≡ true → IsOnPort now

-- the newest entry is a call of one of the jobs, or of the loop
abbrev pub IsRunCall : Cast → List Entry → Type 0
IsRunCall c now = IsCall c now ⊎ IsLoopCall c.clean now

-- each call since is one of the jobs or of the loop; where the run began `clean`, lines are said whole and with the numbers of
-- their saves, and a child is started only where none is there
abbrev pub CallsOfJobs : (ℕ → Option Ask) → List ℕ → Bool → List Entry → List Entry → Type 0
CallsOfJobs asks here clean before after = Since (IsRunCall (cast_of asks here clean)) before after

-- the calls of a run, which began clean or not
abbrev pub CallsOfRun : (ℕ → Option Ask) → List ℕ → List Entry → List Entry → Type 0
CallsOfRun asks here before after = (clean : Bool) → (clean ≡ true → IsClean asks before) → CallsOfJobs asks here clean before after

-- each child that was started has its end
abbrev pub EndsChildren : (ℕ → Option Ask) → List Entry → List Entry → Type 0
EndsChildren asks before after = (i : ℕ) (a : Ask) → asks i ≡ Some a → has_child i before ≡ false → has_child i after ≡ false
