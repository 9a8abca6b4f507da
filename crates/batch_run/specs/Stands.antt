-- How the jobs of a run stand while it lasts.
use Rattle.std.specs.Prelude.{◌≡◌, ◌≢◌, ◌⊎◌, ℕ, zero, suc, Bool, true, false, ◌==◌, ◌||◌, ◌+◌, ◌-◌, ◌<◌, ◌≤◌, List, [], ◌∷◌, length, Option, Some, None, Result, Ok, Err, slice_get, slice_set, IfSome}
use Rattle.nb_model.specs.declared.notebook.Notebook.{Notebook}
use Rattle.nb_load.specs.Loaded.{Accepts}
use Rattle.words.specs.declared.ask.Ask.{Ask}
use Rattle.world.specs.declared.entry.Entry.{Entry}
use Rattle.world.specs.declared.entry.Entry.TheVariants.{Read}
use Rattle.world.specs.declared.read_file.ReadFile.TheVariants as found
use Rattle.world.specs.Counts.{Counts, CountsGrow, Rose}
use Rattle.world.specs.Moments.{Since, Told}
use Rattle.world.specs.Touched.{Spares}
use Rattle.words.specs.Paths.{connection_of}
use Rattle.save_course.specs.Course.{IsRested}
use Rattle.cell_core.specs.Task.{Task}
use Rattle.world.specs.declared.conn.Conn.{Conn}
use Rattle.world.specs.Places.{place_of, time}
use Rattle.world.specs.declared.chan.Chan.{Chan}
use Rattle.world.specs.declared.chan.Chan.TheVariants.{Iopub}
use Rattle.kernel_lines.specs.Line.{taken_of}
use Rattle.ready_loop.specs.declared.readiness.Loop.{Loop}
use Rattle.ready_loop.specs.declared.next.Next.{Next}
use Rattle.ready_loop.specs.History.{History, conn_on}
use Rattle.ready_loop.specs.Standing.{AllShut, StandsFor, put_at}
use Rattle.ready_loop.specs.Wires.{ports_in}
use Rattle.ready_loop.specs.Offers.{Extends}
use Rattle.job_end.specs.declared.answer.Answer.{Answer}
use Rattle.job_notebook.specs.State.{output_of}
use Rattle.job_saves.specs.Children.{KeepsEnd, HasEnd, AsksNone}
use Rattle.job_saves.specs.Speaking.{IsAnswer, SpeaksWhole}
use Rattle.job_saves.specs.Course.{Origin, LacksSaves, TellsAll}
use Rattle.job_saves.specs.Reads.{first_of}
use Rattle.job_run.specs.declared.job.Job.{Job}
use Rattle.job_run.specs.Due.{WantsLook}
use Rattle.job_run.specs.Run.{Runs, RunsCounted, EndsWith, IsLost, IsSpent, number_of, outcome_of, HasPorts}
use Rattle.job_run.specs.Queues.{NotesTaken, line_of}
use Rattle.job_run.specs.Task.{task_for, task_of_job, output_of_job}
use Rattle.job_begin.specs.Begun.{origin_of, counted_task, IsCausedIn, IsUnread, HasKernel}
use Rattle.batch_run.specs.declared.slot.Slot.{Slot}
use Rattle.batch_run.specs.declared.slot.Slot.TheVariants.{Waiting, Running, Ended}
use Rattle.batch_run.specs.declared.fault.Fault.{Fault}
use Rattle.batch_run.specs.Batch.{IsApart, IsEndOf, HasSaid, HasWaited, CallsOfJobs, HasPort}
use Rattle.batch_run.specs.declared.lines.Lines.{Lines}
use Rattle.batch_run.specs.Due.{is_slot_over}
use Rattle.batch_run.specs.Lines.{waits_of}
use Rattle.batch_run.specs.Owed.{Owed, owed_to, may_wait, after_begin, after_read, after_turn, AreClosed, Served, SlotFollows, StaysFresh}
use Rattle.batch_run.specs.Owed.{none, begins, first_clock, unknown}
use Rattle.job_turns.specs.OwedTo.{OwedTo, is_open}
use Rattle.said_lines.specs.Speech.{Says}
use Rattle.batch_run.specs.Kept.{FaultCause}

-- What a run begins with: how many numbers are taken, those of jobs that ran before it among them, its working folder, the counts
-- of its world, and whether it begins clean. Besides, what it has come to: the count of waits by now, and at most, the connections, and
-- what is still to be told. Of a job that has just ended, that is still to be said.
pub record Outset : Type 0 where
  pub size : ℕ
  pub here : List ℕ
  pub counts : Counts
  pub waits : ℕ
  pub most : ℕ
  pub clean : Bool
  pub loop : Loop  -- the connections by now
  pub owed : Owed  -- what is still to be told to the jobs by now
  pub hushed : ℕ → Bool  -- the jobs of which it is still to be said how they ended

-- the ports that the loop keeps by now for its connections, by places
abbrev pub wires_of : Outset → List (Option ℕ)
wires_of from = ports_in from.loop

-- the outset with this still to be told
abbrev pub owing : Owed → Outset → Outset
owing o from = record from { owed = o }

-- the outset with these connections, and with this still to be told
abbrev pub served_by : Owed → Loop → Outset → Outset
served_by o l from = record from { loop = l; owed = o }

-- the outset where it is still to be said how this job ended
abbrev pub hush : ℕ → Outset → Outset
hush k from = record from { hushed = λ i. (i == k) || from.hushed i }

-- each port that is kept is that of its connection
pub record AreWired (wires : List (Option ℕ)) (past : List Entry) : Type 0 where
  pub each : (conn : Conn) (port : ℕ) → slice_get wires (place_of conn) ≡ Some (Some port) → HasPort conn port past

-- the outset after so many more waits
abbrev pub more_waits : ℕ → Outset → Outset
more_waits n from = record from { waits = from.waits + n }

-- a job that runs has the number and the paths of the one that was asked for
pub record PlaysRole (number : ℕ) (a : Ask) (j : Job) : Type 0 where
  pub number_is : number_of j ≡ number
  pub output : output_of j.run.book ≡ a.output
  pub connection : j.paths.connection ≡ connection_of a.output
  pub folder : j.paths.cwd ≡ a.cwd

-- the job in a slot, where one runs, has the number and the paths of the one that was asked for
abbrev pub SlotPlays : ℕ → Ask → Slot → Type 0
SlotPlays number a Waiting = Unit {0}
SlotPlays number a (Running j) = PlaysRole number a j
SlotPlays number a (Ended answer) = Unit {0}

-- where the job of a slot doesn't run, no child of it was left without its end since the start
abbrev pub SlotEnds : ℕ → Slot → Option (List Entry) → Option (List Entry) → Type 0
SlotEnds number Waiting start journal = KeepsEnd number start journal
SlotEnds number (Running j) start journal = Unit {0}
SlotEnds number (Ended answer) start journal = KeepsEnd number start journal

-- a job that began so is on its course, or has ended
abbrev pub SlotRuns : Origin → Option Task → Slot → Option (List Entry) → Counts → Type 0
SlotRuns o task Waiting journal counts = ⊥
SlotRuns o task (Running j) journal counts = Runs o j journal counts
SlotRuns o task (Ended answer) journal counts = EndsWith o task answer journal counts

-- its core executes the cells of the notebook that is first saved, or it has ended by such a cause
abbrev pub SlotTask : Ask → Notebook → Slot → Type 0
SlotTask a first Waiting = Unit {0}
SlotTask a first (Running j) = task_of_job j ≡ task_for a first
SlotTask a first (Ended answer) = IsCausedIn a first answer.status

-- the job of a slot has ended with 5 only where no kernel was found for it
abbrev pub SlotKernel : Ask → Notebook → Slot → List Entry → List Entry → Type 0
SlotKernel a first Waiting before past = Unit {0}
SlotKernel a first (Running j) before past = Unit {0}
SlotKernel a first (Ended answer) before past = HasKernel a first answer.status before past

-- What stands of a job that runs by the counts alone. It has ended by the network only where the count of its failed calls
-- rose, and by the number of waits only where all were made.
pub record JobCounted (a : Ask) (from : Counts) (most : ℕ) (j : Job) (journal : Option (List Entry)) (counts : Counts) : Type 0 where
  pub output : output_of_job j ≡ a.output
  pub runs : RunsCounted from j journal counts
  pub lost : IsLost (outcome_of j) → Rose from.net counts.net
  pub spent : IsSpent (outcome_of j) → HasWaited most counts

-- what stands of one that has ended
pub record EndCounted (a : Ask) (from : Counts) (most : ℕ) (answer : Answer) (counts : Counts) : Type 0 where
  pub is : IsEndOf a from counts answer
  pub spent : answer.status ≡ 16 → HasWaited most counts

-- what stands of a job by the counts alone, whatever the world tells
abbrev pub SlotCounted : Ask → Counts → ℕ → Slot → Option (List Entry) → Counts → Type 0
SlotCounted a from most Waiting journal counts = Unit {0}
SlotCounted a from most (Running j) journal counts = JobCounted a from most j journal counts
SlotCounted a from most (Ended answer) journal counts = EndCounted a from most answer counts

-- How the job of this number stands in a run. Where all connections were closed before the run, it stands for the journal besides, but for
-- what it is still to be told.
pub data Stands (o : OwedTo) (i : ℕ) (a : Ask) (from : Counts) (before past : List Entry) (counts : Counts) (slot : Slot) : Type 0 where
  waits : slot ≡ Waiting → Since (Spares a.output) before past → (AllShut before → StaysFresh o i a before past) → Stands o i a from before past counts slot
  spared : (answer : Answer) → slot ≡ Ended answer → IsUnread a answer.status before past → Since (Spares a.output) before past → Stands o i a from before past counts slot
  begun : (bytes : List ℕ) (n : Notebook) (begin : List Entry) (then : Counts) → Accepts a bytes n
      → Since (Spares a.output) before begin → CountsGrow from then
      → Extends (Read a.input 33554432 (found.Whole bytes) ∷ begin) past → SlotTask a (first_of a n) slot
      → SlotKernel a (first_of a n) slot (Read a.input 33554432 (found.Whole bytes) ∷ begin) past
      → SlotRuns (origin_of a n begin then) (counted_task a (first_of a n)) slot (Some past) counts
      → (AllShut before → SlotFollows o i a n slot before past) → Stands o i a from before past counts slot

-- a job that has not begun has no child, has asked for no ports, and no save of it was acknowledged
pub record IsIdle (number : ℕ) (a : Ask) (journal : Option (List Entry)) : Type 0 where
  pub childless : HasEnd number journal
  pub portless : AsksNone number journal
  pub lacks : IfSome journal (LacksSaves a.output)

-- the saves of a job that runs were told by their lines
abbrev pub SlotTells : Ask → Slot → Option (List Entry) → Counts → Type 0
SlotTells a Waiting journal counts = Unit {0}
SlotTells a (Running j) journal counts = TellsAll a j.run.book journal counts
SlotTells a (Ended answer) journal counts = Unit {0}

-- a job has ended
abbrev pub HasEnded : Slot → Type 0
HasEnded Waiting = ⊥
HasEnded (Running j) = ⊥
HasEnded (Ended answer) = Unit {0}

-- Of each job that has ended its line was said, or is still to be said. Where memory was refused, nothing is known of it.
abbrev pub EndsSaid : (ℕ → Option Ask) → Option (List Entry) → Outset → List Slot → Option (List Entry) → Counts → Type 0
EndsSaid asks start from slots journal counts = (from.owed ≡ unknown → ⊥) → (before past : List Entry) → start ≡ Some before → journal ≡ Some past
    → (i : ℕ) (a : Ask) (answer : Answer) → from.hushed i ≡ false → asks i ≡ Some a → slice_get slots i ≡ Some (Ended answer) → HasSaid answer.line (0 < counts.say) before past

-- how all do, since a world was in this state; a number that is no job's is one of a job that ran before
pub record AllStand (asks : ℕ → Option Ask) (start : Option (List Entry)) (from : Outset) (slots : List Slot) (journal : Option (List Entry)) (counts : Counts) : Type 0 where
  pub size : length slots ≡ from.size
  pub asked : (i : ℕ) (slot : Slot) → slice_get slots i ≡ Some slot → HasEnded slot ⊎ ((a : Ask) × (asks i ≡ Some a))
  pub grow : CountsGrow from.counts counts
  pub waits : counts.waits ≤ from.waits
  pub waited : HasWaited from.waits counts
  pub told : Told start journal Extends
  pub calls : Told start journal (CallsOfJobs asks from.here from.clean)
  pub spoken : from.clean ≡ true → SpeaksWhole journal counts
  pub idle : from.clean ≡ true → (i : ℕ) (a : Ask) → asks i ≡ Some a → slice_get slots i ≡ Some Waiting → IsIdle i a journal
  pub apart : from.clean ≡ true → (i : ℕ) (a : Ask) → asks i ≡ Some a → IsApart asks i a
  pub tells : from.clean ≡ true → (i : ℕ) (a : Ask) (slot : Slot) → asks i ≡ Some a → slice_get slots i ≡ Some slot → SlotTells a slot journal counts
  pub wired : from.clean ≡ true → IfSome journal (AreWired (wires_of from))
  pub few : length slots ≤ 16
  pub plays : (i : ℕ) (a : Ask) (slot : Slot) → asks i ≡ Some a → slice_get slots i ≡ Some slot → SlotPlays i a slot
  pub ends : (i : ℕ) (a : Ask) (slot : Slot) → asks i ≡ Some a → slice_get slots i ≡ Some slot → SlotEnds i slot start journal
  pub counted : (i : ℕ) (a : Ask) (slot : Slot) → asks i ≡ Some a → slice_get slots i ≡ Some slot → SlotCounted a from.counts from.most slot journal counts
  pub each : (before past : List Entry) → start ≡ Some before → journal ≡ Some past
      → (i : ℕ) (a : Ask) (slot : Slot) → asks i ≡ Some a → slice_get slots i ≡ Some slot
      → IsApart asks i a → IsRested a.output before → Stands (owed_to from.owed i) i a from.counts before past counts slot
  pub served : (before past : List Entry) → start ≡ Some before → journal ≡ Some past → AllShut before → Served asks from.owed from.loop slots past
  pub said : EndsSaid asks start from slots journal counts

-- the slots of all jobs but this one stay as they were
abbrev pub KeepsOthers : ℕ → List Slot → List Slot → Type 0
KeepsOthers number was now = (k : ℕ) → k ≢ number → slice_get now k ≡ slice_get was k

-- at most one job's slot has changed
abbrev pub ChangesOne : List Slot → List Slot → Type 0
ChangesOne was now = (number : ℕ) × KeepsOthers number was now

-- a slot runs a job
abbrev pub is_slot_running : Option Slot → Bool
is_slot_running (Some (Running j)) = true
is_slot_running _ = false

-- at most the slot of this job has changed, which runs where it did
pub record ChangesAt (number : ℕ) (was now : List Slot) : Type 0 where
  pub size : length now ≡ length was
  pub others : KeepsOthers number was now
  pub runs : is_slot_running (slice_get now number) ≡ is_slot_running (slice_get was number)

-- no slot runs a job of which it stands how it ended
pub record NoneOver (slots : List Slot) : Type 0 where
  pub each : (i : ℕ) → is_slot_over (slice_get slots i) ≡ false

-- nor does one below this number
pub record NoneOverBelow (n : ℕ) (slots : List Slot) : Type 0 where
  pub each : (i : ℕ) → i < n → is_slot_over (slice_get slots i) ≡ false

-- the newest entries say this line, up to where a say failed
pub record EndsSaying (line : List ℕ) (failed : Type 0) (after : List Entry) : Type 0 where
  pub begin : List Entry
  pub says : Says line failed begin after

-- they say how the job of a slot has ended
abbrev pub SaysEndOf : Option Slot → Type 0 → List Entry → Type 0
SaysEndOf (Some (Ended answer)) failed after = EndsSaying answer.line failed after
SaysEndOf _ failed after = ⊥

-- a job that has begun runs, or has ended
abbrev pub slot_of : Result Job Answer → Slot
slot_of (Ok j) = Running j
slot_of (Err answer) = Ended answer

-- ---- calls

-- calls keep all jobs standing; this was still to be told before them, and that is after them
abbrev pub KeepsOwed : {W : Type 0} → (W → Option (List Entry)) → (W → Counts) → W → W → Owed → Owed → List Slot → List Slot → Type 0
KeepsOwed journal counts old new owed rest was now = (asks : ℕ → Option Ask) (start : Option (List Entry)) (from : Outset)
    → AllStand asks start (owing owed from) was (journal old) (counts old) → AllStand asks start (owing rest from) now (journal new) (counts new)

-- calls that end the job of this number, of which the connections are closed, keep all jobs standing
abbrev pub FinishesAll : {W : Type 0} → (W → Option (List Entry)) → (W → Counts) → W → W → ℕ → List Slot → List Slot → Type 0
FinishesAll journal counts old new number was now = (asks : ℕ → Option Ask) (start : Option (List Entry)) (from : Outset)
    → may_wait from.owed ≡ true → AreClosed from.loop number
    → AllStand asks start from was (journal old) (counts old) → AllStand asks start from now (journal new) (counts new)

-- calls that end the job of this number without a word keep all jobs standing, where memory was refused
abbrev pub StopsAll : {W : Type 0} → (W → Option (List Entry)) → (W → Counts) → W → W → ℕ → List Slot → List Slot → Type 0
StopsAll journal counts old new number was now = (asks : ℕ → Option Ask) (start : Option (List Entry)) (from : Outset)
    → from.owed ≡ unknown → AreClosed from.loop number
    → AllStand asks start from was (journal old) (counts old) → AllStand asks start from now (journal new) (counts new)

-- Calls of the loop or of a job keep all jobs standing, with the connections. This was still to be told before them, and that is after them.
abbrev pub KeepsLines : {W : Type 0} → (W → Option (List Entry)) → (W → Counts) → W → W → Owed → Owed → Loop → Loop → List Slot → List Slot → Type 0
KeepsLines journal counts old new owed rest kept keeps was now = (asks : ℕ → Option Ask) (start : Option (List Entry)) (from : Outset)
    → AllStand asks start (served_by owed kept from) was (journal old) (counts old)
    → AllStand asks start (served_by rest keeps from) now (journal new) (counts new)

-- so do these where there is such a cause since the outset
abbrev pub KeepsLinesIf : (Outset → Counts → Type 0) → {W : Type 0} → (W → Option (List Entry)) → (W → Counts) → W → W → Owed → Owed → Loop → Loop → List Slot → List Slot → Type 0
KeepsLinesIf why journal counts old new owed rest kept keeps was now = (asks : ℕ → Option Ask) (start : Option (List Entry)) (from : Outset) → why from (counts old)
    → AllStand asks start (served_by owed kept from) was (journal old) (counts old)
    → AllStand asks start (served_by rest keeps from) now (journal new) (counts new)

-- Calls that wait keep all jobs standing, with as many more waits as were used up. Nothing is still to be told before them.
abbrev pub KeepsWaiting : {W : Type 0} → (W → Option (List Entry)) → (W → Counts) → W → W → Owed → Lines → Lines → List Slot → List Slot → Type 0
KeepsWaiting journal counts old new rest kept keeps was now = (asks : ℕ → Option Ask) (start : Option (List Entry)) (from : Outset)
    → from.waits + waits_of kept ≡ from.most → AllStand asks start (served_by none kept.connections from) was (journal old) (counts old)
    → AllStand asks start (served_by rest keeps.connections (more_waits (waits_of kept - waits_of keeps) from)) now (journal new) (counts new)

-- What calls nothing of the world keeps all jobs standing, where nothing is still to be told.
abbrev pub StayAll : List Slot → List Slot → Type 0
StayAll was now = (asks : ℕ → Option Ask) (start : Option (List Entry)) (from : Outset) (journal : Option (List Entry)) (counts : Counts)
    → AllStand asks start (owing none from) was journal counts → AllStand asks start (owing none from) now journal counts

-- What calls nothing of the world, and changes the job of this number alone, keeps all jobs standing. That job isn't owed the clock of a turn
-- or a piece.
abbrev pub StayAt : ℕ → List Slot → List Slot → Type 0
StayAt number was now = (asks : ℕ → Option Ask) (start : Option (List Entry)) (from : Outset) (journal : Option (List Entry)) (counts : Counts)
    → is_open (owed_to from.owed number) ≡ true → AllStand asks start from was journal counts → AllStand asks start from now journal counts

-- The clock stood at this moment, and the job of this number is told so. It was the first to which that was still to be told.
abbrev pub ReadsClock : ℕ → ℕ → List Slot → List Slot → Type 0
ReadsClock number ms was now = (asks : ℕ → Option Ask) (start : Option (List Entry)) (from : Outset) (journal : Option (List Entry)) (counts : Counts)
    → IfSome journal (λ past. time past ≡ ms) → AllStand asks start (owing (first_clock number) from) was journal counts
    → AllStand asks start (owing (first_clock (suc number)) from) now journal counts

-- what only queues octets of the job of this number keeps all jobs standing
abbrev pub StayLinesAt : ℕ → Loop → Loop → List Slot → List Slot → Type 0
StayLinesAt number kept keeps was now = (asks : ℕ → Option Ask) (start : Option (List Entry)) (from : Outset) (owed : Owed) (journal : Option (List Entry)) (counts : Counts)
    → is_open (owed_to owed number) ≡ true → AllStand asks start (served_by owed kept from) was journal counts
    → AllStand asks start (served_by owed keeps from) now journal counts

-- what only queues octets keeps all jobs standing, where nothing is still to be told
abbrev pub StayLines : Loop → Loop → List Slot → List Slot → Type 0
StayLines kept keeps was now = (asks : ℕ → Option Ask) (start : Option (List Entry)) (from : Outset) (journal : Option (List Entry)) (counts : Counts)
    → AllStand asks start (served_by none kept from) was journal counts → AllStand asks start (served_by none keeps from) now journal counts

-- where this cause has come since the outset, the change of one job keeps all standing
abbrev pub StayAtIf : (Outset → Counts → Type 0) → ℕ → List Slot → List Slot → Type 0
StayAtIf why number was now = (asks : ℕ → Option Ask) (start : Option (List Entry)) (from : Outset) (journal : Option (List Entry)) (counts : Counts)
    → why from counts → is_open (owed_to from.owed number) ≡ true → AllStand asks start from was journal counts → AllStand asks start from now journal counts

-- where this cause has come since the outset, the change keeps all jobs standing, where nothing is still to be told
abbrev pub StayAllIf : (Outset → Counts → Type 0) → List Slot → List Slot → Type 0
StayAllIf why was now = (asks : ℕ → Option Ask) (start : Option (List Entry)) (from : Outset) (journal : Option (List Entry)) (counts : Counts)
    → why from counts → AllStand asks start (owing none from) was journal counts → AllStand asks start (owing none from) now journal counts

-- the jobs that run have ended as they had
pub record SameOver (was now : List Slot) : Type 0 where
  pub each : (i : ℕ) → is_slot_over (slice_get now i) ≡ is_slot_over (slice_get was i)

-- Each job that runs knows how many octets were taken of its connection for IOPub. As many were put on it, by each journal for which the loop
-- stands.
pub record AreTaken (l : Loop) (slots : List Slot) : Type 0 where
  pub each : (i : ℕ) (j : Job) → slice_get slots i ≡ Some (Running j) → (h : History) (journal : List Entry) → StandsFor l h journal
      → taken_of (line_of j Iopub) ≡ length (put_at h journal (place_of (conn_on i Iopub)))

-- no job that runs wants a last look
pub record NoneWantsLook (slots : List Slot) : Type 0 where
  pub each : (i : ℕ) (j : Job) → slice_get slots i ≡ Some (Running j) → WantsLook j false

-- the job in a slot was told that so many octets of a channel were taken, and ran before
pub record NotesAt (chan : Chan) (count : ℕ) (was : Option Slot) (j : Job) : Type 0 where
  pub job : Job
  pub ran : was ≡ Some (Running job)
  pub notes : NotesTaken chan count job j

-- where a slot runs a job, it was told that so many octets of a channel were taken
abbrev pub SlotNotes : Chan → ℕ → Option Slot → Option Slot → Type 0
SlotNotes chan count was now = (j : Job) → now ≡ Some (Running j) → NotesAt chan count was j

-- a call of the network has failed since the outset
abbrev pub IsCutOff : Outset → Counts → Type 0
IsCutOff from counts = Rose from.counts.net counts.net

-- all waits of the run were made
abbrev pub IsOutOfWaits : Outset → Counts → Type 0
IsOutOfWaits from counts = HasWaited from.most counts

-- what a fault ends has such a cause
abbrev pub IsFaultOf : Fault → Outset → Counts → Type 0
IsFaultOf f from counts = FaultCause from.counts counts (IsOutOfWaits from counts) f

-- calls of the loop that touch no path keep all jobs standing, whatever is still to be told
abbrev pub KeepsEach : {W : Type 0} → (W → Option (List Entry)) → (W → Counts) → W → W → Loop → Loop → Type 0
KeepsEach journal counts old new kept keeps = (asks : ℕ → Option Ask) (start : Option (List Entry)) (from : Outset) (slots : List Slot)
    → may_wait from.owed ≡ true → AllStand asks start (served_by from.owed kept from) slots (journal old) (counts old)
    → AllStand asks start (served_by from.owed keeps from) slots (journal new) (counts new)

-- A read of the loop that was answered so, with what the buffer then has. No job is over, and nothing is still to be told before it.
abbrev pub KeepsReading : {W E : Type 0} → (W → Option (List Entry)) → (W → Counts) → W → W → Result Next E → List ℕ → Loop → Loop → Type 0
KeepsReading journal counts old new result buffer kept keeps = (asks : ℕ → Option Ask) (start : Option (List Entry)) (from : Outset) (slots : List Slot)
    → NoneOver slots → AllStand asks start (served_by none kept from) slots (journal old) (counts old)
    → AllStand asks start (served_by (after_read result buffer) keeps from) slots (journal new) (counts new)

-- Calls that begin the connections of a job that runs, on ports that were given for it, keep all jobs standing while jobs begin.
abbrev pub KeepsBegun : {W U E : Type 0} → (W → Option (List Entry)) → (W → Counts) → W → W → Result U E → ℕ → List ℕ → Loop → Loop → Type 0
KeepsBegun journal counts old new result job ports kept keeps = (asks : ℕ → Option Ask) (start : Option (List Entry)) (from : Outset) (slots : List Slot)
    → (from.clean ≡ true → HasPorts job ports (journal old)) → is_slot_running (slice_get slots job) ≡ true
    → AllStand asks start (served_by (begins job) kept from) slots (journal old) (counts old)
    → AllStand asks start (served_by (after_begin result job) keeps from) slots (journal new) (counts new)

-- a last look of the loop keeps all jobs standing
abbrev pub KeepsLooking : {W : Type 0} → (W → Option (List Entry)) → (W → Counts) → W → W → Lines → Lines → Type 0
KeepsLooking journal counts old new kept keeps = (asks : ℕ → Option Ask) (start : Option (List Entry)) (from : Outset) (slots : List Slot)
    → AllStand asks start (served_by none kept.connections from) slots (journal old) (counts old)
    → AllStand asks start (served_by none keeps.connections (more_waits (waits_of kept - waits_of keeps) from)) slots (journal new) (counts new)

-- A turn of the loop that was answered so keeps all jobs standing; then its clock is to be told. No job is over or wants a last look, and each
-- knows how many of its octets were taken.
abbrev pub KeepsTurning : {W E : Type 0} → (W → Option (List Entry)) → (W → Counts) → W → W → Result ℕ E → Lines → Lines → Type 0
KeepsTurning journal counts old new result kept keeps = (asks : ℕ → Option Ask) (start : Option (List Entry)) (from : Outset) (slots : List Slot)
    → NoneOver slots → AreTaken kept.connections slots → NoneWantsLook slots
    → AllStand asks start (served_by none kept.connections from) slots (journal old) (counts old)
    → AllStand asks start (served_by (after_turn result) keeps.connections (more_waits (waits_of kept - waits_of keeps) from)) slots (journal new) (counts new)

-- calls of the job in one slot keep all standing; this was still to be told before them, and that is after them
abbrev pub SlotKeeps : {W : Type 0} → (W → Option (List Entry)) → (W → Counts) → W → W → (ℕ → Owed) → (ℕ → Owed) → Slot → Slot → Type 0
SlotKeeps journal counts old new owed rest was now = (asks : ℕ → Option Ask) (start : Option (List Entry)) (from : Outset) (slots : List Slot) (k : ℕ)
    → slice_get slots k ≡ Some was → AllStand asks start (owing (owed k) from) slots (journal old) (counts old)
    → AllStand asks start (owing (rest k) from) (slice_set slots k now) (journal new) (counts new)

-- calls that end the job in one slot, of which the connections are closed, keep all standing
abbrev pub SlotFinishes : {W : Type 0} → (W → Option (List Entry)) → (W → Counts) → W → W → Slot → Slot → Type 0
SlotFinishes journal counts old new was now = (asks : ℕ → Option Ask) (start : Option (List Entry)) (from : Outset) (slots : List Slot) (k : ℕ)
    → may_wait from.owed ≡ true → AreClosed from.loop k → slice_get slots k ≡ Some was → AllStand asks start from slots (journal old) (counts old)
    → AllStand asks start from (slice_set slots k now) (journal new) (counts new)

-- calls that end the job in one slot without a word keep all standing, where memory was refused
abbrev pub SlotStops : {W : Type 0} → (W → Option (List Entry)) → (W → Counts) → W → W → Slot → Slot → Type 0
SlotStops journal counts old new was now = (asks : ℕ → Option Ask) (start : Option (List Entry)) (from : Outset) (slots : List Slot) (k : ℕ)
    → from.owed ≡ unknown → AreClosed from.loop k → slice_get slots k ≡ Some was → AllStand asks start from slots (journal old) (counts old)
    → AllStand asks start from (slice_set slots k now) (journal new) (counts new)

-- A change of one slot that calls nothing of the world keeps all standing. Its job isn't owed the clock of a turn or a piece.
abbrev pub SlotStays : Slot → Slot → Type 0
SlotStays was now = (asks : ℕ → Option Ask) (start : Option (List Entry)) (from : Outset) (slots : List Slot) (k : ℕ) (journal : Option (List Entry)) (counts : Counts)
    → is_open (owed_to from.owed k) ≡ true → slice_get slots k ≡ Some was → AllStand asks start from slots journal counts
    → AllStand asks start from (slice_set slots k now) journal counts

-- the clock stood at this moment, and the job in one slot is told so, the first to which that was still to be told
abbrev pub SlotReads : ℕ → Slot → Slot → Type 0
SlotReads ms was now = (asks : ℕ → Option Ask) (start : Option (List Entry)) (from : Outset) (slots : List Slot) (k : ℕ) (journal : Option (List Entry)) (counts : Counts)
    → IfSome journal (λ past. time past ≡ ms) → slice_get slots k ≡ Some was → AllStand asks start (owing (first_clock k) from) slots journal counts
    → AllStand asks start (owing (first_clock (suc k)) from) (slice_set slots k now) journal counts

-- where this cause has come since the outset, a change of one slot keeps all standing
abbrev pub SlotStaysIf : (Outset → Counts → Type 0) → Slot → Slot → Type 0
SlotStaysIf why was now = (asks : ℕ → Option Ask) (start : Option (List Entry)) (from : Outset) (slots : List Slot) (k : ℕ) (journal : Option (List Entry)) (counts : Counts)
    → why from counts → is_open (owed_to from.owed k) ≡ true → slice_get slots k ≡ Some was → AllStand asks start from slots journal counts
    → AllStand asks start from (slice_set slots k now) journal counts

-- calls that leave the jobs as they stand: each is one of theirs or of the loop, touches no path and starts no child
pub record PassBy (asks : ℕ → Option Ask) (here : List ℕ) (clean : Bool) (kept wires : List (Option ℕ)) (old new : Option (List Entry)) (was now : Counts) : Type 0 where
  pub calls : Told old new (CallsOfJobs asks here clean)
  pub spoken : clean ≡ true → SpeaksWhole old was → SpeaksWhole new now
  pub idle : (number : ℕ) (a : Ask) → IsIdle number a old → IsIdle number a new
  pub wired : clean ≡ true → IfSome old (AreWired kept) → IfSome new (AreWired wires)
  pub spares : (path : List ℕ) → Told old new (Since (Spares path))
  pub ends : (number : ℕ) → KeepsEnd number old new
  pub grow : CountsGrow was now

-- How a job has ended is said, which was still to be said. That leaves all as they stand.
abbrev pub KeepsSaying : {W : Type 0} → (W → Option (List Entry)) → (W → Counts) → W → W → Answer → Type 0
KeepsSaying journal counts old new answer = (asks : ℕ → Option Ask) (start : Option (List Entry)) (from : Outset) (slots : List Slot) (i : ℕ) (a : Ask)
    → may_wait from.owed ≡ true → asks i ≡ Some a → slice_get slots i ≡ Some (Ended answer) → IsAnswer a.output answer
    → AllStand asks start (hush i from) slots (journal old) (counts old) → AllStand asks start from slots (journal new) (counts new)

-- each job has
pub record AllEnded (slots : List Slot) : Type 0 where
  pub each : (i : ℕ) (slot : Slot) → slice_get slots i ≡ Some slot → HasEnded slot

-- no job at this number or behind it has begun
pub record WaitingFrom (n : ℕ) (slots : List Slot) : Type 0 where
  pub each : (i : ℕ) (slot : Slot) → n ≤ i → slice_get slots i ≡ Some slot → slot ≡ Waiting

-- each job below this number has ended
pub record EndedBelow (n : ℕ) (slots : List Slot) : Type 0 where
  pub each : (i : ℕ) (slot : Slot) → i < n → slice_get slots i ≡ Some slot → HasEnded slot

-- the answer of a job that has ended
abbrev pub answer_of : Option Slot → Option Answer
answer_of None = None
answer_of (Some Waiting) = None
answer_of (Some (Running j)) = None
answer_of (Some (Ended answer)) = Some answer

-- the answers of jobs from a number on, each in its place
pub record AreAnswers (first : ℕ) (slots : List Slot) (answers : List Answer) : Type 0 where
  pub size : length slots ≡ first + length answers
  pub each : (i : ℕ) → slice_get answers i ≡ answer_of (slice_get slots (first + i))

-- the answers of the jobs that have ended, in their order
abbrev pub answers_of : List Slot → List Answer
answers_of [] = []
answers_of (Waiting ∷ slots) = answers_of slots
answers_of (Running j ∷ slots) = answers_of slots
answers_of (Ended answer ∷ slots) = answer ∷ answers_of slots

-- those of the jobs from this number on
abbrev pub answers_from : ℕ → List Slot → List Answer
answers_from zero slots = answers_of slots
answers_from (suc n) [] = []
answers_from (suc n) (slot ∷ slots) = answers_from n slots
