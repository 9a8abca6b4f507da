-- How a job ends, and its exit status (papermill and nbclient; the statuses are nbrun's own).
use Rattle.std.specs.Prelude.{ℕ, ◌==◌, List, [], ◌∷◌, ◌++◌, codes, Bool, false, Option, Some, None, if◌then◌else◌, length, nat_le, option_map}
use Rattle.std.specs.Str.{bytes_eq}
use Rattle.std.specs.Fmt.{decimal}
use Rattle.jtext.specs.Print.{quote}
use Rattle.jcontent.specs.declared.content.Content.{Content}
use Rattle.jcontent.specs.declared.content.Content.TheVariants as content
use Rattle.jcontent.specs.declared.reply.ReplyIs.TheVariants as reply_is
use Rattle.world.specs.declared.chan.Chan.{Chan}
use Rattle.world.specs.declared.connected.Connected.TheVariants as connected
use Rattle.world.specs.declared.did.Did.TheVariants as did
use Rattle.world.specs.declared.entry.Entry.{Entry}
use Rattle.world.specs.declared.entry.Entry.TheVariants as made
use Rattle.world.specs.declared.read_file.ReadFile.{ReadFile}
use Rattle.world.specs.declared.read_file.ReadFile.TheVariants as found
use Rattle.world.specs.Places.{chan_number}
use Rattle.world.specs.Waits.{wait_count}
use Rattle.words.specs.Paths.{temporary_of, connection_of}
use Rattle.save_disk.specs.declared.save_fault.SaveFault.TheVariants as save_fault
use Rattle.save_disk.specs.Messages as save_fault_text
use Rattle.job_end.specs.Reasons.{name_of as chan_name}
use Rattle.cell_core.specs.declared.why.Why.{Why}
use Rattle.cell_core.specs.declared.why.Why.TheVariants as cause
use Rattle.run_journal.specs.Codec.{Arrival}
use Rattle.run_journal.specs.Job.{Job, Given, Refuses, Prepares, Runs}
use Rattle.run_journal.specs.Parts.{bytes_put, saves_of, before_shut}
use Rattle.run_journal.specs.Queue.{queue}
use Rattle.run_journal.specs.OfJob.{is_own_path, after_read, reads_for, is_onto}
use Rattle.run_journal.specs.Requests.{Request, reply, requests, or_later, last_request}
use Rattle.run_journal.specs.Why.{BadStream, bad_stream, why}
use Rattle.run_journal.specs.Saves.{last_cell, saves}

-- how a job ends
pub data End : Type 0 where
  Done : End
  CellError : ℕ → List ℕ → End  -- the cell's index, and the exception's name
  NotReady : End
  KernelLost : End
  TimedOut : ℕ → End  -- the cell's index
  NoIdle : ℕ → End  -- the cell's index
  BadPeer : BadStream → End
  NotRead : List ℕ → End  -- the path of what couldn't be read
  NoNotebook : ℕ → List ℕ → End  -- the status, and why the input gives no notebook to run
  BadSpec : List ℕ → End  -- why the kernel's name or spec is refused
  NotStarted : End
  NotSaved : List ℕ → End  -- the step that failed
  NoNetwork : End
  Spent : End

-- ---- a refusal, or a call that failed

-- what the read of the input ends the job by
abbrev pub given_end : Job → Given → Option End
given_end j (Refuses status text) = Some (NoNotebook status text)
given_end j (Prepares text) = None
given_end j Runs = if length j.task.plan == 0 then None else option_map BadSpec j.name_fault

-- what a read of the input ends the job by, by what was found
abbrev pub input_end : Job → List ℕ → ReadFile → Option End
input_end j path found.Failed = Some (NotRead path)
input_end j path found.NoMemory = None
input_end j path _ = given_end j j.given

-- what a read of the kernel's spec ends the job by
abbrev pub spec_end : Job → List ℕ → ReadFile → Option End
spec_end j path found.Failed = Some (NotRead path)
spec_end j path found.NoMemory = None
spec_end j path _ = option_map BadSpec j.spec_fault

-- an end, where its condition holds
abbrev pub end_if : Bool → End → Option End
end_if holds end = if holds then Some end else None

-- what a failed call on a path ends the job by: a step of a save, or of the connection file
abbrev pub file_end : Job → List ℕ → List ℕ → Option End
file_end j path step =
    or_later (end_if (bytes_eq (temporary_of j.output) path) (NotSaved step))
    (end_if (bytes_eq (connection_of j.output) path) (NotSaved (codes "connection file")))

-- what a read ends the job by: of the input, or of another file that is none of the job's own, while the input that was
-- read last is the job's
abbrev pub read_end : Job → List ℕ → ReadFile → Bool → Option End
read_end j path found before =
    if bytes_eq j.input path then input_end j path found
    else if is_own_path j path then None
    else if after_read j path before then spec_end j path found
    else None

-- no wait is left
abbrev pub is_spent : Job → List Entry → Bool
is_spent j past = nat_le j.turns (wait_count past)

-- all that was queued on a channel was put, greeting and READY first
abbrev pub is_put : Job → Chan → List Entry → Bool
is_put j c past = nat_le (length (j.codec.opening c ++ queue j c past)) (length (bytes_put j c past))

-- only the last message is still to be put on a channel: no wait is left, the channel is control, and all else was put
abbrev pub is_parting : Job → Chan → List Entry → Bool
is_parting j c past = if is_spent j past then (if chan_number c == 1 then is_put j c past else false) else false

-- what a failed write to a channel ends the job by: nothing, where only the last message is still to be put
abbrev pub put_end : Job → Chan → List Entry → Option End
put_end j c past = if is_parting j c past then None else Some NoNetwork

-- what an entry ends the job by, where it shows a refusal or a failed call of the job
abbrev pub fault_at : Job → Entry → List Entry → Option End
fault_at j (made.Read path most found) past = read_end j path found (reads_for j past)
fault_at j (made.Word None) past = end_if (reads_for j past) NotStarted
fault_at j (made.Created path did.Failed) past = file_end j path (save_fault_text.message save_fault.Write)
fault_at j (made.Wrote path bytes did.Failed) past = file_end j path (save_fault_text.message save_fault.Write)
fault_at j (made.Synced path did.Failed) past = file_end j path (save_fault_text.message save_fault.Sync)
fault_at j (made.Renamed from to did.Failed) past = end_if (bytes_eq j.output to) (NotSaved (save_fault_text.message save_fault.Rename))
fault_at j (made.DirSynced dir did.Failed) past = end_if (is_onto j past) (NotSaved (save_fault_text.message save_fault.DirSync))
fault_at j (made.Ports job None) past = end_if (job == j.number) NoNetwork
fault_at j (made.Connected conn port connected.Failed) past = end_if (conn.job == j.number) NoNetwork
fault_at j (made.ReadFailed conn) past = end_if (conn.job == j.number) NoNetwork
fault_at j (made.PutFailed conn) past = if conn.job == j.number then put_end j conn.chan past else None
fault_at j (made.Waited ms reports did.Failed) past = Some NoNetwork
fault_at j (made.Started job argv env dir did.Failed) past = end_if (job == j.number) NotStarted
fault_at j _ past = None

-- ---- a stop

-- the index of the last request's cell, 0 where none stands
abbrev pub index_or_zero : Option ℕ → ℕ
index_or_zero None = 0
index_or_zero (Some i) = i

-- the index of the last request's cell
abbrev pub stopping_cell : Job → List Entry → ℕ
stopping_cell j past = index_or_zero (last_cell j.task.plan (requests j past))

-- the exception's name in a reply
abbrev pub name_in : Content → List ℕ
name_in (content.ExecReply (reply_is.Error ename)) = ename
name_in _ = []

-- the exception's name in the reply to the last request
abbrev pub name_of : Option (ℕ × Request) → List ℕ
name_of None = []
name_of (Some r) = in_reply (reply r.1)
  where
    in_reply : Option (Arrival × ℕ) → List ℕ
    in_reply None = []
    in_reply (Some m) = name_in m.0.content

-- the end by a broken stream
abbrev pub peer_end : Option BadStream → End
peer_end None = Done
peer_end (Some bad) = BadPeer bad

-- the end by a cause
abbrev pub end_by : Job → List Entry → Why → End
end_by j past cause.Done = Done
end_by j past cause.CellError = CellError (stopping_cell j past) (name_of (last_request 0 (requests j past)))
end_by j past cause.NotReady = NotReady
end_by j past cause.KernelLost = KernelLost
end_by j past cause.TimedOut = TimedOut (stopping_cell j past)
end_by j past cause.NoIdle = NoIdle (stopping_cell j past)
end_by j past cause.BadPeer = peer_end (bad_stream j past)

-- what stops the job, once all saves that are due are acknowledged
abbrev pub stop_of : Job → List Entry → Option End
stop_of j now =
    if nat_le (length (saves j now)) (saves_of j now) then option_map (end_by j (before_shut j now)) (why j (before_shut j now)) else None

-- ---- the end

-- a job that has ended by itself: how, and the journal up to the entry by which it did
pub record Ended : Type 0 where
  pub end : End
  pub journal : List Entry

-- the end by the newest entry
abbrev pub ended_now : List Entry → Option End → Option Ended
ended_now now end = option_map (λ e. record { end = e; journal = now }) end

-- how the job has ended by itself, if it has: by the first refusal, failed call or stop
abbrev pub ending_of : Job → List Entry → Option Ended
ending_of j [] = ended_now [] (stop_of j [])
ending_of j (entry ∷ past) = or_later (ending_of j past) (ended_now (entry ∷ past) (or_later (fault_at j entry past) (stop_of j (entry ∷ past))))

-- how the job has ended by itself, if it has
abbrev pub end_alone : Job → List Entry → Option End
end_alone j past = option_map (λ (e : Ended). e.end) (ending_of j past)

-- how the job has ended: by itself, or since no wait is left
abbrev pub end_of : Job → List Entry → Option End
end_of j past = or_later (end_alone j past) (end_if (is_spent j past) Spent)

-- the journal up to the entry by which the job ended by itself, or else up to its first close
abbrev pub up_to_end : Job → List Entry → List Entry
up_to_end j past = or_all (ending_of j past)
  where
    or_all : Option Ended → List Entry
    or_all None = before_shut j past
    or_all (Some e) = e.journal

-- ---- statuses

-- the exit status of an end
abbrev pub status_by : End → ℕ
status_by Done = 0
status_by (CellError i ename) = 1
status_by NotReady = 7
status_by KernelLost = 8
status_by (TimedOut i) = 9
status_by (NoIdle i) = 13
status_by (BadPeer bad) = 15
status_by (NotRead path) = 3
status_by (NoNotebook status text) = status
status_by (BadSpec text) = 5
status_by NotStarted = 6
status_by (NotSaved step) = 10
status_by NoNetwork = 14
status_by Spent = 16

-- the status of an end that may not have come: a job that nothing ended has spent its waits
abbrev pub status_or_spent : Option End → ℕ
status_or_spent None = 16
status_or_spent (Some end) = status_by end

-- the status of the job: of the first refusal, failed call or stop, and else that of spent waits
abbrev pub status_of : Job → List Entry → ℕ
status_of j past = status_or_spent (end_alone j past)

-- ---- what is said of an end

-- a cell and what became of it
abbrev pub of_cell : ℕ → List ℕ → List ℕ
of_cell i what = codes "cell " ++ decimal i ++ codes ": " ++ what

-- what is said of an end, after the output's path
abbrev pub reason : End → List ℕ
reason Done = codes "done"
reason (CellError i ename) = of_cell i (codes "error " ++ quote ename)
reason NotReady = codes "kernel not ready"
reason KernelLost = codes "kernel lost"
reason (TimedOut i) = of_cell i (codes "timed out")
reason (NoIdle i) = of_cell i (codes "no idle")
reason (BadPeer bad) = codes "bad peer on " ++ chan_name bad.chan ++ codes ": " ++ decimal bad.number ++ codes " at " ++ decimal bad.at
reason (NotRead path) = codes "cannot read " ++ path
reason (NoNotebook status text) = text
reason (BadSpec text) = codes "kernel spec: " ++ text
reason NotStarted = codes "cannot start the kernel"
reason (NotSaved step) = codes "cannot save: " ++ step
reason NoNetwork = codes "network fault"
reason Spent = codes "turn budget spent"
