-- Parts of the journal, its newest entry first. A position is the journal up to it.
use Rattle.std.specs.Prelude.{ℕ, ◌*◌, ◌+◌, ◌==◌, ◌&&◌, List, [], ◌∷◌, Bool, false, not, Option, None, if◌then◌else◌}
use Rattle.std.specs.List.{list_any}
use Rattle.world.specs.declared.chan.Chan.{Chan}
use Rattle.world.specs.declared.chan.Chan.TheVariants.{Shell, Control, Iopub, Heart}
use Rattle.world.specs.declared.entry.Entry.{Entry}
use Rattle.world.specs.declared.entry.Entry.TheVariants as made
use Rattle.world.specs.Acked as acks
use Rattle.world.specs.Jobs as jobs
use Rattle.world.specs.Places.{Status, chan_number, status}
use Rattle.world.specs.Waits.{has_wait, moment_of}
use Rattle.words.specs.Paths.{temporary_of}
use Rattle.run_journal.specs.Job.{Job}

-- ---- connections

-- the channels, in their order
abbrev pub channels : List Chan
channels = Shell ∷ Control ∷ Iopub ∷ Heart ∷ []

-- the place of the job's connection of a channel
abbrev pub place : Job → Chan → ℕ
place j c = 4 * j.number + chan_number c

-- how that connection stands
abbrev pub connection : Job → Chan → List Entry → Status
connection j c past = status (place j c) past

-- the bytes got on it since it was last begun
abbrev pub bytes_got : Job → Chan → List Entry → List ℕ
bytes_got j c past = (connection j c past).got

-- the bytes that were put on it since then
abbrev pub bytes_put : Job → Chan → List Entry → List ℕ
bytes_put j c past = (connection j c past).put

-- ---- the clock

-- the newest entry is a clock entry of a turn, one that some wait precedes, with this moment
abbrev pub turn_clock : List Entry → Option ℕ
turn_clock [] = None
turn_clock (entry ∷ past) = if has_wait past then moment_of entry else None

-- ---- acknowledged saves

-- how many saves were acknowledged
abbrev pub saves_of : Job → List Entry → ℕ
saves_of j past = acks.ack_count (temporary_of j.output) j.output past

-- the newest entry is a sync that acknowledges a save
abbrev pub is_acknowledging : Job → List Entry → Bool
is_acknowledging j now = acks.is_acknowledging (temporary_of j.output) j.output now

-- ---- from the first connect to the first close

-- an entry begins a connection of the job, whatever it answers
abbrev pub begins : Job → Entry → Bool
begins j (made.Connected conn port how) = conn.job == j.number
begins j _ = false

-- a connection of the job was closed
abbrev pub is_shut : Job → List Entry → Bool
is_shut j past = jobs.is_shut j.number past

-- the journal before the first close of the job
abbrev pub before_shut : Job → List Entry → List Entry
before_shut j past = jobs.before_shut j.number past

-- the job is running: its first connect was tried, and no connection was closed
abbrev pub is_running : Job → List Entry → Bool
is_running j past = list_any (begins j) past && not (is_shut j past)
