-- Small journals, computed by laws: what a crash leaves and how a connection stands after each.
use Rattle.std.specs.Prelude.{List, [], ◌∷◌, None, codes, true, false, replicate}
use Rattle.world.specs.declared.chan.Chan.TheVariants.{Control}
use Rattle.world.specs.declared.conn.Conn.{Conn}
use Rattle.world.specs.declared.connected.Connected.TheVariants as connected
use Rattle.world.specs.declared.side.Side.TheVariants as side
use Rattle.world.specs.declared.did.Did.TheVariants.{Done, Failed}
use Rattle.world.specs.declared.entry.Entry.{Entry}
use Rattle.world.specs.declared.entry.Entry.TheVariants as made
use Rattle.world.specs.declared.read_file.ReadFile.TheVariants as found

-- a temporary file of one byte, synced and renamed to `d/o`
abbrev pub renamed_save : List Entry
renamed_save =
    made.Renamed (codes "d/t") (codes "d/o") Done
    ∷ made.Synced (codes "d/t") Done
    ∷ made.Wrote (codes "d/t") (120 ∷ []) Done
    ∷ made.Created (codes "d/t") Done
    ∷ []

-- a temporary file of one byte, synced and renamed to `d/o`, and the folder synced
abbrev pub whole_save : List Entry
whole_save = made.DirSynced (codes "d") Done ∷ renamed_save

-- a temporary file of one byte, synced and renamed to `d/o`, where the sync of the folder failed
abbrev pub unsynced_save : List Entry
unsynced_save = made.DirSynced (codes "d") Failed ∷ renamed_save

-- a file that was removed, and whose folder was synced
abbrev pub synced_removal : List Entry
synced_removal = made.DirSynced (codes "d") Done ∷ made.Removed (codes "d/o") Done ∷ []

-- the control connection of the second job
abbrev pub example_conn : Conn
example_conn = record { job = 1; chan = Control }

-- it was begun, reported by a wait, and read once
abbrev pub read_journal : List Entry
read_journal =
    made.Got example_conn 10 (7 ∷ 8 ∷ [])
    ∷ made.Waited 500 (record { ready = replicate 64 true }) Done
    ∷ made.Connected example_conn 9000 connected.Begun
    ∷ made.Moment 3
    ∷ []

-- then it ended
abbrev pub ended_journal : List Entry
ended_journal = made.Ended example_conn side.Read ∷ made.Dry example_conn ∷ read_journal

-- then it was closed twice, with a moment between
abbrev pub closed_journal : List Entry
closed_journal =
    made.Closed example_conn
    ∷ made.Moment 9
    ∷ made.Closed example_conn
    ∷ ended_journal

-- what came before its wait
abbrev pub begun_journal : List Entry
begun_journal = made.Connected example_conn 9000 connected.Begun ∷ made.Moment 3 ∷ []

-- a wait and the clock entry of the turn
abbrev pub turn_journal : List Entry
turn_journal = made.Moment 4 ∷ made.Waited 0 (record { ready = replicate 64 false }) Done ∷ []

-- failed calls: one of the disk, five on connections, and one of each other part that can fail
abbrev pub failed_journal : List Entry
failed_journal =
    made.Said (120 ∷ []) Failed
    ∷ made.Word None
    ∷ made.Started 1 (codes "k" ∷ []) [] (codes ".") Failed
    ∷ made.Waited 0 (record { ready = replicate 64 false }) Failed
    ∷ made.PutFailed example_conn
    ∷ made.ReadFailed example_conn
    ∷ made.Connected example_conn 9000 connected.Failed
    ∷ made.Ports 1 None
    ∷ made.Read (codes "d/i") 10 found.Failed
    ∷ []

-- answers that didn't bring what was asked for, and are no failures
abbrev pub unanswered_journal : List Entry
unanswered_journal =
    made.Looked 1 None
    ∷ made.Refused example_conn side.Write
    ∷ made.Stuck example_conn
    ∷ made.Dry example_conn
    ∷ made.Connected example_conn 9000 connected.Refused
    ∷ made.Read (codes "d/i") 10 found.NoMemory
    ∷ made.Read (codes "d/i") 10 found.Big
    ∷ []
