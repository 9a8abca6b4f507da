-- The exit status of a job, by how it ends.
use Rattle.std.specs.Prelude.{ℕ}
use Rattle.nb_load.specs.declared.load_fault.LoadFault.TheVariants as load
use Rattle.job_end.specs.declared.end.End.{End}
use Rattle.job_end.specs.declared.end.End.TheVariants as end

-- each cause has its own status; a notebook that isn't accepted has that of a bad notebook, or of a language without translator
abbrev pub status_of : End → ℕ
status_of end.Done = 0
status_of (end.CellError cell name) = 1
status_of (end.NotRead path) = 3
status_of end.TooLarge = 4
status_of (end.NotLoaded (load.NotJson f)) = 4
status_of (end.NotLoaded (load.NotNotebook f)) = 4
status_of (end.NotLoaded (load.NoTranslator language)) = 5
status_of (end.NotLoaded load.NoMemory) = 12
status_of end.NoKernelName = 5
status_of end.BadKernelName = 5
status_of (end.BadSpec f) = 5
status_of end.NotStarted = 6
status_of end.NotReady = 7
status_of end.KernelLost = 8
status_of (end.TimedOut cell) = 9
status_of (end.NotSaved f) = 10
status_of end.NoConnectionFile = 10
status_of end.NoMemory = 12
status_of (end.NoIdle cell) = 13
status_of end.NetFault = 14
status_of (end.BadPeer chan f) = 15
status_of end.Spent = 16
