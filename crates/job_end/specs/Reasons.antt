-- What is said of the end of a job. A cell has its index in the notebook, counted from 0.
use Rattle.std.specs.Prelude.{ℕ, List, [], ◌++◌, codes}
use Rattle.std.specs.Fmt.{decimal}
use Rattle.jtext.specs.Print.{quote}
use Rattle.world.specs.declared.chan.Chan.{Chan}
use Rattle.world.specs.declared.chan.Chan.TheVariants as chan
use Rattle.zmtp_wire.specs.Fault.{number_of, place_of}
use Rattle.kspec.specs.Messages as spec_fault
use Rattle.save_disk.specs.Messages as save_fault
use Rattle.nb_load.specs.Reasons.{reason}
use Rattle.said_lines.specs.Lines.{spoken_line}
use Rattle.nb_load.specs.declared.load_fault.LoadFault.TheVariants as load
use Rattle.job_end.specs.declared.end.End.{End}
use Rattle.job_end.specs.declared.end.End.TheVariants as end

-- something of a cell
abbrev pub of_cell : ℕ → List ℕ → List ℕ
of_cell cell what = codes "cell " ++ decimal cell ++ codes ": " ++ what

-- the name of a channel
abbrev pub name_of : Chan → List ℕ
name_of chan.Shell = codes "shell"
name_of chan.Control = codes "control"
name_of chan.Iopub = codes "iopub"
name_of chan.Heart = codes "heart"

-- why the job ended; a broken stream has the number of its fault and the place of the octet that breaks it
abbrev pub reason_of : End → List ℕ
reason_of end.Done = codes "done"
reason_of (end.CellError cell name) = of_cell cell (codes "error " ++ quote name)
reason_of (end.NotRead path) = codes "cannot read " ++ path
reason_of end.TooLarge = codes "too large"
reason_of (end.NotLoaded f) = reason f
reason_of end.NoKernelName = codes "kernel spec: no name"
reason_of end.BadKernelName = codes "kernel spec: bad name"
reason_of (end.BadSpec f) = codes "kernel spec: " ++ spec_fault.message f
reason_of end.NotStarted = codes "cannot start the kernel"
reason_of end.NotReady = codes "kernel not ready"
reason_of end.KernelLost = codes "kernel lost"
reason_of (end.TimedOut cell) = of_cell cell (codes "timed out")
reason_of (end.NotSaved f) = codes "cannot save: " ++ save_fault.message f
reason_of end.NoConnectionFile = codes "cannot save: connection file"
reason_of end.NoMemory = []
reason_of (end.NoIdle cell) = of_cell cell (codes "no idle")
reason_of end.NetFault = codes "network fault"
reason_of (end.BadPeer on f) = codes "bad peer on " ++ name_of on ++ codes ": " ++ (decimal (number_of f) ++ codes " at " ++ decimal (place_of f))
reason_of end.Spent = codes "turn budget spent"

-- the last line of a job on this output; want of memory ends the whole run, which says so itself
abbrev pub line_of : List ℕ → End → List ℕ
line_of output (end.NotLoaded load.NoMemory) = []
line_of output end.NoMemory = []
line_of output e = spoken_line output (reason_of e)
