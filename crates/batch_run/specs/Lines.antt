-- How many calls of the connections may still be made that end a turn.
use Rattle.std.specs.Prelude.{ℕ, ◌+◌}
use Rattle.ready_loop.specs.States.{open_left, reads_left, waits_left}
use Rattle.batch_run.specs.declared.lines.Lines.{Lines}

-- how many waits may still come
abbrev pub waits_of : Lines → ℕ
waits_of l = waits_left l.connections

-- how many reads may come before the next wait
abbrev pub reads_of : Lines → ℕ
reads_of l = reads_left l.connections

-- how many connections are begun, and not closed yet
abbrev pub open_of : Lines → ℕ
open_of l = open_left l.connections

-- how many waits and faults may still come: a fault names a connection that is begun, and closes it
abbrev pub budget : Lines → ℕ
budget l = waits_of l + open_of l
