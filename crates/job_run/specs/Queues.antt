-- What a job has queued on its connections.
use Rattle.std.specs.Prelude.{◌≡◌, ℕ, ◌++◌, List, [], Option}
use Rattle.world.specs.declared.chan.Chan.{Chan}
use Rattle.kernel_lines.specs.declared.line.Line.{Line}
use Rattle.kernel_lines.specs.Happened.{History}
use Rattle.kernel_lines.specs.Line.{HandsOut, StandsFor, queue_of, role_of, taken_of}
use Rattle.kernel_lines.specs.Lines.{OthersStay, line_on}
use Rattle.job_run.specs.declared.job.Job.{Job}

-- the connection of a job to this channel
abbrev pub line_of : Job → Chan → Line
line_of j chan = line_on j.run.lines chan

-- all that is queued on a channel is handed out, and nothing else of the connections changes
pub record HandsOutOn (chan : Chan) (was now : Job) (given : Option (List ℕ)) : Type 0 where
  -- what is handed out is what was queued
  pub hands : HandsOut (queue_of (line_of was chan)) given
  -- its connection stands for the same, with that handed out besides
  pub stands : (h : History) (out : List ℕ) → StandsFor (line_of was chan) h out
      → StandsFor (line_of now chan) h (out ++ queue_of (line_of was chan))
  -- nothing is left queued on the channel
  pub empties : (h : History) (out : List ℕ) → StandsFor (line_of was chan) h out
      → queue_of (line_of now chan) ≡ []
  -- it plays the role that it played, and as many octets were taken of it
  pub role : role_of (line_of now chan) ≡ role_of (line_of was chan)
  pub taken : taken_of (line_of now chan) ≡ taken_of (line_of was chan)
  -- its other connections are as they were
  pub others : OthersStay chan was.run.lines now.run.lines

-- so many octets of a channel were taken since its connection was begun, and nothing else of the connections changes
pub record NotesTaken (chan : Chan) (count : ℕ) (was now : Job) : Type 0 where
  -- just so many were taken of it
  pub taken : taken_of (line_of now chan) ≡ count
  -- its connection stands for the same, in the role that it plays
  pub stands : (h : History) (out : List ℕ) → StandsFor (line_of was chan) h out → StandsFor (line_of now chan) h out
  pub role : role_of (line_of now chan) ≡ role_of (line_of was chan)
  -- its other connections are as they were
  pub others : OthersStay chan was.run.lines now.run.lines
