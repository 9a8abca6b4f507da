-- Events of a job of two cells, the newest first, and the acts that answer them.
use Rattle.std.proofs.Common.{◌≡◌, List, [], ◌∷◌, false, true, Some, None, refl}
use Rattle.cell_core.specs.declared.event.Event.{Event}
use Rattle.cell_core.specs.declared.event.Event.TheVariants.{Saved, Ready, Io, Reply, Moment, Looked, Lost, Broken}
use Rattle.cell_core.specs.declared.brief.Brief.TheVariants.{Idle, Else}
use Rattle.cell_core.specs.declared.why.Why.TheVariants.{CellError, KernelLost, BadPeer}
use Rattle.cell_core.specs.declared.act.Act.TheVariants.{Nothing, Start, Send, Look, Interrupt, Save, Stop}
use Rattle.cell_core.specs.Task.{Task}
use Rattle.cell_core.specs.Requests.{standing}
use Rattle.cell_core.specs.Acts.{act_of, failing_of}
use Rattle.cell_core.specs.Answering.{save_at_end}
use Rattle.cell_core.specs.Stops.{cell_at_stop}

-- two cells, each of which is executed; a request is interrupted after 100 ms
abbrev two_cells : Task
two_cells = record { plan = 0 ∷ 1 ∷ []; cells = 2; times = record { start_ms = 1000; limit_ms = Some 100; interrupt = true } }

-- the first request stands
abbrev running : List Event
running = Ready ∷ Moment 5 ∷ Saved ∷ []

-- its deadline has passed
abbrev late : List Event
late = Moment 105 ∷ running

-- its reply is there, and is fatal
abbrev replied : List Event
replied = Reply true ∷ running

-- ---- by which act an event is answered

starts : act_of two_cells Saved [] ≡ Start
starts = refl

sends : act_of two_cells Ready (Moment 5 ∷ Saved ∷ []) ≡ Send 0
sends = refl

looks : act_of two_cells (Moment 105) running ≡ Look
looks = refl

interrupts : act_of two_cells Looked late ≡ Interrupt
interrupts = refl

breaks_early : act_of two_cells Broken (Saved ∷ []) ≡ Stop BadPeer
breaks_early = refl

breaks : act_of two_cells Broken running ≡ Save 1
breaks = refl

loses : act_of two_cells Lost running ≡ Look
loses = refl

-- ---- a message asks for the save of the request that is over by it

goes_on : act_of two_cells (Io Else) replied ≡ Nothing
goes_on = refl

ends : act_of two_cells (Io Idle) replied ≡ Save 1
ends = refl

ends_so : save_at_end two_cells (standing two_cells (Io Idle ∷ replied)) ≡ Save 1
ends_so = refl

-- ---- the stop names the cell of the request that stood

stops : act_of two_cells Saved (Io Idle ∷ replied) ≡ Stop CellError
stops = refl

names : failing_of two_cells (Saved ∷ Io Idle ∷ replied) ≡ Some 0
names = refl

names_so : cell_at_stop two_cells CellError (standing two_cells (Io Idle ∷ replied)) ≡ Some 0
names_so = refl

names_none : cell_at_stop two_cells KernelLost (standing two_cells (Saved ∷ [])) ≡ None
names_none = refl
