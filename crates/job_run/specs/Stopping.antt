-- How an execution ends its job where that stops, by the request that stands and by the stream that broke (nbclient; the statuses are nbrun's own).
use Rattle.std.specs.Prelude.{◌≡◌, ℕ, List, [], Option, Some, None}
use Rattle.world.specs.declared.chan.Chan.{Chan}
use Rattle.zmtp_wire.specs.declared.fault.WireFault.{WireFault}
use Rattle.cell_core.specs.declared.why.Why.{Why}
use Rattle.cell_core.specs.declared.why.Why.TheVariants as why
use Rattle.job_end.specs.declared.end.End.{End}
use Rattle.job_end.specs.declared.end.End.TheVariants as end
use Rattle.job_run.specs.declared.request.Request.{Request}

-- the cell of the request that stands, 0 where none does
abbrev pub cell_in : Option Request → ℕ
cell_in None = 0
cell_in (Some r) = r.cell

-- a name, empty where there is none
abbrev pub or_empty : Option (List ℕ) → List ℕ
or_empty None = []
or_empty (Some name) = name

-- the exception that is noted with the request that stands, empty where none is
abbrev pub name_noted : Option Request → List ℕ
name_noted None = []
name_noted (Some r) = or_empty r.error

-- the end that names the stream that broke, with its fault
abbrev pub IsPeerEnd : Option (Chan × WireFault) → End → Type 0
IsPeerEnd None e = ⊥
IsPeerEnd (Some broken) e = e ≡ end.BadPeer broken.0 broken.1

-- The end by which a job stops for this cause: with the cell of the request that stands, with the exception that is noted with it, or with the stream
-- that broke.
abbrev pub IsStopBy : Why → Option Request → Option (Chan × WireFault) → End → Type 0
IsStopBy why.Done request broken e = e ≡ end.Done
IsStopBy why.CellError request broken e = e ≡ end.CellError (cell_in request) (name_noted request)
IsStopBy why.NotReady request broken e = e ≡ end.NotReady
IsStopBy why.KernelLost request broken e = e ≡ end.KernelLost
IsStopBy why.TimedOut request broken e = e ≡ end.TimedOut (cell_in request)
IsStopBy why.NoIdle request broken e = e ≡ end.NoIdle (cell_in request)
IsStopBy why.BadPeer request broken e = IsPeerEnd broken e
