-- Where things end: the subscription among the octets that are due, in numbers of 64 bits, and a stream by its fault.
use Rattle.std.specs.Prelude.{ℕ, ◌+◌, List, [], ◌∷◌, length, Option, None, Some, Ok, Err}
use Rattle.zmtp_wire.specs.declared.fault.WireFault.{WireFault}
use Rattle.zmtp_wire.specs.Decoder.{Answer}
use Rattle.zmtp_wire.specs.Fault.{clip}

-- where the subscription ends, as it is noted where so many octets are due
abbrev pub end_with : Option ℕ → ℕ → List ℕ → Option ℕ
end_with (Some end) due subscription = Some end
end_with None due [] = None
end_with None due (x ∷ subscription) = Some (clip (due + length (x ∷ subscription)))

-- a fault as the answer of a stream
abbrev pub answer_by : Option WireFault → Answer
answer_by None = Ok tt
answer_by (Some e) = Err e
