-- How a result of the reader stands to what reading on lists answers.
use Rattle.std.specs.Prelude.{◌≡◌, ℕ, ◌-◌, List, Result, Ok, Err}
use Rattle.jtext.specs.Number.{IsNumber}
use Rattle.jtext.specs.declared.json.Json.{Json}
use Rattle.jtext.specs.declared.number.NumFault.{NumFault}
use Rattle.jtext.specs.declared.number.NumFault.TheVariants as num_fault
use Rattle.jtext.specs.declared.number.NumFault.TheVariants.{NotNumber}
use Rattle.jtext.specs.declared.fault.JsonFault.{JsonFault}
use Rattle.jtext.specs.declared.fault.JsonFault.TheVariants as json_fault
use Rattle.jtext.specs.declared.fault.Fault.{Fault}
use Rattle.jtext.specs.declared.fault.Fault.TheVariants.{NoMemory, Bad, Deep, Repeated, Lone}

-- reading ends with that fault, and with none that is known where memory ran out
abbrev pub Fails : {Y : Type 0} → Fault → Result Y Fault → Type 0
Fails NoMemory read = Unit {0}
Fails (Bad left) read = read ≡ Err (Bad left)
Fails (Deep left) read = read ≡ Err (Deep left)
Fails (Repeated left) read = read ≡ Err (Repeated left)
Fails (Lone left) read = read ≡ Err (Lone left)

-- the result is what reading answers, seen by view, unless memory ran out
abbrev pub Gives : {X Y : Type 0} → (X → Y) → Result X Fault → Result Y Fault → Type 0
Gives view (Ok x) read = read ≡ Ok (view x)
Gives view (Err e) read = Fails e read

-- the fault with its place from the start, in a text of that length
abbrev pub fault_within : Fault → ℕ → JsonFault
fault_within NoMemory len = json_fault.NoMemory
fault_within (Bad left) len = json_fault.Bad (len - left)
fault_within (Deep left) len = json_fault.Deep (len - left)
fault_within (Repeated left) len = json_fault.Repeated (len - left)
fault_within (Lone left) len = json_fault.Lone (len - left)

-- the tree, unless memory ran out
abbrev pub ReadsAs : Result Json JsonFault → Json → Type 0
ReadsAs (Ok x) t = x ≡ t
ReadsAs (Err json_fault.NoMemory) t = Unit {0}
ReadsAs (Err (json_fault.NotUtf8 at)) t = ⊥
ReadsAs (Err (json_fault.Bad at)) t = ⊥
ReadsAs (Err (json_fault.Deep at)) t = ⊥
ReadsAs (Err (json_fault.Repeated at)) t = ⊥
ReadsAs (Err (json_fault.Lone at)) t = ⊥

-- a text is taken as the number that it is, and refused where it is none
abbrev pub NumberAnswer : List ℕ → Result (List ℕ) NumFault → Type 0
NumberAnswer text (Ok n) = (n ≡ text) × IsNumber text
NumberAnswer text (Err NotNumber) = IsNumber text → ⊥
NumberAnswer text (Err num_fault.NoMemory) = Unit {0}
