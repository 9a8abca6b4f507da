-- Calls of connections, waits and looks at the clock.
use Rattle.std.proofs.Common.{◌≡◌, ◌⊎◌, inl, refl, ℕ, List, Option}
use Rattle.world.specs.declared.conn.Conn.{Conn}
use Rattle.world.specs.declared.entry.Entry.{Entry}
use Rattle.world.specs.declared.got.Got.{Got}
use Rattle.world.specs.declared.got.Got.TheVariants as got
use Rattle.world.specs.declared.put.Put.{Put}
use Rattle.world.specs.declared.put.Put.TheVariants as put
use Rattle.world.specs.declared.entry.Entry.TheVariants as made
use Rattle.world.specs.Moments.{Since, start, more, Told, Tells}
use Rattle.world.specs.Parts.{OnWire, OnClock, part_of}
use Rattle.ready_loop.specs.Standing.{IsLoopEntry, IsOfLoop}
use Rattle.world.specs.Told.{read_entry, write_entry}
use Rattle.world.proofs.MomentsLemmas.{told_start, told_then, tells_as, since_then}

-- no call was made
pub calls_start : {j : Option (List Entry)} → Told j j (Since IsOfLoop)
calls_start = told_start (λ x. start)

-- some calls and then others
pub calls_then : {i j k : Option (List Entry)} → Told i j (Since IsOfLoop)
    → Told j k (Since IsOfLoop) → Told i k (Since IsOfLoop)
calls_then a b = told_then a b (λ x y z r s. since_then r s)

-- one call
pub calls_one : {j k : Option (List Entry)} {entry : Entry} → Tells j k entry → IsLoopEntry entry
    → Told j k (Since IsOfLoop)
calls_one t is = tells_as t (λ past. more start is)

-- a read
pub read_of_loop : (conn : Conn) (room : ℕ) (answer : Got) (buffer : List ℕ)
    → IsLoopEntry (read_entry conn room answer buffer)
read_of_loop conn room (got.Piece n) buffer = inl refl
read_of_loop conn room got.Dry buffer = inl refl
read_of_loop conn room got.Ended buffer = inl refl
read_of_loop conn room got.Refused buffer = inl refl
read_of_loop conn room got.Failed buffer = inl refl

-- a write
pub write_of_loop : (conn : Conn) (answer : Put) (piece : List ℕ)
    → IsLoopEntry (write_entry conn answer piece)
write_of_loop conn (put.Took n) piece = inl refl
write_of_loop conn put.Stuck piece = inl refl
write_of_loop conn put.Ended piece = inl refl
write_of_loop conn put.Refused piece = inl refl
write_of_loop conn put.Failed piece = inl refl

-- its part of the world
pub loop_part : (entry : Entry) → IsLoopEntry entry → (part_of entry ≡ OnWire) ⊎ (part_of entry ≡ OnClock)
loop_part (made.Ports job ports) is = absurd is
loop_part _ is = is
