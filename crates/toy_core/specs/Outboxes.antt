-- What is due on one connection and hasn't been handed out.
use Rattle.std.specs.Prelude.{ℕ, ◌+◌, ◌-◌, ◌^◌, min, Bool, true, false, cond, nat_le, nat_eq, List, [], ◌++◌, length, drop, take}
use Rattle.world.specs.Kernel.{Given, Hands, Waits, Over}
use Rattle.toy_core.specs.declared.outbox.Outbox.{Outbox}

-- nothing is due before the connection was taken up
abbrev pub new_box : List ℕ → Outbox
new_box start = record { start = start; is_open = false; octets = []; given = 0 }

-- what goes out first: the greeting and READY, once the connection was taken up (RFC 23, "Connections")
abbrev pub front : Outbox → List ℕ
front box = cond box.is_open box.start []

-- what has become due, first to last
abbrev pub ready : Outbox → List ℕ
ready box = front box ++ box.octets

-- what is due and wasn't handed out, where these octets have become due besides
abbrev pub rest_due : Outbox → List ℕ → List ℕ
rest_due box coming = drop box.given (ready box ++ coming)

-- all of it was handed out
abbrev pub is_handed_out : Outbox → Bool
is_handed_out box = nat_le (length (front box) + length box.octets) box.given

-- the outbox without the octets that were handed out, once all were
abbrev pub trim_box : Outbox → Outbox
trim_box box =
    cond (is_handed_out box)
    (record { start = box.start; is_open = box.is_open; octets = []; given = box.given - length box.octets }) box

-- these octets have become due
abbrev pub with_octets : List ℕ → Outbox → Outbox
with_octets octets box = record { start = box.start; is_open = box.is_open; octets = box.octets ++ octets; given = box.given }

-- these octets have become due, and what was all handed out is let go
abbrev pub post_octets : List ℕ → Outbox → Outbox
post_octets octets box = with_octets octets (trim_box box)

-- the outbox after so many octets were handed out; the count stands still at the last number of its type
abbrev pub hand_out : ℕ → Outbox → Outbox
hand_out n box = record { start = box.start; is_open = box.is_open; octets = box.octets; given = min (box.given + n) (2 ^ 64 - 1) }

-- a connection is taken up: only the greeting and READY are due
abbrev pub open_box : Outbox → Outbox
open_box box = record { start = box.start; is_open = true; octets = []; given = 0 }

-- what is handed out of this into a buffer of that length
abbrev pub handing : ℕ → List ℕ → Bool → Given
handing room due over = cond (nat_eq (length due) 0) (cond over Over Waits) (Hands (take room due))
