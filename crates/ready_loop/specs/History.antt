-- What the callers of a loop have handed in, and what its answers have told them.
use Rattle.std.specs.Prelude.{ℕ, ◌==◌, ◌||◌, ◌++◌, ◌∷◌, List, [], Bool, true, false, if◌then◌else◌, Some, None, Result, Ok, Err}
use Rattle.world.specs.declared.chan.Chan.{Chan}
use Rattle.world.specs.declared.chan.Chan.TheVariants.{Shell, Control, Iopub, Heart}
use Rattle.world.specs.declared.conn.Conn.{Conn}
use Rattle.world.specs.Places.{place_of, is_reported}
use Rattle.ready_loop.specs.declared.fault.LoopFault.{LoopFault}
use Rattle.ready_loop.specs.declared.fault.LoopFault.TheVariants.{NetFault, Spent}
use Rattle.ready_loop.specs.declared.next.Next.{Next}
use Rattle.ready_loop.specs.declared.next.Next.TheVariants.{Piece, Ended, Refused, Quiet}

-- the connection of a job to a channel
abbrev pub conn_on : ℕ → Chan → Conn
conn_on job chan = record { job = job; chan = chan }

-- the heartbeat, where it is wanted
abbrev pub heart_chan : Bool → List Chan
heart_chan true = Heart ∷ []
heart_chan false = []

-- the channels that are begun, in this order
abbrev pub chans : Bool → List Chan
chans heart = Shell ∷ Control ∷ Iopub ∷ heart_chan heart

-- these up to and with this one
abbrev pub chans_to : Chan → List Chan
chans_to Shell = Shell ∷ []
chans_to Control = Shell ∷ Control ∷ []
chans_to Iopub = Shell ∷ Control ∷ Iopub ∷ []
chans_to Heart = Shell ∷ Control ∷ Iopub ∷ Heart ∷ []

-- what was asked of a loop so far
pub record History : Type 0 where
  pub turns : ℕ  -- how many waits the journal has once the loop has made all of its own
  pub begun : ℕ → Bool  -- the places of the connections that were begun
  pub queued : ℕ → List ℕ  -- all bytes that were queued at each place, in order
  pub named : ℕ → Bool  -- the places whose end an answer has named

-- nothing was asked yet
abbrev pub no_history : ℕ → History
no_history turns = record {
  turns = turns;
  begun = λ p. false;
  queued = λ p. [];
  named = λ p. false;
}

-- a call that hands in nothing, and names no end
abbrev pub no_change : History → History
no_change h = h

-- a connection was begun at this place
abbrev pub with_begun : ℕ → History → History
with_begun place h = record h { begun = λ p. p == place || h.begun p }

-- connections of a job were begun on these channels
abbrev pub with_all_begun : ℕ → List Chan → History → History
with_all_begun job [] h = h
with_all_begun job (chan ∷ rest) h = with_all_begun job rest (with_begun (place_of (conn_on job chan)) h)

-- bytes were queued at this place
abbrev pub with_queued : ℕ → List ℕ → History → History
with_queued place bytes h =
    record h { queued = λ p. if p == place then h.queued p ++ bytes else h.queued p }

-- the end of this place was named
abbrev pub with_named : ℕ → History → History
with_named place h = record h { named = λ p. p == place || h.named p }

-- the ends of these places were named
abbrev pub with_all_named : List Bool → History → History
with_all_named names h = record h { named = λ p. is_reported p names || h.named p }

-- after `begin`: up to a channel that fails
abbrev pub after_begin : {U : Type 0} → ℕ → Bool → Result U LoopFault → History → History
after_begin job heart (Ok u) h = with_all_begun job (chans heart) h
after_begin job heart (Err (NetFault (Some conn))) h = with_all_begun job (chans_to conn.chan) h
after_begin job heart (Err (NetFault None)) h = h
after_begin job heart (Err Spent) h = h

-- after `queue`
abbrev pub after_queue : {U E : Type 0} → Conn → List ℕ → Result U E → History → History
after_queue conn bytes (Ok u) h = with_queued (place_of conn) bytes h
after_queue conn bytes (Err e) h = h

-- after `next`
abbrev pub after_next : Result Next LoopFault → History → History
after_next (Ok (Piece conn n)) h = h
after_next (Ok (Ended conn)) h = with_named (place_of conn) h
after_next (Ok (Refused conn)) h = h
after_next (Ok Quiet) h = h
after_next (Err fault) h = h

-- after `offer` and `look`
abbrev pub after_names : {E : Type 0} → Result (List Bool) E → History → History
after_names (Ok names) h = with_all_named names h
after_names (Err e) h = h
