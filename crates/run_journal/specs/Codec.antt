-- How the bytes of a kernel's connections are read and written, as far as a run needs it (Jupyter messaging 5.3; ZMTP 3.0 and 3.1, RFC 23
-- and RFC 37).
use Rattle.std.specs.Prelude.{ℕ, List, Bool, Option}
use Rattle.world.specs.declared.chan.Chan.{Chan}
use Rattle.jcontent.specs.declared.content.Content.{Content}

-- a message that arrived: the id of its parent, its date, and what it says
pub record Arrival : Type 0 where
  pub parent : Option (List ℕ)
  pub date : Option (List ℕ)
  pub content : Content

-- what a job sends of itself: a `kernel_info_request`, the `execute_request` of the request with this number from 0, an
-- `interrupt_request`, a ping, a `shutdown_request`
pub data Sending : Type 0 where
  Info : Sending
  Execute : ℕ → Sending
  Interrupt : Sending
  Ping : Sending
  Shutdown : Sending

-- how the bytes of a job's connections are read and written, under its key
pub record Codec : Type 0 where
  pub messages : Chan → List ℕ → List Arrival  -- the signed ones that the bytes hold whole, none with a signature of late; on the heartbeat each
  pub shaken : Chan → List ℕ → Bool  -- a greeting and READY are among the bytes
  pub fault : Chan → List ℕ → Option (ℕ × ℕ)  -- the number and the place of what breaks the grammar
  pub opening : Chan → List ℕ  -- our greeting and READY
  pub subscription : List ℕ → List ℕ  -- the subscription that is owed for these bytes on IOPub
  pub owed : Chan → List ℕ → List ℕ  -- all that our side of the socket owes for these bytes: the subscription, and PONGs
  pub put : Sending → ℕ → ℕ → List ℕ  -- what is sent, by its number among the job's messages and the clock
