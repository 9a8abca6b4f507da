-- What is queued on each connection.
use Rattle.std.specs.Prelude.{ℕ, List, [], Option, Some, None, slice_get}
use Rattle.world.specs.declared.put.Put.{Put}
use Rattle.world.specs.declared.put.Put.TheVariants as put

-- the bytes queued on one connection and not taken yet, and how many were taken
pub record Held : Type 0 where
  pub rest : List ℕ
  pub taken : ℕ

-- at a place where nothing is kept
abbrev pub held_in : Option Held → Held
held_in None = record { rest = []; taken = 0 }
held_in (Some held) = held

-- what is queued at a place and not taken yet
abbrev pub rest_at : List Held → ℕ → List ℕ
rest_at queues p = (held_in (slice_get queues p)).rest

-- how many bytes were taken at a place
abbrev pub taken_at : List Held → ℕ → ℕ
taken_at queues p = (held_in (slice_get queues p)).taken

-- how many bytes a write took
abbrev pub put_count : Put → ℕ
put_count (put.Took n) = n
put_count put.Stuck = 0
put_count put.Ended = 0
put_count put.Refused = 0
put_count put.Failed = 0
