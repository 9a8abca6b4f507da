-- What a read of the loop brings to the jobs of a run. A journal has its newest entry first.
use Rattle.std.specs.Prelude.{◌≡◌, ◌≢◌, ℕ, List, ◌∷◌, true, Result, Ok, take}
use Rattle.world.specs.declared.conn.Conn.{Conn}
use Rattle.world.specs.declared.entry.Entry.{Entry}
use Rattle.world.specs.declared.entry.Entry.TheVariants as made
use Rattle.world.specs.Moments.{Since}
use Rattle.world.specs.Places.{is_at}
use Rattle.ready_loop.specs.declared.fault.LoopFault.{LoopFault}
use Rattle.ready_loop.specs.declared.next.Next.{Next}
use Rattle.ready_loop.specs.declared.next.Next.TheVariants.{Piece}
use Rattle.run_journal.specs.Job.{Job}
use Rattle.run_journal.specs.Parts.{place}
use Rattle.job_journal.specs.Quiet.{IsQuietNow}

-- The newest entry is of these bytes, got on this connection, and all others since the call are quiet for every job. It is quiet for
-- each job but that of the connection, whose own connection of that channel it is.
pub record BringsBytes (conn : Conn) (room : ℕ) (bytes : List ℕ) (before after : List Entry) : Type 0 where
  pub past : List Entry
  pub quiet : (j : Job) → Since (IsQuietNow j) before past
  pub newest : after ≡ made.Got conn room bytes ∷ past
  pub others : (j : Job) → conn.job ≢ j.number → Since (IsQuietNow j) before after
  pub own : (j : Job) → conn.job ≡ j.number → is_at (place j conn.chan) conn ≡ true

-- What a `next` brings, by its answer, the buffer's length and what the buffer then has: the bytes of a piece, and else nothing to
-- any job.
abbrev pub NextBrings : Result Next LoopFault → ℕ → List ℕ → List Entry → List Entry → Type 0
NextBrings (Ok (Piece conn n)) room buffer before after = BringsBytes conn room (take n buffer) before after
NextBrings _ room buffer before after = (j : Job) → Since (IsQuietNow j) before after
