-- What reading adds to a journal, its newest entry first.
use Rattle.std.specs.Prelude.{◌≡◌, ◌<◌, ◌||◌, ℕ, Bool, List, [], ◌∷◌, true, false, Result, Ok, Err, Some, None, take}
use Rattle.world.specs.declared.conn.Conn.{Conn}
use Rattle.world.specs.declared.side.Side.TheVariants as side
use Rattle.world.specs.declared.entry.Entry.{Entry}
use Rattle.world.specs.declared.entry.Entry.TheVariants as made
use Rattle.world.specs.Moments.{Since}
use Rattle.world.specs.Places.{status, is_at, is_read, place_of}
use Rattle.ready_loop.specs.declared.fault.LoopFault.{LoopFault}
use Rattle.ready_loop.specs.declared.fault.LoopFault.TheVariants.{NetFault, Spent}
use Rattle.ready_loop.specs.declared.next.Next.{Next}
use Rattle.ready_loop.specs.declared.next.Next.TheVariants.{Piece, Ended, Refused, Quiet}
use Rattle.world.specs.declared.got.Got.{Got}
use Rattle.world.specs.declared.got.Got.TheVariants as got
use Rattle.ready_loop.specs.History.{History, with_named}
use Rattle.ready_loop.specs.Refusals.{RefusesUnused}

-- An entry is a read of a connection that was awake, had not failed and gave bytes less than 64 times since the last wait. It is
-- turned away only before a byte has passed.
pub record IsReadOf (conn : Conn) (past : List Entry) (entry : Entry) : Type 0 where
  pub read : is_read (place_of conn) entry ≡ true
  pub awake : (status (place_of conn) past).awake ≡ true
  pub sound : (status (place_of conn) past).failed ≡ false
  pub few : (status (place_of conn) past).count < 64
  pub unused : RefusesUnused (entry ∷ past)

-- the newest entry is such a read
abbrev pub ReadMoment : History → List Entry → Type 0
ReadMoment h [] = ⊥
ReadMoment h (entry ∷ past) = (conn : Conn) × IsReadOf conn past entry

-- the newest entry is a read that found nothing
abbrev pub IsDry : List Entry → Type 0
IsDry (made.Dry conn ∷ past) = Unit {0}
IsDry _ = ⊥

-- some connections were dry, and then came this entry
pub record ThenCame (entry : Entry) (before after : List Entry) : Type 0 where
  pub past : List Entry
  pub dry : Since IsDry before past
  pub newest : after ≡ entry ∷ past

-- the entries of a `next`, by its answer, the buffer's length and what the buffer then has
abbrev pub NextCame : Result Next LoopFault → ℕ → List ℕ → List Entry → List Entry → Type 0
NextCame (Ok (Piece conn n)) room buffer before after = ThenCame (made.Got conn room (take n buffer)) before after
NextCame (Ok (Ended conn)) room buffer before after = ThenCame (made.Ended conn side.Read) before after
NextCame (Ok (Refused conn)) room buffer before after = ThenCame (made.Refused conn side.Read) before after
NextCame (Ok Quiet) room buffer before after = Since IsDry before after
NextCame (Err (NetFault (Some conn))) room buffer before after = ThenCame (made.ReadFailed conn) before after
-- no other fault comes
NextCame (Err (NetFault None)) room buffer before after = ⊥
NextCame (Err Spent) room buffer before after = ⊥

-- what is asked of the loop after one read: the end that it finds is named
abbrev pub after_got : Got → Conn → History → History
after_got (got.Piece n) conn h = h
after_got got.Dry conn h = h
after_got got.Ended conn h = with_named (place_of conn) h
after_got got.Refused conn h = h
after_got got.Failed conn h = h

-- whether a connection has failed after one read of another or of it
abbrev pub failed_got : Got → Conn → ℕ → Bool → Bool
failed_got (got.Piece n) conn p was = was
failed_got got.Dry conn p was = was
failed_got got.Ended conn p was = was
failed_got got.Refused conn p was = was
failed_got got.Failed conn p was = is_at p conn || was
