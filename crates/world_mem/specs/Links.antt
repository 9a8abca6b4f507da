-- Which of the 64 connections are up, kept beside a journal, its newest entry first.
use Rattle.std.specs.Prelude.{ℕ, zero, suc, ◌/◌, ◌%◌, List, [], ◌∷◌, Bool, true, false, Option, Some, None, replicate, slice_set}
use Rattle.world.specs.declared.chan.Chan.{Chan}
use Rattle.world.specs.declared.chan.Chan.TheVariants.{Shell, Control, Iopub, Heart}
use Rattle.world.specs.declared.conn.Conn.{Conn}
use Rattle.world.specs.declared.connected.Connected.{Connected}
use Rattle.world.specs.declared.connected.Connected.TheVariants as connected
use Rattle.world.specs.declared.entry.Entry.{Entry}
use Rattle.world.specs.declared.entry.Entry.TheVariants as made
use Rattle.world.specs.Places.{place_of, is_reported}

-- which are up after a connect
abbrev pub ups_after_connect : Conn → Connected → List Bool → List Bool
ups_after_connect conn connected.Begun ups = slice_set ups (place_of conn) true
ups_after_connect conn connected.Refused ups = slice_set ups (place_of conn) false
ups_after_connect conn connected.Failed ups = ups

-- which are up after an entry
abbrev pub ups_after : Entry → List Bool → List Bool
ups_after (made.Connected conn port how) ups = ups_after_connect conn how ups
ups_after (made.Closed conn) ups = slice_set ups (place_of conn) false
ups_after (made.Ended conn by) ups = slice_set ups (place_of conn) false
ups_after (made.Refused conn by) ups = slice_set ups (place_of conn) false
-- no other entry begins or ends a connection
ups_after _ ups = ups

-- which are up after these entries
abbrev pub ups_of : List Entry → List Bool
ups_of [] = replicate 64 false
ups_of (entry ∷ past) = ups_after entry (ups_of past)

-- which are up by the journal, and these where it is no longer told
abbrev pub ups_told : Option (List Entry) → List Bool → List Bool
ups_told None ups = ups
ups_told (Some past) ups = ups_of past

-- a connection is up
abbrev pub is_up : List Bool → Conn → Bool
is_up ups conn = is_reported (place_of conn) ups

-- the channel with a number, in the order of `Chan`
abbrev pub chan_at : ℕ → Chan
chan_at zero = Shell
chan_at (suc zero) = Control
chan_at (suc (suc zero)) = Iopub
chan_at (suc (suc (suc n))) = Heart

-- the connection at a place
abbrev pub conn_of : ℕ → Conn
conn_of place = record { job = place / 4; chan = chan_at (place % 4) }
