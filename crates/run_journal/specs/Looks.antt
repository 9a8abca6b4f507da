-- Last looks at what has arrived, and what shows that a kernel is lost (nbclient reads what had arrived before it calls a cell timed out or a
-- kernel dead; Jupyter messaging 5.3, "Heartbeat for kernels").
use Rattle.std.specs.Prelude.{ℕ, ◌+◌, ◌-◌, ◌*◌, ◌==◌, ◌&&◌, ◌||◌, List, [], ◌∷◌, ◌++◌, Bool, false, not, Option, Some, None, if◌then◌else◌, length, min, nat_le, slice_get, option_map}
use Rattle.std.specs.List.{list_any, list_all}
use Rattle.world.specs.declared.chan.Chan.{Chan}
use Rattle.world.specs.declared.chan.Chan.TheVariants.{Heart}
use Rattle.world.specs.declared.did.Did.TheVariants as did
use Rattle.world.specs.declared.entry.Entry.{Entry}
use Rattle.world.specs.declared.entry.Entry.TheVariants as made
use Rattle.world.specs.Places.{is_at}
use Rattle.world.specs.Waits.{before_wait, to_wait, since_wait, moment_of}
use Rattle.kernel_talk.specs.Pinging.{Pinged, is_lost as is_silent_by}
use Rattle.kernel_talk.specs.Pinging as pinging
use Rattle.run_journal.specs.Codec.{Ping}
use Rattle.run_journal.specs.Job.{Job}
use Rattle.run_journal.specs.Parts.{channels, place, connection, bytes_got, bytes_put, turn_clock}
use Rattle.run_journal.specs.Arrivals.{arrive, has_some, is_ready, is_shaken}

-- ---- the last wait

-- the newest entry is a done wait with limit 0
abbrev pub is_short_wait : List Entry → Bool
is_short_wait [] = false
is_short_wait (made.Waited ms reports did.Done ∷ past) = ms == 0
is_short_wait (_ ∷ past) = false

-- there is nothing more to read at this place, for now or at all
abbrev pub ends_reading : ℕ → Entry → Bool
ends_reading p (made.Dry conn) = is_at p conn
ends_reading p (made.Ended conn by) = is_at p conn
ends_reading p (made.Refused conn by) = is_at p conn
ends_reading p _ = false

-- since the last wait a connection was read to its end, or 64 times
abbrev pub is_drained : Job → Chan → List Entry → Bool
is_drained j c past = list_any (ends_reading (place j c)) (since_wait past) || nat_le 64 (connection j c past).count

-- each connection of the job that was awake after the last wait was drained
abbrev pub is_read_through : Job → List Entry → Bool
is_read_through j past = list_all (λ c. not (connection j c (to_wait past)).awake || is_drained j c past) channels

-- A look at the job is done: after a short wait each connection of it that was awake was drained. It is a look after all
-- that stands before that wait.
unfoldable pub is_look : Job → List Entry → Bool
is_look j past = is_short_wait (to_wait past) && is_read_through j past

-- a test held at some moment
abbrev pub ever : (List Entry → Bool) → List Entry → Bool
ever test [] = false
ever test (entry ∷ past) = test (entry ∷ past) || ever test past

-- ---- pings

-- the pings that were queued, and how many of them before the last message on the heartbeat
pub record Pings : Type 0 where
  pub queued : List pinging.Ping
  pub echoed : ℕ

-- the last of these
abbrev pub last_of : {X : Type 0} → List X → Option X
last_of [] = None
last_of (x ∷ []) = Some x
last_of (x ∷ y ∷ xs) = last_of (y ∷ xs)

-- how the pings stand: the last one, how many since the last message, at most ten counted, and the tenth of those
abbrev pub pinged_of : Pings → Pinged
pinged_of ps = record {
  last = option_map (λ (p : pinging.Ping). p.at) (last_of ps.queued);
  count = min (length ps.queued - ps.echoed) 10;
  tenth = slice_get ps.queued (ps.echoed + 9);
}

-- a kernel can be pinged: it is ready, and the handshake on the heartbeat is finished
unfoldable pub can_ping : Job → List Entry → Bool
can_ping j past = j.heartbeat && is_ready j past && is_shaken j Heart past

-- how many bytes on the heartbeat the next ping ends at, after so many pings
abbrev pub ping_end : Job → List Entry → ℕ → ℕ
ping_end j past n =
    length (j.codec.opening Heart) + length (j.codec.owed Heart (bytes_got j Heart past)) + (n + 1) * length (j.codec.put Ping 0 0)

-- one more ping, where one is queued at this clock entry
abbrev pub with_ping : Pings → Bool → Option ℕ → ℕ → List pinging.Ping
with_ping ps can None end = ps.queued
with_ping ps can (Some ms) end =
    if pinging.pings (pinged_of ps) can ms then ps.queued ++ record { at = ms; end = end } ∷ [] else ps.queued

-- What an entry makes of the pings: by whether the kernel could be pinged before it, the clock where it is a clock entry,
-- where the next ping ends, and whether a message came on the heartbeat.
unfoldable pub ping_on : Pings → Bool → Option ℕ → ℕ → Bool → Pings
ping_on ps can clock end echo = record {
  queued = with_ping ps can clock end;
  echoed = if echo then length ps.queued else ps.echoed;
}

-- the pings by now
abbrev pub pings : Job → List Entry → Pings
pings j [] = record { queued = []; echoed = 0 }
pings j (entry ∷ past) =
    ping_on (pings j past) (can_ping j past) (moment_of entry) (ping_end j past (length (pings j past).queued)) (has_some (arrive j Heart entry past))

-- at this clock entry ten pings without a message were taken whole, and 3,000 ms have passed since the tenth
abbrev pub is_silent_at : Pings → Option ℕ → ℕ → Bool
is_silent_at ps None taken = false
is_silent_at ps (Some ms) taken = is_silent_by (pinged_of ps) ms taken

-- at a clock entry after this journal ten pings without a message were taken whole, and 3,000 ms have passed since the tenth
unfoldable pub is_silent : Job → Option ℕ → List Entry → Bool
is_silent j clock past = is_silent_at (pings j past) clock (length (bytes_put j Heart past))

-- ---- what a look finds

-- an entry ends a connection of the job, or shows that its child has ended
abbrev pub ends : Job → Entry → Bool
ends j (made.Ended conn by) = conn.job == j.number
ends j (made.Looked job (Some status)) = job == j.number
ends j _ = false

-- the newest entry shows that the kernel is lost
abbrev pub shows_lost : Job → List Entry → Bool
shows_lost j [] = false
shows_lost j (entry ∷ past) = ends j entry || is_silent j (moment_of entry) past

-- a look is done after an entry that shows it
unfoldable pub is_lost : Job → List Entry → Bool
is_lost j past = is_look j past && ever (shows_lost j) (before_wait past)

-- a clock is at or past this moment
abbrev pub is_at_least : ℕ → Option ℕ → Bool
is_at_least deadline None = false
is_at_least deadline (Some ms) = nat_le deadline ms

-- the newest entry is a turn's clock entry at or past this moment
abbrev pub is_past : ℕ → List Entry → Bool
is_past deadline past = is_at_least deadline (turn_clock past)

-- a look is done after such an entry
unfoldable pub ran_out : Job → ℕ → List Entry → Bool
ran_out j deadline past = is_look j past && ever (is_past deadline) (before_wait past)
