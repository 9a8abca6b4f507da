-- What is queued on each connection, entry by entry (ZMTP 3.1, RFC 37; Jupyter messaging 5.3).
use Rattle.std.specs.Prelude.{ℕ, ◌+◌, ◌==◌, List, [], ◌∷◌, ◌++◌, if◌then◌else◌, length, drop, filter, flat_map, nat_lt, count_by}
use Rattle.world.specs.declared.chan.Chan.{Chan}
use Rattle.world.specs.declared.chan.Chan.TheVariants.{Shell, Control, Heart}
use Rattle.world.specs.declared.entry.Entry.{Entry}
use Rattle.world.specs.Places.{chan_number, time}
use Rattle.run_journal.specs.Codec.{Sending, Info, Execute, Interrupt, Ping, Shutdown}
use Rattle.run_journal.specs.Job.{Job}
use Rattle.run_journal.specs.Parts.{bytes_got}
use Rattle.run_journal.specs.Arrivals.{ask_state, is_shaken}
use Rattle.run_journal.specs.Looks.{pings}
use Rattle.run_journal.specs.Requests.{Request, requests, count_queued}

-- a queued message: what it asks for, its number among the job's messages with a header, and the clock
pub record Queued : Type 0 where
  pub what : Sending
  pub number : ℕ
  pub date : ℕ

-- the channel on which a message goes
abbrev pub channel_of : Sending → Chan
channel_of Info = Shell
channel_of (Execute k) = Shell
channel_of Interrupt = Control
channel_of Ping = Heart
channel_of Shutdown = Control

-- how many messages with a header the job has queued by now
abbrev pub count_messages : Job → List Entry → ℕ
count_messages j past = count_queued (length (ask_state j past).ids) (requests j past)

-- this message is queued, where a count of its kind has grown
abbrev pub grown : ℕ → ℕ → Queued → List Queued
grown before now queued = if nat_lt before now then queued ∷ [] else []

-- how many interrupts the job has queued
abbrev pub interrupts : Job → List Entry → ℕ
interrupts j past = count_by (λ (r : Request). r.interrupted) (requests j past)

-- the messages that the job queues at the newest entry
abbrev pub news : Job → List Entry → List Entry → List Queued
news j now past =
    grown (length (ask_state j past).ids) (length (ask_state j now).ids) (record { what = Info; number = count_messages j past + 1; date = time now })
    ++ grown (length (requests j past)) (length (requests j now)) (record { what = Execute (length (requests j past)); number = count_messages j past + 1; date = time now })
    ++ grown (interrupts j past) (interrupts j now) (record { what = Interrupt; number = count_messages j past + 1; date = time now })
    ++ grown (length (pings j past).queued) (length (pings j now).queued) (record { what = Ping; number = 0; date = 0 })

-- the octets of those messages that go on a channel
abbrev pub octets_on : Job → Chan → List Queued → List ℕ
octets_on j c queued = flat_map (λ q. j.codec.put q.what q.number q.date) (filter (λ q. chan_number (channel_of q.what) == chan_number c) queued)

-- What our side of the socket owes for what the newest entry brought: the subscription, where the entry finishes the
-- handshake, and a PONG for each PING that ends in it.
abbrev pub replies_at : Job → Chan → List Entry → List Entry → List ℕ
replies_at j c now past = drop (length (j.codec.owed c (bytes_got j c past))) (j.codec.owed c (bytes_got j c now))

-- the octets of the messages on a channel that wait for the end of its handshake
abbrev pub waits : Job → Chan → List Entry → List ℕ
waits j c [] = []
waits j c (entry ∷ past) = if is_shaken j c (entry ∷ past) then [] else waits j c past ++ octets_on j c (news j (entry ∷ past) past)

-- The octets of messages that an entry queues on a channel: none before the handshake is finished. The entry that finishes
-- it queues the messages that waited for it.
abbrev pub messages_at : Job → Chan → Entry → List Entry → List ℕ
messages_at j c entry past = if is_shaken j c (entry ∷ past) then waits j c past ++ octets_on j c (news j (entry ∷ past) past) else []

-- all that was queued on a channel while the job ran, in order: at each entry what the socket owes, and then messages
abbrev pub queue : Job → Chan → List Entry → List ℕ
queue j c [] = []
queue j c (entry ∷ past) = queue j c past ++ (replies_at j c (entry ∷ past) past ++ messages_at j c entry past)
