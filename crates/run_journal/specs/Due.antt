-- What is due on each connection, and that no other byte is put (ZMTP 3.1, RFC 37; Jupyter messaging 5.3).
use Rattle.std.specs.Prelude.{ℕ, ◌+◌, ◌&&◌, ◌||◌, List, [], ◌∷◌, ◌++◌, Bool, true, if◌then◌else◌, is_some, nat_eq, IsTrue}
use Rattle.std.specs.List.{list_all, starts_with}
use Rattle.world.specs.declared.chan.Chan.{Chan}
use Rattle.world.specs.declared.entry.Entry.{Entry}
use Rattle.world.specs.Places.{time}
use Rattle.run_journal.specs.Codec.{Shutdown}
use Rattle.run_journal.specs.Job.{Job}
use Rattle.run_journal.specs.Parts.{channels, bytes_put}
use Rattle.run_journal.specs.Arrivals.{is_shaken}
use Rattle.run_journal.specs.Queue.{Queued, count_messages, octets_on, queue}
use Rattle.run_journal.specs.Ends.{ending_of, is_spent, up_to_end}

-- the last message, once the job has ended after this journal
abbrev pub farewell : Job → List Entry → List Queued
farewell j end = record { what = Shutdown; number = count_messages j end + 1; date = time end } ∷ []

-- the job has ended, by itself or since no wait is left
abbrev pub has_ended : Job → List Entry → Bool
has_ended j past = is_some (ending_of j past) || is_spent j past

-- the octets of the last message on a channel: none where the handshake wasn't finished when the job ended
abbrev pub farewell_on : Job → Chan → List Entry → List ℕ
farewell_on j c end = if is_shaken j c end then octets_on j c (farewell j end) else []

-- what follows greeting and READY on a channel: all that was queued, and the last message once the job has ended
abbrev pub due_after : Job → Chan → List Entry → List ℕ
due_after j c past = queue j c (up_to_end j past) ++ (if has_ended j past then farewell_on j c (up_to_end j past) else [])

-- what is due on a channel
abbrev pub dues : Job → Chan → List Entry → List ℕ
dues j c past = j.codec.opening c ++ due_after j c past

-- what was put so far is a beginning of what is due
abbrev pub is_sent : Job → List Entry → Bool
is_sent j past = list_all (λ c. starts_with nat_eq (dues j c past) (bytes_put j c past)) channels

-- a test holds at every moment
abbrev pub all_along : (List Entry → Bool) → List Entry → Bool
all_along test [] = true
all_along test (entry ∷ past) = test (entry ∷ past) && all_along test past

-- at every moment only what is due was put
abbrev pub Sends : Job → List Entry → Type 0
Sends j past = IsTrue (all_along (is_sent j) past)
