-- What our side of a connection stands for, by the journal (RFC 23 and RFC 37; Jupyter messaging 5.3, "The wire protocol").
use Rattle.std.specs.Prelude.{◌≡◌, ◌==◌, ℕ, Bool, false, List, [], ◌∷◌, codes, filter, if◌then◌else◌}
use Rattle.world.specs.declared.chan.Chan.{Chan}
use Rattle.world.specs.declared.entry.Entry.{Entry}
use Rattle.world.specs.declared.entry.Entry.TheVariants as made
use Rattle.world.specs.Places.{chan_number, is_at}
use Rattle.jmsg.specs.Encoded.{encode}
use Rattle.jcontent.specs.Requests as contents
use Rattle.kernel_talk.specs.Requests.{request}
use Rattle.kernel_lines.specs.Happened.{Happened, Came, Given, History, came_in}
use Rattle.kernel_lines.specs.Line.{StandsFor, role_of}
use Rattle.kernel_lines.specs.Lines.{role_on}
use Rattle.kernel_lines.specs.declared.line.Line.{Line}
use Rattle.run_journal.specs.Codec.{Sending, Info, Execute, Interrupt, Ping, Shutdown}
use Rattle.run_journal.specs.Job.{Job}
use Rattle.run_journal.specs.Jupyter.{Speaker}
use Rattle.run_journal.specs.Parts.{place, bytes_got}
use Rattle.run_journal.specs.Queue.{Queued, channel_of, news}

-- the parts of a message that a speaker sends, by its number and the clock
abbrev pub parts_of : Speaker → Sending → ℕ → ℕ → List (List ℕ)
parts_of s Info number ms = encode s.key (request s.session number ms (codes "kernel_info_request") contents.empty)
parts_of s (Execute k) number ms =
    encode s.key (request s.session number ms (codes "execute_request") (contents.execute (s.code k) (s.stop_on_error k)))
parts_of s Interrupt number ms = encode s.key (request s.session number ms (codes "interrupt_request") contents.empty)
parts_of s Ping number ms = codes "ping" ∷ []
parts_of s Shutdown number ms = encode s.key (request s.session number ms (codes "shutdown_request") contents.shutdown)

-- a queued message as a connection is given it
abbrev pub given_as : Speaker → Queued → Happened
given_as s q = Given (parts_of s q.what q.number q.date)

-- a history with these messages given after it, in order
abbrev pub gives : Speaker → List Queued → History → History
gives s [] h = h
gives s (q ∷ queued) h = gives s queued (given_as s q ∷ h)

-- a message goes on this channel
abbrev pub is_on : Chan → Queued → Bool
is_on c q = chan_number (channel_of q.what) == chan_number c

-- those of the messages that go on a channel
abbrev pub sent_on : Chan → List Queued → List Queued
sent_on c queued = filter (is_on c) queued

-- a history with the bytes that an entry brings on a connection of the job
abbrev pub comes : Job → Chan → Entry → History → History
comes j c (made.Got conn room bytes) h = if is_at (place j c) conn then Came bytes ∷ h else h
comes j c _ h = h

-- an entry is of bytes that were got at this place
abbrev pub is_got_at : ℕ → Entry → Bool
is_got_at p (made.Got conn room bytes) = is_at p conn
is_got_at p _ = false

-- what happened on a connection of the job: at each entry the bytes came that it brings, and then the messages were given that the job queues at it
unfoldable pub history : Speaker → Job → Chan → List Entry → History
history s j c [] = []
history s j c (entry ∷ past) = gives s (sent_on c (news j (entry ∷ past) past)) (comes j c entry (history s j c past))

-- A connection stands for the bytes that were got on it, and for all messages that the job has queued on it but the unsent ones.
pub record OnLine (s : Speaker) (j : Job) (c : Chan) (l : Line) (unsent : List Queued) (now : List Entry) : Type 0 where
  pub past : History
  pub out : List ℕ
  pub role : role_of l ≡ role_on c
  pub stands : StandsFor l past out
  pub got : came_in past ≡ bytes_got j c now
  pub is : gives s (sent_on c unsent) past ≡ history s j c now
