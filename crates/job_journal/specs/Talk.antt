-- What the job knows of its talk with the kernel, by the journal (Jupyter messaging 5.3, "Kernel info").
use Rattle.std.specs.Prelude.{◌≡◌, ◌+◌, ◌||◌, List, Bool, true, false, count_by}
use Rattle.std.specs.List.{list_any}
use Rattle.world.specs.declared.entry.Entry.{Entry}
use Rattle.kernel_talk.specs.Asking.{Asked}
use Rattle.kernel_talk.specs.Requests.{Identity}
use Rattle.run_journal.specs.Codec.{Arrival, Sending, Ping}
use Rattle.run_journal.specs.Job.{Job}
use Rattle.run_journal.specs.Arrivals.{ask_state, has_some, tells}
use Rattle.run_journal.specs.Queue.{Queued, count_messages}

-- a message with a header has a number, a ping has none
abbrev pub is_numbered : Sending → Bool
is_numbered Ping = false
is_numbered _ = true

-- a queued message has a number
abbrev pub has_number : Queued → Bool
has_number q = is_numbered q.what

-- What came of the asking is what the journal has, and the session has made each message that was queued but the unsent ones.
pub record OnTalk (j : Job) (asking : Asked) (session : Identity) (unsent : List Queued) (now : List Entry) : Type 0 where
  pub asks : asking ≡ ask_state j now
  pub made : session.made + count_by has_number unsent ≡ count_messages j now

-- the asking once these messages were heard on shell
abbrev pub heard_on_shell : Asked → List Arrival → Asked
heard_on_shell a ms = record { ids = a.ids; at = a.at; told = a.told || list_any (tells a.ids) ms; heard = a.heard }

-- the asking once these messages were heard on IOPub
abbrev pub heard_on_iopub : Asked → List Arrival → Asked
heard_on_iopub a ms = record { ids = a.ids; at = a.at; told = a.told; heard = a.heard || has_some ms }
