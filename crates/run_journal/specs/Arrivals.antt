-- The messages that arrive, and when a kernel is ready (Jupyter messaging 5.3, "Kernel info"; nbclient and jupyter_client, `wait_for_ready`).
use Rattle.std.specs.Prelude.{ℕ, ◌+◌, ◌&&◌, ◌||◌, List, [], ◌∷◌, ◌++◌, Bool, true, false, Option, Some, None, if◌then◌else◌, length, drop, map, nat_le}
use Rattle.std.specs.List.{list_any}
use Rattle.world.specs.declared.chan.Chan.{Chan}
use Rattle.world.specs.declared.chan.Chan.TheVariants.{Shell, Iopub}
use Rattle.world.specs.declared.entry.Entry.{Entry}
use Rattle.world.specs.Waits.{moment_of}
use Rattle.jcontent.specs.declared.content.Content.{Content}
use Rattle.jcontent.specs.declared.content.Content.TheVariants as content
use Rattle.kernel_talk.specs.Asking.{Asked, no_asking, asks}
use Rattle.jtext.specs.Texts.{is_among}
use Rattle.kernel_talk.specs.Asking as asking
use Rattle.run_journal.specs.Codec.{Arrival}
use Rattle.run_journal.specs.Job.{Job}
use Rattle.run_journal.specs.Parts.{bytes_got, bytes_put}

-- ---- messages

-- the messages that the bytes got so far hold
abbrev pub heard : Job → Chan → List Entry → List Arrival
heard j c past = j.codec.messages c (bytes_got j c past)

-- the messages whose last byte an entry brings, by what came before it
unfoldable pub arrive : Job → Chan → Entry → List Entry → List Arrival
arrive j c entry past = drop (length (heard j c past)) (heard j c (entry ∷ past))

-- all that arrived, each with the number of its entry, counted from 0
abbrev pub arrivals : Job → Chan → List Entry → List (ℕ × Arrival)
arrivals j c [] = []
arrivals j c (entry ∷ past) = arrivals j c past ++ map (λ m. (length past, m)) (arrive j c entry past)

-- it is a `kernel_info_reply`
abbrev pub is_info_reply : Content → Bool
is_info_reply content.InfoReply = true
is_info_reply _ = false

-- a message came
abbrev pub has_some : List Arrival → Bool
has_some [] = false
has_some (m ∷ ms) = true

-- ---- readiness

-- the handshake on a connection is finished
unfoldable pub is_shaken : Job → Chan → List Entry → Bool
is_shaken j c past = j.codec.shaken c (bytes_got j c past)

-- how many bytes on IOPub the subscription ends at
abbrev pub subscribed_at : Job → List Entry → ℕ
subscribed_at j past = length (j.codec.opening Iopub) + length (j.codec.subscription (bytes_got j Iopub past))

-- a kernel can be asked: the handshakes on shell and IOPub are finished, and the subscription was taken
unfoldable pub can_ask : Job → List Entry → Bool
can_ask j past = is_shaken j Shell past && is_shaken j Iopub past && nat_le (subscribed_at j past) (length (bytes_put j Iopub past))

-- the parent of a message is one of these requests
abbrev pub answers : List (List ℕ) → Option (List ℕ) → Bool
answers ids None = false
answers ids (Some parent) = is_among parent ids

-- a message is a reply to one of these `kernel_info_request`s
abbrev pub tells : List (List ℕ) → Arrival → Bool
tells ids m = is_info_reply m.content && answers ids m.parent

-- a kernel that can be asked is asked at this clock entry
abbrev pub is_asked : Bool → Asked → Option ℕ → Bool
is_asked can a None = false
is_asked can a (Some ms) = asks a can ms

-- What an entry makes of the asking: by whether the kernel could be asked before it, the clock where it is a clock entry, the
-- id of the next request, and the messages that came on shell and on IOPub.
unfoldable pub ask_on : Asked → Bool → Option ℕ → List ℕ → List Arrival → List Arrival → Asked
ask_on a can clock id shell iopub = record {
  ids = if is_asked can a clock then a.ids ++ id ∷ [] else a.ids;
  at = if is_asked can a clock then clock else a.at;
  told = a.told || list_any (tells a.ids) shell;
  heard = a.heard || has_some iopub;
}

-- What has come of the asking. The first messages of a job are its `kernel_info_request`s.
abbrev pub ask_state : Job → List Entry → Asked
ask_state j [] = no_asking
ask_state j (entry ∷ past) =
    ask_on (ask_state j past) (can_ask j past) (moment_of entry) (j.msg_id (length (ask_state j past).ids + 1)) (arrive j Shell entry past)
    (arrive j Iopub entry past)

-- the kernel is ready
abbrev pub is_ready : Job → List Entry → Bool
is_ready j past = asking.is_ready (ask_state j past)
