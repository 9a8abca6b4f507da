-- Which signed messages were heard on a channel, and which signatures were seen (Jupyter messaging 5.3, "The wire protocol"; jupyter_client's
-- digest history).
use Rattle.std.specs.Prelude.{◌≡◌, ℕ, List, [], ◌∷◌, ◌++◌, map, Option, Some, None}
use Rattle.world.specs.declared.chan.Chan.{Chan}
use Rattle.jsign.specs.History.{StandsFor, signatures_of, fresh_items}
use Rattle.run_journal.specs.Codec.{Arrival}
use Rattle.jmsg.specs.declared.message.Message.{Message}
use Rattle.run_journal.specs.Job.{Job}
use Rattle.run_journal.specs.Jupyter.{arrival_of, bodies_in, signed_items}

-- the signed messages among these bodies, none whose signature is that of one of the last 65,536 that were kept
unfoldable pub heard_in : List ℕ → List (List (List ℕ)) → List Arrival
heard_in key bodies = map (λ item. item.1) (fresh_items (signed_items key bodies))

-- the signatures that were seen are those of the signed messages among these bodies
pub record HasSeen (key : List ℕ) (seen : List (List ℕ)) (bodies : List (List (List ℕ))) : Type 0 where
  pub stands : StandsFor seen (signatures_of (signed_items key bodies))

-- with one more message, where one is heard
abbrev pub and_heard : List Arrival → Option Message → List Arrival
and_heard messages None = messages
and_heard messages (Some m) = messages ++ arrival_of m ∷ []

-- Of the bodies that came after those before, these are dealt with: their signatures were seen, and these messages were heard in them.
pub record HasHeard (key : List ℕ) (before done : List (List (List ℕ))) (seen : List (List ℕ)) (messages : List Arrival) : Type 0 where
  pub known : HasSeen key seen (before ++ done)
  pub heard : heard_in key (before ++ done) ≡ heard_in key before ++ messages

-- on this channel a job reads the messages that are signed under the key
abbrev pub ReadsSigned : List ℕ → Job → Chan → Type 0
ReadsSigned key j c = (bytes : List ℕ) → j.codec.messages c bytes ≡ heard_in key (bodies_in c bytes)
