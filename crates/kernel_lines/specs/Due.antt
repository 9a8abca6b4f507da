-- Which octets are due on a connection, in order (RFC 23 and RFC 37): greeting and READY at once; the subscription and PONGs
-- where they are owed; and messages, which wait for the end of the handshake.
use Rattle.std.specs.Prelude.{ℕ, ◌+◌, cond, List, [], ◌∷◌, ◌++◌, length, drop, Option, None, Some}
use Rattle.zmtp_wire.specs.declared.role.Role.{Role}
use Rattle.zmtp_wire.specs.Meaning.{is_shaken}
use Rattle.zmtp_wire.specs.Writing.{greeting_octets, ready_octets, message_octets}
use Rattle.zmtp_peer.specs.Envelope.{with_envelope}
use Rattle.zmtp_peer.specs.Reply.{owed_octets, subscription_to}
use Rattle.kernel_lines.specs.Happened.{Came, Given, History, came_in}

-- a message as the role sends it
abbrev pub sent_octets : Role → List (List ℕ) → List ℕ
sent_octets r m = message_octets (with_envelope r m)

-- what a piece makes owed that wasn't owed before
abbrev pub newly_owed : Role → List ℕ → List ℕ → List ℕ
newly_owed r b piece = drop (length (owed_octets r b)) (owed_octets r (b ++ piece))

-- the messages that still wait for the end of the handshake
abbrev pub waiting_in : Role → History → List ℕ
waiting_in r [] = []
waiting_in r (Came piece ∷ past) = cond (is_shaken r (came_in past ++ piece)) [] (waiting_in r past)
waiting_in r (Given m ∷ past) = cond (is_shaken r (came_in past)) (waiting_in r past) (waiting_in r past ++ sent_octets r m)

-- all that was due so far
abbrev pub due_in : Role → History → List ℕ
due_in r [] = greeting_octets ++ ready_octets r
due_in r (Came piece ∷ past) =
    due_in r past ++ (newly_owed r (came_in past) piece ++ cond (is_shaken r (came_in past ++ piece)) (waiting_in r past) [])
due_in r (Given m ∷ past) = due_in r past ++ cond (is_shaken r (came_in past)) (sent_octets r m) []

-- the place behind a text that begins at this place, where there is one
abbrev pub end_of : ℕ → List ℕ → Option ℕ
end_of at [] = None
end_of at (x ∷ s) = Some (at + length (x ∷ s))

-- the first of two places
abbrev pub first_of : Option ℕ → Option ℕ → Option ℕ
first_of None later = later
first_of (Some at) later = Some at

-- how many octets were due with the subscription, once it was: it is what a piece makes owed first
abbrev pub subscription_end : Role → History → Option ℕ
subscription_end r [] = None
subscription_end r (Came piece ∷ past) =
    first_of (subscription_end r past) (end_of (length (due_in r past)) (subscription_to r (came_in past ++ piece)))
subscription_end r (Given m ∷ past) = subscription_end r past
