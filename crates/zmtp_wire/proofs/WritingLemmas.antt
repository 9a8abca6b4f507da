-- What is written one after another.
use Rattle.std.proofs.Common.{◌≡◌, true, List, [], ◌∷◌, ◌++◌, map, refl, ap, sym, ◌∙◌, append_assoc}
use Rattle.zmtp_wire.specs.declared.role.Role.{Role}
use Rattle.zmtp_wire.specs.Command.{command_messages, command_contexts}
use Rattle.zmtp_wire.specs.Stream.{Message}
use Rattle.zmtp_wire.specs.Writing.{Writing, message, command, command_octets, message_octets, all_octets, AreMessages, AreWritings, writing_octets, messages_heard, contexts_heard}

pub octets_join : (ws vs : List Writing) → writing_octets (ws ++ vs) ≡ writing_octets ws ++ writing_octets vs
octets_join [] vs = refl
octets_join (message m ∷ ws) vs = ap (λ x. message_octets m ++ x) (octets_join ws vs) ∙ sym (append_assoc (message_octets m) (writing_octets ws) (writing_octets vs))
octets_join (command b ∷ ws) vs = ap (λ x. command_octets b ++ x) (octets_join ws vs) ∙ sym (append_assoc (command_octets b) (writing_octets ws) (writing_octets vs))

pub messages_join : (r : Role) (ws vs : List Writing) → messages_heard r (ws ++ vs) ≡ messages_heard r ws ++ messages_heard r vs
messages_join r [] vs = refl
messages_join r (message m ∷ ws) vs = ap (λ x. m ∷ x) (messages_join r ws vs)
messages_join r (command b ∷ ws) vs =
    ap (λ x. command_messages r true b ++ x) (messages_join r ws vs) ∙ sym (append_assoc (command_messages r true b) (messages_heard r ws) (messages_heard r vs))

pub contexts_join : (ws vs : List Writing) → contexts_heard (ws ++ vs) ≡ contexts_heard ws ++ contexts_heard vs
contexts_join [] vs = refl
contexts_join (message m ∷ ws) vs = contexts_join ws vs
contexts_join (command b ∷ ws) vs = ap (λ x. command_contexts true b ++ x) (contexts_join ws vs) ∙ sym (append_assoc (command_contexts true b) (contexts_heard ws) (contexts_heard vs))

pub writable_join : (ws vs : List Writing) → AreWritings ws → AreWritings vs → AreWritings (ws ++ vs)
writable_join [] vs a b = b
writable_join (message m ∷ ws) vs a b = (a.0, writable_join ws vs a.1 b)
writable_join (command c ∷ ws) vs a b = (a.0, writable_join ws vs a.1 b)

-- ---- messages alone

pub message_octets_of : (ms : List Message) → writing_octets (map message ms) ≡ all_octets ms
message_octets_of [] = refl
message_octets_of (m ∷ ms) = ap (λ x. message_octets m ++ x) (message_octets_of ms)

pub messages_of : (r : Role) (ms : List Message) → messages_heard r (map message ms) ≡ ms
messages_of r [] = refl
messages_of r (m ∷ ms) = ap (λ x. m ∷ x) (messages_of r ms)

pub contexts_of : (ms : List Message) → contexts_heard (map message ms) ≡ []
contexts_of [] = refl
contexts_of (m ∷ ms) = contexts_of ms

pub writable_of : (ms : List Message) → AreMessages ms → AreWritings (map message ms)
writable_of [] a = a
writable_of (m ∷ ms) a = (a.0, writable_of ms a.1)
