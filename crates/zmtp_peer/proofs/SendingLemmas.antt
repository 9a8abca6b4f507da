-- What one side sends, the other reads.
use Rattle.std.proofs.Common.{◌≡◌, ℕ, Bool, true, false, cond, List, [], ◌∷◌, ◌++◌, length, Some, Ok, refl, ap, ◌∙◌, arith}
use Rattle.std.proofs.lemmas.List.Sums.{sum_by-cons}
use Rattle.zmtp_wire.specs.declared.role.Role.{Role}
use Rattle.zmtp_wire.specs.Command.{is_peer}
use Rattle.zmtp_wire.specs.Stream.{Gives, stream}
use Rattle.zmtp_wire.specs.Writing.{greeting_octets, ready_octets, role_name, all_octets, IsMessage, AreMessages}
use Rattle.zmtp_wire.proofs.WriteLemmas.{written}
use Rattle.zmtp_peer.specs.Envelope.{has_envelope, with_envelope, body_in, bodies_of}
use Rattle.zmtp_peer.proofs.BodyLemmas.{body_plain}
use Rattle.zmtp_peer.specs.Sending.{IsBody, AreBodies, all_enveloped}

message_on : (b : Bool) (m : List (List ℕ)) → IsBody m → IsMessage (cond b ([] ∷ m) m)
message_on false m h = let s = h.some in let f = h.few in let k = h.small in record { some = s; few = omega arith; small = k }
message_on true m h =
    let f = h.few in
    let k = h.small in
    let c = sum_by-cons (λ (q : List ℕ). length q) [] m in
    record { some = omega arith; few = omega arith; small = omega (arith, c) }

messages : (r : Role) (ms : List (List (List ℕ))) → AreBodies ms → AreMessages (all_enveloped r ms)
messages r [] h = h
messages r (m ∷ ms) h = (message_on (has_envelope r) m h.0, messages r ms h.1)

pub sent_gives : (r peer : Role) (ms : List (List (List ℕ))) → is_peer r (Some (role_name peer)) ≡ true → AreBodies ms
    → Gives r (greeting_octets ++ (ready_octets peer ++ all_octets (all_enveloped peer ms))) (all_enveloped peer ms) [] (Ok tt)
sent_gives r peer ms e h = stream (all_enveloped peer ms) [] [] (written r peer (all_enveloped peer ms) e (messages peer ms h))

body_on : (a b : Bool) (m : List (List ℕ)) (r peer : Role) → has_envelope r ≡ a → has_envelope peer ≡ b → a ≡ b → body_in r (with_envelope peer m) ≡ m ∷ []
body_on true true m r peer e f h = ap (λ c. body_in r (cond c ([] ∷ m) m)) f ∙ ap (λ c. cond c (m ∷ []) (([] ∷ m) ∷ [])) e
body_on false false m r peer e f h = ap (λ c. body_in r (cond c ([] ∷ m) m)) f ∙ body_plain r m e
body_on true false m r peer e f h = absurd (cc)
body_on false true m r peer e f h = absurd (cc)

pub sent_bodies : (r peer : Role) (ms : List (List (List ℕ))) → has_envelope r ≡ has_envelope peer → bodies_of r (all_enveloped peer ms) ≡ ms
sent_bodies r peer [] h = refl
sent_bodies r peer (m ∷ ms) h = ap (λ x. x ++ bodies_of r (all_enveloped peer ms)) (body_on (has_envelope r) (has_envelope peer) m r peer refl refl h) ∙ ap (λ x. m ∷ x) (sent_bodies r peer ms h)
