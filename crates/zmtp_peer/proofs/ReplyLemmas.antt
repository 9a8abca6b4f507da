-- The octets of replies.
use Rattle.std.proofs.Common.{◌≡◌, ℕ, ◌<◌, Bool, true, false, cond, List, [], ◌∷◌, ◌++◌, length, refl, ap, sym, ◌∙◌, arith, append_assoc}
use Rattle.zmtp_wire.specs.declared.role.Role.{Role}
use Rattle.zmtp_wire.specs.Writing.{unit_octets, message_octets}
use Rattle.zmtp_peer.specs.Envelope.{has_envelope, with_envelope}
use Rattle.zmtp_peer.specs.Reply.{subscription_octets, pong, pongs}

pub newer_octets : (newer : Bool) → newer ≡ true → 4 ∷ 10 ∷ 9 ∷ 83 ∷ 85 ∷ 66 ∷ 83 ∷ 67 ∷ 82 ∷ 73 ∷ 66 ∷ 69 ∷ [] ≡ subscription_octets newer
unfolding unit_octets
newer_octets true e = refl
newer_octets false e = absurd (cc)

pub older_octets : (newer : Bool) → newer ≡ false → 0 ∷ 1 ∷ 1 ∷ [] ≡ subscription_octets newer
unfolding unit_octets
older_octets true e = absurd (cc)
older_octets false e = refl

pub pongs-append : (a b : List (List ℕ)) → pongs (a ++ b) ≡ pongs a ++ pongs b
pongs-append [] b = refl
pongs-append (c ∷ a) b = ap (λ x. pong c ++ x) (pongs-append a b) ∙ sym (append_assoc (pong c) (pongs a) (pongs b))

-- an empty frame with MORE stands before the body
enveloped_message : (parts : List (List ℕ)) → 0 < length parts → message_octets ([] ∷ parts) ≡ (1 ∷ 0 ∷ []) ++ message_octets parts
unfolding unit_octets
enveloped_message [] h = absurd (omega arith)
enveloped_message (p ∷ ps) h = refl

pub envelope_octets : (r : Role) (parts : List (List ℕ)) → has_envelope r ≡ true → 0 < length parts → message_octets (with_envelope r parts) ≡ (1 ∷ 0 ∷ []) ++ message_octets parts
envelope_octets r parts e h = ap (λ b. message_octets (cond b ([] ∷ parts) parts)) e ∙ enveloped_message parts h
