-- The signature of a message is the first frame after its delimiter.
use Rattle.std.proofs.Common.{◌≡◌, ℕ, List, [], ◌∷◌, ◌++◌, length, Some, refl, sym, ◌∙◌, ap}
use Rattle.std.specs.Prelude.{unwrap_or}
use Rattle.std.specs.Str.{bytes_eq}
use Rattle.std.proofs.lemmas.Bool.{cond-false, false_from_ne_true}
use Rattle.jtext.proofs.Equals.{equal_bytes}
use Rattle.jmsg.specs.declared.message.Message.{Message}
use Rattle.jmsg.specs.Decoding.{after_delimiter}
use Rattle.jmsg.specs.Signed.{AreRouting, Frames, Signed, delimiter}
use Rattle.jsign.specs.Hmac.{signature}
use Rattle.run_journal.specs.Jupyter.{first_frame, signature_frame}

after_routing : (routing after : List (List ℕ)) → AreRouting routing → after_delimiter (routing ++ delimiter ∷ after) ≡ Some after
after_routing [] after a = refl
after_routing (x ∷ routing) after a =
    cond-false (bytes_eq delimiter x) (Some (routing ++ delimiter ∷ after)) (after_delimiter (routing ++ delimiter ∷ after))
    (false_from_ne_true (bytes_eq delimiter x) (λ e. a.0 (sym (equal_bytes delimiter x e))))
    ∙ after_routing routing after a.1

-- the frame that a message's frames have as signature
pub signature_is : (parts : List (List ℕ)) (f : Frames parts) → signature_frame parts ≡ f.signature
signature_is parts f =
    let after : List (List ℕ) = f.signature ∷ f.header ∷ f.parent ∷ f.metadata ∷ f.content ∷ f.buffers in
    ap (λ o. first_frame (unwrap_or o [])) (ap after_delimiter f.follow.parts_are ∙ after_routing f.follow.routing after f.follow.are_routing)

-- a signed message has a signature of 64 digits
pub signed_long : ((key header parent metadata content : List ℕ) → length (signature key header parent metadata content) ≡ 64)
    → (key : List ℕ) (parts : List (List ℕ)) (m : Message) → Signed key parts m → length (signature_frame parts) ≡ 64
signed_long long key parts m s =
    ap length (signature_is parts s.0 ∙ s.1) ∙ long key s.0.header s.0.parent s.0.metadata s.0.content
