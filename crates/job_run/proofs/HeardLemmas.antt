-- What is known of a message that was decoded.
use Rattle.std.proofs.Common.{◌≡◌, ◌∙◌, ◌↔◌, ℕ, Bool, true, false, List, [], ◌∷◌, ◌++◌, length, IsTrue, Option, Some, None, refl, ap, sym, subst}
use Rattle.std.specs.Prelude.{if◌then◌else◌}
use Rattle.std.specs.List.{Contains}
use Rattle.std.proofs.lemmas.Bool.{false≢true}
use Rattle.jtext.proofs.SpelledKeyed.{spells_keyed}
use Rattle.jsign.specs.Hmac.{signature}
use Rattle.jsign.specs.History.{recent}
use Rattle.jmsg.specs.declared.decoded.Decoded.{Decoded}
use Rattle.jmsg.specs.declared.decoded.Decoded.TheVariants.{Good}
use Rattle.jmsg.specs.declared.message.Message.{Message}
use Rattle.jmsg.specs.Signed.{Decodes, Frames, Signed}
use Rattle.jsign.specs.History.{StandsFor, signatures_of, IsFresh as IsFreshOf}
use Rattle.jmsg.specs.Decoding.{decode}
use Rattle.run_journal.specs.Codec.{Arrival}
use Rattle.run_journal.specs.Jupyter.{signature_frame, signed_items}
use Rattle.job_journal.specs.Seen.{HasHeard, and_heard}
use Rattle.job_run.specs.Heard.{HearsOf, IsContent, IsFresh, IsStale, IsUnseen}

signed_content : (key : List ℕ) (parts : List (List ℕ)) (m : Message) → Signed key parts m → IsContent m.content
signed_content key parts m s = record {
  keyed = spells_keyed m.content s.0.content s.2.is_content.spelled;
  nests = s.2.is_content.nests;
}

-- ---- signatures

module _ (key : List ℕ) (parts was now : List (List ℕ)) where
  -- what is found in the parts is the signature of the message that they are
  pub signature_of : (found : Option (List ℕ)) → ((key header parent metadata content : List ℕ) → length (signature key header parent metadata content) ≡ 64)
      → ((f : Frames parts) → length f.signature ≡ 64 → found ≡ Some f.signature) → (m : Message) (s : Signed key parts m) → found ≡ Some s.0.signature
  signature_of found long only m s = only s.0 (ap length s.1 ∙ long key s.0.header s.0.parent s.0.metadata s.0.content)

  pub same_some : (a b : List ℕ) → Some a ≡ Some b → a ≡ b
  same_some a b e = cc

  pub heard_fresh : (d : Decoded) (m : Message) (sig : List ℕ) (fresh : Bool) → d ≡ Good m → Decodes key parts d → ((n : Message) (s : Signed key parts n) → Some sig ≡ Some s.0.signature)
      → fresh ≡ true → IsTrue fresh ↔ ¬ (Contains was sig) → now ≡ (if fresh then recent (was ++ sig ∷ []) else was) → IsFresh key parts was now m
  heard_fresh d m sig fresh is decodes own so tells kept =
      let signed : Signed key parts m = subst (Decodes key parts) is decodes in
      let same : sig ≡ signed.0.signature = same_some sig signed.0.signature (own m signed) in
      record {
        signed = signed;
        unseen = subst (IsUnseen was) same (tells.0 so);
        seen = kept ∙ ap (λ b. if b then recent (was ++ sig ∷ []) else was) so ∙ ap (λ x. recent (was ++ x ∷ [])) same;
      }

  pub heard_stale : (sig : List ℕ) (fresh : Bool) → ((n : Message) (s : Signed key parts n) → Some sig ≡ Some s.0.signature)
      → fresh ≡ false → IsTrue fresh ↔ ¬ (Contains was sig) → now ≡ (if fresh then recent (was ++ sig ∷ []) else was) → IsStale key parts was now
  heard_stale sig fresh own off tells kept = record {
    seen = λ m signed unseen. false≢true (sym off ∙ tells.1 (subst (IsUnseen was) (sym (same_some sig signed.0.signature (own m signed))) unseen));
    same = kept ∙ ap (λ b. if b then recent (was ++ sig ∷ []) else was) off;
  }

-- the message that is heard came signed
pub heard_content : (key : List ℕ) (parts was now : List (List ℕ)) (o : Option Message) (m : Message) → o ≡ Some m → HearsOf key parts was now o → IsContent m.content
heard_content key parts was now o m is h = signed_content key parts m (subst (HearsOf key parts was now) is h).signed

-- ---- what is heard in bodies, one after another

module _ (key : List ℕ) (parts was now : List (List ℕ)) (before done : List (List (List ℕ))) (messages : List Arrival) where
  -- what the law on bodies says of a signed one
  abbrev pub SignedIsHeard : Message → Bool → Type 0
  SignedIsHeard m fresh = decode key parts ≡ Some m → HasHeard key before done was messages
      → (IsTrue fresh ↔ IsFreshOf (signatures_of (signed_items key (before ++ done))) (signature_frame parts))
      → StandsFor now (signatures_of (signed_items key (before ++ done)) ++ signature_frame parts ∷ [])
      → HasHeard key before (done ++ parts ∷ []) now (and_heard messages (if fresh then Some m else None))

  -- what the history of the signatures says of this one
  abbrev pub IsOffered : List ℕ → Bool → Type 0
  IsOffered sig fresh = (IsTrue fresh ↔ IsFreshOf (signatures_of (signed_items key (before ++ done))) sig)
      × StandsFor now (signatures_of (signed_items key (before ++ done)) ++ sig ∷ [])

  -- a signed body is heard where its signature is fresh
  pub body_heard : (m : Message) (sig : List ℕ) (fresh answer : Bool) → SignedIsHeard m fresh → decode key parts ≡ Some m → HasHeard key before done was messages
      → signature_frame parts ≡ sig → IsOffered sig fresh → fresh ≡ answer → HasHeard key before (done ++ parts ∷ []) now (and_heard messages (if answer then Some m else None))
  body_heard m sig fresh answer law decoded h frame offered is =
      let own : IsOffered (signature_frame parts) fresh = subst (λ s. IsOffered s fresh) (sym frame) offered in
      subst (λ b. HasHeard key before (done ++ parts ∷ []) now (and_heard messages (if b then Some m else None))) is (law decoded h own.0 own.1)

-- parts that are no signed message decode to none
pub undecoded : (key : List ℕ) (parts : List (List ℕ)) (o : Option Message) → ((m : Message) → o ≡ Some m → Signed key parts m) → ((m : Message) → ¬ (Signed key parts m)) → o ≡ None
undecoded key parts None signed none = refl
undecoded key parts (Some m) signed none = absurd (none m (signed m refl))
