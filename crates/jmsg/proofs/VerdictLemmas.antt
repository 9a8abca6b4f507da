-- Only one verdict is true of parts.
use Rattle.std.proofs.Common.{◌≡◌, ℕ, ◌<◌, List, ◌∷◌, length, refl, ap, arith}
use Rattle.jsign.specs.Hmac as hmac
use Rattle.jmsg.specs.declared.message.Message.{Message}
use Rattle.jmsg.specs.declared.decoded.Decoded.{Decoded}
use Rattle.jmsg.specs.declared.decoded.Decoded.TheVariants.{Good, NoDelimiter, Short, Unsigned, NotJson}
use Rattle.jmsg.specs.Signed.{AreRouting, Follow, Frames, IsSigned, Give, FramesGive, Decodes}
use Rattle.jmsg.proofs.FrameLemmas.{follow_once, follow_or_not}

pub only_no_delimiter : (key : List ℕ) (parts : List (List ℕ)) → AreRouting parts → (d : Decoded) → Decodes key parts d → NoDelimiter ≡ d
only_no_delimiter key parts r (Good m) h = absurd (follow_or_not parts _ r h.0.follow)
only_no_delimiter key parts r NoDelimiter h = refl
only_no_delimiter key parts r Short h = absurd (follow_or_not parts h.0 r h.1)
only_no_delimiter key parts r Unsigned h = absurd (follow_or_not parts _ r h.0.follow)
only_no_delimiter key parts r NotJson h = absurd (follow_or_not parts _ r h.0.follow)

-- frames need five
pub short_or_frames : (parts after : List (List ℕ)) → Follow parts after → length after < 5 → Frames parts → ⊥
short_or_frames parts after follow short f =
    let same = ap length (follow_once parts after (f.signature ∷ f.header ∷ f.parent ∷ f.metadata ∷ f.content ∷ f.buffers) follow f.follow) in
    omega (arith, same)

pub only_short : (key : List ℕ) (parts after : List (List ℕ)) → Follow parts after → length after < 5 → (d : Decoded) → Decodes key parts d → Short ≡ d
only_short key parts after follow short (Good m) h = absurd (short_or_frames parts after follow short h.0)
only_short key parts after follow short NoDelimiter h = absurd (follow_or_not parts after h follow)
only_short key parts after follow short Short h = refl
only_short key parts after follow short Unsigned h = absurd (short_or_frames parts after follow short h.0)
only_short key parts after follow short NotJson h = absurd (short_or_frames parts after follow short h.0)

-- ---- frames stand once

abbrev pub framed : (parts : List (List ℕ)) (s h p m c : List ℕ) (bs : List (List ℕ)) → Follow parts (s ∷ h ∷ p ∷ m ∷ c ∷ bs) → Frames parts
framed parts s h p m c bs follow = record { signature = s; header = h; parent = p; metadata = m; content = c; buffers = bs; follow = follow }

pub record AreEqual (s h p m c : List ℕ) (bs : List (List ℕ)) {parts : List (List ℕ)} (f : Frames parts) : Type 0 where
  signature : s ≡ f.signature
  header : h ≡ f.header
  parent : p ≡ f.parent
  metadata : m ≡ f.metadata
  content : c ≡ f.content
  buffers : bs ≡ f.buffers

pub frames_once : (parts : List (List ℕ)) (s h p m c : List ℕ) (bs : List (List ℕ)) → Follow parts (s ∷ h ∷ p ∷ m ∷ c ∷ bs) → (f : Frames parts) → AreEqual s h p m c bs f
frames_once parts s h p m c bs follow f =
    let same : s ∷ h ∷ p ∷ m ∷ c ∷ bs ≡ f.signature ∷ f.header ∷ f.parent ∷ f.metadata ∷ f.content ∷ f.buffers = follow_once parts _ _ follow f.follow in
    record { signature = cc; header = cc; parent = cc; metadata = cc; content = cc; buffers = cc }

-- the signature that was compared is that of all such frames
signed_once : (key : List ℕ) (parts : List (List ℕ)) (s h p m c : List ℕ) (bs : List (List ℕ)) (f : Frames parts) → AreEqual s h p m c bs f → IsSigned key f → s ≡ hmac.signature key h p m c
signed_once key parts s h p m c bs f e signed =
    let es = e.signature in
    let eh = e.header in
    let ep = e.parent in
    let em = e.metadata in
    let ec = e.content in
    rw (es, eh, ep, em, ec) signed

given_once : (parts : List (List ℕ)) (s h p m c : List ℕ) (bs : List (List ℕ)) (f : Frames parts) → AreEqual s h p m c bs f → (x : Message) → FramesGive f x → Give h p m c bs x
given_once parts s h p m c bs f e x g =
    let eh = e.header in
    let ep = e.parent in
    let em = e.metadata in
    let ec = e.content in
    let eb = e.buffers in
    rw (eh, ep, em, ec, eb) g

pub only_unsigned : (key : List ℕ) (parts : List (List ℕ)) (s h p m c : List ℕ) (bs : List (List ℕ)) → Follow parts (s ∷ h ∷ p ∷ m ∷ c ∷ bs) → (s ≡ hmac.signature key h p m c → ⊥)
    → (d : Decoded) → Decodes key parts d → Unsigned ≡ d
only_unsigned key parts s h p m c bs follow wrong (Good x) v = absurd (wrong (signed_once key parts s h p m c bs v.0 (frames_once parts s h p m c bs follow v.0) v.1))
only_unsigned key parts s h p m c bs follow wrong NoDelimiter v = absurd (follow_or_not parts _ v follow)
only_unsigned key parts s h p m c bs follow wrong Short v = absurd (short_or_frames parts v.0 v.1 v.2 (framed parts s h p m c bs follow))
only_unsigned key parts s h p m c bs follow wrong Unsigned v = refl
only_unsigned key parts s h p m c bs follow wrong NotJson v = absurd (wrong (signed_once key parts s h p m c bs v.0 (frames_once parts s h p m c bs follow v.0) v.1))

-- the signature of frames that hold it
signed_so : (key : List ℕ) (parts : List (List ℕ)) (s h p m c : List ℕ) (bs : List (List ℕ)) (f : Frames parts) → AreEqual s h p m c bs f → s ≡ hmac.signature key h p m c → IsSigned key f
signed_so key parts s h p m c bs f e signed = rw (← e.signature, ← e.header, ← e.parent, ← e.metadata, ← e.content) signed

given_so : (parts : List (List ℕ)) (s h p m c : List ℕ) (bs : List (List ℕ)) (f : Frames parts) → AreEqual s h p m c bs f → (x : Message) → Give h p m c bs x → FramesGive f x
given_so parts s h p m c bs f e x g = rw (← e.header, ← e.parent, ← e.metadata, ← e.content, ← e.buffers) g

pub only_not_json : (key : List ℕ) (parts : List (List ℕ)) (s h p m c : List ℕ) (bs : List (List ℕ)) → Follow parts (s ∷ h ∷ p ∷ m ∷ c ∷ bs) → s ≡ hmac.signature key h p m c → ((x : Message) → Give h p m c bs x → ⊥)
    → (d : Decoded) → Decodes key parts d → NotJson ≡ d
only_not_json key parts s h p m c bs follow signed none (Good x) v = absurd (none x (given_once parts s h p m c bs v.0 (frames_once parts s h p m c bs follow v.0) x v.2))
only_not_json key parts s h p m c bs follow signed none NoDelimiter v = absurd (follow_or_not parts _ v follow)
only_not_json key parts s h p m c bs follow signed none Short v = absurd (short_or_frames parts v.0 v.1 v.2 (framed parts s h p m c bs follow))
only_not_json key parts s h p m c bs follow signed none Unsigned v = absurd (v.1 (signed_so key parts s h p m c bs v.0 (frames_once parts s h p m c bs follow v.0) signed))
only_not_json key parts s h p m c bs follow signed none NotJson v = refl

pub only_good : (key : List ℕ) (parts : List (List ℕ)) (s h p m c : List ℕ) (bs : List (List ℕ)) → Follow parts (s ∷ h ∷ p ∷ m ∷ c ∷ bs) → s ≡ hmac.signature key h p m c → (x : Message) → Give h p m c bs x
    → ((y : Message) → Give h p m c bs y → x ≡ y) → (d : Decoded) → Decodes key parts d → Good x ≡ d
only_good key parts s h p m c bs follow signed x given once (Good y) v = ap Good (once y (given_once parts s h p m c bs v.0 (frames_once parts s h p m c bs follow v.0) y v.2))
only_good key parts s h p m c bs follow signed x given once NoDelimiter v = absurd (follow_or_not parts _ v follow)
only_good key parts s h p m c bs follow signed x given once Short v = absurd (short_or_frames parts v.0 v.1 v.2 (framed parts s h p m c bs follow))
only_good key parts s h p m c bs follow signed x given once Unsigned v = absurd (v.1 (signed_so key parts s h p m c bs v.0 (frames_once parts s h p m c bs follow v.0) signed))
only_good key parts s h p m c bs follow signed x given once NotJson v = absurd (v.2 (x, given_so parts s h p m c bs v.0 (frames_once parts s h p m c bs follow v.0) x given))
