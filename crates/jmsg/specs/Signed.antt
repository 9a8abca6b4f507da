-- Signed messages (Jupyter messaging 5.3, "The wire protocol"): routing frames, the delimiter, the signature, header, parent header, metadata, content, and raw buffers.
use Rattle.std.specs.Prelude.{◌≡◌, ◌≢◌, ℕ, ◌<◌, List, ◌∷◌, ◌++◌, length, Some, codes}
use Rattle.std.specs.List.{AllByRecursion}
use Rattle.jsign.specs.Hmac as hmac
use Rattle.jtext.specs.declared.json.Json.{Json}
use Rattle.jtext.specs.Look.{string_at}
use Rattle.jmsg.specs.Dictionary.{IsDictionary}
use Rattle.jmsg.specs.Header.{header_of}
use Rattle.jmsg.specs.declared.message.Message.{Message}
use Rattle.jmsg.specs.declared.decoded.Decoded.{Decoded}
use Rattle.jmsg.specs.declared.decoded.Decoded.TheVariants.{Good, NoDelimiter, Short, Unsigned, NotJson}

-- what parts the routing frames from the message
abbrev pub delimiter : List ℕ
delimiter = codes "<IDS|MSG>"

-- none of the frames is the delimiter
abbrev pub AreRouting : List (List ℕ) → Type 0
AreRouting frames = AllByRecursion (λ f. f ≢ delimiter) frames

-- the frames that follow the first delimiter
pub record Follow (parts after : List (List ℕ)) : Type 0 where
  pub routing : List (List ℕ)
  pub are_routing : AreRouting routing
  pub parts_are : parts ≡ routing ++ delimiter ∷ after

-- the frames of a message: five or more follow the first delimiter
pub record Frames (parts : List (List ℕ)) : Type 0 where
  pub signature : List ℕ
  pub header : List ℕ
  pub parent : List ℕ
  pub metadata : List ℕ
  pub content : List ℕ
  pub buffers : List (List ℕ)
  pub follow : Follow parts (signature ∷ header ∷ parent ∷ metadata ∷ content ∷ buffers)

-- the signature is that of the four dictionary frames as they came
abbrev pub IsSigned : List ℕ → {parts : List (List ℕ)} → Frames parts → Type 0
IsSigned key f = f.signature ≡ hmac.signature key f.header f.parent f.metadata f.content

-- the four frames spell dictionaries that give the message, and the buffers are its own
pub record Give (header parent metadata content : List ℕ) (buffers : List (List ℕ)) (m : Message) : Type 0 where
  pub named : Json
  pub is_header : IsDictionary named header
  pub header_given : header_of named ≡ Some m.header
  pub is_parent : IsDictionary m.parent parent
  pub parent_id_given : m.parent_id ≡ string_at m.parent (codes "msg_id")
  pub is_metadata : IsDictionary m.metadata metadata
  pub is_content : IsDictionary m.content content
  pub buffers_given : m.buffers ≡ buffers

-- the frames give the message
abbrev pub FramesGive : {parts : List (List ℕ)} → Frames parts → Message → Type 0
FramesGive f m = Give f.header f.parent f.metadata f.content f.buffers m

-- the parts are the message, signed under the key
abbrev pub Signed : List ℕ → List (List ℕ) → Message → Type 0
Signed key parts m = (f : Frames parts) × IsSigned key f × FramesGive f m

-- what parts are: a signed message, or why not, by the first test that fails
abbrev pub Decodes : List ℕ → List (List ℕ) → Decoded → Type 0
Decodes key parts (Good m) = Signed key parts m
Decodes key parts NoDelimiter = AreRouting parts
Decodes key parts Short = (after : List (List ℕ)) × Follow parts after × (length after < 5)
Decodes key parts Unsigned = (f : Frames parts) × ¬ (IsSigned key f)
Decodes key parts NotJson = (f : Frames parts) × IsSigned key f × ¬ ((m : Message) × FramesGive f m)
