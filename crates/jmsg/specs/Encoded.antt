-- How a message is sent (Jupyter messaging 5.3, "The wire protocol"): no routing frames, and dictionaries as compact text.
use Rattle.std.specs.Prelude.{◌≡◌, ℕ, ◌≤◌, IsTrue, List, ◌∷◌, codes}
use Rattle.std.specs.Option.{IfSome}
use Rattle.std.specs.Str.{IsUtf8}
use Rattle.jsign.specs.Hmac as hmac
use Rattle.jtext.specs.Depth.{depth}
use Rattle.jtext.specs.Keyed.{Keyed}
use Rattle.jtext.specs.Print.{compact}
use Rattle.jtext.specs.Sound.{Sound}
use Rattle.jtext.specs.declared.json.Json.{Json}
use Rattle.jtext.specs.Look.{is_object, string_at}
use Rattle.jmsg.specs.Header.{tree_of}
use Rattle.jmsg.specs.Signed.{delimiter}
use Rattle.jmsg.specs.declared.header.Header.{Header}
use Rattle.jmsg.specs.declared.message.Message.{Message}

-- the text of the header's dictionary
abbrev pub header_text : Message → List ℕ
header_text m = compact (tree_of m.header)

-- the parts of the message, signed under the key
abbrev pub encode : List ℕ → Message → List (List ℕ)
encode key m =
    delimiter ∷ hmac.signature key (header_text m) (compact m.parent) (compact m.metadata) (compact m.content)
    ∷ header_text m ∷ compact m.parent ∷ compact m.metadata ∷ compact m.content ∷ m.buffers

-- the header's texts are UTF-8, as those of every header that a program holds
pub record AreTexts (h : Header) : Type 0 where
  pub msg_id : IsUtf8 h.msg_id
  pub session : IsUtf8 h.session
  pub username : IsUtf8 h.username
  pub date : IfSome h.date IsUtf8
  pub msg_type : IsUtf8 h.msg_type
  pub version : IsUtf8 h.version

-- the tree is an object with distinct keys, nested at most 100 deep, and sound, as every tree that a program holds
pub record IsSendableTree (t : Json) : Type 0 where
  pub object : IsTrue (is_object t)
  pub keyed : Keyed t
  pub nests : depth t ≤ 100
  pub sound : Sound t

-- the dictionaries can be sent, and the parent's id is told by the parent header
pub record IsSendable (m : Message) : Type 0 where
  pub texts : AreTexts m.header
  pub parent : IsSendableTree m.parent
  pub parent_id : m.parent_id ≡ string_at m.parent (codes "msg_id")
  pub metadata : IsSendableTree m.metadata
  pub content : IsSendableTree m.content
