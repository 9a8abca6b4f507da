-- What parts are, as a function (Jupyter messaging 5.3, "The wire protocol"), beside the relation of Signed.
use Rattle.std.specs.Prelude.{ℕ, Bool, cond, ◌&&◌, List, [], ◌∷◌, Option, Some, None, Result, Ok, Err, codes}
use Rattle.std.specs.Prelude.{option_and_then}
use Rattle.std.specs.Str.{bytes_eq, is_utf8}
use Rattle.jsign.specs.Hmac as hmac
use Rattle.jtext.specs.declared.json.Json.{Json}
use Rattle.jtext.specs.Look.{is_object, string_at}
use Rattle.jtext.specs.Reading.{document_at}
use Rattle.jmsg.specs.Header.{header_of}
use Rattle.jmsg.specs.Signed.{delimiter}
use Rattle.jmsg.specs.declared.header.Header.{Header}
use Rattle.jmsg.specs.declared.message.Message.{Message}
use Rattle.jmsg.specs.declared.decoded.Decoded.{Decoded}
use Rattle.jmsg.specs.declared.decoded.Decoded.TheVariants.{Good, NoDelimiter, Short, Unsigned, NotJson}

-- ---- dictionaries

-- the tree of a reading, where the text is UTF-8 and the tree an object
abbrev pub object_read : {E : Type 0} → Bool → Result Json E → Option Json
object_read utf8 (Err e) = None
object_read utf8 (Ok t) = cond (utf8 && is_object t) (Some t) None

-- the object nested at most 100 deep that the bytes spell
unfoldable pub dictionary_in : List ℕ → Option Json
dictionary_in b = object_read (is_utf8 b) (document_at 100 b)

-- ---- frames

-- the frames after the first delimiter
abbrev pub after_delimiter : List (List ℕ) → Option (List (List ℕ))
after_delimiter [] = None
after_delimiter (frame ∷ frames) = cond (bytes_eq delimiter frame) (Some frames) (after_delimiter frames)

-- the message of a header, a parent header, metadata and content, where each is there
abbrev pub message_of : Option Header → Option Json → Option Json → Option Json → List (List ℕ) → Option Message
message_of None parent metadata content buffers = None
message_of (Some header) None metadata content buffers = None
message_of (Some header) (Some parent) None content buffers = None
message_of (Some header) (Some parent) (Some metadata) None buffers = None
message_of (Some header) (Some parent) (Some metadata) (Some content) buffers =
    Some (record {
      header = header;
      parent_id = string_at parent (codes "msg_id");
      parent = parent;
      metadata = metadata;
      content = content;
      buffers = buffers;
    })

-- the message that the four dictionary frames and the buffers give
unfoldable pub message_given : List ℕ → List ℕ → List ℕ → List ℕ → List (List ℕ) → Option Message
message_given header parent metadata content buffers =
    message_of (option_and_then header_of (dictionary_in header)) (dictionary_in parent) (dictionary_in metadata)
    (dictionary_in content) buffers

-- ---- the parts

-- a message, where the frames give one
abbrev pub json_verdict : Option Message → Decoded
json_verdict None = NotJson
json_verdict (Some m) = Good m

-- what the frames after the delimiter are
abbrev pub frames_verdict : List ℕ → List (List ℕ) → Decoded
frames_verdict key [] = Short
frames_verdict key (s ∷ []) = Short
frames_verdict key (s ∷ h ∷ []) = Short
frames_verdict key (s ∷ h ∷ p ∷ []) = Short
frames_verdict key (s ∷ h ∷ p ∷ m ∷ []) = Short
frames_verdict key (s ∷ h ∷ p ∷ m ∷ c ∷ buffers) =
    cond (bytes_eq s (hmac.signature key h p m c)) (json_verdict (message_given h p m c buffers)) Unsigned

-- what parts are that have these frames after the delimiter
abbrev pub parts_verdict : List ℕ → Option (List (List ℕ)) → Decoded
parts_verdict key None = NoDelimiter
parts_verdict key (Some after) = frames_verdict key after

-- what parts are under the key: a signed message, or why not, by the first test that fails
unfoldable pub verdict_on : List ℕ → List (List ℕ) → Decoded
verdict_on key parts = parts_verdict key (after_delimiter parts)

-- the message that was decoded
abbrev pub message_in : Decoded → Option Message
message_in (Good m) = Some m
message_in NoDelimiter = None
message_in Short = None
message_in Unsigned = None
message_in NotJson = None

-- the message that the parts are, signed under the key; None where they are none
unfoldable pub decode : List ℕ → List (List ℕ) → Option Message
decode key parts = message_in (verdict_on key parts)
