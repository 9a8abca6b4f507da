-- The requests that a job sends (Jupyter messaging 5.3, "General message format").
use Rattle.std.specs.Prelude.{ℕ, ◌*◌, ◌+◌, ◌^◌, List, [], ◌++◌, Some, None, codes}
use Rattle.std.specs.Fmt.{decimal}
use Rattle.std.specs.Int.{w128, to_be_bytes}
use Rattle.uuid.specs.Text.{hyphenated_text, lower}
use Rattle.uuid.specs.Parts.{with_version, with_variant}
use Rattle.uuid.specs.declared.Version.TheVariants.{Random}
use Rattle.uuid.specs.declared.Variant.TheVariants.{RFC4122}
use Rattle.jtext.specs.declared.json.Json.{Json}
use Rattle.jtext.specs.declared.json.Json.TheVariants as json
use Rattle.jmsg.specs.Date.{date_of}
use Rattle.jmsg.specs.declared.message.Message.{Message}

-- the text of the version 4 UUID of 128 random bits (RFC 9562, section 5.4)
abbrev pub identifier : ℕ → ℕ → List ℕ
identifier high low = hyphenated_text lower (with_version (with_variant (to_be_bytes w128 (high * 2 ^ 64 + low)) RFC4122) Random)

-- the id of message n of a session, counted from 1: unique among all that the session sends
abbrev pub message_id : List ℕ → ℕ → List ℕ
message_id session n = session ++ codes "_" ++ decimal n

-- what a session is: its name, the key that it signs under, and how many messages it made
pub record Identity : Type 0 where
  pub name : List ℕ
  pub key : List ℕ
  pub made : ℕ

-- request n of a session at that moment: no parent, no metadata, no buffers
abbrev pub request : List ℕ → ℕ → ℕ → List ℕ → Json → Message
request session n ms kind content = record {
  header = record {
    msg_id = message_id session n;
    session = session;
    username = codes "nbrun";
    date = Some (date_of ms);
    msg_type = kind;
    version = codes "5.3";
  };
  parent_id = None;
  parent = json.Obj [];
  metadata = json.Obj [];
  content = content;
  buffers = [];
}
