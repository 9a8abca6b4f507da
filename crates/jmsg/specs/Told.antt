-- What the pairs of a header's dictionary tell (Jupyter messaging 5.3, "General message format").
use Rattle.std.specs.Prelude.{◌≡◌, ℕ, List, Option, codes, option_and_then}
use Rattle.jtext.specs.Find.{find}
use Rattle.jtext.specs.Look.{string}
use Rattle.jtext.specs.declared.json.Json.{Json}
use Rattle.jmsg.specs.declared.told.Told.{Told}

-- the string under the key
abbrev pub string_under : List ℕ → List (List ℕ × Json) → Option (List ℕ)
string_under key pairs = option_and_then string (find key pairs)

-- each text is the string under its key
pub record IsTold (told : Told) (pairs : List (List ℕ × Json)) : Type 0 where
  pub msg_id : told.msg_id ≡ string_under (codes "msg_id") pairs
  pub session : told.session ≡ string_under (codes "session") pairs
  pub username : told.username ≡ string_under (codes "username") pairs
  pub date : told.date ≡ string_under (codes "date") pairs
  pub msg_type : told.msg_type ≡ string_under (codes "msg_type") pairs
  pub version : told.version ≡ string_under (codes "version") pairs
