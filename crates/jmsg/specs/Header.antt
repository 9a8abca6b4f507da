-- The header of a message (Jupyter messaging 5.3, "General message format") and its dictionary.
use Rattle.std.specs.Prelude.{ℕ, List, [], ◌∷◌, ◌++◌, Option, Some, None, codes}
use Rattle.std.specs.Option.{unwrap_or}
use Rattle.jmsg.specs.declared.header.Header.{Header}
use Rattle.jtext.specs.Look.{string_at}
use Rattle.jtext.specs.declared.json.Json.{Json}
use Rattle.jtext.specs.declared.json.Json.TheVariants as json

-- what the dictionary says, of a header with that id and type: a text that isn't told, or is no string, is empty, and such a date is absent
abbrev pub header_with : Json → List ℕ → List ℕ → Header
header_with t id kind = record {
  msg_id = id;
  session = unwrap_or (string_at t (codes "session")) [];
  username = unwrap_or (string_at t (codes "username")) [];
  date = string_at t (codes "date");
  msg_type = kind;
  version = unwrap_or (string_at t (codes "version")) [];
}

-- the header of a dictionary with that id, where its type is told
abbrev pub header_typed : Json → List ℕ → Option (List ℕ) → Option Header
header_typed t id None = None
header_typed t id (Some kind) = Some (header_with t id kind)

-- the header of a dictionary, where its id is told
abbrev pub header_named : Json → Option (List ℕ) → Option Header
header_named t None = None
header_named t (Some id) = header_typed t id (string_at t (codes "msg_type"))

-- the header of that dictionary, where its msg_id and msg_type are strings
abbrev pub header_of : Json → Option Header
header_of t = header_named t (string_at t (codes "msg_id"))

-- a pair with a string
abbrev pub text_pair : List ℕ → List ℕ → List ℕ × Json
text_pair key text = (key, json.Str text)

-- the pair of the date, where there is one
abbrev pub date_pairs : Option (List ℕ) → List (List ℕ × Json)
date_pairs None = []
date_pairs (Some date) = text_pair (codes "date") date ∷ []

-- the pairs of its dictionary, in the order in which they are sent
abbrev pub pairs_of : Header → List (List ℕ × Json)
pairs_of h =
    (text_pair (codes "msg_id") h.msg_id ∷ text_pair (codes "session") h.session ∷ text_pair (codes "username") h.username ∷ []) ++ date_pairs h.date
    ++ (text_pair (codes "msg_type") h.msg_type ∷ text_pair (codes "version") h.version ∷ [])

-- its dictionary
abbrev pub tree_of : Header → Json
tree_of h = json.Obj (pairs_of h)
