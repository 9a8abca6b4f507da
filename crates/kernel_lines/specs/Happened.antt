-- What happens on a connection after its begin (RFC 23, "Traffic").
use Rattle.std.specs.Prelude.{ℕ, List, [], ◌∷◌, ◌++◌}

-- octets of the other side came, or a message was given to be sent
pub data Happened : Type 0 where
  Came : List ℕ → Happened
  Given : List (List ℕ) → Happened

-- what happened on a connection, the newest first
abbrev pub History : Type 0
History = List Happened

-- all octets that came, in order
abbrev pub came_in : History → List ℕ
came_in [] = []
came_in (Came piece ∷ past) = came_in past ++ piece
came_in (Given m ∷ past) = came_in past
