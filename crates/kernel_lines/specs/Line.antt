-- What our side of a connection stands for.
use Rattle.std.specs.Prelude.{◌≡◌, ℕ, ◌+◌, Bool, false, nat_le, List, [], ◌∷◌, ◌++◌, length, Option, None, Some}
use Rattle.zmtp_wire.specs.declared.role.Role.{Role}
use Rattle.zmtp_wire.specs.Fault.{clip}
use Rattle.zmtp_peer.specs.Peer as side
use Rattle.zmtp_peer.specs.Reply.{Owes, owed_octets, subscription_to}
use Rattle.kernel_lines.specs.declared.line.Line.{Line}
use Rattle.kernel_lines.specs.Happened.{History, came_in}
use Rattle.kernel_lines.specs.Ends.{end_with}
use Rattle.kernel_lines.specs.Due.{due_in, waiting_in, subscription_end}

-- the role that it plays
abbrev pub role_of : Line → Role
role_of l = side.role_of l.peer

-- what is due and wasn't handed out
abbrev pub queue_of : Line → List ℕ
queue_of l = l.queue

-- how many octets were taken, as it was told last
abbrev pub taken_of : Line → ℕ
taken_of l = l.taken

-- a place as a u64
abbrev pub clip_place : Option ℕ → Option ℕ
clip_place None = None
clip_place (Some at) = Some (clip at)

-- In this role, this happened, and these octets were handed out of those that were due.
pub record StandsAs (r : Role) (l : Line) (h : History) (out : List ℕ) : Type 0 where
  pub peer : side.StandsFor l.peer (came_in h) (owed_octets r (came_in h))
  pub waiting : l.waiting ≡ waiting_in r h
  pub due : due_in r h ≡ out ++ l.queue
  pub count : l.due ≡ clip (length (due_in r h))
  pub subscription : l.subscription_end ≡ clip_place (subscription_end r h)

-- in the connection's own role, this happened, and these octets were handed out of those that were due
abbrev pub StandsFor : Line → History → List ℕ → Type 0
StandsFor l h out = StandsAs (role_of l) l h out

-- the subscription ends among the first octets that were taken, of which there are so many
abbrev pub is_within : Option ℕ → ℕ → Bool
is_within None taken = false
is_within (Some end) taken = nat_le end taken

-- what is handed out of a queue: all of it, where there is anything
abbrev pub HandsOut : List ℕ → Option (List ℕ) → Type 0
HandsOut [] given = given ≡ None
HandsOut (x ∷ queue) given = given ≡ Some (x ∷ queue)

-- ---- on the way to the next piece

-- in this role, its peer has read this piece besides, and what that makes owed isn't due yet
pub record IsBehindAs (r : Role) (l : Line) (h : History) (out piece : List ℕ) : Type 0 where
  pub peer : side.StandsFor l.peer (came_in h ++ piece) (owed_octets r (came_in h))
  pub waiting : l.waiting ≡ waiting_in r h
  pub due : due_in r h ≡ out ++ l.queue
  pub count : l.due ≡ clip (length (due_in r h))
  pub subscription : l.subscription_end ≡ clip_place (subscription_end r h)

-- in the connection's own role, its peer has read this piece besides, and what that makes owed isn't due yet
abbrev pub IsBehind : Line → History → List ℕ → List ℕ → Type 0
IsBehind l h out piece = IsBehindAs (role_of l) l h out piece

-- that is noted alone
pub record NotesEnd (old new : Line) : Type 0 where
  pub same : new ≡ record old { subscription_end = new.subscription_end }
  pub end : (b sent : List ℕ) → side.StandsFor old.peer b sent
      → new.subscription_end ≡ end_with old.subscription_end old.due (subscription_to (role_of old) b)

-- it gives as replies these octets, and with them all that is owed, each once
pub record Replies (old new : Line) (more : List ℕ) : Type 0 where
  pub same : new ≡ record old { peer = new.peer }
  pub role : role_of new ≡ role_of old
  pub owes : (b sent : List ℕ) → side.StandsFor old.peer b sent → Owes (role_of old) b (sent ++ more)
  pub stands : (b sent : List ℕ) → side.StandsFor old.peer b sent → side.StandsFor new.peer b (sent ++ more)

-- these octets are due besides
abbrev pub IsPut : Line → Line → List ℕ → Type 0
IsPut old new octets = new ≡ record old { queue = old.queue ++ octets; due = clip (old.due + length octets) }

-- what waited is due
abbrev pub IsReleased : Line → Line → Type 0
IsReleased old new = new ≡ record old { queue = old.queue ++ old.waiting; waiting = []; due = clip (old.due + length old.waiting) }
