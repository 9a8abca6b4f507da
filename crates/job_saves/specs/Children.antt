-- The children of the jobs, their ports and their ends, by the entries of a journal, its newest entry first.
use Rattle.std.specs.Prelude.{◌≡◌, ◌==◌, ℕ, List, [], ◌∷◌, Bool, true, false, Option, None, IfSome, if◌then◌else◌}
use Rattle.world.specs.declared.entry.Entry.{Entry}
use Rattle.world.specs.declared.entry.Entry.TheVariants as made

-- the newest entry is the end of the child of this number
abbrev pub ends_child : ℕ → List Entry → Bool
ends_child number (made.Killed job ∷ past) = job == number
ends_child number _ = false

-- the last child of the job of this number was to be started, and since then its end was not called and a file removed right
-- behind that: its connection file
abbrev pub has_child : ℕ → List Entry → Bool
has_child number [] = false
has_child number (made.Started job argv env dir did ∷ past) = if job == number then true else has_child number past
has_child number (made.Removed path did ∷ past) = if ends_child number past then false else has_child number past
has_child number (entry ∷ past) = has_child number past

-- the ports that were last asked for by the job of this number, where they could be had
abbrev pub ports_of : ℕ → List Entry → Option (List ℕ)
ports_of number [] = None
ports_of number (made.Ports job ports ∷ past) = if job == number then ports else ports_of number past
ports_of number (entry ∷ past) = ports_of number past

-- the job of this number has asked for no ports, or they could not be had
abbrev pub AsksNone : ℕ → Option (List Entry) → Type 0
AsksNone number journal = IfSome journal (λ past. ports_of number past ≡ None)

-- each child of the job of this number has its end
abbrev pub HasEnd : ℕ → Option (List Entry) → Type 0
HasEnd number journal = IfSome journal (λ past. has_child number past ≡ false)

-- where it was so before calls it is so after them
abbrev pub KeepsEnd : ℕ → Option (List Entry) → Option (List Entry) → Type 0
KeepsEnd number old new = HasEnd number old → HasEnd number new
