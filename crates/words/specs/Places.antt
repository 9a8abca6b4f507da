-- The values of a jobs file, and their JSON pointers (RFC 6901). No name of a member needs an escape there.
use Rattle.std.specs.Prelude.{ℕ, List, [], ◌++◌, codes}
use Rattle.std.specs.Fmt.{decimal}
use Rattle.words.specs.declared.place.Place.{Place}
use Rattle.words.specs.declared.place.Place.TheVariants.{Whole, Jobs, Job, Value}
use Rattle.words.specs.Members.{name_of}

-- the pointer to the value: the keys and the indices that lead to it
abbrev pub pointer : Place → List ℕ
pointer Whole = []
pointer Jobs = codes "/jobs"
pointer (Job i) = codes "/jobs/" ++ decimal i
pointer (Value i member) = codes "/jobs/" ++ (decimal i ++ (codes "/" ++ name_of member))
