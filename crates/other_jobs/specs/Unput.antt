-- A job for which nothing was put out yet. A journal has its newest entry first.
use Rattle.std.specs.Prelude.{◌==◌, List, Bool, false, not}
use Rattle.std.specs.List.{list_all}
use Rattle.world.specs.declared.entry.Entry.{Entry}
use Rattle.world.specs.declared.entry.Entry.TheVariants as made
use Rattle.run_journal.specs.Job.{Job}

-- an entry is made by bytes that were put for the job
abbrev pub is_put : Job → Entry → Bool
is_put j (made.Put conn bytes) = conn.job == j.number
is_put j _ = false

-- no byte was put for the job
abbrev pub is_unput : Job → List Entry → Bool
is_unput j now = list_all (λ entry. not (is_put j entry)) now
