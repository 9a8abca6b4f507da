-- Where a request comes to stand, by the act that the core answers.
use Rattle.std.specs.Prelude.{◌≡◌, ◌+◌, ◌<◌, ◌||◌, ℕ, Bool, true, false, not, codes, List, [], ◌∷◌, ◌++◌, length, map, slice_get}
use Rattle.world.specs.declared.entry.Entry.{Entry}
use Rattle.nb_model.specs.declared.cell.Cell.{Cell}
use Rattle.nb_model.specs.Planned.{code}
use Rattle.nb_model.specs.Tags.{is_tagged}
use Rattle.cell_core.specs.declared.act.Act.{Act}
use Rattle.cell_core.specs.declared.act.Act.TheVariants.{Send, Save, Stop}
use Rattle.cell_core.specs.declared.event.Event.{Event}
use Rattle.cell_core.specs.declared.event.Event.TheVariants.{Saved, Ready}
use Rattle.cell_core.specs.Task.{cell_of}
use Rattle.run_journal.specs.Asked.{may_raise}
use Rattle.run_journal.specs.Job.{Job}
use Rattle.run_journal.specs.Requests.{goes_on, requests}
use Rattle.job_journal.specs.Plot.{Plot, facts, speaker}
use Rattle.job_journal.specs.Used.{anew}

-- an acknowledgement or readiness, with which a request may come to stand
pub data MayStart : Event → Type 0 where
  saved : MayStart Saved
  ready : MayStart Ready

-- an act neither sends a request nor saves nor stops the job
abbrev pub is_calm : Act → Bool
is_calm (Send cell) = false
is_calm (Save settled) = false
is_calm (Stop cause) = false
is_calm _ = true

-- an act neither saves nor stops the job
abbrev pub is_ongoing : Act → Bool
is_ongoing (Save settled) = false
is_ongoing (Stop cause) = false
is_ongoing _ = true

-- A request comes to stand with an entry, behind those that stood before.
pub record StandsAnew (j : Job) (entry : Entry) (past : List Entry) : Type 0 where
  pub is : requests j (entry ∷ past) ≡ map (goes_on j entry past) (requests j past) ++ anew j entry past ∷ []
  pub grown : length (requests j (entry ∷ past)) ≡ length (requests j past) + 1
  pub planned : length (requests j past) < length j.task.plan

-- A cell has the code that the speaker sends for the request of this place in the plan, and the tag by which an error of it doesn't stop the run is
-- there where it was read.
pub record IsAsRead (p : Plot) (k : ℕ) (c : Cell) : Type 0 where
  pub code_is : code c ≡ (speaker p).code k
  pub tagged_is : is_tagged (codes "raises-exception") c ≡ may_raise (slice_get p.given.cells (cell_of (facts p).task k))
  pub stops_is : not (p.ask.all_errors || is_tagged (codes "raises-exception") c) ≡ (speaker p).stop_on_error k
