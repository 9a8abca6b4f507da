-- Which saves were made, by what was renamed onto the output.
use Rattle.std.specs.Prelude.{◌≡◌, ℕ, List, [], ◌∷◌, length, map, Some, None}
use Rattle.world.specs.declared.entry.Entry.{Entry}
use Rattle.zmtp_wire.specs.Meaning.{Begins}
use Rattle.run_journal.specs.Job.{Job}
use Rattle.run_journal.specs.Requests.{Request}
use Rattle.run_journal.specs.Saves.{Save, save, passes, renamed_texts}

-- the saves that are due whatever comes after these requests: of the prepared notebook, and after each passed request
abbrev pub passing_saves : Job → List Request → List Save
passing_saves j rs = save j [] 0 None ∷ passes j [] 0 j.task.plan rs

-- So many saves were made: the first of those that are due. What was renamed onto the output is their texts, in order.
pub record HasMade (j : Job) (due : List Save) (count : ℕ) (now : List Entry) : Type 0 where
  pub made : List Save
  pub texts : renamed_texts j now ≡ map (λ (s : Save). Some s.text) made
  pub counted : length made ≡ count
  pub are_first : Begins made due
