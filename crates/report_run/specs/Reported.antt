-- What is said after each outcome of a save, made before it.
use Rattle.std.specs.Prelude.{◌≡◌, ◌⊎◌, ℕ, List, codes}
use Rattle.save_disk.specs.declared.save_fault.SaveFault.{SaveFault}
use Rattle.save_disk.specs.declared.save_fault.SaveFault.TheVariants.{Write, Sync, Rename, DirSync}
use Rattle.said_lines.specs.Lines.{spoken_line}
use Rattle.report_run.specs.declared.answer.Answer.{Answer}
use Rattle.report_run.specs.declared.end.End.TheVariants as end
use Rattle.report_run.specs.declared.reports.Reports.{Reports}
use Rattle.report_run.specs.Lines.{line, save}

-- the report of a save that failed at this step
abbrev pub report_of : Reports → SaveFault → List ℕ
report_of r Write = r.not_written
report_of r Sync = r.not_synced
report_of r Rename = r.not_renamed
report_of r DirSync = r.not_settled

-- these are the lines of a save of the output
pub record AreReports (output : List ℕ) (r : Reports) : Type 0 where
  pub done : r.done ≡ spoken_line output (codes "done")
  pub failed : (f : SaveFault) → report_of r f ≡ spoken_line output (save f)

-- the answer has what is to be said of its end on these paths
abbrev pub Speaks : List ℕ → List ℕ → Answer → Type 0
Speaks input output a = (a.end ≡ end.NoMemory) ⊎ (a.text ≡ line input output a.end)
