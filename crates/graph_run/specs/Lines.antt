-- What is said of the jobs of a graph that aren't run, and of a graph that has no jobs; and the exit statuses.
use Rattle.std.specs.Prelude.{ℕ, List, ◌++◌, codes}
use Rattle.jtext.specs.Print.{quote}
use Rattle.nb_load.specs.Reasons.{reason}
use Rattle.words.specs.Messages.{usage_message}
use Rattle.said_lines.specs.Lines.{spoken_line}
use Rattle.graph_run.specs.declared.end.End.{End}
use Rattle.graph_run.specs.declared.end.End.TheVariants as end
use Rattle.graph_run.specs.declared.refusal.Refusal.{Refusal}
use Rattle.graph_run.specs.declared.refusal.Refusal.TheVariants as refusal

-- the output of a job has no such scrap: both names as compact JSON strings
abbrev pub no_scrap : List ℕ → List ℕ → List ℕ
no_scrap scrap job = codes "no scrap " ++ quote scrap ++ codes " in " ++ quote job

-- the line of a job with this output that isn't run
abbrev pub refusal_line : List ℕ → Refusal → List ℕ
refusal_line output refusal.Skipped = spoken_line output (codes "skipped")
refusal_line output (refusal.NotRead path) = spoken_line output (codes "cannot read " ++ path)
refusal_line output refusal.TooLarge = spoken_line output (codes "too large")
refusal_line output (refusal.NotLoaded f) = spoken_line output (reason f)
refusal_line output (refusal.NoScrap scrap job) = spoken_line output (no_scrap scrap job)
refusal_line output refusal.NoMemory = spoken_line (codes "nbrun") (codes "no memory")

-- the exit status of a job that isn't run
abbrev pub status_of_refusal : Refusal → ℕ
status_of_refusal refusal.Skipped = 17
status_of_refusal (refusal.NotRead path) = 3
status_of_refusal refusal.TooLarge = 4
status_of_refusal (refusal.NotLoaded f) = 4
status_of_refusal (refusal.NoScrap scrap job) = 18
status_of_refusal refusal.NoMemory = 12

-- the line of a graph with this file that has no jobs
abbrev pub end_line : List ℕ → End → List ℕ
end_line file (end.Refused u) = spoken_line (codes "usage") (usage_message u)
end_line file end.NotRead = spoken_line (codes "nbrun") (codes "cannot read " ++ file)
end_line file end.NoMemory = spoken_line (codes "nbrun") (codes "no memory")

-- the exit status of a graph that has no jobs
abbrev pub code_of : End → ℕ
code_of (end.Refused u) = 2
code_of end.NotRead = 3
code_of end.NoMemory = 12
