-- No job answers as a graph whose lines were not said.
use Rattle.std.proofs.Common.{◌≡◌, ℕ, List}
use Rattle.std.proofs.Math.Logic.{∥∥₁_elim}
use Rattle.nb_load.specs.declared.load_fault.LoadFault.TheVariants as load
use Rattle.job_end.specs.declared.answer.Answer.{Answer}
use Rattle.job_end.specs.declared.end.End.{End}
use Rattle.job_end.specs.declared.end.End.TheVariants as end
use Rattle.job_end.specs.Answers.{Answers, said, starved}
use Rattle.job_end.specs.Statuses.{status_of}
use Rattle.job_saves.specs.Speaking.{IsAnswer}

never_eleven : (e : End) → status_of e ≡ 11 → ⊥
never_eleven end.Done is = absurd (cc)
never_eleven (end.CellError cell name) is = absurd (cc)
never_eleven (end.NotRead path) is = absurd (cc)
never_eleven end.TooLarge is = absurd (cc)
never_eleven (end.NotLoaded (load.NotJson f)) is = absurd (cc)
never_eleven (end.NotLoaded (load.NotNotebook f)) is = absurd (cc)
never_eleven (end.NotLoaded (load.NoTranslator language)) is = absurd (cc)
never_eleven (end.NotLoaded load.NoMemory) is = absurd (cc)
never_eleven end.NoKernelName is = absurd (cc)
never_eleven end.BadKernelName is = absurd (cc)
never_eleven (end.BadSpec f) is = absurd (cc)
never_eleven end.NotStarted is = absurd (cc)
never_eleven end.NotReady is = absurd (cc)
never_eleven end.KernelLost is = absurd (cc)
never_eleven (end.TimedOut cell) is = absurd (cc)
never_eleven (end.NotSaved f) is = absurd (cc)
never_eleven end.NoConnectionFile is = absurd (cc)
never_eleven end.NoMemory is = absurd (cc)
never_eleven (end.NoIdle cell) is = absurd (cc)
never_eleven end.NetFault is = absurd (cc)
never_eleven (end.BadPeer chan f) is = absurd (cc)
never_eleven end.Spent is = absurd (cc)

eleven_of : (output : List ℕ) (e : End) (a : Answer) → Answers output e a → a.status ≡ 11 → ⊥
eleven_of output e _ said is = never_eleven e is
eleven_of output e _ starved is = absurd (cc)

pub no_eleven : (output : List ℕ) (a : Answer) → IsAnswer output a → a.status ≡ 11 → ⊥
no_eleven output a h is = ∥∥₁_elim h (λ x y. absurd x) (λ e. eleven_of output e.end a e.answers is)
