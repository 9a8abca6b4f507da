-- The start of a job's kernel is a call of that job.
use Rattle.std.proofs.Common.{◌≡◌, ◌≢◌, ℕ, true, List, Option, Some, None, Result, Ok, Err, refl, sym, subst, ◌∙◌}
use Rattle.std.specs.Prelude.{IfErr, IfOk, IfSome}
use Rattle.std.proofs.lemmas.Option.{same_Some}
use Rattle.words.specs.declared.ask.Ask.{Ask}
use Rattle.words.specs.Paths.{connection_of}
use Rattle.world.specs.declared.entry.Entry.{Entry}
use Rattle.world.specs.Moments.{Since, start, more as later, Told, Tells}
use Rattle.world.specs.Parts.{OnKids, OnWire, IsOf}
use Rattle.world.proofs.MomentsLemmas.{tells_as}
use Rattle.kernel_start.specs.declared.kernel.Kernel.{Kernel}
use Rattle.world.specs.declared.entry.Entry.TheVariants as made
use Rattle.job_saves.specs.Calls.{Cast, IsCallBy}
use Rattle.job_saves.specs.Children.{KeepsEnd}
use Rattle.job_notebook.specs.State.{output_of}
use Rattle.job_saves.specs.Sessions.{IsSaveCall}
use Rattle.job_saves.proofs.KeptLemmas.{part_keeps_end}
use Rattle.job_saves.proofs.LaunchLemmas.{ports_given}
use Rattle.job_saves.proofs.ReadLemmas.{told_kernel}
use Rattle.job_saves.proofs.SessionLemmas.{drawn_later, ports_asked as asked_first}
use Rattle.job_run.specs.declared.execution.Execution.{Execution}
use Rattle.job_run.specs.declared.job.Job.{Job}
use Rattle.job_run.specs.declared.paths.Paths.{Paths}
use Rattle.job_run.specs.Run.{IsRole, MayStart, MayConnect, HasNoPorts}

pub ends_then : {A E : Type 0} {P Q : Type 0} → (E → P → Q) → (r : Result A E) → IfErr r (λ e. P) → IfErr r (λ e. Q)
ends_then turns (Ok a) h = tt
ends_then turns (Err e) h = turns e h

pub either_way : {A E : Type 0} {P : Type 0} (r : Result A E) → P → IfOk r (λ a. P)
either_way (Ok a) p = p
either_way (Err e) p = tt

-- a first save leaves what may be started
pub may_later : {P : List Entry → Type 0} (cast : Cast) (number : ℕ) (kernel : Kernel) (here : List ℕ) (x y : Execution) (j k : Option (List Entry)) → Told j k (Since P)
    → Told j k (Since (IsSaveCall (output_of x.book))) → output_of y.book ≡ output_of x.book → y.session.key ≡ x.session.key → KeepsEnd number j k
    → MayStart cast number kernel here x j → MayStart cast number kernel here y k
may_later cast number kernel here x y j k told saves output key keeps may = record {
  ask = may.ask;
  cast = may.cast;
  kernel_is = told_kernel may.ask kernel j k told may.kernel_is;
  childless = λ e. keeps (may.childless e);
  pairs = may.pairs;
  words = record { output_is = output ∙ may.words.output_is; key_is = key ∙ may.words.key_is };
  drawn = drawn_later may.ask.output may.pairs j k (subst (λ o. Told j k (Since (IsSaveCall o))) may.words.output_is saves) may.drawn;
}

-- by the number and the execution of the job
pub may_run : (cast : Cast) (number : ℕ) (job : Job) (kernel : Kernel) (here : List ℕ) (x : Execution) (j : Option (List Entry)) → job.number ≡ number → job.run ≡ x
    → MayStart cast number kernel here x j → MayStart cast job.number kernel here job.run j
may_run cast number job kernel here x j number_is run_is may =
    subst (λ n. MayStart cast n kernel here job.run j) (sym number_is) (subst (λ (y : Execution). MayStart cast number kernel here y j) (sym run_is) may)

-- ---- the role of the job, by what is asked of the one that may start the child

-- its paths
pub record Role (a : Ask) (paths : Paths) : Type 0 where
  pub file : paths.connection ≡ connection_of a.output
  pub folder : paths.cwd ≡ a.cwd

pub role_of : (cast : Cast) (number : ℕ) (paths : Paths) (a : Ask) → cast.job number ≡ Some a → IsRole cast number paths → Role a paths
role_of cast number paths a has r =
    subst (λ x. Role x paths) (same_Some r.ask a (sym r.has ∙ has)) (record { file = r.connection; folder = r.folder })

-- ---- one entry

-- once its ports were given its connection file may be written
pub may_connect : (cast : Cast) (number : ℕ) (ports : List ℕ) (kernel : Kernel) (here : List ℕ) (x : Execution) (j k : Option (List Entry)) → OnWire ≢ OnKids
    → Tells j k (made.Ports number (Some ports)) → MayStart cast number kernel here x j → MayConnect cast number ports kernel here x k
may_connect cast number ports kernel here x j k other tells may =
    let told : Told j k (Since (IsOf OnWire)) = tells_as tells (λ past. later start refl) in
    record {
      ask = may.ask;
      cast = may.cast;
      kernel_is = told_kernel may.ask kernel j k told may.kernel_is;
      childless = λ e. part_keeps_end number j k other told (may.childless e);
      given = ports_given number ports j k tells;
      pairs = may.pairs;
      words = may.words;
      asked = asked_first number may.ask.output may.pairs ports j k tells may.drawn;
    }

-- the first time a job asks for its ports is a call of it
pub ports_asked : (cast : Cast) (number : ℕ) (a : Ask) → cast.job number ≡ Some a → cast.starts ≡ true → (ports : Option (List ℕ)) (j : Option (List Entry)) → HasNoPorts cast number j
    → IfSome j (λ past. IsCallBy cast past (made.Ports number ports))
ports_asked cast number a has starts ports None portless = tt
ports_asked cast number a has starts ports (Some x) portless = record { number = number; ask = a; has = has; is = (refl, (λ e. portless e), starts) }
