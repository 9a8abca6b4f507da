-- Calls of a job go on with its course.
use Rattle.std.specs.Prelude.{IfSome}
use Rattle.std.proofs.Common.{◌≡◌, ◌≢◌, ℕ, Bool, true, false, List, ◌∷◌, Option, Some, None, Result, Ok, Err, is_some, refl, sym, ap, subst, ◌∙◌}
use Rattle.std.proofs.lemmas.Bool.{false≢true}
use Rattle.std.specs.Prelude.{IfErr, OnOk, OnErr}
use Rattle.std.specs.Str.{bytes_eq}
use Rattle.world.specs.Counts.{CountsGrow}
use Rattle.world.specs.Moments.{Since, start, more as later, Told, Tells}
use Rattle.world.specs.Touched.{touches, Spares}
use Rattle.world.proofs.MomentsLemmas.{tells_as}
use Rattle.job_end.specs.Answers.{starved_answer}
use Rattle.world.specs.Parts.{OnSay, part_of}
use Rattle.job_saves.proofs.CourseLemmas.{others_pass, calls_part, job_ends}
use Rattle.job_saves.proofs.KeptLemmas.{entry_quiet}
use Rattle.job_run.proofs.OutcomeLemmas.{not_lost, not_spent, starved_shut, starved_fails}
use Rattle.job_end.specs.declared.end.End.{End}
use Rattle.job_end.specs.declared.end.End.TheVariants as end
use Rattle.cell_core.specs.StandsFor.{task_of}
use Rattle.job_run.specs.declared.terms.Terms.{Terms}
use Rattle.job_run.specs.Steps.{JobKeeps}
use Rattle.job_run.specs.Told.{EndsBy}
use Rattle.world.specs.declared.entry.Entry.{Entry}
use Rattle.world.specs.Counts.{Counts}
use Rattle.job_notebook.specs.declared.notebook.JobNotebook.{JobNotebook}
use Rattle.job_end.specs.declared.answer.Answer.{Answer}
use Rattle.job_saves.specs.Course.{Origin, Stands, StaysOn, KeepsPart, HasPart, Ends, CountsWork}
use Rattle.job_saves.specs.Calls.{Cast, IsCallBy, IsCall}
use Rattle.job_saves.specs.Speaking.{SavesNone}
use Rattle.job_run.specs.declared.execution.Execution.{Execution}
use Rattle.job_run.specs.declared.job.Job.{Job}
use Rattle.job_run.specs.declared.paths.Paths.{Paths}
use Rattle.cell_core.specs.declared.act.Act.TheVariants.{Nothing}
use Rattle.job_saves.specs.Left.{output_at}
use Rattle.job_run.specs.Counted.{IsCounted, IsCountedIn}
use Rattle.cell_core.specs.Task.{Task}
use Rattle.job_run.specs.Task.{task_of_job, output_of_job}
use Rattle.job_run.proofs.TurnLemmas.{running_count, count_passes, ended_count, starved_count}
use Rattle.job_run.specs.Run.{IsNew, CountsAll, Runs, HasEnded, HasFailed, HasStarved, EndsWith, EndsOnce, IsLost, IsSpent, IsRole, HasRole}

-- a job that hasn't ended has saved all
running_open : (is_open : Bool) (outcome : Option Answer) → (is_open ≡ false → HasEnded outcome) → is_some outcome ≡ false → is_open ≡ true
running_open true outcome shut running = refl
running_open false None shut running = absurd (shut refl)
running_open false (Some a) shut running = absurd (cc)

-- a job that runs stands on its course, as no save has failed
pub runs_open : (o : Origin) (j : Job) (journal : Option (List Entry)) (counts : Counts) → is_some j.outcome ≡ false → Runs o j journal counts
    → Stands o j.run.book true journal counts
runs_open o j journal counts running r = subst (λ b. Stands o j.run.book b journal counts) (running_open r.is_open j.outcome r.shut running) r.stands

-- a call of its execution, and then its outcome
pub turns : (o : Origin) (was now : Job) (mid : JobNotebook) (j k : Option (List Entry)) (c d : Counts) (is_open : Bool)
    → is_some was.outcome ≡ false
    → (Stands o was.run.book true j c → Stands o mid is_open k d)
    → StaysOn mid now.run.book
    → now.paths.connection ≡ was.paths.connection
    → (is_open ≡ false → HasEnded now.outcome)
    → (HasFailed now.outcome → is_open ≡ false)
    → (IsNew o → Stands o was.run.book true j c → IfSome j (λ past. IsCounted was.run Nothing (output_at o past))
    → IfSome k (λ past. IsCountedIn now.outcome now.run (output_at o past)))
    → Runs o was j c → Runs o now k d
turns o was now mid j k c d is_open running goes stays path shut fails counts r =
    let stands = stays o is_open k d (goes (runs_open o was j c running r)) in
    record {
      is_open = is_open;
      stands = stands;
      apart = subst (λ p. bytes_eq p o.output ≡ false) (sym path) r.apart;
      shut = shut;
      fails = fails;
      counted = λ fresh. counts fresh (runs_open o was j c running r) (running_count was.outcome was.run o j running (r.counted fresh));
    }

role_on : (cast : Cast) (was now : Job) → now.number ≡ was.number → now.paths ≡ was.paths → IsRole cast was.number was.paths → IsRole cast now.number now.paths
role_on cast was now number paths r =
    subst (λ (p : Paths). IsRole cast now.number p) (sym paths) (subst (λ n. IsRole cast n was.paths) (sym number) r)

-- calls of its execution, and then its outcome
pub plays_on : (cast : Cast) (since : List Entry) (from : Counts) (was now : Job) (mid : JobNotebook) (j k : Option (List Entry)) (c d : Counts)
    → (HasPart cast since from was.run.book j c → HasPart cast since from mid k d)
    → KeepsPart mid now.run.book
    → now.number ≡ was.number → now.paths ≡ was.paths
    → HasRole cast since from was j c → HasRole cast since from now k d
plays_on cast since from was now mid j k c d calls stays number paths r = record {
  part = stays cast since from k d (calls r.part);
  role = role_on cast was now number paths r.role;
}

-- other calls leave a job on its course
pub passes : (o : Origin) (was now : Job) (i k : Option (List Entry)) (c d : Counts) → now.run ≡ was.run → now.paths ≡ was.paths → now.outcome ≡ was.outcome
    → Told i k (Since (Spares o.output)) → CountsGrow c d → Runs o was i c → Runs o now k d
passes o was now i k c d run path outcome told grow r = record {
  is_open = r.is_open;
  stands = subst (λ (x : Execution). Stands o x.book r.is_open k d) (sym run) (others_pass o was.run.book r.is_open i k c d told grow r.stands);
  apart = subst (λ (p : Paths). bytes_eq p.connection o.output ≡ false) (sym path) r.apart;
  shut = λ e. subst HasEnded (sym outcome) (r.shut e);
  fails = λ f. r.fails (subst HasFailed outcome f);
  counted = λ fresh. subst (λ (x : Execution). IfSome k (λ past. IsCountedIn now.outcome x (output_at o past))) (sym run)
      (subst (λ a. IfSome k (λ past. IsCountedIn a was.run (output_at o past))) (sym outcome)
      (count_passes o was.run.book r.is_open was.run was.outcome i k told (r.stands.told fresh.watched) (r.counted fresh)));
}

pub told_spares : (path : List ℕ) (j k : Option (List Entry)) (entry : Entry) → touches path entry ≡ false → Tells j k entry → Told j k (Since (Spares path))
told_spares path j k entry spared tells = tells_as tells (λ past. later start spared)

-- one call that doesn't touch its output
pub passes_one : (o : Origin) (was now : Job) (i k : Option (List Entry)) (c d : Counts) (entry : Entry) → now.run ≡ was.run → now.paths ≡ was.paths → now.outcome ≡ was.outcome
    → touches o.output entry ≡ false → Tells i k entry → CountsGrow c d → Runs o was i c → Runs o now k d
passes_one o was now i k c d entry run path outcome spared tells grow r = passes o was now i k c d run path outcome (told_spares o.output i k entry spared tells) grow r

-- calls of the job beside its execution
pub passes_role : (cast : Cast) (since : List Entry) (from : Counts) (was now : Job) (i k : Option (List Entry)) (c d : Counts) → now.run ≡ was.run
    → now.number ≡ was.number → now.paths ≡ was.paths
    → (HasPart cast since from was.run.book i c → HasPart cast since from was.run.book k d) → HasRole cast since from was i c → HasRole cast since from now k d
passes_role cast since from was now i k c d run number paths on r = record {
  part = subst (λ (x : Execution). HasPart cast since from x.book k d) (sym run) (on r.part);
  role = role_on cast was now number paths r.role;
}

-- ---- single entries

told_called : (cast : Cast) (j k : Option (List Entry)) (entry : Entry) → ((past : List Entry) → IsCallBy cast past entry) → Tells j k entry → Told j k (Since (IsCall cast))
told_called cast j k entry is tells = tells_as tells (λ past. later start (is past))

-- one call of the job, which says nothing and is none of a save
pub entry_called : (cast : Cast) (since : List Entry) (from : Counts) (b : JobNotebook) (j k : Option (List Entry)) (c d : Counts) (entry : Entry)
    → ((past : List Entry) → IsCallBy cast past entry) → part_of entry ≢ OnSay → ((past : List Entry) → SavesNone (entry ∷ past)) → Tells j k entry → CountsWork c d
    → HasPart cast since from b j c → HasPart cast since from b k d
entry_called cast since from b j k c d entry is other none tells work s =
    calls_part cast since from c d b j k (told_called cast j k entry is tells) (entry_quiet entry other tells) (tells_as tells (λ past. later start (none past))) work s

called_at : (cast : Cast) (j k : Option (List Entry)) (entry : Entry) → IfSome j (λ past. IsCallBy cast past entry) → Tells j k entry → Told j k (Since (IsCall cast))
called_at cast j None entry is tells = record { so = tt }
called_at cast None (Some y) entry is tells = absurd tells.so
called_at cast (Some x) (Some y) entry is tells = record { so = subst (Since (IsCall cast) x) (sym tells.so) (later start is) }

-- the same of a call that is one by what was told before
pub asked_called : (cast : Cast) (since : List Entry) (from : Counts) (b : JobNotebook) (j k : Option (List Entry)) (c d : Counts) (entry : Entry)
    → IfSome j (λ past. IsCallBy cast past entry) → part_of entry ≢ OnSay → ((past : List Entry) → SavesNone (entry ∷ past)) → Tells j k entry → CountsWork c d
    → HasPart cast since from b j c → HasPart cast since from b k d
asked_called cast since from b j k c d entry is other none tells work s =
    calls_part cast since from c d b j k (called_at cast j k entry is tells) (entry_quiet entry other tells) (tells_as tells (λ past. later start (none past))) work s

-- ---- the end

pub ends_with : (o : Origin) (j : Job) (a : Answer) (journal : Option (List Entry)) (counts : Counts) → j.outcome ≡ Some a → Runs o j journal counts
    → EndsWith o (Some (task_of_job j)) a journal counts
ends_with o j a journal counts is r = record {
  is_open = r.is_open;
  ends = job_ends o j.run.book r.is_open journal counts r.stands;
  shut = λ e. subst HasEnded is (r.shut e);
  fails = λ f. r.stands.cause (r.fails (subst HasFailed (sym is) f));
  counted = λ t same fresh. ended_count o j.run a (task_of_job j) t journal refl same (subst (λ out. IfSome journal (λ past. IsCountedIn out j.run (output_at o past))) is (r.counted fresh));
}

pub ends_starved : (o : Origin) (j : Job) (a : Answer) (journal : Option (List Entry)) (counts : Counts) → j.outcome ≡ None → a ≡ starved_answer → Runs o j journal counts
    → EndsWith o (Some (task_of_job j)) a journal counts
ends_starved o j a journal counts is starved r = record {
  is_open = r.is_open;
  ends = job_ends o j.run.book r.is_open journal counts r.stands;
  shut = λ e. starved_shut a (ap (λ (x : Answer). x.status) starved);
  fails = λ f. absurd (starved_fails a (ap (λ (x : Answer). x.status) starved) f);
  counted = λ t same fresh. starved_count o a t journal starved;
}

-- what brought its end isn't asked for
pub uncounted : (o : Origin) (task : Option Task) (a : Answer) (journal : Option (List Entry)) (counts : Counts) → EndsWith o task a journal counts → EndsWith o None a journal counts
uncounted o task a journal counts e = record { is_open = e.is_open; ends = e.ends; shut = e.shut; fails = e.fails; counted = λ t same. absurd (cc) }

-- ---- the begin

-- a job whose first save was made
pub begun : (o : Origin) (j : Job) (x : Execution) (paths : Paths) (journal : Option (List Entry)) (counts : Counts) → j.run ≡ x → j.paths ≡ paths → j.outcome ≡ None
    → Stands o x.book true journal counts → bytes_eq paths.connection o.output ≡ false → CountsAll o None x journal → Runs o j journal counts
begun o j x paths journal counts run path outcome s apart counted = record {
  is_open = true;
  stands = subst (λ (y : Execution). Stands o y.book true journal counts) (sym run) s;
  apart = subst (λ (p : Paths). bytes_eq p.connection o.output ≡ false) (sym path) apart;
  shut = λ e. absurd (cc);
  fails = λ f. let none : HasFailed None = subst HasFailed outcome f in absurd none;
  counted = λ fresh. subst (λ (y : Execution). IfSome journal (λ past. IsCountedIn j.outcome y (output_at o past))) (sym run)
      (subst (λ out. IfSome journal (λ past. IsCountedIn out x (output_at o past))) (sym outcome) (counted fresh));
}

pub begun_role : (cast : Cast) (since : List Entry) (from : Counts) (j : Job) (x : Execution) (number : ℕ) (paths : Paths) (journal : Option (List Entry)) (counts : Counts)
    → j.run ≡ x → j.number ≡ number → j.paths ≡ paths → HasPart cast since from x.book journal counts → IsRole cast number paths → HasRole cast since from j journal counts
begun_role cast since from j x number paths journal counts run same_number same s role = record {
  part = subst (λ (y : Execution). HasPart cast since from y.book journal counts) (sym run) s;
  role = subst (λ (p : Paths). IsRole cast j.number p) (sym same) (subst (λ n. IsRole cast n paths) (sym same_number) role);
}

-- a job that runs and isn't started: all that was saved is as it is
pub unstarted : (o : Origin) (j : Job) (journal : Option (List Entry)) (counts : Counts) → j.outcome ≡ None → Runs o j journal counts → Ends o true journal counts
unstarted o j journal counts outcome r =
    job_ends o j.run.book true journal counts (runs_open o j journal counts (ap is_some outcome) r)

-- A job keeps what it is to do over a call of its execution, and what that ends isn't ended from outside.
pub keeps_on : {A : Type 0} {was now : Job} (x : Execution) (r : Result A End) → task_of now.run.core ≡ task_of x.core → task_of x.core ≡ task_of was.run.core
    → now.run.terms ≡ x.terms → x.terms ≡ was.run.terms → output_of_job now ≡ output_of_job was → IfErr r (EndsBy (task_of x.core))
    → (IsLost now.outcome → r ≡ Err end.NetFault) → (IsSpent now.outcome → r ≡ Err end.Spent) → JobKeeps was now
keeps_on {A} {was} {now} x r task before terms kept output own lost spent = record {
  task = task ∙ before;
  pings = ap (λ (t : Terms). t.heartbeat) (terms ∙ kept);
  output = output;
  still = record { lost = λ h. absurd (not_lost (task_of x.core) r own (lost h)); spent = λ h. absurd (not_spent (task_of x.core) r own (spent h)) };
}

-- a call that was told to a job that ran is answered as it has ended
pub ends_told : {U E : Type 0} (was now : Option Answer) (r : Result U E) → is_some was ≡ false → OnErr r (HasStarved now) → OnOk r (¬ (HasStarved now)) → EndsOnce was now r
ends_told was now (Ok u) running starved fed = record { over = λ over. absurd (false≢true (sym running ∙ over)); starved = tt; fed = λ h. absurd (fed h) }
ends_told was now (Err e) running starved fed = record { over = λ over. absurd (false≢true (sym running ∙ over)); starved = starved; fed = tt }
