-- Steps of an execution, one after another.
use Rattle.std.proofs.Common.{◌≡◌, true, List, Option, Result, Ok, Err, refl, sym, ap, subst, ◌∙◌}
use Rattle.std.proofs.lemmas.Result.{err_from_is_err_and}
use Rattle.std.specs.Result.{IsErrAnd}
use Rattle.world.specs.declared.entry.Entry.{Entry}
use Rattle.world.specs.Counts.{Counts}
use Rattle.world.specs.Moments.{start}
use Rattle.world.proofs.MomentsLemmas.{since_then, told_start, told_then}
use Rattle.cell_core.specs.declared.act.Act.{Act}
use Rattle.cell_core.specs.declared.act.Act.TheVariants.{Nothing}
use Rattle.cell_core.specs.StandsFor.{task_of}
use Rattle.job_end.specs.declared.end.End.{End}
use Rattle.job_end.specs.declared.end.End.TheVariants.{NoMemory}
use Rattle.job_saves.specs.Course.{Stands, HasPart, StaysOn, KeepsPart}
use Rattle.job_saves.specs.Left.{OutputAt}
use Rattle.job_run.specs.declared.execution.Execution.{Execution}
use Rattle.job_run.specs.Counted.{IsCounted, KeepsTold}
use Rattle.job_run.specs.Held.{Holds, IsCalm}
use Rattle.job_run.specs.Steps.{Proceeds, ProceedsFirst}
use Rattle.job_run.proofs.CountLemmas.{counts_by, counts_kept, told_counted, starved_on}

module _ {W : Type 0} {journal : W → Option (List Entry)} {tally : W → Counts} where
  -- a step may read the clock
  pub goes_first : {U : Type 0} {p q : W} {x y : Execution} {act : Act} {result : Result U End} → Proceeds journal tally p q x y act result → ProceedsFirst journal tally p q x y act result
  goes_first g = g.step

  -- one step, and then another that may read the clock
  pub goes_reading : {U V : Type 0} {p q r : W} {x y z : Execution} {act : Act} {u : U} {result : Result V End}
      → Proceeds journal tally p q x y act (Ok u) → ProceedsFirst journal tally q r y z Nothing result → ProceedsFirst journal tally p r x z act result
  goes_reading g h = record {
    holds = h.holds;
    calm = h.calm;
    course = λ o s. h.course o (g.step.course o s);
    calls = λ cast since from s. h.calls cast since from (g.step.calls cast since from s);
    task = h.task ∙ g.step.task;
    terms = h.terms ∙ g.step.terms;
    own = h.own;
    counts = λ o on s at. h.counts o on (g.step.course o s) (g.step.counts o on s at);
  }

  -- one step, and then another
  pub goes_then : {U V : Type 0} {p q r : W} {x y z : Execution} {act : Act} {u : U} {result : Result V End}
      → Proceeds journal tally p q x y act (Ok u) → Proceeds journal tally q r y z Nothing result → Proceeds journal tally p r x z act result
  goes_then g h = record { step = goes_reading g h.step; clock = told_then g.clock h.clock (λ a b c v w. since_then v w) }

  -- nothing was done
  pub goes_still : {U : Type 0} {p : W} {x : Execution} {u : U} → Holds x → IsCalm x → Proceeds journal tally p p x x Nothing (Ok u)
  goes_still holds calm = record {
    step = record {
      holds = holds;
      calm = calm;
      course = λ o s. s;
      calls = λ cast since from s. s;
      task = refl;
      terms = refl;
      own = tt;
      counts = λ o on s at. at;
    };
    clock = told_start (λ now. start);
  }

  -- memory was wanted
  pub goes_starved : {U : Type 0} {p : W} {x : Execution} {act : Act} → Holds x → Proceeds {U = U} journal tally p p x x act (Err NoMemory)
  goes_starved {U} {p} {x} holds = record {
    step = record {
      holds = holds;
      calm = tt;
      course = λ o s. s;
      calls = λ cast since from s. s;
      task = refl;
      terms = refl;
      own = tt;
      counts = λ o on s at. starved_on U o x (journal p);
    };
    clock = told_start (λ now. start);
  }

  -- a step after what has changed the core alone, which counts as many saves as before
  pub goes_told : {U : Type 0} {p q : W} {x y z : Execution} {a b : Act} {result : Result U End} → y.book ≡ x.book → task_of y.core ≡ task_of x.core → y.terms ≡ x.terms
      → ((n : OutputAt) → IsCounted x a n → IsCounted y b n) → Proceeds journal tally p q y z b result → Proceeds journal tally p q x z a result
  goes_told {U} {p} {q} {x} {y} {z} {a} {b} book task terms counts g = record {
    step = record {
      holds = g.step.holds;
      calm = g.step.calm;
      course = λ o s. g.step.course o (subst (λ k. Stands o k true (journal p) (tally p)) (sym book) s);
      calls = λ cast since from s. g.step.calls cast since from (subst (λ k. HasPart cast since from k (journal p) (tally p)) (sym book) s);
      task = g.step.task ∙ task;
      terms = g.step.terms ∙ terms;
      own = g.step.own;
      counts = λ o on s at. g.step.counts o on (subst (λ k. Stands o k true (journal p) (tally p)) (sym book) s) (counts_by o x y a b (journal p) counts at);
    };
    clock = g.clock;
  }

  -- a step after what has changed neither the core nor the notebook
  pub goes_kept : {U : Type 0} {p q : W} {x y z : Execution} {act : Act} {result : Result U End} → y.book ≡ x.book → KeepsTold x y
      → Proceeds journal tally p q y z act result → Proceeds journal tally p q x z act result
  goes_kept {U} {p} {q} {x} {y} {z} {act} book told g = goes_told book (ap task_of told.core) told.terms (λ n i. told_counted x y act n told i) g

  -- a step after a message was used
  pub goes_used : {U : Type 0} {p q : W} {x y z : Execution} {act : Act} {result : Result U End} → StaysOn x.book y.book → KeepsPart x.book y.book → KeepsTold x y
      → Proceeds journal tally p q y z act result → Proceeds journal tally p q x z act result
  goes_used {U} {p} {q} {x} {y} {z} {act} stays part told g = record {
    step = record {
      holds = g.step.holds;
      calm = g.step.calm;
      course = λ o s. g.step.course o (stays o true (journal p) (tally p) s);
      calls = λ cast since from s. g.step.calls cast since from (part cast since from (journal p) (tally p) s);
      task = g.step.task ∙ ap task_of told.core;
      terms = g.step.terms ∙ told.terms;
      own = g.step.own;
      counts = λ o on s at. g.step.counts o on (stays o true (journal p) (tally p) s) (counts_kept o x y act (journal p) told at);
    };
    clock = g.clock;
  }

  -- where memory was wanted or the job has ended, and that is passed on
  pub goes_err : {U : Type 0} {p q : W} {x y : Execution} {act : Act} {result : Result U End} {e : End} → IsErrAnd result (λ k. k ≡ e)
      → Proceeds {U = U} journal tally p q x y act (Err e) → Proceeds journal tally p q x y act result
  goes_err {U} {p} {q} {x} {y} {act} {result} is g =
      let found = err_from_is_err_and result is in
      subst (λ r. Proceeds journal tally p q x y act r) (sym (found.1 ∙ ap Err found.2)) g
