use Rattle.std.proofs.Common.{◌≡◌, ◌≤◌, ◌<◌, ℕ, None}
use Rattle.progress_save.specs.State.{kept_text, output_of, has_failed}
use Rattle.job_notebook.specs.Kept.{ForgetsSome}
use Rattle.job_notebook.proofs.forgetting.forget_from.Given as goal

abbrev pub invariant-loop-cell : goal.invariant-loop-cell
invariant-loop-cell l = record {
  gone : (i : ℕ) → l.from ≤ i → i < l.cell → kept_text l.progress i ≡ None;
  others : ForgetsSome l.fn.progress l.progress;
  output : output_of l.progress ≡ output_of l.fn.progress;
  failed : has_failed l.progress ≡ has_failed l.fn.progress;
}
