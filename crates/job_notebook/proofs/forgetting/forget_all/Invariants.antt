use Rattle.std.proofs.Common.{◌≡◌, ◌⊎◌, ℕ, true, None, drop}
use Rattle.out_fold.specs.Plans.{is_in}
use Rattle.progress_save.specs.State.{kept_text, output_of, has_failed}
use Rattle.job_notebook.specs.Kept.{ForgetsSome}
use Rattle.job_notebook.proofs.forgetting.forget_all.Given as goal

abbrev pub invariant-loop-cell : goal.invariant-loop-cell
invariant-loop-cell l = record {
  gone : (i : ℕ) → is_in l.cells i ≡ true → (kept_text l.progress i ≡ None) ⊎ (is_in (drop l.cell-index l.cells) i ≡ true);
  others : ForgetsSome l.fn.progress l.progress;
  output : output_of l.progress ≡ output_of l.fn.progress;
  failed : has_failed l.progress ≡ has_failed l.fn.progress;
}
