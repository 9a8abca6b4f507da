use Rattle.std.proofs.Common.{refl}
use Rattle.kernel_start.proofs.FindingLaws.{read_failed}
use Rattle.kernel_start.proofs.kernel.Kernel.look_up.Goals as goal

pub returns-clause-cause : goal.returns-clause-cause
returns-clause-cause g c =
    let cause = c.read_file-answer.ensures.cause in
    let finds = c.of_answer.ensures c.args.ask.now c.args.notebook.now refl c.in_ok-place.ensures.ok in
    record {
      others = cause.others;
      disk = record {
        later = cause.disk.later;
        cause = λ failed. cause.disk.cause (read_failed c.args.ask.now c.args.notebook.now c.read_file-answer.result c.of_answer.result finds failed);
      };
    }
