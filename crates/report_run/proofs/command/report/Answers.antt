use Rattle.std.proofs.Common.{◌<◌}
use Rattle.world.proofs.MomentsLemmas.{told_as}
use Rattle.world.specs.Counts.{Rose}
use Rattle.report_run.specs.Words.{texts}
use Rattle.report_run.proofs.Acknowledged.{acknowledged_of}
use Rattle.report_run.proofs.Heard.{heard_line}
use Rattle.report_run.proofs.Crashes.{safe_output}
use Rattle.report_run.proofs.Ends.{delivered}
use Rattle.report_run.proofs.Spared.{untouched_paths, untouched_input}
use Rattle.report_run.proofs.command.report.Goals as goal

pub returns : goal.returns
returns g c =
    let words = texts c.args.words.now in record {
      promise = record {
        causes = c.status.ensures.causes;
        delivered = told_as c.status.ensures.causes (λ x y ended. delivered words c.status.result
            (Rose (g.W.Journal.counts c.args.w.now).say (g.W.Journal.counts c.status.new.w).say) (0 < (g.W.Journal.counts c.status.new.w).say) x y ended);
        crash = told_as c.status.ensures.causes (λ x y ended new r is. safe_output words c.status.result
            (Rose (g.W.Journal.counts c.args.w.now).say (g.W.Journal.counts c.status.new.w).say) (0 < (g.W.Journal.counts c.status.new.w).say) x y ended new r is);
        untouched = told_as c.status.ensures.causes (λ x y ended. untouched_paths words c.status.result
            (Rose (g.W.Journal.counts c.args.w.now).say (g.W.Journal.counts c.status.new.w).say) (0 < (g.W.Journal.counts c.status.new.w).say) x y ended);
        input = told_as c.status.ensures.causes (λ x y ended new r is. untouched_input words c.status.result
            (Rose (g.W.Journal.counts c.args.w.now).say (g.W.Journal.counts c.status.new.w).say) (0 < (g.W.Journal.counts c.status.new.w).say) x y ended new r is);
        acknowledged = told_as c.status.ensures.causes (λ x y ended new r is. acknowledged_of words c.status.result
            (Rose (g.W.Journal.counts c.args.w.now).say (g.W.Journal.counts c.status.new.w).say) (0 < (g.W.Journal.counts c.status.new.w).say) x y ended new r is);
        said = told_as c.status.ensures.causes (λ x y ended. heard_line words c.status.result
            (Rose (g.W.Journal.counts c.args.w.now).say (g.W.Journal.counts c.status.new.w).say) (0 < (g.W.Journal.counts c.status.new.w).say) x y ended);
        silent = c.status.ensures.silent;
        usage = c.status.ensures.usage;
        refused = c.status.ensures.refused;
        read_fault = c.status.ensures.read_fault;
        save_fault = c.status.ensures.save_fault;
        say_fault = c.status.ensures.say_fault;
        heard = c.status.ensures.heard;
      };
    }
