use Rattle.std.proofs.Common.{◌<◌, map, string_bytes}
use Rattle.world.proofs.MomentsLemmas.{told_as}
use Rattle.world.specs.Counts.{Rose}
use Rattle.nbrun_top.proofs.Asked.{told_each, no_job_executes, no_job_exercises, one_is_no_exercise, one_executes}
use Rattle.nbrun_top.proofs.Batches.{one_prefixes, one_others, one_read_only}
use Rattle.nbrun_top.proofs.Crashes.{safe_output}
use Rattle.nbrun_top.proofs.Ends.{delivered}
use Rattle.nbrun_top.proofs.Acknowledged.{acknowledged_of}
use Rattle.nbrun_top.proofs.Heard.{heard_lines}
use Rattle.nbrun_top.proofs.Spared.{untouched_paths, untouched_input}
use Rattle.nbrun_top.proofs.main_call.run_others.Goals as goal

pub returns : goal.returns
returns g c = record {
  promise = record {
    causes = c.status.ensures.causes;
    delivered = (λ plain. told_as (c.status.ensures.causes plain) (λ x y ended. delivered (map string_bytes c.args.words.now) c.status.result
        (Rose (g.W.Journal.counts c.args.w.now).say (g.W.Journal.counts c.status.new.w).say) (0 < (g.W.Journal.counts c.status.new.w).say) x y ended));
    crash = (let words = map string_bytes c.args.words.now in
        told_each words c.status.ensures.causes c.status.ensures.executed c.status.ensures.exercised
        (λ plain x y ended new a is. safe_output words c.status.result (Rose (g.W.Journal.counts c.args.w.now).say (g.W.Journal.counts c.status.new.w).say) (0 < (g.W.Journal.counts c.status.new.w).say) x y ended new a is)
        (λ executing x y it new a is. absurd (no_job_executes words a executing is))
        (λ n exercise x y it new a is. absurd (no_job_exercises words a n is exercise)));
    acknowledged = (let words = map string_bytes c.args.words.now in
        told_each words c.status.ensures.causes c.status.ensures.executed c.status.ensures.exercised
        (λ plain x y ended new a is. acknowledged_of words c.status.result (Rose (g.W.Journal.counts c.args.w.now).say (g.W.Journal.counts c.status.new.w).say) (0 < (g.W.Journal.counts c.status.new.w).say) x y ended new a is)
        (λ executing x y it new a is. absurd (no_job_executes words a executing is))
        (λ n exercise x y it new a is. absurd (no_job_exercises words a n is exercise)));
    untouched = (λ plain. told_as (c.status.ensures.causes plain) (λ x y ended. untouched_paths (map string_bytes c.args.words.now) c.status.result
        (Rose (g.W.Journal.counts c.args.w.now).say (g.W.Journal.counts c.status.new.w).say) (0 < (g.W.Journal.counts c.status.new.w).say) x y ended));
    input = (let words = map string_bytes c.args.words.now in
        told_each words c.status.ensures.causes c.status.ensures.executed c.status.ensures.exercised
        (λ plain x y ended new a is. untouched_input words c.status.result (Rose (g.W.Journal.counts c.args.w.now).say (g.W.Journal.counts c.status.new.w).say) (0 < (g.W.Journal.counts c.status.new.w).say) x y ended new a is)
        (λ executing x y it new a is. absurd (no_job_executes words a executing is))
        (λ n exercise x y it new a is. absurd (no_job_exercises words a n is exercise)));
    said = (λ plain. told_as (c.status.ensures.causes plain) (λ x y ended. heard_lines (map string_bytes c.args.words.now) c.status.result
        (Rose (g.W.Journal.counts c.args.w.now).say (g.W.Journal.counts c.status.new.w).say) (0 < (g.W.Journal.counts c.status.new.w).say) x y ended));
    silent = c.status.ensures.silent;
    executed = c.status.ensures.executed;
    prefixes = (let words = map string_bytes c.args.words.now in
        told_each words c.status.ensures.causes c.status.ensures.executed c.status.ensures.exercised
        (λ plain x y ended new a is. absurd (plain.executes (one_executes words a is)))
        (λ executing x y it new a is. one_prefixes words (Rose (g.W.Journal.counts c.args.w.now).say (g.W.Journal.counts c.status.new.w).say) (0 < (g.W.Journal.counts c.status.new.w).say) c.status.result y (it new) a is)
        (λ n exercise x y it new a is. absurd (one_is_no_exercise words a is n exercise)));
    others = (let words = map string_bytes c.args.words.now in
        told_each words c.status.ensures.causes c.status.ensures.executed c.status.ensures.exercised
        (λ plain x y ended new a path is. absurd (plain.executes (one_executes words a is)))
        (λ executing x y it new a path is. one_others words (Rose (g.W.Journal.counts c.args.w.now).say (g.W.Journal.counts c.status.new.w).say) (0 < (g.W.Journal.counts c.status.new.w).say) c.status.result y (it new) a path is)
        (λ n exercise x y it new a path is. absurd (one_is_no_exercise words a is n exercise)));
    read_only = (let words = map string_bytes c.args.words.now in
        told_each words c.status.ensures.causes c.status.ensures.executed c.status.ensures.exercised
        (λ plain x y ended new a is. absurd (plain.executes (one_executes words a is)))
        (λ executing x y it new a is. one_read_only words (Rose (g.W.Journal.counts c.args.w.now).say (g.W.Journal.counts c.status.new.w).say) (0 < (g.W.Journal.counts c.status.new.w).say) c.status.result y (it new) a is)
        (λ n exercise x y it new a is. absurd (one_is_no_exercise words a is n exercise)));
    exercised = c.status.ensures.exercised;
    usage = c.status.ensures.usage;
    refused = c.status.ensures.refused;
    read_fault = (λ real three. (c.status.ensures.counted real).cause.read three);
    start_fault = (λ real six. (c.status.ensures.counted real).cause.start six);
    save_fault = (λ real ten. (c.status.ensures.counted real).cause.save ten);
    say_fault = (λ real eleven. (c.status.ensures.counted real).say eleven);
    net_fault = (λ real fourteen. (c.status.ensures.counted real).cause.net fourteen);
    spent = (λ real sixteen. (c.status.ensures.counted real).spent sixteen);
    waits = c.status.ensures.waits;
    heard = c.status.ensures.heard;
  };
}
