-- What a jobs file asks for.
use Rattle.std.specs.Prelude.{ℕ, List, Option, codes, map, unwrap_or, option_map}
use Rattle.std.specs.Option.{option_or}
use Rattle.jtext.specs.declared.json.Json.{Json}
use Rattle.jtext.specs.Find.{field, fields}
use Rattle.jtext.specs.Look.{string_at}
use Rattle.words.specs.declared.ask.Ask.{Ask}
use Rattle.words.specs.JobsFile.{jobs_of, path_at}

-- what the job gives, or else what all have in common
abbrev pub kernel_of : Ask → Json → Option (List ℕ)
kernel_of common job = option_or (string_at job (codes "kernel")) common.kernel

-- the folder that the kernel runs in: the job's, or else that of all
abbrev pub cwd_of : Ask → Json → List ℕ
cwd_of common job = unwrap_or (string_at job (codes "cwd")) common.cwd

-- the parameters: the job's, or else those of all
abbrev pub params_of : Ask → Json → List (List ℕ × Json)
params_of common job = unwrap_or (option_map fields (field job (codes "parameters"))) common.params

-- what is asked of a job: what all of them have in common, but for what the job gives
abbrev pub ask_of_job : Ask → Json → Ask
ask_of_job common job = record {
  input = path_at (codes "input") job;
  output = path_at (codes "output") job;
  kernel = kernel_of common job;
  kernel_path = common.kernel_path;
  cwd = cwd_of common job;
  params = params_of common job;
  prepare = common.prepare;
  report = common.report;
  merge = common.merge;
  all_errors = common.all_errors;
  interrupt = common.interrupt;
  heartbeat = common.heartbeat;
  names = common.names;
  start_ms = common.start_ms;
  limit_ms = common.limit_ms;
}

-- what is asked of each job, in the order of the file
abbrev pub asks_of : Ask → Json → List Ask
asks_of common t = map (ask_of_job common) (jobs_of t)
