use Rattle.std.proofs.Common.{◌≡◌, ◌⊎◌, ◌∙◌, subst}
use Rattle.std.specs.Prelude.{IfErr}
use Rattle.words.specs.JobsFaults as batch
use Rattle.words.specs.JobsAsked.{asks_of}
use Rattle.words.specs.JobsFile.{IsJobsFile}
use Rattle.words.specs.declared.usage.Usage.TheVariants as usage
use Rattle.graph_run.proofs.FileLemmas.{rest_asked, first_of_ok, second_of_ok}
use Rattle.graph_run.proofs.file.asks_of.Goals as goal

pub returns-clause-file : goal.returns-clause-file
returns-clause-file c =
    first_of_ok (λ asks. IsJobsFile c.args.file.now c.args.graph.now.rest) (λ asks. asks ≡ asks_of c.args.common.now c.args.graph.now.rest) c.jobs.result
    (rest_asked c.bytes.result.now c.args.file.now c.args.common.now c.args.graph.now.rest c.jobs.result c.sound.ensures c.requires (c.bytes.ensures ∙ c.in_ok-rest.ensures) c.jobs.ensures.asked)

pub returns-clause-asked : goal.returns-clause-asked
returns-clause-asked c =
    second_of_ok (λ asks. IsJobsFile c.args.file.now c.args.graph.now.rest) (λ asks. asks ≡ asks_of c.args.common.now c.args.graph.now.rest) c.jobs.result
    (rest_asked c.bytes.result.now c.args.file.now c.args.common.now c.args.graph.now.rest c.jobs.result c.sound.ensures c.requires (c.bytes.ensures ∙ c.in_ok-rest.ensures) c.jobs.ensures.asked)

pub returns-clause-refused : goal.returns-clause-refused
returns-clause-refused c =
    subst (λ b. IfErr c.jobs.result (λ u. (u ≡ usage.NoMemory) ⊎ batch.Refused c.args.file.now b u)) (c.bytes.ensures ∙ c.in_ok-rest.ensures) c.jobs.ensures.refused
