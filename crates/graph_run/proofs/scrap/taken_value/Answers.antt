use Rattle.std.proofs.Common.{◌∙◌, subst, sym}
use Rattle.std.specs.Prelude.{Result, Err}
use Rattle.jtext.specs.declared.json.Json.{Json}
use Rattle.graph_run.specs.declared.refusal.Refusal.{Refusal}
use Rattle.world.proofs.MomentsLemmas.{told_start, tells_as}
use Rattle.world.specs.declared.read_file.ReadFile.TheVariants as found
use Rattle.graph_run.specs.declared.refusal.Refusal.TheVariants as refusal
use Rattle.graph_run.specs.Tests.{Takes}
use Rattle.graph_run.proofs.TestLemmas.{err_is, take_failed, take_other, take_whole}
use Rattle.graph_run.proofs.scrap.taken_value.Goals as goal

pub returns-in-Whole-clause-told : goal.returns-in-Whole-clause-told
returns-in-Whole-clause-told g c =
    tells_as c.in-Whole.ensures.tells
    (take_whole c.args.flow.now c.args.take.now c.in_ok-path.path c.in-Whole.bytes c.bytes-in-Whole.result.now c.scrap_in.result (c.in_ok-path.ensures ∙ c.output_of.ensures) c.bytes-in-Whole.ensures c.scrap_in.ensures.found c.scrap_in.ensures.refused)

pub returns-in_err-path-clause-told : goal.returns-in_err-path-clause-told
returns-in_err-path-clause-told g c = told_start (λ x. subst (λ (r : Result Json Refusal). Takes c.args.flow.now c.args.take.now x r x) (sym (err_is c.from_residual.ensures.1)) Takes.no_memory)

pub returns-in-Big-clause-told : goal.returns-in-Big-clause-told
returns-in-Big-clause-told g c =
    tells_as c.in-Big.ensures.tells (λ past. take_other c.args.flow.now c.args.take.now c.in_ok-path.path found.Big (Err refusal.TooLarge) (c.in_ok-path.ensures ∙ c.output_of.ensures) past Takes.too_large)

pub returns-in-Failed-clause-told : goal.returns-in-Failed-clause-told
returns-in-Failed-clause-told g c =
    tells_as c.in-Failed.ensures.tells (take_failed c.args.flow.now c.args.take.now c.in_ok-path.path (c.in_ok-path.ensures ∙ c.output_of.ensures))

pub returns-in-NoMemory-clause-told : goal.returns-in-NoMemory-clause-told
returns-in-NoMemory-clause-told g c =
    tells_as c.in-NoMemory.ensures.tells (λ past.
    take_other c.args.flow.now c.args.take.now c.in_ok-path.path found.NoMemory (Err refusal.NoMemory) (c.in_ok-path.ensures ∙ c.output_of.ensures) past (Takes.no_memory_later found.NoMemory))
