use Rattle.nb_load.specs.declared.load_fault.LoadFault.TheVariants as load_fault
use Rattle.graph_run.proofs.TestLemmas.{not_loaded}
use Rattle.graph_run.proofs.scrap.notebook_of.Goals as goal

pub returns-in-Err-NotJson-clause-refused : goal.returns-in-Err-NotJson-clause-refused
returns-in-Err-NotJson-clause-refused c =
    not_loaded c.args.bytes.now c.in-Err-NotJson.field-0 (load_fault.NotJson c.in-Err-NotJson.fault) c.in-Err-NotJson.field-0-is c.in-Err-NotJson.ensures.refused (λ e. cc)

pub returns-in-Err-NotNotebook-clause-refused : goal.returns-in-Err-NotNotebook-clause-refused
returns-in-Err-NotNotebook-clause-refused c =
    not_loaded c.args.bytes.now c.in-Err-NotNotebook.field-0 (load_fault.NotNotebook c.in-Err-NotNotebook.fault) c.in-Err-NotNotebook.field-0-is c.in-Err-NotNotebook.ensures.refused (λ e. cc)
