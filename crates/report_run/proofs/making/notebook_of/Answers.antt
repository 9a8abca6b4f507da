use Rattle.nb_load.specs.declared.load_fault.LoadFault.TheVariants as load_fault
use Rattle.report_run.proofs.Runs.{not_loaded}
use Rattle.report_run.proofs.making.notebook_of.Goals as goal

pub returns-in-Err-NotJson-clause-refused : goal.returns-in-Err-NotJson-clause-refused
returns-in-Err-NotJson-clause-refused c k other =
    not_loaded k c.args.bytes.now c.in-Err-NotJson.field-0 (load_fault.NotJson c.in-Err-NotJson.fault) other c.in-Err-NotJson.field-0-is c.in-Err-NotJson.ensures.refused (λ e. cc)

pub returns-in-Err-NotNotebook-clause-refused : goal.returns-in-Err-NotNotebook-clause-refused
returns-in-Err-NotNotebook-clause-refused c k other =
    not_loaded k c.args.bytes.now c.in-Err-NotNotebook.field-0 (load_fault.NotNotebook c.in-Err-NotNotebook.fault) other c.in-Err-NotNotebook.field-0-is c.in-Err-NotNotebook.ensures.refused (λ e. cc)
