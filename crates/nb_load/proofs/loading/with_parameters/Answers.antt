use Rattle.nb_load.proofs.Loads.{no_translator}
use Rattle.nb_load.proofs.loading.with_parameters.Goals as goal

pub returns-in-Err-NoTranslator-clause-err : goal.returns-in-Err-NoTranslator-clause-err
returns-in-Err-NoTranslator-clause-err c =
    no_translator c.args.ask.now c.args.notebook c.in-Err-NoTranslator.field-0 c.in-Err-NoTranslator.language c.in-Err-NoTranslator.field-0-is c.in-Err-NoTranslator.ensures.refused
