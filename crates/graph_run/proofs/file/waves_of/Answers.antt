use Rattle.graph_run.proofs.file.waves_of.Goals as goal

pub returns-in-Err-Cycle-clause-refused : goal.returns-in-Err-Cycle-clause-refused
returns-in-Err-Cycle-clause-refused c =
    let first = c.in-Err-Cycle.ensures.cycle c.in-Err-Cycle.job c.in-Err-Cycle.field-0-is in
    let wave = c.requires.waves c.in-Err-Cycle.job first.is_job in
    absurd (first.none wave.0 wave.1)
