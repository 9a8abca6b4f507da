use Rattle.std.proofs.Common.{◌≡◌, ◌+◌, ◌<◌, ◌≤◌, ◌∙◌, ap, arith, Ok, Err, subst, sym, true≢false}
use Rattle.cell_core.specs.Sending.{SendsOn, next_of}
use Rattle.cell_core.specs.StandsFor.{task_of}
use Rattle.job_notebook.specs.State.{settled_of}
use Rattle.job_run.specs.declared.execution.Execution.{Execution}
use Rattle.job_run.specs.Standing.{DoesAct, StandsTo, is_idle}
use Rattle.job_run.proofs.ActLemmas.{does_look, does_nothing, does_start, does_stop, idle_stands, none_to_send, starved_stop, starves_stop}
use Rattle.job_run.proofs.EndLemmas.{stop_so}
use Rattle.job_run.proofs.SendLemmas.{does_send}
use Rattle.job_run.proofs.execution.Execution.perform.Goals as goal

pub returns-in-Send-clause-stands : goal.returns-in-Send-clause-stands
returns-in-Send-clause-stands c p number now =
    let x = c.args.self.now in
    let cell = c.in-Send.cell in
    let todo = c.requires.todo in
    let s : (todo.was ≤ cell) × (cell < (task_of x.core).cells) × (next_of x.core ≡ cell + 1) = subst (λ act. SendsOn (task_of x.core) todo.was (next_of x.core) act) c.in-Send.is todo.sends in
    let above : settled_of x.book ≤ cell = omega (arith, todo.settled, s.0) in
    subst (λ act. DoesAct p number x act c.send.new.self c.send.result now now) (sym c.in-Send.is)
    (does_send p number x c.send.new.self cell now c.send.result above (subst (λ n. cell < n) (sym c.requires.holds.cells) s.1) c.send.ensures.sends c.send.ensures.starved)

pub returns-in-Nothing-clause-stands : goal.returns-in-Nothing-clause-stands
returns-in-Nothing-clause-stands c p number now =
    subst (λ act. DoesAct {U = Unit {0}} p number c.args.self.now act c.args.self.now (Ok tt) now now) (sym c.in-Nothing.is) (does_nothing p number c.args.self.now now)

pub returns-in-Start-clause-stands : goal.returns-in-Start-clause-stands
returns-in-Start-clause-stands c p number now =
    subst (λ act. DoesAct {U = Unit {0}} p number c.args.self.now act c.args.self.now (Ok tt) now now) (sym c.in-Start.is) (does_start p number c.args.self.now now)

pub returns-in-Look-clause-stands : goal.returns-in-Look-clause-stands
returns-in-Look-clause-stands c p number now =
    subst (λ act. DoesAct {U = Unit {0}} p number c.args.self.now act c.args.self.now (Ok tt) now now) (sym c.in-Look.is) (does_look p number c.args.self.now now)

pub returns-in-Nothing-clause-unsent : goal.returns-in-Nothing-clause-unsent
returns-in-Nothing-clause-unsent c p number clock now none t =
    let x : Execution = record c.args.self.now { clock = clock } in
    idle_stands p number x c.args.act now (ap is_idle c.in-Nothing.is) t

pub returns-in-Start-clause-unsent : goal.returns-in-Start-clause-unsent
returns-in-Start-clause-unsent c p number clock now none t =
    let x : Execution = record c.args.self.now { clock = clock } in
    idle_stands p number x c.args.act now (ap is_idle c.in-Start.is) t

pub returns-in-Look-clause-unsent : goal.returns-in-Look-clause-unsent
returns-in-Look-clause-unsent c p number clock now none t =
    let x : Execution = record c.args.self.now { clock = clock } in
    idle_stands p number x c.args.act now (ap is_idle c.in-Look.is) t

pub returns-in-Send-clause-unsent : goal.returns-in-Send-clause-unsent
returns-in-Send-clause-unsent c p number clock now none t =
    let x : Execution = record c.args.self.now { clock = clock } in
    absurd (none_to_send p number x c.in-Send.cell now none (subst (λ act. StandsTo p number x act now) c.in-Send.is t))

pub returns-in-Send-clause-still : goal.returns-in-Send-clause-still
returns-in-Send-clause-still c idle = absurd (true≢false (sym idle ∙ ap is_idle c.in-Send.is))

pub returns-in_ok-end_by-in-Stop-clause-stands : goal.returns-in_ok-end_by-in-Stop-clause-stands
returns-in_ok-end_by-in-Stop-clause-stands c p number now =
    let x = c.args.self.now in
    let e = c.in_ok-end_by-in-Stop in
    subst (λ act. DoesAct {U = Unit {0}} p number x act x (Err e.field-0) now now) (sym c.in-Stop.is) (does_stop p number x c.in-Stop.why e.field-0 now e.ensures.names)

pub returns-in_err-end_by-in-Stop-clause-stands : goal.returns-in_err-end_by-in-Stop-clause-stands
returns-in_err-end_by-in-Stop-clause-stands c p number now =
    let x = c.args.self.now in
    let r = c.from_residual-in_err-end_by-in-Stop in
    subst (λ act. DoesAct p number x act x r.result now now) (sym c.in-Stop.is) (starves_stop p number x x c.in-Stop.why r.result now r.ensures.1)

pub returns-in_ok-end_by-in-Stop-clause-unsent : goal.returns-in_ok-end_by-in-Stop-clause-unsent
returns-in_ok-end_by-in-Stop-clause-unsent c p number clock now none t =
    let x : Execution = record c.args.self.now { clock = clock } in
    let e = c.in_ok-end_by-in-Stop in
    stop_so p x now c.in-Stop.why e.field-0 (subst (λ act. StandsTo p number x act now) c.in-Stop.is t) e.ensures.names

pub returns-in_err-end_by-in-Stop-clause-unsent : goal.returns-in_err-end_by-in-Stop-clause-unsent
returns-in_err-end_by-in-Stop-clause-unsent c p number clock now none t =
    let x : Execution = record c.args.self.now { clock = clock } in
    let r = c.from_residual-in_err-end_by-in-Stop in
    starved_stop p number x x c.in-Stop.why r.result now r.ensures.1 (subst (λ act. StandsTo p number x act now) c.in-Stop.is t)
