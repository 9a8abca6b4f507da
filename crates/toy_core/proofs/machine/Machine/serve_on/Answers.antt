use Rattle.toy_core.proofs.machine.Machine.serve_on.Goals as goal

pub returns-in-Shell-clause-stands : goal.returns-in-Shell-clause-stands
returns-in-Shell-clause-stands c = rw c.in-Shell.is (rw c.in-Shell.is at c.serve_request.ensures.stands)

pub returns-in-Control-clause-stands : goal.returns-in-Control-clause-stands
returns-in-Control-clause-stands c = rw c.in-Control.is (rw c.in-Control.is at c.serve_request-in-Control.ensures.stands)

pub returns-in-Heart-clause-stands : goal.returns-in-Heart-clause-stands
returns-in-Heart-clause-stands c = rw c.in-Heart.is c.echo.ensures.stands
