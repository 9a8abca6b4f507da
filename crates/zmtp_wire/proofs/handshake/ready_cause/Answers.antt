use Rattle.std.proofs.Common.{sym, ◌∙◌}
use Rattle.zmtp_wire.proofs.ReadyLemmas.{end_true, end_false, end_none}
use Rattle.zmtp_wire.proofs.handshake.ready_cause.Goals as goal

pub returns-then-found : goal.returns-then-found
returns-then-found c =
    end_true c.args.role c.loop-rest.fits c.loop-rest.rest.now _ c.in-Some-fits.found (sym c.is_empty.ensures ∙ c.loop-rest-test.false) c.loop-rest.invariant c.in-Some-fits.is c.if-found.true

pub returns-else-found : goal.returns-else-found
returns-else-found c =
    end_false c.args.role c.loop-rest.fits c.loop-rest.rest.now _ c.in-Some-fits.found (sym c.is_empty.ensures ∙ c.loop-rest-test.false) c.loop-rest.invariant c.in-Some-fits.is c.if-found.false

pub returns-in-None : goal.returns-in-None
returns-in-None c =
    end_none c.args.role c.loop-rest.fits c.loop-rest.rest.now _ (sym c.is_empty.ensures ∙ c.loop-rest-test.false) c.loop-rest.invariant c.in-None.is
