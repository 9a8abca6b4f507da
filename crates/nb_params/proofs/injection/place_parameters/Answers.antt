use Rattle.std.proofs.Common.{sym, ◌∙◌}
use Rattle.nb_params.proofs.Places.{replaced}
use Rattle.nb_params.proofs.injection.place_parameters.Goals as goal

pub returns-in_ok-replaced-in-Some : goal.returns-in_ok-replaced-in-Some
returns-in_ok-replaced-in-Some c =
    replaced c.args.params.now c.args.cells c.take.new.self _ c.in-Some.i c.take.result (rw c.as_slice.ensures at (sym c.place_of.ensures ∙ c.in-Some.is)) c.take.ensures.rest c.in_ok-replaced-in-Some.ensures
