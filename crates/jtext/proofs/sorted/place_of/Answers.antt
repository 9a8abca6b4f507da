use Rattle.std.proofs.Common.{[], sym, ◌∙◌, slice_get, arith}
use Rattle.jtext.specs.Sorting.{by_key}
use Rattle.jtext.proofs.Indented.{pick_within, pick_lengths, some_within}
use Rattle.jtext.proofs.sorted.place_of.Goals as goal
use Rattle.std.proofs.lemmas.Option.{slice_get_within}

pub returns : goal.returns
returns c =
    let pairs = c.args.pairs.now in
    let at = pick_within (λ e. slice_get pairs e.1) c.args.places.now (by_key pairs) c.args.i (record { ref_ptr = (0, 0); now = [] }, 0) c.requires.sorted c.requires.within in
    let (p, is, _) = some_within (by_key pairs) c.args.i (omega (arith, c.requires.within, pick_lengths (λ e. slice_get pairs e.1) c.args.places.now (by_key pairs) c.requires.sorted)) in
    record { within = slice_get_within pairs _ p (at ∙ is); pair = sym at }
