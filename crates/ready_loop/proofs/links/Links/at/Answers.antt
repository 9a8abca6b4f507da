use Rattle.std.proofs.Common.{arith, ◌≡◌, ◌<◌, subst, List, Some, slice_get, get_or, length}
use Rattle.std.proofs.lemmas.Option.{slice_get-get_or}
use Rattle.ready_loop.specs.declared.link.Link.{Link}
use Rattle.ready_loop.proofs.KeyLemmas.{at_key}
use Rattle.ready_loop.proofs.links.Links.at.Goals as goal

pub index-requires : goal.index-requires
index-requires c =
    let low : c.args.place < length c.self.inside.keys = omega (arith, c.self.invariant.2, c.requires) in
    c.self.invariant.0 c.args.place (get_or c.self.inside.keys c.args.place 0) c.requires (slice_get-get_or c.self.inside.keys c.args.place 0 low)

pub returns-clause-found : goal.returns-clause-found
returns-clause-found c =
    let low : c.args.place < length c.self.inside.keys = omega (arith, c.self.invariant.2, c.requires) in
    subst (λ (ls : List Link). slice_get ls c.args.place ≡ Some c.index.result.now) c.self.view_is
    (at_key c.self.inside.slab c.self.inside.keys c.args.place (get_or c.self.inside.keys c.args.place 0) c.index.result.now (slice_get-get_or c.self.inside.keys c.args.place 0 low) c.index.ensures)

pub returns-clause-begun : goal.returns-clause-begun
returns-clause-begun c =
    let low : c.args.place < length c.self.inside.keys = omega (arith, c.self.invariant.2, c.requires) in
    c.self.invariant.3 c.args.place c.index.result.now
    (at_key c.self.inside.slab c.self.inside.keys c.args.place (get_or c.self.inside.keys c.args.place 0) c.index.result.now (slice_get-get_or c.self.inside.keys c.args.place 0 low) c.index.ensures)
