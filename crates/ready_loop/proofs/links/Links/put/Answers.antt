use Rattle.std.proofs.Common.{arith, ◌<◌, ◌∙◌, ap, set, List, get_or, length, ◌≡◌, sym, subst}
use Rattle.std.proofs.lemmas.Option.{slice_get-get_or}
use Rattle.ready_loop.specs.declared.link.Link.{Link}
use Rattle.ready_loop.proofs.KeyLemmas.{put_key, held_after}
use Rattle.ready_loop.specs.Table.{links_of, AllSteady}
use Rattle.ready_loop.proofs.BegunLemmas.{all_set}
use Rattle.ready_loop.proofs.links.Links.put.Goals as goal

pub invariant_of-self : goal.invariant_of-self
invariant_of-self c =
    let low : c.args.place < length c.self.inside.keys = omega (arith, c.self.told, c.requires.within) in
    let key = get_or c.self.inside.keys c.args.place 0 in
    let now : links_of c.put_under.new.slab c.self.inside.keys ≡ set (links_of c.self.inside.slab c.self.inside.keys) c.args.place c.args.link
    = put_key c.self.inside.slab c.put_under.new.slab c.self.inside.keys c.args.place key c.args.link c.self.told c.requires.within c.self.invariant.1
    (slice_get-get_or c.self.inside.keys c.args.place 0 low) c.put_under.ensures in (
      held_after c.self.inside.slab c.put_under.new.slab c.self.inside.keys key c.args.link c.put_under.ensures c.self.invariant.0,
      c.self.invariant.1,
      c.self.invariant.2,
      subst (λ (ls : List Link). AllSteady ls) (sym now) (all_set (links_of c.self.inside.slab c.self.inside.keys) c.args.place c.args.link c.self.invariant.3 c.requires.begun),
    )

pub returns : goal.returns
returns c =
    let low : c.args.place < length c.self.inside.keys = omega (arith, c.self.told, c.requires.within) in
    put_key c.self.inside.slab c.put_under.new.slab c.self.inside.keys c.args.place (get_or c.self.inside.keys c.args.place 0) c.args.link c.self.told c.requires.within c.self.invariant.1
    (slice_get-get_or c.self.inside.keys c.args.place 0 low) c.put_under.ensures
    ∙ ap (λ (ls : List Link). set ls c.args.place c.args.link) c.self.view_is
