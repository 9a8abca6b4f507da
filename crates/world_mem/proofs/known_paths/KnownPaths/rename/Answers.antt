use Rattle.std.proofs.Common.{◌∙◌, ap, refl}
use Rattle.world.specs.Disk.{Place, target_place, removed_place}
use Rattle.world_mem.specs.Known.{Known, place_in, put_in}
use Rattle.world_mem.proofs.KnownLemmas.{ok_as, learns_by, learns_renamed}
use Rattle.world_mem.proofs.known_paths.KnownPaths.rename.Goals as goal

pub returns : goal.returns
returns c =
    let d = c.args.did in
    let gone = c.in_ok-removed.ensures ∙ ap (λ (p : Place). removed_place p d) c.in_ok-state-3.ensures in
    let target =
    c.in_ok-target.ensures
    ∙ ap (λ (p : Place). target_place p c.in_ok-state.field-0 d) c.in_ok-state-2.ensures
    ∙ ap (λ (p : Place). target_place (place_in c.args.self.items.items c.args.from.now) p d) c.in_ok-state.ensures in
    ok_as c.put-2.result c.put-2.ensures (λ known e.
    learns_by refl (e ∙ ap (λ (ks : Known). put_in c.args.to.now c.in_ok-target.target ks) c.in_ok-put.ensures) (learns_renamed _ _ _ _ _ _ gone target))
