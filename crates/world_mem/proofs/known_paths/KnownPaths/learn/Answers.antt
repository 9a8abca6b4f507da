use Rattle.std.proofs.Common.{◌∙◌, ap}
use Rattle.world.specs.Disk.{Place, written_place, synced_place, removed_place}
use Rattle.world_mem.proofs.KnownLemmas.{
  ok_as,
  learns_by,
  learns_created,
  learns_wrote,
  learns_synced,
  learns_removed,
  learns_settled,
}
use Rattle.world_mem.proofs.known_paths.KnownPaths.learn.Goals as goal

pub returns-in_ok-state-in-Created : goal.returns-in_ok-state-in-Created
returns-in_ok-state-in-Created c =
    ok_as c.put.result c.put.ensures (λ known e. learns_by c.in-Created.is e (learns_created _ _ _ _ c.in_ok-state-in-Created.ensures))

pub returns-in_ok-state-in-Wrote-2 : goal.returns-in_ok-state-in-Wrote-2
returns-in_ok-state-in-Wrote-2 c =
    let is = c.in_ok-state-in-Wrote-2.ensures ∙ ap (λ (p : Place). written_place p c.in-Wrote.bytes c.in-Wrote.did) c.in_ok-state-in-Wrote.ensures in
    ok_as c.put-in-Wrote.result c.put-in-Wrote.ensures (λ known e. learns_by c.in-Wrote.is e (learns_wrote _ _ _ _ _ is))

pub returns-in_ok-state-in-Synced-2 : goal.returns-in_ok-state-in-Synced-2
returns-in_ok-state-in-Synced-2 c =
    let is = c.in_ok-state-in-Synced-2.ensures ∙ ap (λ (p : Place). synced_place p c.in-Synced.did) c.in_ok-state-in-Synced.ensures in
    ok_as c.put-in-Synced.result c.put-in-Synced.ensures (λ known e. learns_by c.in-Synced.is e (learns_synced _ _ _ _ is))

pub returns-in_ok-state-in-Removed-2 : goal.returns-in_ok-state-in-Removed-2
returns-in_ok-state-in-Removed-2 c =
    let is = c.in_ok-state-in-Removed-2.ensures ∙ ap (λ (p : Place). removed_place p c.in-Removed.did) c.in_ok-state-in-Removed.ensures in
    ok_as c.put-in-Removed.result c.put-in-Removed.ensures (λ known e. learns_by c.in-Removed.is e (learns_removed _ _ _ _ is))

pub returns-in-DirSynced : goal.returns-in-DirSynced
returns-in-DirSynced c =
    ok_as c.settle.result c.settle.ensures (λ known e. learns_by c.in-DirSynced.is e (learns_settled _ _ _))
