use Rattle.std.proofs.Common.{◌≡◌, length}
use Rattle.ready_loop.specs.Table.{AllApart}
use Rattle.ready_loop.proofs.KeyLemmas.{AllFresh}
use Rattle.ready_loop.proofs.links.Links.new.Given as goal

abbrev pub invariant-loop-place : goal.invariant-loop-place
invariant-loop-place l = record {
  size : length l.keys ≡ 64;
  fresh : AllFresh l.place l.slab l.keys;
  apart : AllApart l.place l.keys;
}
