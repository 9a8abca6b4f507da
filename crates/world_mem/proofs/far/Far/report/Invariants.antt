use Rattle.std.proofs.Common.{◌≡◌, ◌<◌, ℕ, ◌&&◌, length}
use Rattle.world.specs.Places.{is_reported}
use Rattle.world_mem.specs.Far.{is_ready}
use Rattle.world_mem.specs.Links.{conn_of}
use Rattle.world_mem.proofs.far.Far.report.Given as goal

-- the places so far are marked
abbrev pub invariant-loop-place : goal.invariant-loop-place
invariant-loop-place g l = record {
  size : length l.ready ≡ 64;
  marks : (p : ℕ) → p < l.place → is_reported p l.ready ≡ (is_reported p l.journal.ups && is_ready g.K.KernelSide.gives l.self.kernels.items l.self.clock (conn_of p));
}
