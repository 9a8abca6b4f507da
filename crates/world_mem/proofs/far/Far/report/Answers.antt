use Rattle.std.proofs.Common.{◌≡◌, ◌&&◌, ◌<◌, ◌∙◌, ap, length, slice_set, arith, Bool, ℕ}
use Rattle.std.proofs.lemmas.List.{length-set}
use Rattle.world.specs.declared.conn.Conn.{Conn}
use Rattle.world.specs.Places.{is_reported, place_of}
use Rattle.world_mem.specs.Far.{is_ready}
use Rattle.world_mem.specs.Links.{conn_of}
use Rattle.world_mem.proofs.LinkLemmas.{marked_more, conn_at_place, conn_marked, up_marked}
use Rattle.world_mem.proofs.far.Far.report.Goals as goal

pub loop-place-preserved : goal.loop-place-preserved
loop-place-preserved g c =
    let world = c.args.self.now in
    let place = c.loop-place.place in
    let f : ℕ → Bool = λ p. is_reported p c.args.journal.now.ups && is_ready g.K.KernelSide.gives world.kernels.items world.clock (conn_of p) in
    let ups : is_reported (place_of c.conn_at-conn.result) c.args.journal.now.ups ≡ is_reported place c.args.journal.now.ups = ap (λ p. is_reported p c.args.journal.now.ups) c.conn_at-conn.ensures.place in
    let marks : c.is_to_report.result ≡ f place =
    c.is_to_report.ensures
    ∙ ap (λ (u : Bool). u && is_ready g.K.KernelSide.gives world.kernels.items world.clock c.conn_at-conn.result) ups
    ∙ ap (λ (conn : Conn). is_reported place c.args.journal.now.ups && is_ready g.K.KernelSide.gives world.kernels.items world.clock conn) c.conn_at-conn.ensures.is in
    let within : place < length c.loop-place.ready = omega (arith, c.loop-place.invariant.size) in
    record {
      size = length-set _ _ _ ∙ c.loop-place.invariant.size;
      marks = marked_more place f c.loop-place.ready _ within (ap (λ (b : Bool). slice_set c.loop-place.ready place b) marks) c.loop-place.invariant.marks;
    }

pub returns-clause-reports : goal.returns-clause-reports
returns-clause-reports g c =
    let world = c.args.self.now in
    let ready : ℕ → Conn → Bool = λ p conn. is_reported p c.args.journal.now.ups && is_ready g.K.KernelSide.gives world.kernels.items world.clock conn in
    conn_marked _ (λ p. ready p (conn_of p)) (λ conn. ready (place_of conn) conn) (λ p below. c.loop-place.invariant.marks p (omega arith)) (λ conn. ap (ready (place_of conn)) (conn_at_place conn))

pub returns-clause-up : goal.returns-clause-up
returns-clause-up g c =
    let world = c.args.self.now in
    up_marked _ c.args.journal.now.ups (λ p. is_ready g.K.KernelSide.gives world.kernels.items world.clock (conn_of p)) c.loop-place.invariant.size (λ p below. c.loop-place.invariant.marks p (omega arith))
