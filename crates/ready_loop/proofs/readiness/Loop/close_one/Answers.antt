use Rattle.std.proofs.Common.{◌≡◌, List, set, ap, ◌∙◌, refl, sym, subst, Some, slice_get, ℕ, map}
use Rattle.world.specs.declared.entry.Entry.{Entry}
use Rattle.world.specs.Places.{place_of}
use Rattle.world.proofs.MomentsLemmas.{told_as}
use Rattle.ready_loop.specs.Begins.{CloseMoment, closing}
use Rattle.ready_loop.specs.States.{begun_in}
use Rattle.ready_loop.specs.History.{no_change}
use Rattle.ready_loop.specs.Link.{closed_link}
use Rattle.ready_loop.specs.Standing.{Goes}
use Rattle.ready_loop.proofs.StateLemmas.{closed_lowers, only_set, drained_set, reads_set}
use Rattle.ready_loop.proofs.BeginLemmas.{closed_goes, closed_fails, closed_offered, closed_reads, closed_known}
use Rattle.ready_loop.proofs.BegunLemmas.{begun_closed}
use Rattle.ready_loop.proofs.WireLemmas.{closing_wired, ports_kept, closed_port}
use Rattle.ready_loop.specs.Link.{IsSteady}
use Rattle.ready_loop.specs.declared.link.Link.{Link}
use Rattle.ready_loop.specs.Wires.{port_kept, IsWired}
use Rattle.world.specs.Moments.{Since}
use Rattle.ready_loop.proofs.readiness.Loop.close_one.Goals as goal

pub returns-clause-came : goal.returns-clause-came
returns-clause-came g c =
    let found = subst (λ (i : ℕ). slice_get c.args.self.now.links i ≡ Some c.at-link.result) c.place_at-place.ensures.place c.at-link.ensures.found in
    told_as c.close_where.ensures.came (λ x y e. e ∙ ap (λ b. closing b c.args.conn x) (c.is_begun.ensures ∙ sym (ap begun_in found)))

pub returns-clause-goes : goal.returns-clause-goes
returns-clause-goes g c =
    let found = subst (λ (i : ℕ). slice_get c.args.self.now.links i ≡ Some c.at-link.result) c.place_at-place.ensures.place c.at-link.ensures.found in
    let links = c.put.ensures ∙ ap (λ (i : ℕ). set c.args.self.now.links i c.after_close.result) c.place_at-place.ensures.place ∙ ap (set c.args.self.now.links (place_of c.args.conn)) c.after_close.ensures in
    told_as c.close_where.ensures.came (λ x y e. subst (λ (j : List Entry). Goes CloseMoment no_change c.args.self.now (record c.args.self.now { links = c.put.new.self }) x j) (sym e)
    (closed_goes c.is_begun.result c.args.conn c.args.self.now c.put.new.self c.at-link.result x found c.is_begun.ensures links))

pub returns-clause-only : goal.returns-clause-only
returns-clause-only g c = only_set c.args.self.now (record c.args.self.now { links = c.put.new.self }) (place_of c.args.conn) c.after_close.result
    (c.put.ensures ∙ ap (λ (i : ℕ). set c.args.self.now.links i c.after_close.result) c.place_at-place.ensures.place) refl refl

pub returns-clause-drained : goal.returns-clause-drained
returns-clause-drained g c = drained_set c.args.self.now (record c.args.self.now { links = c.put.new.self }) c.place_at-place.result c.at-link.result
    (closed_link c.at-link.result) c.at-link.ensures.found c.place_at-place.ensures.within
    (c.put.ensures ∙ ap (set c.args.self.now.links c.place_at-place.result) c.after_close.ensures) (closed_reads c.at-link.result)

pub returns-clause-offered : goal.returns-clause-offered
returns-clause-offered g c = closed_offered c.args.self.now c.place_at-place.result c.put.new.self c.at-link.result c.at-link.ensures.found
    (c.put.ensures ∙ ap (set c.args.self.now.links c.place_at-place.result) c.after_close.ensures)

pub returns-clause-failed : goal.returns-clause-failed
returns-clause-failed g c =
    let found = subst (λ (i : ℕ). slice_get c.args.self.now.links i ≡ Some c.at-link.result) c.place_at-place.ensures.place c.at-link.ensures.found in
    closed_fails c.args.conn c.args.self.now.links c.put.new.self c.at-link.result found
    (c.put.ensures ∙ ap (λ (i : ℕ). set c.args.self.now.links i c.after_close.result) c.place_at-place.ensures.place ∙ ap (set c.args.self.now.links (place_of c.args.conn)) c.after_close.ensures)

pub returns-clause-closes : goal.returns-clause-closes
returns-clause-closes g c = closed_known c.args.conn c.args.self.now (record c.args.self.now { links = c.put.new.self }) c.place_at-place.result c.at-link.result c.place_at-place.ensures.place c.at-link.ensures.found
    (c.put.ensures ∙ ap (set c.args.self.now.links c.place_at-place.result) c.after_close.ensures) refl

pub returns-clause-reads : goal.returns-clause-reads
returns-clause-reads g c = reads_set c.args.self.now.links c.put.new.self c.place_at-place.result (closed_link c.at-link.result) c.at-link.result c.at-link.ensures.found
    (c.put.ensures ∙ ap (set c.args.self.now.links c.place_at-place.result) c.after_close.ensures) (closed_lowers c.at-link.result)

pub put-requires-clause-begun : goal.put-requires-clause-begun
put-requires-clause-begun g c = subst (λ (link : Link). IsSteady link) (sym c.after_close.ensures) (begun_closed c.at-link.result)

pub returns-clause-ports : goal.returns-clause-ports
returns-clause-ports g c = ports_kept c.args.self.now.links c.put.new.self c.place_at-place.result (closed_link c.at-link.result) c.at-link.result c.at-link.ensures.found
    (c.put.ensures ∙ ap (set c.args.self.now.links c.place_at-place.result) c.after_close.ensures) (closed_port c.at-link.result)

pub returns-clause-wires : goal.returns-clause-wires
returns-clause-wires g c = told_as c.close_where.ensures.came (λ x y e. subst (λ (j : List Entry). Since (IsWired (map port_kept c.put.new.self)) x j) (sym e)
    (closing_wired (map port_kept c.put.new.self) c.is_begun.result c.args.conn x))
