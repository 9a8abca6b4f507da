use Rattle.std.proofs.Common.{◌≡◌, List, set, ap, ◌∙◌, refl, inl, subst, sym, slice_get, Some, Option, ℕ, map}
use Rattle.world.specs.declared.entry.Entry.{Entry}
use Rattle.world.specs.Places.{time}
use Rattle.ready_loop.specs.Link.{IsToBegin, connect_link}
use Rattle.world.specs.Moments.{start}
use Rattle.world.proofs.MomentsLemmas.{tells_as}
use Rattle.ready_loop.specs.Offers.{connects}
use Rattle.ready_loop.proofs.TableLemmas.{tells_now}
use Rattle.ready_loop.proofs.StateLemmas.{may_here, only_set, calm_connected, drained_set, connect_reads, connect_fails, known_set, connect_stage, connect_lowers, reads_set, well_connect}
use Rattle.ready_loop.proofs.OfferLemmas.{again_goes}
use Rattle.ready_loop.proofs.PartLemmas.{calls_one}
use Rattle.ready_loop.proofs.BegunLemmas.{begun_connect, known_begun}
use Rattle.ready_loop.proofs.WireLemmas.{wired_one, ports_kept, connect_port, known_port, port_here}
use Rattle.ready_loop.specs.Link.{IsSteady}
use Rattle.ready_loop.specs.declared.link.Link.{Link}
use Rattle.ready_loop.specs.Wires.{port_kept}
use Rattle.ready_loop.proofs.readiness.Loop.connect_at.Goals as goal

pub returns-clause-goes : goal.returns-clause-goes
returns-clause-goes g c =
    let was = (g.W.Journal.counts c.args.w.now).last in
    let may = may_here (IsToBegin c.args.forced was) c.args.self.now.links c.args.place c.at-link.result c.at-link.ensures.found c.requires.may in
    tells_now (λ (now : List Entry). c.last-last.result ≡ time now) c.connect-how.ensures.tells c.last-last.ensures.told (λ past clock.
    again_goes c.args.forced c.args.conn c.args.place c.connect-how.result c.args.self.now c.put.new.self c.at-link.result was c.last-last.result past
    c.requires.place c.at-link.ensures.found may (c.last-last.ensures.is ∙ ap (λ k. k.last) c.connect-how.ensures.cause.others)
    (c.put.ensures ∙ ap (set c.args.self.now.links c.args.place) c.after_connect.ensures) clock)

pub returns-clause-only : goal.returns-clause-only
returns-clause-only g c = only_set c.args.self.now (record c.args.self.now { links = c.put.new.self }) c.args.place c.after_connect.result c.put.ensures refl refl

pub returns-clause-calm : goal.returns-clause-calm
returns-clause-calm g c = calm_connected c.connect-how.result c.last-last.result (g.W.Journal.counts c.connect-how.new.self).last c.args.place
    c.args.self.now (record c.args.self.now { links = c.put.new.self }) c.at-link.result c.at-link.ensures.found
    (c.put.ensures ∙ ap (set c.args.self.now.links c.args.place) c.after_connect.ensures) c.last-last.ensures.is

pub returns-clause-drained : goal.returns-clause-drained
returns-clause-drained g c = drained_set c.args.self.now (record c.args.self.now { links = c.put.new.self }) c.args.place c.at-link.result
    (connect_link c.connect-how.result c.last-last.result c.at-link.result) c.at-link.ensures.found c.requires.within
    (c.put.ensures ∙ ap (set c.args.self.now.links c.args.place) c.after_connect.ensures) (connect_reads c.connect-how.result c.last-last.result c.at-link.result)

pub returns-clause-failed : goal.returns-clause-failed
returns-clause-failed g c = connect_fails c.connect-how.result c.args.conn c.last-last.result c.args.place c.args.self.now.links c.put.new.self c.at-link.result
    c.requires.place c.at-link.ensures.found (c.put.ensures ∙ ap (set c.args.self.now.links c.args.place) c.after_connect.ensures)

pub returns-clause-connects : goal.returns-clause-connects
returns-clause-connects g c = tells_as c.connect-how.ensures.tells (λ past. connects c.args.conn c.at-link.result.port c.connect-how.result past start c.requires.place)

pub returns-clause-known : goal.returns-clause-known
returns-clause-known g c = known_set c.args.self.now (record c.args.self.now { links = c.put.new.self }) c.args.place (connect_link c.connect-how.result c.last-last.result c.at-link.result) c.at-link.result c.at-link.ensures.found
    (c.put.ensures ∙ ap (set c.args.self.now.links c.args.place) c.after_connect.ensures) (connect_stage c.connect-how.result c.last-last.result c.at-link.result) (λ p e. e)

pub returns-clause-calls : goal.returns-clause-calls
returns-clause-calls g c = calls_one c.connect-how.ensures.tells (inl refl)

pub put-requires-clause-begun : goal.put-requires-clause-begun
put-requires-clause-begun g c =
    let may = may_here (IsToBegin c.args.forced (g.W.Journal.counts c.args.w.now).last) c.args.self.now.links c.args.place c.at-link.result c.at-link.ensures.found c.requires.may in
    subst (λ (link : Link). IsSteady link) (sym c.after_connect.ensures) (begun_connect c.connect-how.result c.last-last.result c.at-link.result (c.at-link.ensures.begun.begun may.at may.refused) (c.at-link.ensures.begun.calm may.at may.refused))

pub returns-clause-ports : goal.returns-clause-ports
returns-clause-ports g c = ports_kept c.args.self.now.links c.put.new.self c.args.place (connect_link c.connect-how.result c.last-last.result c.at-link.result) c.at-link.result c.at-link.ensures.found
    (c.put.ensures ∙ ap (set c.args.self.now.links c.args.place) c.after_connect.ensures) (connect_port c.connect-how.result c.last-last.result c.at-link.result)

pub returns-clause-wires : goal.returns-clause-wires
returns-clause-wires g c =
    let may = may_here (IsToBegin c.args.forced (g.W.Journal.counts c.args.w.now).last) c.args.self.now.links c.args.place c.at-link.result c.at-link.ensures.found c.requires.may in
    let here : slice_get (map port_kept c.args.self.now.links) c.args.place ≡ Some (Some c.at-link.result.port)
    = port_here c.args.self.now.links c.args.place c.at-link.result c.at-link.ensures.found ∙ ap Some (known_port c.at-link.result (known_begun c.at-link.result.stage (c.at-link.ensures.begun.begun may.at may.refused))) in
    wired_one c.connect-how.ensures.tells (λ past. ap (slice_get (map port_kept c.put.new.self)) c.requires.place ∙ ap (λ (ports : List (Option ℕ)). slice_get ports c.args.place) (returns-clause-ports g c) ∙ here)

pub returns-clause-well : goal.returns-clause-well
returns-clause-well g c = well_connect c.args.self.now c.args.conn c.args.place c.at-link.result c.requires.place c.requires.job c.at-link.ensures.found c.at-link.ensures.begun
    (may_here (IsToBegin c.args.forced (g.W.Journal.counts c.args.w.now).last) c.args.self.now.links c.args.place c.at-link.result c.at-link.ensures.found c.requires.may)

pub returns-clause-reads : goal.returns-clause-reads
returns-clause-reads g c = reads_set c.args.self.now.links c.put.new.self c.args.place (connect_link c.connect-how.result c.last-last.result c.at-link.result) c.at-link.result c.at-link.ensures.found
    (c.put.ensures ∙ ap (set c.args.self.now.links c.args.place) c.after_connect.ensures) (connect_lowers c.connect-how.result c.last-last.result c.at-link.result)
