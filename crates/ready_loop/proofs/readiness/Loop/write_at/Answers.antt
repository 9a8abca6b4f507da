use Rattle.std.proofs.Common.{◌≡◌, ℕ, List, length, set, ap, ◌∙◌, refl, subst, sym, map}
use Rattle.world.specs.declared.entry.Entry.{Entry}
use Rattle.world.specs.Places.{time}
use Rattle.world.specs.Told.{PutSome}
use Rattle.ready_loop.specs.Link.{MayWrite, write_link}
use Rattle.ready_loop.proofs.TableLemmas.{tells_with}
use Rattle.ready_loop.proofs.StateLemmas.{may_here, only_written, calm_written, drained_set, write_reads, write_fails, load_less, known_set, empty_set, write_stage, write_lowers, reads_set, well_written}
use Rattle.ready_loop.proofs.OfferLemmas.{write_goes, untimed_write}
use Rattle.ready_loop.proofs.PartLemmas.{calls_one, write_of_loop}
use Rattle.ready_loop.proofs.BegunLemmas.{begun_write}
use Rattle.ready_loop.proofs.WireLemmas.{wired_one, write_wired, ports_kept, write_port}
use Rattle.ready_loop.specs.Link.{IsSteady}
use Rattle.ready_loop.specs.declared.link.Link.{Link}
use Rattle.ready_loop.specs.Wires.{port_kept}
use Rattle.ready_loop.proofs.readiness.Loop.write_at.Goals as goal

pub returns-clause-goes : goal.returns-clause-goes
returns-clause-goes g c =
    let may = may_here MayWrite c.args.self.now.links c.args.place c.at-link.result c.at-link.ensures.found c.requires.may in
    tells_with (λ (now : List Entry). c.last-last.result ≡ time now) c.write-put.ensures.tells c.write-put.ensures.refused c.last-last.ensures.told (λ past refused clock.
    write_goes c.args.conn c.args.place c.write-put.result c.rest.result.now c.args.self.now c.put.new.self c.take_off.new.self c.at-link.result c.last-last.result past
    c.requires.place c.at-link.ensures.found may c.requires.some c.rest.ensures c.write-put.ensures.some
    (c.put.ensures ∙ ap (set c.args.self.now.links c.args.place) c.after_write.ensures) c.take_off.ensures
    (clock ∙ untimed_write c.args.conn c.write-put.result c.rest.result.now past) refused)

pub returns-clause-only : goal.returns-clause-only
returns-clause-only g c = only_written c.args.self.now (record c.args.self.now { links = c.put.new.self; queues = c.take_off.new.self }) c.args.place c.after_write.result _ c.put.ensures c.take_off.ensures refl

pub returns-clause-less : goal.returns-clause-less
returns-clause-less g c =
    let may = may_here MayWrite c.args.self.now.links c.args.place c.at-link.result c.at-link.ensures.found c.requires.may in
    load_less c.write-put.result c.last-last.result c.args.place c.args.self.now (record c.args.self.now { links = c.put.new.self; queues = c.take_off.new.self }) c.at-link.result
    c.at-link.ensures.found may.writable c.requires.some (subst (λ (xs : List ℕ). PutSome c.write-put.result (length xs)) c.rest.ensures c.write-put.ensures.some)
    (c.put.ensures ∙ ap (set c.args.self.now.links c.args.place) c.after_write.ensures) c.take_off.ensures

pub returns-clause-calm : goal.returns-clause-calm
returns-clause-calm g c = calm_written c.write-put.result c.last-last.result (g.W.Journal.counts c.args.w.now).last (g.W.Journal.counts c.write-put.new.self).last c.args.place
    c.args.self.now (record c.args.self.now { links = c.put.new.self; queues = c.take_off.new.self }) c.at-link.result c.at-link.ensures.found
    (c.put.ensures ∙ ap (set c.args.self.now.links c.args.place) c.after_write.ensures) c.last-last.ensures.is (ap (λ k. k.last) c.write-put.ensures.cause.others)

pub returns-clause-drained : goal.returns-clause-drained
returns-clause-drained g c = drained_set c.args.self.now (record c.args.self.now { links = c.put.new.self; queues = c.take_off.new.self }) c.args.place c.at-link.result
    (write_link c.write-put.result c.last-last.result c.at-link.result) c.at-link.ensures.found c.requires.within
    (c.put.ensures ∙ ap (set c.args.self.now.links c.args.place) c.after_write.ensures) (write_reads c.write-put.result c.last-last.result c.at-link.result)

pub returns-clause-failed : goal.returns-clause-failed
returns-clause-failed g c = write_fails c.write-put.result c.args.conn c.last-last.result c.args.place c.args.self.now.links c.put.new.self c.at-link.result
    c.requires.place c.at-link.ensures.found (c.put.ensures ∙ ap (set c.args.self.now.links c.args.place) c.after_write.ensures)

pub returns-clause-known : goal.returns-clause-known
returns-clause-known g c = known_set c.args.self.now (record c.args.self.now { links = c.put.new.self; queues = c.take_off.new.self }) c.args.place (write_link c.write-put.result c.last-last.result c.at-link.result) c.at-link.result c.at-link.ensures.found
    (c.put.ensures ∙ ap (set c.args.self.now.links c.args.place) c.after_write.ensures) (write_stage c.write-put.result c.last-last.result c.at-link.result)
    (empty_set c.args.self.now.queues c.take_off.new.self c.args.place _ c.requires.some c.take_off.ensures)

pub returns-clause-calls : goal.returns-clause-calls
returns-clause-calls g c = calls_one c.write-put.ensures.tells (write_of_loop c.args.conn c.write-put.result c.rest.result.now)

pub put-requires-clause-begun : goal.put-requires-clause-begun
put-requires-clause-begun g c = subst (λ (link : Link). IsSteady link) (sym c.after_write.ensures) (begun_write c.write-put.result c.last-last.result c.at-link.result (may_here MayWrite c.args.self.now.links c.args.place c.at-link.result c.at-link.ensures.found c.requires.may) c.at-link.ensures.begun)

pub returns-clause-ports : goal.returns-clause-ports
returns-clause-ports g c = ports_kept c.args.self.now.links c.put.new.self c.args.place (write_link c.write-put.result c.last-last.result c.at-link.result) c.at-link.result c.at-link.ensures.found
    (c.put.ensures ∙ ap (set c.args.self.now.links c.args.place) c.after_write.ensures) (write_port c.write-put.result c.last-last.result c.at-link.result)

pub returns-clause-wires : goal.returns-clause-wires
returns-clause-wires g c = wired_one c.write-put.ensures.tells (λ past. write_wired (map port_kept c.put.new.self) c.args.conn c.write-put.result c.rest.result.now past)

pub returns-clause-well : goal.returns-clause-well
returns-clause-well g c = well_written c.args.self.now c.args.conn c.args.place c.at-link.result c.requires.place c.requires.job c.at-link.ensures.found c.at-link.ensures.begun
    (may_here MayWrite c.args.self.now.links c.args.place c.at-link.result c.at-link.ensures.found c.requires.may)

pub returns-clause-reads : goal.returns-clause-reads
returns-clause-reads g c = reads_set c.args.self.now.links c.put.new.self c.args.place (write_link c.write-put.result c.last-last.result c.at-link.result) c.at-link.result c.at-link.ensures.found
    (c.put.ensures ∙ ap (set c.args.self.now.links c.args.place) c.after_write.ensures) (write_lowers c.write-put.result c.last-last.result c.at-link.result)
